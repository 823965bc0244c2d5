-- A sweep leaves no linked run that had expired at the clock of its round. Packets that come after it are of no earlier round, so of no lesser
-- clock: a run that takes one hasn't expired either.
use Rattle.std.proofs.Common.{◌≡◌, ℕ, ◌==◌, ◌+◌, ◌<◌, ◌≤◌, nat_lt, Bool, true, false, cond, ◌&&◌, ◌||◌, List, [], ◌∷◌, ◌++◌, length, Option, Some, ◌⊎◌, ⊎_elim, inl, inr, refl, sym, ap, subst, arith}
use Rattle.std.proofs.lemmas.Bool.Decides.{nat_tests}
use Rattle.bucket_laws.proofs.Steps.{bears_one}
use Rattle.bucket_laws.proofs.Tests.{neither, no_true}
use Rattle.bucket_laws.specs.Draining.{is_drained}
use Rattle.bucket_laws.specs.Places.{At, History}
use Rattle.bucket_rules.proofs.Rowing.{after-linked, after-members, begins, members_after, off-linked, off-test}
use Rattle.bucket_rules.proofs.Soundness.{sound}
use Rattle.bucket_rules.proofs.Words.{true_false}
use Rattle.bucket_rules.specs.Packets.{bearing, is_due, is_expired, round_clock, round_start}
use Rattle.bucket_rules.specs.Row.{after, is_linked, off, row, with_packet}
use Rattle.bucket_rules.specs.Rule.{IsLegal, Rule}
use Rattle.bucket_rules.specs.declared.fixed.Fixed.{Fixed}
use Rattle.quiet_laws.proofs.Calming.{holds_at}
use Rattle.quiet_laws.proofs.Clocks.{round_before}
use Rattle.round_laws.specs.Rising.{IsSwept, RoundsRise, SweepsLead, Sweeps, WentByRounds, round_in}
use Rattle.run_laws.proofs.Drained.{drained}
use Rattle.run_laws.specs.Setting.{IsSetup}
use Rattle.run_rules.specs.Histories.{Histories, bucket_at}
use Rattle.run_rules.specs.Lawful.{AreScripted}
use Rattle.run_rules.specs.Setup.{Setup, fixed_at}
use Rattle.suri_base.specs.Capture.{IsCapture}
use Rattle.suri_base.specs.Dealing.{round_of}
use Rattle.suri_base.specs.History.{Begins, entry}
use Rattle.suri_base.specs.declared.entry.BucketNote.{BucketNote}
use Rattle.suri_base.specs.declared.entry.BucketNote.TheVariants.{AllInUse, Closed, Drained, Found, Idle, Made, Missing, Refused, Stopped, Stored, Swept, Victim}
use Rattle.suri_base.specs.declared.entry.Entry.{Entry}
use Rattle.suri_base.specs.declared.facts.Facts.{Facts}
use Rattle.suri_base.specs.declared.reason.Reason.TheVariants.{Timeout}
use Rattle.sweep_laws.proofs.Coming.{next_late, round_above}
use Rattle.sweep_laws.specs.Sweeping.{LooksIn, LooksMeetNoneExpired, NoneHasExpired, WasSwept}

-- places

at_begins : {A : Type 0} (x : A) (past h : List A) → At x past h → Begins past h
at_begins x past [] a = absurd a
at_begins {A} x past (y ∷ h) a = ⊎_elim
    (λ z. (y ∷ [], ap (λ (u : List A). y ∷ u) z.1))
    (λ z. let k = at_begins x past h z in (y ∷ k.0, ap (λ (u : List A). y ∷ u) k.1)) a

at_later : {A : Type 0} (x : A) (past since old : List A) → At x past old → At x past (since ++ old)
at_later x past [] old a = a
at_later x past (y ∷ since) old a = inr (at_later x past since old a)

legal_old : (s : Fixed) (since old : History) → IsLegal s (since ++ old) → IsLegal s old
legal_old s [] old l = l
legal_old s (e ∷ since) old l = legal_old s since old l.1

rise_old : (w : Setup) (since old : History) → RoundsRise w (since ++ old) → RoundsRise w old
rise_old w [] old r = r
rise_old w (e ∷ since) old r = rise_old w since old r.1

lead_at : (w : Setup) (e : Entry BucketNote) (past h : History) → SweepsLead w h → At e past h → (r : ℕ) → r < round_in w e.note → IsSwept r past
lead_at w e past [] lead a r low = absurd a
lead_at w e past (y ∷ h) lead a r low = ⊎_elim
    (λ z. subst (λ (u : History). IsSwept r u) z.1 (lead.0 r (subst (λ (d : Entry BucketNote). r < round_in w d.note) (sym z.0) low)))
    (λ z. lead_at w e past h lead.1 z r low) a

-- an entry that swept in the round, and by which table

sweeps_by : (r role step : ℕ) (n : BucketNote) (h : History) → Sweeps r n → (emergency : Bool) × WasSwept r emergency (entry role step n ∷ h)
sweeps_by r role step (Swept round emergency seen count) h e =
    (emergency, record { role = role; step = step; seen = seen; count = count; past = h; place = inl (ap (λ (x : ℕ). entry role step (Swept x emergency seen count)) e, refl) })
sweeps_by r role step (Found f emergency seen run said) h e = absurd e
sweeps_by r role step (Missing f emergency seen ended) h e = absurd e
sweeps_by r role step (Made f said) h e = absurd e
sweeps_by r role step (Refused f) h e = absurd e
sweeps_by r role step (Stored f) h e = absurd e
sweeps_by r role step (Stopped f) h e = absurd e
sweeps_by r role step (Closed f app run freed ended) h e = absurd e
sweeps_by r role step (Idle f app) h e = absurd e
sweeps_by r role step (Victim f run) h e = absurd e
sweeps_by r role step (AllInUse f count) h e = absurd e
sweeps_by r role step (Drained count) h e = absurd e

was_swept : (r : ℕ) (h : History) → IsSwept r h → (emergency : Bool) × WasSwept r emergency h
was_swept r [] x = absurd x
was_swept r (e ∷ h) (inl x) = sweeps_by r e.role e.step e.note h x
was_swept r (e ∷ h) (inr x) =
    let z = was_swept r h x in
    (z.0, record { role = z.1.role; step = z.1.step; seen = z.1.seen; count = z.1.count; past = z.1.past; place = inr z.1.place })

-- runs that haven't expired

-- a clock that isn't past a packet's own isn't past its timeout
not_past : (last timeout clock : ℕ) → clock ≤ last → nat_lt (last + timeout) clock ≡ false
not_past last timeout clock l = grind (arith, nat_tests)

fresh_member : (t : Facts) (ms : List Facts) (clock : ℕ) (emergency : Bool) → clock ≤ t.clock → is_expired (t ∷ ms) clock emergency ≡ false
fresh_member t ms clock emergency l = not_past t.clock _ clock l

-- a packet that joins or begins the run keeps it from having expired, and otherwise nothing changed
joined_fresh : (b : Bool) (o : Option Facts) (t : Facts) (old ms : List Facts) (clock : ℕ) (emergency : Bool) → o ≡ Some t → clock ≤ t.clock
    → (b ≡ false → is_expired ms clock emergency ≡ false) → is_expired (cond b (with_packet o old) ms) clock emergency ≡ false
joined_fresh true o t old ms clock emergency e l k =
    subst (λ (p : Option Facts). is_expired (with_packet p old) clock emergency ≡ false) (sym e) (fresh_member t old clock emergency l)
joined_fresh false o t old ms clock emergency e l k = k refl

module _ (w : Setup) (b : ℕ) (is : IsCapture w.capture) (size : 1 ≤ w.layout.round) (round : ℕ) (emergency : Bool) where
  abbrev s : Fixed
  s = fixed_at w b

  abbrev Unexpired : List Facts → Type 0
  Unexpired ms = is_expired ms (round_clock s round) emergency ≡ false

  clock_after : (f : ℕ) (t : Facts) → bearing w.capture f ≡ Some t → round ≤ round_of f w.layout.round → round_clock s round ≤ t.clock
  clock_after f t e up = round_before s is round f t e (round_above f w.layout.round round size (bears_one s f t e) up)

  -- one entry of this round or a later one
  still : (past : History) (role : ℕ) (n : BucketNote) (a : ℕ) → IsLegal s past → Rule s past role n → round ≤ round_in w n
      → (is_linked (row s a past).place ≡ true → Unexpired (row s a past).members)
      → (begins n a ≡ true) ⊎ (is_linked (row s a past).place ≡ true) → Unexpired (members_after s n a (row s a past).members)
  still past role (Found f e seen run said) a l rule up k on =
      let own = rule.0.own in
      joined_fresh (run == a) (bearing w.capture f) own.packet (row s a past).members (row s a past).members (round_clock s round) emergency own.bears (clock_after f own.packet own.bears up)
      (λ x. ⊎_elim (λ y. cc) (λ y. k y) on)
  still past role (Made f said) a l rule up k on =
      let own = ((sound s past l).waits role f rule.0).own in
      joined_fresh (f == a) (bearing w.capture f) own.packet [] (row s a past).members (round_clock s round) emergency own.bears (clock_after f own.packet own.bears up)
      (λ x. ⊎_elim (λ y. absurd (true_false y x)) (λ y. k y) on)
  still past role (Missing f e seen ended) a l rule up k on = ⊎_elim (λ y. cc) (λ y. k y) on
  still past role (Refused f) a l rule up k on = ⊎_elim (λ y. cc) (λ y. k y) on
  still past role (Stored f) a l rule up k on = ⊎_elim (λ y. cc) (λ y. k y) on
  still past role (Stopped f) a l rule up k on = ⊎_elim (λ y. cc) (λ y. k y) on
  still past role (Closed f app run freed ended) a l rule up k on = ⊎_elim (λ y. cc) (λ y. k y) on
  still past role (Idle f app) a l rule up k on = ⊎_elim (λ y. cc) (λ y. k y) on
  still past role (Victim f run) a l rule up k on = ⊎_elim (λ y. cc) (λ y. k y) on
  still past role (AllInUse f count) a l rule up k on = ⊎_elim (λ y. cc) (λ y. k y) on
  still past role (Swept other e seen count) a l rule up k on = ⊎_elim (λ y. cc) (λ y. k y) on
  still past role (Drained count) a l rule up k on = ⊎_elim (λ y. cc) (λ y. k y) on

  module _ (whole : History) (l : IsLegal s whole) (drain : is_drained whole ≡ true) (rise : RoundsRise w whole) where
    -- what the sweep itself leaves linked
    at_sweep : (role step seen count : ℕ) (past : History) → At (entry role step (Swept round emergency seen count)) past whole → IsLegal s past → (a : ℕ)
        → is_linked (after s a (Swept round emergency seen count) (row s a past)).place ≡ true → Unexpired (row s a past).members
    at_sweep role step seen count past at legal a on =
        let due : is_due s round emergency (row s a past).members ≡ false = off-test (is_due s round emergency (row s a past).members) (off Timeout emergency) (row s a past) on in
        let linked = off-linked (is_due s round emergency (row s a past).members) (off Timeout emergency) (row s a past) on in
        by (row s a past).members refl due linked
      where
        by : (ms : List Facts) → (row s a past).members ≡ ms → is_due s round emergency ms ≡ false → is_linked (row s a past).place ≡ true → Unexpired ms
        by [] e due linked = refl
        by (m ∷ ms) e due linked = no_true (is_expired (m ∷ ms) (round_clock s round) emergency) (λ x.
            let q = loud (is_expired (m ∷ ms) (round_clock s round) emergency) (m.next == 0) (nat_lt (round_start s round) m.next) x due in
            next_late w b is size whole l drain rise (entry role step (Swept round emergency seen count)) past at legal refl a linked m ms e (one m.next q.0) (most (round_start s round) m.next q.1))
          where
            loud : (p x y : Bool) → p ≡ true → (p && (x || y)) ≡ false → (x ≡ false) × (y ≡ false)
            loud true x y h d = neither x y d
            loud false x y h d = cc

            one : (n : ℕ) → (n == 0) ≡ false → 1 ≤ n
            one n h = grind (arith, nat_tests)

            most : (x n : ℕ) → nat_lt x n ≡ false → n ≤ x
            most x n h = grind (arith, nat_tests)

    -- and from there on
    since_sweep : (role step seen count : ℕ) (past h : History) → At (entry role step (Swept round emergency seen count)) past whole
        → At (entry role step (Swept round emergency seen count)) past h → IsLegal s h → RoundsRise w h → NoneHasExpired s round emergency h
    since_sweep role step seen count past [] at here legal up a on = absurd here
    since_sweep role step seen count past (y ∷ h) at here legal up a on =
        by here (λ z k. since_sweep role step seen count past h at z legal.1 up.1 a k)
      where
        by : ((y ≡ entry role step (Swept round emergency seen count)) × (h ≡ past)) ⊎ At (entry role step (Swept round emergency seen count)) past h
            → (At (entry role step (Swept round emergency seen count)) past h → is_linked (row s a h).place ≡ true → Unexpired (row s a h).members)
            → Unexpired (row s a (y ∷ h)).members
        by (inl z) more =
            let there = subst (λ (u : History). At (entry role step (Swept round emergency seen count)) u whole) (sym z.1) at in
            subst (λ (d : Entry BucketNote). is_linked (after s a d.note (row s a h)).place ≡ true → Unexpired (after s a d.note (row s a h)).members) (sym z.0)
            (λ k. subst Unexpired (sym (after-members s a (Swept round emergency seen count) (row s a h))) (at_sweep role step seen count h there legal.1 a k)) on
        by (inr z) more =
            let low = (holds_at (λ (d : Entry BucketNote). round_in w d.note ≤ round_in w y.note) (entry role step (Swept round emergency seen count)) past h up.0 z).0 in
            subst Unexpired (sym (after-members s a y.note (row s a h)))
            (still h y.role y.note a legal.1 legal.0 low (more z) (after-linked s a y.note (row s a h) on))

-- the same of a whole run

looked_later : (w : Setup) (b round : ℕ) (n : BucketNote) → LooksIn (fixed_at w b) (round + 1) n → round < round_in w n
looked_later w b round (Found f emergency seen run said) e = omega (arith, e)
looked_later w b round (Missing f emergency seen ended) e = omega (arith, e)
looked_later w b round (Made f said) e = absurd e
looked_later w b round (Refused f) e = absurd e
looked_later w b round (Stored f) e = absurd e
looked_later w b round (Stopped f) e = absurd e
looked_later w b round (Closed f app run freed ended) e = absurd e
looked_later w b round (Idle f app) e = absurd e
looked_later w b round (Victim f run) e = absurd e
looked_later w b round (AllInUse f count) e = absurd e
looked_later w b round (Swept other emergency seen count) e = absurd e
looked_later w b round (Drained count) e = absurd e

module _ (w : Setup) (t : Histories) (l : AreScripted w t) (d : IsSetup w) (went : WentByRounds w t l) (b : ℕ) (low : b < length t.buckets) where
  pub after_sweep : (past : History) → Begins past (bucket_at b t.buckets) → (round : ℕ) (emergency : Bool) → WasSwept round emergency past
      → NoneHasExpired (fixed_at w b) round emergency past
  after_sweep past begin round emergency z =
      let legal : IsLegal (fixed_at w b) (bucket_at b t.buckets) = l.legal.buckets b low in
      let rise : RoundsRise w (bucket_at b t.buckets) = went.rise b low in
      since_sweep w b d.capture d.layout.round.0 round emergency (bucket_at b t.buckets) legal (drained w t l b low) rise z.role z.step z.seen z.count z.past past
      (subst (λ (h : History). At (entry z.role z.step (Swept round emergency z.seen z.count)) z.past h) (sym begin.1)
      (at_later (entry z.role z.step (Swept round emergency z.seen z.count)) z.past begin.0 past z.place))
      z.place
      (legal_old (fixed_at w b) begin.0 past (subst (λ (h : History). IsLegal (fixed_at w b) h) begin.1 legal))
      (rise_old w begin.0 past (subst (λ (h : History). RoundsRise w h) begin.1 rise))

  pub looks_meet_none : LooksMeetNoneExpired (fixed_at w b) (bucket_at b t.buckets)
  looks_meet_none e past at round looks = record {
    swept = was_swept round past (lead_at w e past (bucket_at b t.buckets) (went.lead b low) at round (looked_later w b round e.note looks));
    none = λ emergency z. after_sweep past (at_begins e past (bucket_at b t.buckets) at) round emergency z;
  }
