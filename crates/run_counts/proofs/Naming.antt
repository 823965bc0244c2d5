-- The packets that a bucket answered, by the numbers of their frames: each joined a run, began one or was refused. So over the runs that
-- began there the members, with the refused packets, weigh what the answered packets weigh, whatever is weighed: an entry that finds a run
-- gives that run one member more, and an entry that begins a run gives it its first.
use Rattle.std.proofs.Common.{◌≡◌, ℕ, ◌==◌, ◌+◌, Bool, true, false, cond, List, [], ◌∷◌, Option, Some, None, refl, sym, ◌∙◌, ap, arith}
use Rattle.std.specs.Prelude.{sum_by}
use Rattle.std.proofs.lemmas.List.Sums.{sum_by-cons}
use Rattle.bucket_laws.proofs.Tests.{no_false}
use Rattle.bucket_rules.proofs.Rowing.{after-members, members_after, takes_split}
use Rattle.bucket_rules.proofs.Soundness.{sound}
use Rattle.bucket_rules.proofs.Words.{cond_this, true_false}
use Rattle.bucket_rules.specs.Packets.{bearing, of_packet}
use Rattle.bucket_rules.specs.Row.{Row, after, has, is_linked, made, made_by, row, takes, with_packet}
use Rattle.bucket_rules.specs.Rule.{IsLegal, Rule}
use Rattle.bucket_rules.specs.Sound.{IsSound}
use Rattle.bucket_rules.specs.declared.fixed.Fixed.{Fixed}
use Rattle.run_counts.proofs.Adding.{one_grown, over_same, sum_over, untouched}
use Rattle.run_counts.specs.Counting.{is_refusal, refusals}
use Rattle.run_rules.specs.Runs.{refused, refused_by}
use Rattle.suri_base.specs.Capture.{Captured}
use Rattle.suri_base.specs.declared.entry.BucketNote.{BucketNote}
use Rattle.suri_base.specs.declared.entry.BucketNote.TheVariants.{AllInUse, Closed, Drained, Found, Idle, Made, Missing, Refused, Stopped, Stored, Swept, Victim}
use Rattle.suri_base.specs.declared.entry.Entry.{Entry}
use Rattle.suri_base.specs.declared.facts.Facts.{Facts}
use Rattle.suri_base.specs.declared.stream.Offer.{Offer}

-- the frames that a history answered
abbrev pub named : BucketNote → List ℕ → List ℕ
named (Found f emergency seen run said) fs = f ∷ fs
named (Made f said) fs = f ∷ fs
named (Refused f) fs = f ∷ fs
named _ fs = fs

abbrev pub all_named : List (Entry BucketNote) → List ℕ
all_named [] = []
all_named (e ∷ past) = named e.note (all_named past)

-- what a packet weighs, where there is one
abbrev pub weight_at : (Facts → ℕ) → Option Facts → ℕ
weight_at g None = 0
weight_at g (Some t) = g t

abbrev pub weight_of : (Facts → ℕ) → Captured → ℕ → ℕ
weight_of g c f = weight_at g (bearing c f)

-- a run that packets may join has begun
linked_made : (s : Fixed) (past : List (Entry BucketNote)) (run : ℕ) → IsSound s past → is_linked (row s run past).place ≡ true → has (made past) run ≡ true
linked_made s past run snd k = no_false (has (made past) run) (λ x. true_false k (ap (λ (v : Row). is_linked v.place) (snd.begun run x)))

module _ (g : Facts → ℕ) (s : Fixed) where
  -- what the members of a run weigh
  abbrev pub size_in : List (Entry BucketNote) → ℕ → ℕ
  size_in past a = sum_by g (row s a past).members

  -- the same after an entry
  abbrev size_after : List (Entry BucketNote) → BucketNote → ℕ → ℕ
  size_after past n a = sum_by g (after s a n (row s a past)).members

  kept : (past : List (Entry BucketNote)) (n : BucketNote) → ((a : ℕ) (ms : List Facts) → members_after s n a ms ≡ ms) → sum_over (size_after past n) (made past) ≡ sum_over (size_in past) (made past)
  kept past n same =
      over_same (size_after past n) (size_in past) (made past) (λ a k. ap (λ (ms : List Facts). sum_by g ms) (after-members s a n (row s a past) ∙ same a (row s a past).members))

  joined_cond : (b : Bool) (p : Facts) (ms : List Facts) → sum_by g (cond b (p ∷ ms) ms) ≡ cond b (sum_by g ms + g p) (sum_by g ms)
  joined_cond true p ms = omega (arith, sum_by-cons g p ms)
  joined_cond false p ms = refl

  -- a packet joins a run
  found : (past : List (Entry BucketNote)) (r f : ℕ) (emergency : Bool) (seen run : ℕ) (said : Offer) → IsSound s past → Rule s past r (Found f emergency seen run said)
      → sum_over (size_after past (Found f emergency seen run said)) (made past) ≡ sum_over (size_in past) (made past) + weight_of g s.capture f
  found past r f emergency seen run said snd rule =
      let packet = rule.0.own.packet in
      let takes_it : takes emergency (row s run past) packet ≡ true = sym (ap (λ (o : Option Facts). of_packet o (λ t. takes emergency (row s run past) t)) rule.0.own.bears) ∙ rule.1 in
      let linked = (takes_split emergency (row s run past) packet takes_it).0 in
      let weighs : weight_of g s.capture f ≡ g packet = ap (λ (o : Option Facts). weight_at g o) rule.0.own.bears in
      over_same (size_after past (Found f emergency seen run said)) (λ a. cond (run == a) (size_in past a + g packet) (size_in past a)) (made past)
      (λ a k.
      ap (λ (ms : List Facts). sum_by g ms)
      (after-members s a (Found f emergency seen run said) (row s a past)
      ∙ ap (λ (o : Option Facts). cond (run == a) (with_packet o (row s a past).members) (row s a past).members) rule.0.own.bears)
      ∙ joined_cond (run == a) packet (row s a past).members)
      ∙ (one_grown (g packet) (size_in past) run (made past) snd.once (linked_made s past run snd linked)
      ∙ ap (λ (n : ℕ). sum_over (size_in past) (made past) + n) (sym weighs))

  first_cond : (b : Bool) (p : Facts) (ms : List Facts) → sum_by g (cond b (p ∷ []) ms) ≡ cond b (g p) (sum_by g ms)
  first_cond true p ms = omega (arith, sum_by-cons g p [])
  first_cond false p ms = refl

  -- a run begins with its first member
  began : (past : List (Entry BucketNote)) (r f : ℕ) (said : Offer) → IsSound s past → Rule s past r (Made f said)
      → sum_over (size_after past (Made f said)) (f ∷ made past) ≡ sum_over (size_in past) (made past) + weight_of g s.capture f
  began past r f said snd rule =
      let wait = snd.waits r f rule.0 in
      let packet = wait.own.packet in
      let weighs : weight_of g s.capture f ≡ g packet = ap (λ (o : Option Facts). weight_at g o) wait.own.bears in
      let each : (a : ℕ) → size_after past (Made f said) a ≡ cond (f == a) (g packet) (size_in past a) = λ a.
      ap (λ (ms : List Facts). sum_by g ms)
      (after-members s a (Made f said) (row s a past) ∙ ap (λ (o : Option Facts). cond (f == a) (with_packet o []) (row s a past).members) wait.own.bears)
      ∙ first_cond (f == a) packet (row s a past).members in
      let here : size_after past (Made f said) f ≡ g packet = each f ∙ cond_this f (g packet) (size_in past f) in
      let rest = over_same (size_after past (Made f said)) (λ a. cond (f == a) (g packet) (size_in past a)) (made past) (λ a k. each a) in
      omega (arith, here, rest, weighs, untouched (λ a. g packet) (size_in past) f (made past) wait.new.unmade)

  -- the members of the runs that began, with the refused packets, are the answered packets
  pub members_named : (past : List (Entry BucketNote)) → IsLegal s past
      → sum_over (size_in past) (made past) + sum_over (weight_of g s.capture) (refused past) ≡ sum_over (weight_of g s.capture) (all_named past)
  members_named [] l = refl
  members_named (e ∷ past) l = by e.note l.0 (members_named past l.1)
    where
      by : (n : BucketNote) → Rule s past e.role n
          → sum_over (size_in past) (made past) + sum_over (weight_of g s.capture) (refused past) ≡ sum_over (weight_of g s.capture) (all_named past)
          → sum_over (size_after past n) (made_by n (made past)) + sum_over (weight_of g s.capture) (refused_by n (refused past))
          ≡ sum_over (weight_of g s.capture) (named n (all_named past))
      by (Found f emergency seen run said) rule h = omega (arith, h, found past e.role f emergency seen run said (sound s past l.1) rule)
      by (Made f said) rule h = omega (arith, h, began past e.role f said (sound s past l.1) rule)
      by (Refused f) rule h = omega (arith, h, kept past (Refused f) (λ a ms. refl))
      by (Missing f emergency seen ended) rule h = omega (arith, h, kept past (Missing f emergency seen ended) (λ a ms. refl))
      by (Stored f) rule h = omega (arith, h, kept past (Stored f) (λ a ms. refl))
      by (Stopped f) rule h = omega (arith, h, kept past (Stopped f) (λ a ms. refl))
      by (Closed f app run freed ended) rule h = omega (arith, h, kept past (Closed f app run freed ended) (λ a ms. refl))
      by (Idle f app) rule h = omega (arith, h, kept past (Idle f app) (λ a ms. refl))
      by (Victim f run) rule h = omega (arith, h, kept past (Victim f run) (λ a ms. refl))
      by (AllInUse f count) rule h = omega (arith, h, kept past (AllInUse f count) (λ a ms. refl))
      by (Swept round emergency seen count) rule h = omega (arith, h, kept past (Swept round emergency seen count) (λ a ms. refl))
      by (Drained count) rule h = omega (arith, h, kept past (Drained count) (λ a ms. refl))

-- a refused frame bears a packet: so the refused packets are as many as the refusals
pub refused_count : (s : Fixed) (past : List (Entry BucketNote)) → IsLegal s past → sum_over (weight_of (λ t. 1) s.capture) (refused past) ≡ refusals past
refused_count s [] l = refl
refused_count s (e ∷ past) l = by e.note l.0 (sum_by-cons (λ (d : Entry BucketNote). cond (is_refusal d.note) 1 0) e past) (refused_count s past l.1)
  where
    by : (n : BucketNote) → Rule s past e.role n → refusals (e ∷ past) ≡ cond (is_refusal n) 1 0 + refusals past
        → sum_over (weight_of (λ t. 1) s.capture) (refused past) ≡ refusals past → sum_over (weight_of (λ t. 1) s.capture) (refused_by n (refused past)) ≡ refusals (e ∷ past)
    by (Refused f) rule r h =
        let one : weight_of (λ t. 1) s.capture f ≡ 1 = ap (λ (o : Option Facts). weight_at (λ t. 1) o) ((sound s past l.1).waits e.role f rule).own.bears in
        omega (arith, r, h, one)
    by (Found f emergency seen run said) rule r h = omega (arith, r, h)
    by (Made f said) rule r h = omega (arith, r, h)
    by (Missing f emergency seen ended) rule r h = omega (arith, r, h)
    by (Stored f) rule r h = omega (arith, r, h)
    by (Stopped f) rule r h = omega (arith, r, h)
    by (Closed f app run freed ended) rule r h = omega (arith, r, h)
    by (Idle f app) rule r h = omega (arith, r, h)
    by (Victim f run) rule r h = omega (arith, r, h)
    by (AllInUse f count) rule r h = omega (arith, r, h)
    by (Swept round emergency seen count) rule r h = omega (arith, r, h)
    by (Drained count) rule r h = omega (arith, r, h)
