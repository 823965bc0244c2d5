-- Where the next packet of a linked run belongs to a round before a sweep, it isn't still to come: the bucket answered it before the sweep, and
-- then the run would have it for its last.
use Rattle.std.proofs.Common.{◌≡◌, ℕ, ◌==◌, ◌-◌, ◌*◌, ◌<◌, ◌≤◌, Bool, true, cond, List, [], ◌∷◌, ◌++◌, Option, Some, None, ◌⊎◌, ⊎_elim, inl, inr, refl, sym, ◌∙◌, ap, subst, eqb-true, arith}
use Rattle.std.proofs.Math.Nat.{div-lt_iff_lt-mul, le-div_iff_mul-le}
use Rattle.std.proofs.lemmas.List.Elements.{All-head, All-tail}
use Rattle.std.specs.Prelude.{All}
use Rattle.bucket_laws.proofs.Answering.{answered_at, answered_falls, answers_of, closed_answered, frames}
use Rattle.bucket_laws.proofs.Cutting.{cut_so_far}
use Rattle.bucket_laws.proofs.Draining.{empty}
use Rattle.bucket_laws.proofs.Falling.{has_filter}
use Rattle.bucket_laws.proofs.Firsts.{named_by_first}
use Rattle.bucket_laws.proofs.Listing.{bearing_no, is_of, is_of_its, of_is, packets_at}
use Rattle.bucket_laws.proofs.Next.{IsNext, next_is}
use Rattle.bucket_laws.proofs.Placing.{keyed}
use Rattle.bucket_laws.proofs.Tests.{all_of, either, no_false, same}
use Rattle.bucket_laws.specs.Draining.{is_drained}
use Rattle.bucket_laws.specs.Keys.{Falls, all_packets, answered, answers, packets_of, pieces}
use Rattle.bucket_laws.specs.Places.{At, History, In}
use Rattle.bucket_rules.proofs.Soundness.{sound}
use Rattle.bucket_rules.proofs.Words.{some_is}
use Rattle.bucket_rules.specs.Packets.{bearing, has_key}
use Rattle.bucket_rules.specs.Row.{Row, has, is_linked, made, row, with_packet}
use Rattle.bucket_rules.specs.Rule.{IsLegal}
use Rattle.bucket_rules.specs.Sound.{IfRun, IsNewest}
use Rattle.bucket_rules.specs.declared.fixed.Fixed.{Fixed}
use Rattle.flow_sum.specs.Run.{first_of}
use Rattle.quiet_laws.proofs.Calming.{holds_at}
use Rattle.round_laws.specs.Rising.{RoundsRise, round_in}
use Rattle.run_laws.proofs.Leavers.{made_own}
use Rattle.run_rules.specs.Setup.{Setup, fixed_at}
use Rattle.suri_base.proofs.SameKeys.{same_key-is}
use Rattle.suri_base.specs.Capture.{Captured, IsCapture}
use Rattle.suri_base.specs.Dealing.{bucket_of, round_of}
use Rattle.suri_base.specs.declared.entry.BucketNote.{BucketNote}
use Rattle.suri_base.specs.declared.entry.BucketNote.TheVariants.{AllInUse, Closed, Drained, Found, Idle, Made, Missing, Refused, Stopped, Stored, Swept, Victim}
use Rattle.suri_base.specs.declared.entry.Entry.{Entry}
use Rattle.suri_base.specs.declared.facts.Facts.{Facts}
use Rattle.suri_base.specs.declared.key.Key.{Key}

-- the last member of a linked run is the packet of its key that was answered last

in_packets : (c : Captured) (fs : List ℕ) (f : ℕ) (t : Facts) → has fs f ≡ true → bearing c f ≡ Some t → In t (packets_at c fs)
in_packets c [] f t h b = cc
in_packets c (g ∷ fs) f t h b = ⊎_elim
    (λ e. subst (λ (o : Option Facts). In t (with_packet o (packets_at c fs))) (sym (ap (bearing c) (eqb-true g f e) ∙ b)) (inl refl))
    (λ k. behind (bearing c g) (in_packets c fs f t k b))
    (either (g == f) (has fs f) h)
  where
    behind : (o : Option Facts) → In t (packets_at c fs) → In t (with_packet o (packets_at c fs))
    behind None i = i
    behind (Some u) i = inr i

all_in : (n : ℕ) (t : Facts) (ts : List Facts) → All (λ (u : Facts). u.no < n) ts → In t ts → t.no < n
all_in n t [] a i = absurd i
all_in n t (u ∷ ts) a i = ⊎_elim
    (λ e. subst (λ (v : Facts). v.no < n) e (All-head (λ (v : Facts). v.no < n) u ts a))
    (λ j. all_in n t ts (All-tail (λ (v : Facts). v.no < n) u ts a) j) i

module _ (s : Fixed) (past : History) (l : IsLegal s past) (a : ℕ) (m : Facts) (ms : List Facts) (is_run : (row s a past).members ≡ m ∷ ms) where
  own_key : has_key (row s a past).members m.key ≡ true
  own_key = keyed s past a m l (subst (λ (us : List Facts). In m us) (sym is_run) (inl refl))

  answered_last : is_linked (row s a past).place ≡ true → (more : List Facts) × (answered s m.key past ≡ m ∷ more)
  answered_last on =
      let c = cut_so_far s m.key past l in
      let z = c.top a on own_key in
      let own : packets_of a (pieces s m.key past) ≡ m ∷ ms = c.cut.runs a z.4 ∙ (ap (λ (b : Bool). cond b (row s a past).members []) own_key ∙ is_run) in
      let first : packets_of a (pieces s m.key past) ≡ z.0.packets =
      ap (packets_of a) z.2 ∙ ap (λ (b : Bool). cond b z.0.packets (packets_of a z.1)) (same z.0.run a z.3) in
      let whole : answered s m.key past ≡ z.0.packets ++ all_packets z.1 = sym c.cut.whole ∙ ap all_packets z.2 in
      (ms ++ all_packets z.1, whole ∙ ap (λ (us : List Facts). us ++ all_packets z.1) (sym first ∙ own))

  -- no packet of its key that comes after it was answered
  none_after : IsCapture s.capture → is_linked (row s a past).place ≡ true → (frame next : ℕ) (t : Facts) → bearing s.capture frame ≡ Some m → frame < next
      → bearing s.capture next ≡ Some t → t.key ≡ m.key → has (answers_of past) next ≡ true → ⊥
  none_after is on frame next t b up c e h =
      let of : is_of s.capture m.key next ≡ true = subst (λ (k : Key). is_of s.capture k next ≡ true) e (is_of_its s.capture next t c) in
      let here : has (frames s m.key past) next ≡ true =
      has_filter (is_of s.capture m.key) next (answers_of past) ∙ all_of (is_of s.capture m.key next) (has (answers_of past) next) of h in
      let z = answered_last on in
      let i : In t (m ∷ z.0) = subst (λ (us : List Facts). In t us) (sym (answered_at s m.key past) ∙ z.1) (in_packets s.capture (frames s m.key past) next t here c) in
      let fall : Falls (m ∷ z.0) = subst Falls z.1 (answered_falls s m.key past is l) in
      let n : m.no ≡ frame = bearing_no s.capture frame m is b in
      let o : t.no ≡ next = bearing_no s.capture next t is c in
      ⊎_elim (λ x. omega (arith, ap (λ (u : Facts). u.no) x, n, o, up)) (λ x. omega (arith, all_in m.no t z.0 fall.0 x, n, o, up)) i

  -- its key is one of the bucket
  key_bucket : bucket_of m.key s.layout.rows ≡ s.number
  key_bucket =
      let began : has (made past) a ≡ true = no_false (has (made past) a) (λ x. none (sym is_run ∙ ap (λ (w : Row). w.members) ((sound s past l).begun a x))) in
      let own = made_own s past a l began in
      let first = named_by_first s past a l began in
      let k : has_key (first.run.newest ∷ first.run.older) m.key ≡ true = subst (λ (us : List Facts). has_key us m.key ≡ true) first.members own_key in
      let one : own.packet ≡ first_of first.run = some_is own.bears first.first in
      ap (λ (x : Key). bucket_of x s.layout.rows) (sym (same_key-is (first_of first.run).key m.key k))
      ∙ (ap (λ (x : Facts). bucket_of x.key s.layout.rows) (sym one) ∙ own.bucket)
    where
      none : m ∷ ms ≡ [] → ⊥
      none e = cc

-- which frames were answered before a sweep

round_below : (f size round : ℕ) → 1 ≤ size → 1 ≤ f → f ≤ round * size → round_of f size < round
round_below f size round some one low = (div-lt_iff_lt-mul {k = size} {x = f - 1} {y = round} some).1 (less f (round * size) one low)
  where
    less : (x y : ℕ) → 1 ≤ x → x ≤ y → x - 1 < y
    less x y h k = omega (arith, h, k)

pub round_above : (f size round : ℕ) → 1 ≤ size → 1 ≤ f → round ≤ round_of f size → round * size < f
round_above f size round some one high = more (round * size) f one ((le-div_iff_mul-le {k = size} {x = round} {y = f - 1} some).0 high)
  where
    more : (x y : ℕ) → 1 ≤ y → x ≤ y - 1 → x < y
    more x y h k = omega (arith, h, k)

answer_round : (w : Setup) (n : BucketNote) → 1 ≤ answers n → round_in w n ≡ round_of (answers n) w.layout.round
answer_round w (Found f emergency seen run said) l = refl
answer_round w (Missing f emergency seen ended) l = absurd (omega (arith, l))
answer_round w (Made f said) l = refl
answer_round w (Refused f) l = refl
answer_round w (Stored f) l = absurd (omega (arith, l))
answer_round w (Stopped f) l = absurd (omega (arith, l))
answer_round w (Closed f app run freed ended) l = absurd (omega (arith, l))
answer_round w (Idle f app) l = absurd (omega (arith, l))
answer_round w (Victim f run) l = absurd (omega (arith, l))
answer_round w (AllInUse f count) l = absurd (omega (arith, l))
answer_round w (Swept round emergency seen count) l = absurd (omega (arith, l))
answer_round w (Drained count) l = absurd (omega (arith, l))

-- what was answered of the rounds before an entry that answers nothing, was answered before it
answered_before : (w : Setup) (e : Entry BucketNote) (past h : History) (f : ℕ) → RoundsRise w h → At e past h → answers e.note ≡ 0 → 1 ≤ f
    → round_of f w.layout.round < round_in w e.note → has (answers_of h) f ≡ true → has (answers_of past) f ≡ true
answered_before w e past [] f rise at none one low h = absurd at
answered_before w e past (y ∷ hs) f rise at none one low h =
    by at (either (answers y.note == f) (has (answers_of hs) f) h) (λ a k. answered_before w e past hs f rise.1 a none one low k)
  where
    by : ((y ≡ e) × (hs ≡ past)) ⊎ At e past hs → ((answers y.note == f) ≡ true) ⊎ (has (answers_of hs) f ≡ true)
        → (At e past hs → has (answers_of hs) f ≡ true → has (answers_of past) f ≡ true) → has (answers_of past) f ≡ true
    by (inl z) (inl x) more = absurd (omega (arith, one, none, eqb-true (answers y.note) f x, ap (λ (d : Entry BucketNote). answers d.note) z.0))
    by (inl z) (inr x) more = subst (λ (u : History). has (answers_of u) f ≡ true) z.1 x
    by (inr a) (inl x) more =
        let same_frame = eqb-true (answers y.note) f x in
        let own = answer_round w y.note (omega (arith, one, same_frame)) ∙ ap (λ (g : ℕ). round_of g w.layout.round) same_frame in
        let up = (holds_at (λ (d : Entry BucketNote). round_in w d.note ≤ round_in w y.note) e past hs rise.0 a).0 in
        absurd (omega (arith, low, own, up))
    by (inr a) (inr x) more = more a x

module _ (w : Setup) (b : ℕ) (is : IsCapture w.capture) (size : 1 ≤ w.layout.round) (whole : History) (l : IsLegal (fixed_at w b) whole)
    (drained : is_drained whole ≡ true) (rise : RoundsRise w whole) where
  abbrev s : Fixed
  s = fixed_at w b

  -- so the next packet of a linked run isn't of a round before a sweep
  pub next_late : (e : Entry BucketNote) (past : History) → At e past whole → IsLegal s past → answers e.note ≡ 0 → (a : ℕ) → is_linked (row s a past).place ≡ true
      → (m : Facts) (ms : List Facts) → (row s a past).members ≡ m ∷ ms → 1 ≤ m.next → m.next ≤ round_in w e.note * w.layout.round → ⊥
  next_late e past at legal none a on m ms is_run one low =
      let newest : IsNewest s past (record { newest = m; older = ms }) =
      subst (λ (us : List Facts). IfRun us (λ r. IsNewest s past r)) is_run ((sound s past legal).newest a) in
      comes newest.frame newest.bears (next_is w.capture newest.frame m is newest.bears)
    where
      comes : (frame : ℕ) → bearing w.capture frame ≡ Some m → IsNext w.capture frame m → ⊥
      comes frame bears (inl y) = omega (arith, one, y.0)
      comes frame bears (inr y) =
          let u = of_is w.capture m.key m.next y.1 in
          let mine : bucket_of u.0.key w.layout.rows ≡ b = ap (λ (k : Key). bucket_of k w.layout.rows) u.2 ∙ key_bucket s past legal a m ms is_run in
          let all = closed_answered s whole m.next l ((empty s whole l drained).closed m.next u.0 u.1 mine) in
          let old = answered_before w e past whole m.next rise at none one (round_below m.next w.layout.round (round_in w e.note) size one low) all in
          none_after s past legal a m ms is_run is on frame m.next u.0 bears y.0 u.1 u.2 old
