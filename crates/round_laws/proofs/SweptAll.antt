-- The manager sweeps each bucket in each round: when it is at a bucket, all before it were swept in its round, and all of them in the rounds before.
use Rattle.std.proofs.Common.{◌≡◌, ◌≢◌, ℕ, ◌==◌, ◌+◌, ◌<◌, nat_lt, ◌⊎◌, inl, inr, ⊎_elim, Bool, true, false, cond, ◌&&◌, List, [], ◌∷◌, ◌++◌, Option, Some, None, refl, sym, ◌∙◌, ap, subst, arith}
use Rattle.std.proofs.lemmas.Bool.Decides.{eqb_tells}
use Rattle.bucket_laws.proofs.Tests.{same}
use Rattle.bucket_laws.specs.Leaving.{Gone}
use Rattle.bucket_rules.proofs.Words.{true_false}
use Rattle.round_laws.specs.Rising.{Sweeps}
use Rattle.run_laws.proofs.Notes.{notes_in}
use Rattle.run_laws.proofs.Reading.{both4}
use Rattle.run_laws.proofs.Sums.{same_number}
use Rattle.run_laws.proofs.Working.{only_some}
use Rattle.run_rules.specs.Acts.{Act, on_bucket, on_pool, on_segments}
use Rattle.run_rules.specs.Manager.{Sweep, Task, end_round, leaving, manage, managed, new_manager, resting, start_round, sweep, sweep_on, sweeping, swept_after}
use Rattle.run_rules.specs.Rounds.{SweptRounds}
use Rattle.run_rules.specs.Setup.{Setup, rounds}
use Rattle.suri_base.specs.Keys.{same_truth}
use Rattle.suri_base.specs.declared.entry.BucketNote.{BucketNote}
use Rattle.suri_base.specs.declared.entry.BucketNote.TheVariants.{AllInUse, Closed, Drained, Found, Idle, Made, Missing, Refused, Stopped, Stored, Swept, Victim}
use Rattle.suri_base.specs.declared.entry.PoolNote.{PoolNote}
use Rattle.suri_base.specs.declared.entry.PoolNote.TheVariants.{Full, Mode, Over, Put, Took, Turn}

-- some note of these swept in that round
abbrev pub SweptIn : ℕ → List BucketNote → Type 0
SweptIn r [] = ⊥
SweptIn r (n ∷ ns) = Sweeps r n ⊎ SweptIn r ns

-- so many buckets were swept in the round that the manager is in
abbrev swept_so_far : Setup → Task → ℕ
swept_so_far w resting = 0
swept_so_far w (sweeping k) = k
swept_so_far w leaving = w.layout.rows

-- this bucket's turn of that round is over
abbrev IsPast : Setup → Sweep → ℕ → ℕ → Type 0
IsPast w s r b = (r < s.round) ⊎ ((r ≡ s.round) × (b < swept_so_far w s.task))

module _ (w : Setup) (r b : ℕ) (real : b < w.layout.rows) where
  abbrev Done : Sweep → List Act → Type 0
  Done s acts = IsPast w s r b → SweptIn r (notes_in b acts)

  on_next : (x : Bool) (k : ℕ) → (k == w.layout.rows) ≡ x → b < swept_so_far w (cond x leaving (sweeping k)) → b < k
  on_next true k e low = let z = same_number k w.layout.rows e in omega (arith, z, low)
  on_next false k e low = low

  start_done : (s : Sweep) (n : PoolNote) (i : ℕ) (t : Sweep) (acts : List Act) → s.task ≡ resting → start_round w s n i ≡ Some t → Done s acts → Done t (on_pool n i ∷ acts)
  start_done s (Mode e) i t acts is h before past =
      let q = only_some (nat_lt s.round (rounds w)) (record s { task = sweep_on 0 w.layout.rows; emergency = e; seen = i }) t h in
      let x = subst (λ (y : Sweep). IsPast w y r b) (sym q.1) past in
      before (⊎_elim (λ y. inl y) (λ y. let z = on_next (0 == w.layout.rows) 0 refl y.1 in absurd (omega (arith, z))) x)
  start_done s (Took g) i t acts is h before past = cc
  start_done s (Full g n limit) i t acts is h before past = cc
  start_done s (Put run) i t acts is h before past = cc
  start_done s (Turn run g) i t acts is h before past = cc
  start_done s (Over round done) i t acts is h before past = cc

  end_done : (s : Sweep) (n : PoolNote) (i : ℕ) (t : Sweep) (acts : List Act) → s.task ≡ leaving → end_round w s n ≡ Some t → Done s acts → Done t (on_pool n i ∷ acts)
  end_done s (Over round done) i t acts is h before past =
      let q = only_some (round == s.round) (record s { task = resting; round = s.round + 1; hand = []; hands = s.hand ∷ s.hands }) t h in
      let x = subst (λ (y : Sweep). IsPast w y r b) (sym q.1) past in
      let here : swept_so_far w s.task ≡ w.layout.rows = ap (swept_so_far w) is in
      before (⊎_elim
      (λ y. ⊎_elim (λ z. inr (z.1, omega (arith, here, real))) (λ z. inl (earlier s.round y z.1)) (eqb_tells r s.round))
      (λ y. absurd (omega (arith, y.1))) x)
    where
      earlier : (now : ℕ) → r < now + 1 → r ≢ now → r < now
      earlier now low apart = omega (arith, low, apart)
  end_done s (Took g) i t acts is h before past = cc
  end_done s (Full g n limit) i t acts is h before past = cc
  end_done s (Put run) i t acts is h before past = cc
  end_done s (Turn run g) i t acts is h before past = cc
  end_done s (Mode e) i t acts is h before past = cc

  -- a bucket that is swept
  on_bucket_done : (s : Sweep) (k : ℕ) (n : BucketNote) (notes : List BucketNote) (x : Bool) → (k == b) ≡ x → s.task ≡ sweeping k → (r ≡ s.round → Sweeps r n)
      → (IsPast w s r b → SweptIn r notes) → (r < s.round) ⊎ ((r ≡ s.round) × (b < k + 1)) → SweptIn r (cond x (n ∷ notes) notes)
  on_bucket_done s k n notes true e is sweeps before past = ⊎_elim (λ y. inr (before (inl y))) (λ y. inl (sweeps y.0)) past
  on_bucket_done s k n notes false e is sweeps before past =
      let here : swept_so_far w s.task ≡ k = ap (swept_so_far w) is in
      before (⊎_elim (λ y. inl y) (λ y. inr (y.0, less y.1 here)) past)
    where
      apart : k ≢ b
      apart is = true_false (same k b is) e

      less : b < k + 1 → swept_so_far w s.task ≡ k → b < swept_so_far w s.task
      less low here = omega (arith, low, here, apart)

  sweep_done : (k : ℕ) (s : Sweep) (c : ℕ) (n : BucketNote) (left : List Gone) (t : Sweep) (acts : List Act) → s.task ≡ sweeping k → sweep w k s c n left ≡ Some t → Done s acts
      → Done t (on_bucket c n left ∷ acts)
  sweep_done k s c (Swept round e m count) left t acts is h before past =
      let q = only_some ((c == k) && (round == s.round) && same_truth e s.emergency && (m == s.seen)) (record s { task = sweep_on (k + 1) w.layout.rows; hand = s.hand ++ left }) t h in
      let z = both4 (c == k) (round == s.round) (same_truth e s.emergency) (m == s.seen) q.0 in
      let at : c ≡ k = same_number c k z.0 in
      let of = same_number round s.round z.1 in
      let x = subst (λ (y : Sweep). IsPast w y r b) (sym q.1) past in
      subst (λ (i : ℕ). SweptIn r (cond (i == b) (Swept round e m count ∷ notes_in b acts) (notes_in b acts))) (sym at)
      (on_bucket_done s k (Swept round e m count) (notes_in b acts) (k == b) refl is (λ y. of ∙ sym y) before
      (⊎_elim (λ y. inl y) (λ y. inr (y.0, on_next (k + 1 == w.layout.rows) (k + 1) refl y.1)) x))
  sweep_done k s c (Found g e n run o) left t acts is h before past = cc
  sweep_done k s c (Missing g e n ended) left t acts is h before past = cc
  sweep_done k s c (Made g o) left t acts is h before past = cc
  sweep_done k s c (Refused g) left t acts is h before past = cc
  sweep_done k s c (Stored g) left t acts is h before past = cc
  sweep_done k s c (Stopped g) left t acts is h before past = cc
  sweep_done k s c (Closed g verdict run freed ended) left t acts is h before past = cc
  sweep_done k s c (Idle g verdict) left t acts is h before past = cc
  sweep_done k s c (Victim g run) left t acts is h before past = cc
  sweep_done k s c (AllInUse g count) left t acts is h before past = cc
  sweep_done k s c (Drained count) left t acts is h before past = cc

  manage_done : (k : Task) (s t : Sweep) (a : Act) (acts : List Act) → s.task ≡ k → manage w k s a ≡ Some t → Done s acts → Done t (a ∷ acts)
  manage_done resting s t (on_pool n i) acts is h before = start_done s n i t acts is h before
  manage_done resting s t (on_segments n) acts is h before = cc
  manage_done resting s t (on_bucket c n left) acts is h before = cc
  manage_done (sweeping k) s t (on_pool n i) acts is h before = cc
  manage_done (sweeping k) s t (on_segments n) acts is h before = cc
  manage_done (sweeping k) s t (on_bucket c n left) acts is h before = sweep_done k s c n left t acts is h before
  manage_done leaving s t (on_pool n i) acts is h before = end_done s n i t acts is h before
  manage_done leaving s t (on_segments n) acts is h before = cc
  manage_done leaving s t (on_bucket c n left) acts is h before = cc

  done_more : (o : Option Sweep) (t : Sweep) (a : Act) (acts : List Act) → managed w a o ≡ Some t → ((s : Sweep) → o ≡ Some s → Done s acts) → Done t (a ∷ acts)
  done_more None t a acts h before past = cc
  done_more (Some s) t a acts h before past = manage_done s.task s t a acts refl h (before s refl) past

  all_done : (acts : List Act) (t : Sweep) → swept_after w new_manager acts ≡ Some t → Done t acts
  all_done [] t h past =
      let e : new_manager ≡ t = cc in
      let x = subst (λ (y : Sweep). IsPast w y r b) (sym e) past in ⊎_elim (λ y. absurd (omega (arith, y))) (λ y. absurd (omega (arith, y.1))) x
  all_done (a ∷ acts) t h past = done_more (swept_after w new_manager acts) t a acts h (λ s e. all_done acts s e) past

  pub swept_in : (ended : ℕ) (acts : List Act) (hands : List (List Gone)) → SweptRounds w ended acts hands → r < ended → SweptIn r (notes_in b acts)
  swept_in ended acts hands h low = all_done acts h.sweep h.stood (inl (omega (arith, low, h.round)))
