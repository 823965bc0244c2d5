-- What the manager's acts come to: one for each reading of the mode, one for each bucket and one for each end of a round; so after whole rounds
-- there are as many as rounds and buckets say. None of them finishes a run, and each round leaves one hand.
use Rattle.std.proofs.Common.{◌≡◌, ℕ, ◌==◌, ◌+◌, ◌*◌, ◌≤◌, ◌^◌, nat_lt, Bool, true, false, cond, ◌&&◌, List, [], ◌∷◌, ◌++◌, length, Option, Some, None, refl, sym, ◌∙◌, ap, subst, arith}
use Rattle.std.proofs.Math.Nat.{mul-le-mul_right}
use Rattle.bucket_laws.specs.Leaving.{Gone}
use Rattle.run_laws.proofs.Sums.{same_number}
use Rattle.run_laws.proofs.Working.{only_some}
use Rattle.run_rules.specs.Acts.{Act, on_bucket, on_pool, on_segments}
use Rattle.run_rules.specs.Manager.{Sweep, Task, end_round, leaving, manage, managed, new_manager, resting, start_round, sweep, sweep_on, sweeping, swept_after}
use Rattle.run_rules.specs.Rounds.{SweptRounds}
use Rattle.run_rules.specs.Serving.{finished}
use Rattle.run_rules.specs.Setup.{Setup, rounds}
use Rattle.suri_base.specs.Keys.{same_truth}
use Rattle.suri_base.specs.declared.entry.BucketNote.{BucketNote}
use Rattle.suri_base.specs.declared.entry.BucketNote.TheVariants.{AllInUse, Closed, Drained, Found, Idle, Made, Missing, Refused, Stopped, Stored, Swept, Victim}
use Rattle.suri_base.specs.declared.entry.PoolNote.{PoolNote}
use Rattle.suri_base.specs.declared.entry.PoolNote.TheVariants.{Full, Mode, Over, Put, Took, Turn}

-- the acts of the round so far
abbrev task_acts : ℕ → Task → ℕ
task_acts rows resting = 0
task_acts rows (sweeping k) = k + 1
task_acts rows leaving = rows + 1

on_acts : (k rows : ℕ) → task_acts rows (sweep_on k rows) ≡ k + 1
on_acts k rows = by (k == rows) refl
  where
    by : (t : Bool) → (k == rows) ≡ t → task_acts rows (cond t leaving (sweeping k)) ≡ k + 1
    by true e = omega (arith, same_number k rows e)
    by false e = refl

pub record Sweeps (rows : ℕ) (acts : List Act) (s : Sweep) : Type 0 where
  pub count : length acts ≡ s.round * (rows + 2) + task_acts rows s.task
  pub none : finished acts ≡ []
  pub hands : length s.hands ≡ s.round

one_round : (n rows : ℕ) → (n + 1) * (rows + 2) ≡ n * (rows + 2) + rows + 2
one_round n rows = grind arith

module _ (w : Setup) where
  sweep_more : (k : ℕ) (s t : Sweep) (b : ℕ) (n : BucketNote) (left : List Gone) (acts : List Act) → s.task ≡ sweeping k → sweep w k s b n left ≡ Some t
      → Sweeps w.layout.rows acts s → Sweeps w.layout.rows (on_bucket b n left ∷ acts) t
  sweep_more k s t b (Swept round e m count) left acts at h y =
      let q = only_some ((b == k) && (round == s.round) && same_truth e s.emergency && (m == s.seen)) (record s { task = sweep_on (k + 1) w.layout.rows; hand = s.hand ++ left }) t h in
      subst (λ (x : Sweep). Sweeps w.layout.rows (on_bucket b (Swept round e m count) left ∷ acts) x) q.1
      (record { count = omega (arith, y.count, ap (task_acts w.layout.rows) at, on_acts (k + 1) w.layout.rows); none = y.none; hands = y.hands })
  sweep_more k s t b (Found g e n run o) left acts at h y = cc
  sweep_more k s t b (Missing g e n ended) left acts at h y = cc
  sweep_more k s t b (Made g o) left acts at h y = cc
  sweep_more k s t b (Refused g) left acts at h y = cc
  sweep_more k s t b (Stored g) left acts at h y = cc
  sweep_more k s t b (Stopped g) left acts at h y = cc
  sweep_more k s t b (Closed g app' run freed ended) left acts at h y = cc
  sweep_more k s t b (Idle g app') left acts at h y = cc
  sweep_more k s t b (Victim g run) left acts at h y = cc
  sweep_more k s t b (AllInUse g count) left acts at h y = cc
  sweep_more k s t b (Drained count) left acts at h y = cc

  start_more : (s t : Sweep) (n : PoolNote) (i : ℕ) (acts : List Act) → s.task ≡ resting → start_round w s n i ≡ Some t
      → Sweeps w.layout.rows acts s → Sweeps w.layout.rows (on_pool n i ∷ acts) t
  start_more s t (Mode e) i acts at h y =
      let q = only_some (nat_lt s.round (rounds w)) (record s { task = sweep_on 0 w.layout.rows; emergency = e; seen = i }) t h in
      subst (λ (x : Sweep). Sweeps w.layout.rows (on_pool (Mode e) i ∷ acts) x) q.1
      (record { count = omega (arith, y.count, ap (task_acts w.layout.rows) at, on_acts 0 w.layout.rows); none = y.none; hands = y.hands })
  start_more s t (Took g) i acts at h y = cc
  start_more s t (Full g n limit) i acts at h y = cc
  start_more s t (Put run) i acts at h y = cc
  start_more s t (Turn run g) i acts at h y = cc
  start_more s t (Over round done) i acts at h y = cc

  end_more : (s t : Sweep) (n : PoolNote) (i : ℕ) (acts : List Act) → s.task ≡ leaving → end_round w s n ≡ Some t
      → Sweeps w.layout.rows acts s → Sweeps w.layout.rows (on_pool n i ∷ acts) t
  end_more s t (Over round done) i acts at h y =
      let q = only_some (round == s.round) (record s { task = resting; round = s.round + 1; hand = []; hands = s.hand ∷ s.hands }) t h in
      subst (λ (x : Sweep). Sweeps w.layout.rows (on_pool (Over round done) i ∷ acts) x) q.1
      (record { count = omega (arith, y.count, ap (task_acts w.layout.rows) at, one_round s.round w.layout.rows); none = y.none; hands = omega (arith, y.hands) })
  end_more s t (Took g) i acts at h y = cc
  end_more s t (Full g n limit) i acts at h y = cc
  end_more s t (Put run) i acts at h y = cc
  end_more s t (Turn run g) i acts at h y = cc
  end_more s t (Mode e) i acts at h y = cc

  task_more : (k : Task) (s t : Sweep) (a : Act) (acts : List Act) → s.task ≡ k → manage w k s a ≡ Some t → Sweeps w.layout.rows acts s → Sweeps w.layout.rows (a ∷ acts) t
  task_more resting s t (on_pool n i) acts at h y = start_more s t n i acts at h y
  task_more resting s t (on_segments n) acts at h y = cc
  task_more resting s t (on_bucket b n left) acts at h y = cc
  task_more (sweeping k) s t (on_pool n i) acts at h y = cc
  task_more (sweeping k) s t (on_segments n) acts at h y = cc
  task_more (sweeping k) s t (on_bucket b n left) acts at h y = sweep_more k s t b n left acts at h y
  task_more leaving s t (on_pool n i) acts at h y = end_more s t n i acts at h y
  task_more leaving s t (on_segments n) acts at h y = cc
  task_more leaving s t (on_bucket b n left) acts at h y = cc

  managed_more : (o : Option Sweep) (t : Sweep) (a : Act) (acts : List Act) → managed w a o ≡ Some t → ((s : Sweep) → o ≡ Some s → Sweeps w.layout.rows acts s)
      → Sweeps w.layout.rows (a ∷ acts) t
  managed_more None t a acts h k = cc
  managed_more (Some s) t a acts h k = task_more s.task s t a acts refl h (k s refl)

  sweeps : (acts : List Act) (t : Sweep) → swept_after w new_manager acts ≡ Some t → Sweeps w.layout.rows acts t
  sweeps [] t h =
      let e : new_manager ≡ t = cc in
      subst (λ (x : Sweep). Sweeps w.layout.rows [] x) e (record { count = omega arith; none = refl; hands = refl })
  sweeps (a ∷ acts) t h = managed_more (swept_after w new_manager acts) t a acts h (λ x e. sweeps acts x e)

  -- after so many rounds
  pub sweeps_count : (r : ℕ) (acts : List Act) (hands : List (List Gone)) → SweptRounds w r acts hands → length acts ≡ r * (w.layout.rows + 2)
  sweeps_count r acts hands h =
      let y = sweeps acts h.sweep h.stood in
      let rest : task_acts w.layout.rows h.sweep.task ≡ 0 = ap (task_acts w.layout.rows) h.rests in
      let whole : length acts ≡ h.sweep.round * (w.layout.rows + 2) = omega (arith, y.count, rest) in
      whole ∙ ap (λ (n : ℕ). n * (w.layout.rows + 2)) h.round

  pub sweeps_finish_none : (r : ℕ) (acts : List Act) (hands : List (List Gone)) → SweptRounds w r acts hands → finished acts ≡ []
  sweeps_finish_none r acts hands h = (sweeps acts h.sweep h.stood).none

  pub sweeps_hands : (r : ℕ) (acts : List Act) (hands : List (List Gone)) → SweptRounds w r acts hands → length hands ≡ r
  sweeps_hands r acts hands h = ap length (sym h.held) ∙ ((sweeps acts h.sweep h.stood).hands ∙ h.round)

  -- within the bounds of a run these are few
  pub sweeps_few : (r : ℕ) (acts : List Act) (hands : List (List Gone)) → SweptRounds w r acts hands → r ≤ rounds w → 1 ≤ w.layout.rows → rounds w * w.layout.rows ≤ 2 ^ 24
      → length acts ≤ 3 * 2 ^ 24
  sweeps_few r acts hands h low some bound =
      let more : r * (w.layout.rows + 2) ≤ rounds w * (w.layout.rows + 2) = mul-le-mul_right (w.layout.rows + 2) low in
      let each : 1 * rounds w ≤ w.layout.rows * rounds w = mul-le-mul_right (rounds w) some in
      let split : rounds w * (w.layout.rows + 2) ≡ rounds w * w.layout.rows + 2 * rounds w = grind arith in
      let turn : w.layout.rows * rounds w ≡ rounds w * w.layout.rows = grind arith in
      omega (arith, sweeps_count r acts hands h, more, each, split, turn, bound)
