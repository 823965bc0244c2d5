-- In which rounds the other roles act on buckets: the manager sweeps in the round that it is in, the recycler has nothing to do with buckets,
-- and the end role drains them after the last round.
use Rattle.std.proofs.Common.{◌≡◌, ℕ, suc, ◌==◌, ◌+◌, ◌<◌, ◌≤◌, nat_lt, Bool, true, false, cond, ◌&&◌, List, [], ◌∷◌, ◌++◌, length, Option, Some, None, refl, ◌∙◌, ap, subst, arith}
use Rattle.bucket_laws.specs.Leaving.{Gone}
use Rattle.round_laws.proofs.Notes.{NoteOf, Notes, note_weaker, notes_weaker}
use Rattle.round_laws.specs.Rising.{round_in}
use Rattle.run_laws.proofs.Reading.{both4}
use Rattle.run_laws.proofs.Serving.{manager_totals}
use Rattle.run_laws.proofs.Sums.{same_number}
use Rattle.run_laws.proofs.Working.{only_some}
use Rattle.run_rules.specs.Acts.{Act, on_bucket, on_pool, on_segments}
use Rattle.run_rules.specs.Ending.{Ending, drain, end_on, ended_on, ending_after}
use Rattle.run_rules.specs.Manager.{Sweep, Task, end_round, leaving, manage, managed, new_manager, resting, start_round, sweep, sweep_on, sweeping, swept_after}
use Rattle.run_rules.specs.Rounds.{SweptRounds}
use Rattle.run_rules.specs.Serving.{queue_after, serve, served}
use Rattle.run_rules.specs.Setup.{Setup, rounds}
use Rattle.suri_base.specs.Keys.{same_truth}
use Rattle.suri_base.specs.declared.entry.BucketNote.{BucketNote}
use Rattle.suri_base.specs.declared.entry.BucketNote.TheVariants.{AllInUse, Closed, Drained, Found, Idle, Made, Missing, Refused, Stopped, Stored, Swept, Victim}
use Rattle.suri_base.specs.declared.entry.PoolNote.{PoolNote}
use Rattle.suri_base.specs.declared.entry.PoolNote.TheVariants.{Full, Mode, Over, Put, Took, Turn}

-- the round that a manager is to begin next
abbrev begins_at : Task → ℕ → ℕ
begins_at resting r = r
begins_at (sweeping k) r = suc r
begins_at leaving r = suc r

-- an act of the manager: it is of the round that the manager is in, which never falls
record Swung (w : Setup) (s t : Sweep) (a : Act) : Type 0 where
  pub round : s.round ≤ t.round
  pub next : begins_at s.task s.round ≤ begins_at t.task t.round
  pub note : NoteOf (λ n. (s.round ≤ round_in w n) × (round_in w n < begins_at t.task t.round)) a

sweeps_on : (x : Bool) (k r : ℕ) → begins_at (cond x leaving (sweeping k)) r ≡ suc r
sweeps_on true k r = refl
sweeps_on false k r = refl

module _ (w : Setup) where
  sweep_in : (k : ℕ) (s : Sweep) (b : ℕ) (n : BucketNote) (left : List Gone) (t : Sweep) → s.task ≡ sweeping k → sweep w k s b n left ≡ Some t → Swung w s t (on_bucket b n left)
  sweep_in k s b (Swept round e m count) left t is h =
      let q = only_some ((b == k) && (round == s.round) && same_truth e s.emergency && (m == s.seen)) (record s { task = sweep_on (k + 1) w.layout.rows; hand = s.hand ++ left }) t h in
      let z = same_number round s.round (both4 (b == k) (round == s.round) (same_truth e s.emergency) (m == s.seen) q.0).1 in
      let here : begins_at s.task s.round ≡ suc s.round = ap (λ (p : Task). begins_at p s.round) is in
      let on = sweeps_on (k + 1 == w.layout.rows) (k + 1) s.round in
      subst (λ (x : Sweep). Swung w s x (on_bucket b (Swept round e m count) left)) q.1
      (record { round = omega arith; next = omega (arith, here, on); note = (omega (arith, z), omega (arith, z, on)) })
  sweep_in k s b (Found g e n run o) left t is h = cc
  sweep_in k s b (Missing g e n ended) left t is h = cc
  sweep_in k s b (Made g o) left t is h = cc
  sweep_in k s b (Refused g) left t is h = cc
  sweep_in k s b (Stored g) left t is h = cc
  sweep_in k s b (Stopped g) left t is h = cc
  sweep_in k s b (Closed g verdict run freed ended) left t is h = cc
  sweep_in k s b (Idle g verdict) left t is h = cc
  sweep_in k s b (Victim g run) left t is h = cc
  sweep_in k s b (AllInUse g count) left t is h = cc
  sweep_in k s b (Drained count) left t is h = cc

  start_in : (s : Sweep) (n : PoolNote) (i : ℕ) (t : Sweep) → s.task ≡ resting → start_round w s n i ≡ Some t → Swung w s t (on_pool n i)
  start_in s (Mode e) i t is h =
      let q = only_some (nat_lt s.round (rounds w)) (record s { task = sweep_on 0 w.layout.rows; emergency = e; seen = i }) t h in
      let here : begins_at s.task s.round ≡ s.round = ap (λ (p : Task). begins_at p s.round) is in
      subst (λ (x : Sweep). Swung w s x (on_pool (Mode e) i)) q.1 (record { round = omega arith; next = omega (arith, here, sweeps_on (0 == w.layout.rows) 0 s.round); note = tt })
  start_in s (Took g) i t is h = cc
  start_in s (Full g n limit) i t is h = cc
  start_in s (Put run) i t is h = cc
  start_in s (Turn run g) i t is h = cc
  start_in s (Over round done) i t is h = cc

  end_in : (s : Sweep) (n : PoolNote) (i : ℕ) (t : Sweep) → s.task ≡ leaving → end_round w s n ≡ Some t → Swung w s t (on_pool n i)
  end_in s (Over round done) i t is h =
      let q = only_some (round == s.round) (record s { task = resting; round = s.round + 1; hand = []; hands = s.hand ∷ s.hands }) t h in
      let here : begins_at s.task s.round ≡ suc s.round = ap (λ (p : Task). begins_at p s.round) is in
      subst (λ (x : Sweep). Swung w s x (on_pool (Over round done) i)) q.1 (record { round = omega arith; next = omega (arith, here); note = tt })
  end_in s (Took g) i t is h = cc
  end_in s (Full g n limit) i t is h = cc
  end_in s (Put run) i t is h = cc
  end_in s (Turn run g) i t is h = cc
  end_in s (Mode e) i t is h = cc

  manage_in : (k : Task) (s t : Sweep) (a : Act) → s.task ≡ k → manage w k s a ≡ Some t → Swung w s t a
  manage_in resting s t (on_pool n i) is h = start_in s n i t is h
  manage_in resting s t (on_segments n) is h = cc
  manage_in resting s t (on_bucket b n left) is h = cc
  manage_in (sweeping k) s t (on_pool n i) is h = cc
  manage_in (sweeping k) s t (on_segments n) is h = cc
  manage_in (sweeping k) s t (on_bucket b n left) is h = sweep_in k s b n left t is h
  manage_in leaving s t (on_pool n i) is h = end_in s n i t is h
  manage_in leaving s t (on_segments n) is h = cc
  manage_in leaving s t (on_bucket b n left) is h = cc

  -- the acts of the manager so far are of rounds before the one that it is to begin next
  swung_more : (o : Option Sweep) (t : Sweep) (a : Act) (acts : List Act) → managed w a o ≡ Some t
      → ((s : Sweep) → o ≡ Some s → Notes (λ n. round_in w n < begins_at s.task s.round) acts) → Notes (λ n. round_in w n < begins_at t.task t.round) (a ∷ acts)
  swung_more None t a acts h before = cc
  swung_more (Some s) t a acts h before =
      let x = manage_in s.task s t a refl h in (
        note_weaker (λ n. (s.round ≤ round_in w n) × (round_in w n < begins_at t.task t.round)) (λ n. round_in w n < begins_at t.task t.round) (λ n e. e.1) a x.note,
        notes_weaker (λ n. round_in w n < begins_at s.task s.round) (λ n. round_in w n < begins_at t.task t.round)
            (λ n e. less (round_in w n) (begins_at s.task s.round) (begins_at t.task t.round) e x.next) acts (before s refl),
      )
    where
      less : (i k m : ℕ) → i < k → k ≤ m → i < m
      less i k m e l = omega (arith, e, l)

  all_swung : (acts : List Act) (t : Sweep) → swept_after w new_manager acts ≡ Some t → Notes (λ n. round_in w n < begins_at t.task t.round) acts
  all_swung [] t h = tt
  all_swung (a ∷ acts) t h = swung_more (swept_after w new_manager acts) t a acts h (λ s e. all_swung acts s e)

  pub swept_before : (r : ℕ) (acts : List Act) (hands : List (List Gone)) → SweptRounds w r acts hands → Notes (λ n. round_in w n < r) acts
  swept_before r acts hands h =
      let e : begins_at h.sweep.task h.sweep.round ≡ r = ap (λ (p : Task). begins_at p h.sweep.round) h.rests ∙ h.round in
      subst (λ (k : ℕ). Notes (λ n. round_in w n < k) acts) e (all_swung acts h.sweep h.stood)

  -- and those since it had ended so many rounds are of none of these
  since_more : (r : ℕ) (o : Option Sweep) (t : Sweep) (a : Act) (now : List Act) → managed w a o ≡ Some t → ((s : Sweep) → o ≡ Some s → (r ≤ s.round) × Notes (λ n. r ≤ round_in w n) now)
      → (r ≤ t.round) × Notes (λ n. r ≤ round_in w n) (a ∷ now)
  since_more r None t a now h before = cc
  since_more r (Some s) t a now h before =
      let x = manage_in s.task s t a refl h in
      let y = before s refl in (
        omega (arith, x.round, y.0),
        (note_weaker (λ n. (s.round ≤ round_in w n) × (round_in w n < begins_at t.task t.round)) (λ n. r ≤ round_in w n) (λ n e. more (round_in w n) s.round e.0 y.0) a x.note, y.1),
      )
    where
      more : (i k : ℕ) → k ≤ i → r ≤ k → r ≤ i
      more i k e l = omega (arith, e, l)

  since : (r : ℕ) (s : Sweep) (acts : List Act) → swept_after w new_manager acts ≡ Some s → r ≤ s.round → (now : List Act) (t : Sweep) → swept_after w new_manager (now ++ acts) ≡ Some t
      → (r ≤ t.round) × Notes (λ n. r ≤ round_in w n) now
  since r s acts e low [] t h = let same : s ≡ t = cc in (subst (λ (x : Sweep). r ≤ x.round) same low, tt)
  since r s acts e low (a ∷ now) t h = since_more r (swept_after w new_manager (now ++ acts)) t a now h (λ x q. since r s acts e low now x q)

  pub swept_since : (r : ℕ) (acts now : List Act) (hands more : List (List Gone)) → SweptRounds w r acts hands → SweptRounds w (suc r) (now ++ acts) more → Notes (λ n. r ≤ round_in w n) now
  swept_since r acts now hands more h k = (since r h.sweep acts h.stood (omega (arith, h.round)) now k.sweep k.stood).1

  -- what a manager that had ended so many rounds put away later
  pub swept_away : (r : ℕ) (acts now : List Act) (hands : List (List Gone)) → SweptRounds w r acts hands → (s : Sweep) → swept_after w new_manager (now ++ acts) ≡ Some s → r ≤ length s.hands
  swept_away r acts now hands h s e =
      let z = (since r h.sweep acts h.stood (omega (arith, h.round)) now s e).0 in
      let k = (manager_totals w 0 new_manager (refl, refl, refl) (now ++ acts) s e).1 in
      omega (arith, z, k)

  -- a sweep is of the round that follows those whose hands were put away
  pub swept_on : (acts : List Act) (s t : Sweep) (b : ℕ) (n : BucketNote) (left : List Gone) → swept_after w new_manager acts ≡ Some s → manage w s.task s (on_bucket b n left) ≡ Some t
      → length s.hands ≤ round_in w n
  swept_on acts s t b n left e m =
      let x : (s.round ≤ round_in w n) × (round_in w n < begins_at t.task t.round) = (manage_in s.task s t (on_bucket b n left) refl m).note in
      let k = (manager_totals w 0 new_manager (refl, refl, refl) acts s e).1 in
      omega (arith, x.0, k)

-- the recycler has no act on a bucket

module _ (P : BucketNote → Type 0) where
  serve_none : (queue t : List Gone) (a : Act) → serve queue a ≡ Some t → NoteOf P a
  serve_none queue t (on_pool n i) h = tt
  serve_none queue t (on_segments n) h = tt
  serve_none queue t (on_bucket b n left) h = cc

  served_more : (o : Option (List Gone)) (t : List Gone) (a : Act) (acts : List Act) → served a o ≡ Some t → ((queue : List Gone) → o ≡ Some queue → Notes P acts) → Notes P (a ∷ acts)
  served_more None t a acts h before = cc
  served_more (Some queue) t a acts h before = (serve_none queue t a h, before queue refl)

  pub none_served : (queue : List Gone) (acts : List Act) (t : List Gone) → queue_after queue acts ≡ Some t → Notes P acts
  none_served queue [] t h = tt
  none_served queue (a ∷ acts) t h = served_more (queue_after queue acts) t a acts h (λ x e. none_served queue acts x e)

-- the end role drains after all rounds

module _ (w : Setup) where
  drain_in : (s : Ending) (b : ℕ) (n : BucketNote) (left : List Gone) (t : Ending) → drain w s b n left ≡ Some t → round_in w n ≡ rounds w
  drain_in s b (Drained count) left t h = refl
  drain_in s b (Found g e n run o) left t h = cc
  drain_in s b (Missing g e n ended) left t h = cc
  drain_in s b (Made g o) left t h = cc
  drain_in s b (Refused g) left t h = cc
  drain_in s b (Stored g) left t h = cc
  drain_in s b (Stopped g) left t h = cc
  drain_in s b (Closed g verdict run freed ended) left t h = cc
  drain_in s b (Idle g verdict) left t h = cc
  drain_in s b (Victim g run) left t h = cc
  drain_in s b (AllInUse g count) left t h = cc
  drain_in s b (Swept round e n count) left t h = cc

  end_at : (queue : List Gone) (s : Ending) (a : Act) (t : Ending) → end_on w queue s a ≡ Some t → NoteOf (λ n. round_in w n ≡ rounds w) a
  end_at [] s (on_bucket b n left) t h = drain_in s b n left t h
  end_at (g ∷ queue) s (on_bucket b n left) t h = cc
  end_at queue s (on_pool n i) t h = tt
  end_at queue s (on_segments n) t h = tt

  ended_more : (o : Option Ending) (t : Ending) (a : Act) (acts : List Act) → ended_on w a o ≡ Some t → ((s : Ending) → o ≡ Some s → Notes (λ n. round_in w n ≡ rounds w) acts)
      → Notes (λ n. round_in w n ≡ rounds w) (a ∷ acts)
  ended_more None t a acts h before = cc
  ended_more (Some s) t a acts h before = (end_at s.queue s a t h, before s refl)

  pub drained_last : (start : Ending) (acts : List Act) (t : Ending) → ending_after w start acts ≡ Some t → Notes (λ n. round_in w n ≡ rounds w) acts
  drained_last start [] t h = tt
  drained_last start (a ∷ acts) t h = ended_more (ending_after w start acts) t a acts h (λ s e. drained_last start acts s e)
