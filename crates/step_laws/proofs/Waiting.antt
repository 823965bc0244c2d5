-- In a trail that is lawful so far: what waits for the recycler came to it with the hands of rounds that are over, and left in such a round. When all
-- others have ended, what waits for the end role came to it with the hands of the last round, or left by one of its drains.
use Rattle.std.proofs.Common.{ℕ, ◌+◌, ◌-◌, ◌<◌, ◌≤◌, List, [], ◌∷◌, length, ⊎_elim, ap, arith}
use Rattle.bucket_laws.specs.Leaving.{Gone, runs}
use Rattle.bucket_laws.specs.Places.{In}
use Rattle.run_laws.proofs.Counting.{is_own}
use Rattle.run_laws.proofs.Serving.{ending_totals, queue_totals}
use Rattle.run_laws.specs.Counts.{is}
use Rattle.run_laws.specs.Measures.{count_run, left_by, total}
use Rattle.run_rules.proofs.SoFar.{by_kind, manager_by, worker_by}
use Rattle.run_rules.specs.Histories.{Histories}
use Rattle.run_rules.specs.Lawful.{left_over}
use Rattle.run_rules.specs.Setup.{Setup, ender, manager, recycler}
use Rattle.run_rules.specs.SoFar.{AreScriptedSoFar, OthersEnded, first_hands, hands_by, to_drain}
use Rattle.step_laws.proofs.Counted.{all_rounds}
use Rattle.step_laws.proofs.Letting.{from_drain, queue_none, stand_hand_left, sweep_hand_left}
use Rattle.step_laws.proofs.Rounds.{count_at, in_first, in_gathered, nth_round, one_of, round_count_at, skip_front, stage_count_at}
use Rattle.step_laws.specs.Leaving.{HasLeftIn, IsOfEnd, IsOfServed, of_drain, of_last}

-- a run among those of a queue
in_count : (run : ℕ) (queue : List Gone) → In run (runs queue) → 1 ≤ count_run run queue
in_count run [] i = absurd i
in_count run (g ∷ queue) i = ⊎_elim
    (λ e. let k = ap (λ (x : ℕ). is x run) e in omega (arith, k, is_own run))
    (λ j. omega (arith, in_count run queue j))
    i

module _ (w : Setup) (t : Histories) (s : AreScriptedSoFar w t) where
  abbrev hands_now : ℕ → List (List Gone)
  hands_now = hands_by w s.stands s.sweep

  abbrev HandLeft : ℕ → ℕ → ℕ → Type 0
  HandLeft a j role = 1 ≤ count_at a j (hands_now role) → HasLeftIn w t s.acts a j

  -- what the hand of a round that is over holds left in that round
  hand_left : (a j role : ℕ) → role < manager w + 1 → HandLeft a j role
  hand_left a j = by_kind w {P = HandLeft a j}
      (λ role h c.
      let e = ap (count_at a j) (worker_by w s.stands s.sweep role h) in
      stand_hand_left w t s.acts s.legal s.own a j role h (s.stands role) (s.work role h) (omega (arith, c, e, stage_count_at a j (s.stands role).stage (s.stands role))))
      (λ c.
      let e = ap (count_at a j) (manager_by w s.stands s.sweep) in
      sweep_hand_left w t s.acts s.legal s.own a j s.sweep s.manage (omega (arith, c, e, skip_front a j s.sweep.hand s.sweep.hands)))

  from_served : (run : ℕ) → 1 ≤ count_run run (first_hands (manager w + 1) hands_now s.served) → IsOfServed w t s run
  from_served run c =
      let v = in_first run (manager w + 1) s.served hands_now c in
      let long = s.were_ended v.0 v.1 in
      record { round = v.2; went = hand_left run v.2 v.0 v.1 (round_count_at run v.2 (hands_now v.0) (omega (arith, v.3, long)) v.4); over = v.3 }

  pub waits_left : (run : ℕ) → In run (runs s.waiting) → IsOfServed w t s run
  waits_left run i =
      let q = (queue_totals w run (first_hands (manager w + 1) hands_now s.served) (s.acts (recycler w)) s.waiting s.recycle).left in
      let n = queue_none run (first_hands (manager w + 1) hands_now s.served) s.waiting (s.acts (recycler w)) s.recycle in
      from_served run (omega (arith, q, n, in_count run s.waiting i))

  from_last : OthersEnded w s.stands s.sweep s.served s.waiting → (step run : ℕ) → 1 ≤ count_run run (left_over w hands_now) → IsOfEnd w t s.acts step run
  from_last o step run c =
      let v = in_gathered run (manager w + 1) 0 hands_now c in
      let y = nth_round run 0 (hands_now v.0) v.2 in
      of_last (length (hands_now v.0) - 1) (hand_left run (length (hands_now v.0) - 1) v.0 v.1 y.1) (let k = all_rounds w t s o v.0 v.1 in omega (arith, y.0, k))

  pub remains_left : OthersEnded w s.stands s.sweep s.served s.waiting → (run : ℕ) → In run (runs s.ending.queue) → IsOfEnd w t s.acts (length (s.acts (ender w))) run
  remains_left o run i =
      let q = (ending_totals w run (to_drain w hands_now) (s.acts (ender w)) s.ending s.drain).left in
      ⊎_elim
      (λ c. of_drain (from_drain w t s.acts s.legal s.own run (to_drain w hands_now) s.ending (s.acts (ender w)) s.drain (λ x before at. at) c))
      (λ c. from_last o (length (s.acts (ender w))) run c)
      (one_of (total (left_by run) (s.acts (ender w))) (count_run run (left_over w hands_now)) (omega (arith, q, in_count run s.ending.queue i)))
