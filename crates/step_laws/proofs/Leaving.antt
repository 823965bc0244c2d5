-- What the recycler finishes was in a hand of a round before the last, and left by an act of a worker or of the manager in that round. What the end
-- role finishes was in a hand of the last round, or left by one of its own drains.
use Rattle.std.proofs.Common.{◌≡◌, ℕ, suc, ◌+◌, ◌-◌, ◌<◌, ◌≤◌, List, [], length, Option, Some, ⊎_elim, refl, sym, ◌∙◌, ap, subst, arith}
use Rattle.bucket_laws.specs.Places.{At}
use Rattle.run_laws.proofs.Acting.{at_through, done_on_pool}
use Rattle.run_laws.proofs.Serving.{ending_totals, manager_totals, queue_totals}
use Rattle.run_laws.proofs.Using.{ended_some, length_rounds, managed_some}
use Rattle.run_laws.proofs.Working.{kept_all, only_some}
use Rattle.run_laws.specs.Measures.{count_run, left_by, total}
use Rattle.run_rules.proofs.SoFar.{at_is, by_kind}
use Rattle.run_rules.specs.Acts.{Act, on_pool}
use Rattle.run_rules.specs.Ending.{Ending, ended_on, ending_after}
use Rattle.run_rules.specs.Histories.{Histories}
use Rattle.run_rules.specs.Lawful.{AreScripted, left_over, waited}
use Rattle.run_rules.specs.Manager.{new_manager, swept_after}
use Rattle.run_rules.specs.Serving.{behind, front_is, queue_after, served}
use Rattle.run_rules.specs.Setup.{Setup, ender, manager, recycler, rounds, work_of}
use Rattle.run_rules.specs.Worker.{Stand, ended, fresh, stand_after}
use Rattle.step_laws.proofs.Rounds.{count_at, in_gathered, in_waited, nth_round, one_of, over_count, skip_front}
use Rattle.step_laws.specs.Leaving.{HasDrained, HasLeftIn, IsOfEnd, IsOfRound, of_drain, of_last}
use Rattle.suri_base.specs.History.{entry}
use Rattle.suri_base.specs.declared.entry.Entry.{Entry}
use Rattle.suri_base.specs.declared.entry.PoolNote.{PoolNote}
use Rattle.suri_base.specs.declared.entry.PoolNote.TheVariants.{Put}
use Rattle.step_laws.proofs.Letting.{end_front, from_drain, in_front, queue_none, stand_hand_left, stood_at, sweep_hand_left}

module _ (w : Setup) (t : Histories) (l : AreScripted w t) where
  -- each hand is there
  all_long : (role : ℕ) → role < manager w + 1 → length (l.hands role) ≡ rounds w
  all_long = by_kind w {P = λ role. length (l.hands role) ≡ rounds w}
      (λ role h.
      let e = ended_some (stand_after w (fresh (work_of w role)) (l.acts role)) (l.hands role) (l.work role h) in
      let k = kept_all w 0 (length (work_of w role)) (fresh (work_of w role)) (record { got = refl; left = refl; nodes = refl; freed = refl; rounds = omega arith }) (l.acts role) e.0 e.1 in
      let x = (at_is e.0.stage e.0 (l.hands role) (subst (λ (o : Option Stand). ended o ≡ Some (l.hands role)) e.1 (l.work role h))).1 in
      omega (arith, x, k.rounds, length_rounds w role))
      (let e = managed_some w (swept_after w new_manager (l.acts (manager w))) (l.hands (manager w)) l.manage in
      let k = (manager_totals w 0 new_manager (refl, refl, refl) (l.acts (manager w)) e.0 e.1).1 in
      ap length (sym e.4) ∙ (k ∙ e.2))

  abbrev HandLeft : ℕ → ℕ → ℕ → Type 0
  HandLeft a j role = 1 ≤ count_at a j (l.hands role) → HasLeftIn w t l.acts a j

  -- what the hand of a round holds left in that round
  hand_left : (a j role : ℕ) → role < manager w + 1 → HandLeft a j role
  hand_left a j = by_kind w {P = HandLeft a j}
      (λ role h c.
      let e = ended_some (stand_after w (fresh (work_of w role)) (l.acts role)) (l.hands role) (l.work role h) in
      let o = over_count a j e.0.rounds e.0.hand e.0.hands (l.hands role) e.3 in
      stand_hand_left w t l.acts l.legal l.own a j role h e.0 e.1 (omega (arith, c, o)))
      (λ c.
      let e = managed_some w (swept_after w new_manager (l.acts (manager w))) (l.hands (manager w)) l.manage in
      let o = skip_front a j e.0.hand e.0.hands in
      let z = ap (count_at a j) e.4 in
      sweep_hand_left w t l.acts l.legal l.own a j e.0 e.1 (omega (arith, c, o, z)))

  -- the recycler's queue
  from_waited : (run : ℕ) → 1 ≤ count_run run (waited (manager w + 1) l.hands (rounds w - 1)) → IsOfRound w t l.acts run
  from_waited run c =
      let v = in_waited run (manager w + 1) (rounds w - 1) l.hands c in
      let y = nth_round run (suc v.2) (l.hands v.0) v.3 in
      record {
        round = length (l.hands v.0) - suc (suc v.2);
        went = hand_left run (length (l.hands v.0) - suc (suc v.2)) v.0 v.1 y.1;
        early = let k = all_long v.0 v.1 in omega (arith, y.0, k);
      }

  pub recycler_puts : (step run : ℕ) (past : List (Entry PoolNote)) → At (entry (recycler w) step (Put run)) past t.pool → IsOfRound w t l.acts run
  recycler_puts step run past a =
      let z = done_on_pool w t l (recycler w) step (Put run) past (omega arith) a in
      let queue = waited (manager w + 1) l.hands (rounds w - 1) in
      let k = stood_at served (λ acts. queue_after queue acts) (λ x acts. refl) (λ x. refl) (on_pool (Put run) z.at_length) z.before (l.acts (recycler w)) [] l.recycle z.act in
      let f = in_front run k.0 (only_some (front_is run k.0) (behind k.0) k.1 k.3).0 in
      let q = (queue_totals w run queue z.before k.0 k.2).left in
      from_waited run (omega (arith, f, q, queue_none run queue k.0 z.before k.2))

  -- the end role's
  abbrev all_drained : Ending
  all_drained = record { queue = []; drained = w.layout.rows }

  abbrev ends_with : List Act → Option Ending
  ends_with acts = ending_after w (record { queue = left_over w l.hands; drained = 0 }) acts

  from_last : (step run : ℕ) → 1 ≤ count_run run (left_over w l.hands) → IsOfEnd w t l.acts step run
  from_last step run c =
      let v = in_gathered run (manager w + 1) 0 l.hands c in
      let y = nth_round run 0 (l.hands v.0) v.2 in
      of_last (length (l.hands v.0) - 1) (hand_left run (length (l.hands v.0) - 1) v.0 v.1 y.1) (let k = all_long v.0 v.1 in omega (arith, y.0, k))

  pub ender_puts : (step run : ℕ) (past : List (Entry PoolNote)) → At (entry (ender w) step (Put run)) past t.pool → IsOfEnd w t l.acts step run
  ender_puts step run past a =
      let z = done_on_pool w t l (ender w) step (Put run) past (omega arith) a in
      let k = stood_at (ended_on w) ends_with (λ y acts. refl) (λ y. refl) (on_pool (Put run) z.at_length) z.before (l.acts (ender w)) all_drained l.drain z.act in
      let f = in_front run k.0.queue (end_front w k.0.queue k.0 k.1 run z.at_length k.3) in
      let q = (ending_totals w run (record { queue = left_over w l.hands; drained = 0 }) z.before k.0 k.2).left in
      ⊎_elim
      (λ c. of_drain (subst (λ (k : ℕ). HasDrained w t k run) (sym z.number)
      (from_drain w t l.acts l.legal l.own run (record { queue = left_over w l.hands; drained = 0 }) k.0 z.before k.2
      (λ x before at. at_through x (on_pool (Put run) z.at_length) before z.before (l.acts (ender w)) at z.act) c)))
      (λ c. from_last step run c)
      (one_of (total (left_by run) z.before) (count_run run (left_over w l.hands)) (omega (arith, f, q)))
