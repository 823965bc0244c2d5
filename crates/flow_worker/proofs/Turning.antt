-- The flow in front of the hand is finished, and its object turned to another run.
use Rattle.std.proofs.Common.{◌≡◌, ℕ, zero, suc, ◌+◌, ◌==◌, nat_le, true, ◌&&◌, List, [], ◌∷◌, ◌++◌, length, map, reverse, Option, Some, refl, sym, ◌∙◌, ap, subst, arith}
use Rattle.std.proofs.lemmas.Bool.Decides.{nat_tests}
use Rattle.bucket_laws.specs.Leaving.{Gone}
use Rattle.flow_object.specs.Ending.{EndedFlow}
use Rattle.flow_object.specs.Object.{nodes_in}
use Rattle.flow_object.specs.declared.outcome.FlowLine.{FlowLine}
use Rattle.flow_pool.specs.declared.calls.PoolCall.TheVariants as poolcall
use Rattle.flow_pool.specs.declared.calls.PoolReply.TheVariants as poolreply
use Rattle.flow_worker.specs.Places.{is_turning, to_granted}
use Rattle.flow_worker.specs.Standing.{Goes, refused_in}
use Rattle.flow_worker.proofs.Moving.{moved_on}
use Rattle.flow_worker.proofs.Words.{and_true, only_true, same_yes}
use Rattle.role_steps.specs.Calls.{CalledPool}
use Rattle.role_steps.specs.Finishing.{IsLineFor, given}
use Rattle.role_steps.specs.Items.{Items, LinesOf, gone_of}
use Rattle.role_steps.specs.Roles.{Acted, number_of, seen, setup_of}
use Rattle.role_steps.specs.declared.roles.Passes.{Passes}
use Rattle.role_steps.specs.declared.roles.Shared.{Shared}
use Rattle.role_steps.specs.declared.roles.Worker.{Worker}
use Rattle.role_steps.proofs.Items.{items_gone, items_lines}
use Rattle.role_steps.proofs.LettingGo.{items_grow}
use Rattle.role_steps.proofs.Stepping.{acted_pool, acted_through}
use Rattle.run_rules.specs.Acts.{Act, on_pool, on_segments}
use Rattle.run_rules.specs.Serving.{behind, emptied, finished, front_holds, front_is}
use Rattle.run_rules.specs.Setup.{Setup, work_of}
use Rattle.run_rules.specs.Worker.{Stage, Stand, after_act, fresh, granted, held_at, moved, pool_step, segments_step, stand_after, turning}
use Rattle.suri_base.specs.declared.entry.PoolNote.{PoolNote}
use Rattle.suri_base.specs.declared.entry.PoolNote.TheVariants.{Turn}
use Rattle.suri_base.specs.declared.entry.SegNote.TheVariants as seg

some_yes : (n : ℕ) → nat_le 1 (suc n) ≡ true
some_yes n = grind (arith, nat_tests)

module _ (w : Setup) (f : ℕ) (todo : List ℕ) where
  turn_it : (st : Stand) (run i : ℕ) (rest : List Gone) → st.stage ≡ turning f todo → st.hand ≡ record { run = run; nodes = 0 } ∷ rest
      → after_act w st (on_pool (Turn run f) i) ≡ Some (held_at (granted f todo) rest st)
  turn_it st run i rest stage hand =
      ap (λ (p : Stage). pool_step w p st (Turn run f) i) stage
      ∙ (only_true ((f == f) && front_is run st.hand) (held_at (granted f todo) (behind st.hand) st)
      (and_true (f == f) (front_is run st.hand) (same_yes f) (subst (λ (h : List Gone). front_is run h ≡ true) (sym hand) (and_true (run == run) (0 == 0) (same_yes run) refl)))
      ∙ ap (λ (h : List Gone). Some (held_at (granted f todo) (behind h) st)) hand)

  give_it : (st : Stand) (run n : ℕ) (rest : List Gone) → st.stage ≡ turning f todo → st.hand ≡ record { run = run; nodes = suc n } ∷ rest
      → after_act w st (on_segments (seg.Gave (suc n))) ≡ Some (held_at (turning f todo) (record { run = run; nodes = 0 } ∷ rest) st)
  give_it st run n rest stage hand =
      ap (λ (p : Stage). segments_step w p st (seg.Gave (suc n))) stage
      ∙ (only_true (nat_le 1 (suc n) && front_holds (suc n) st.hand) (held_at (turning f todo) (emptied st.hand) st)
      (and_true (nat_le 1 (suc n)) (front_holds (suc n) st.hand) (some_yes n) (subst (λ (h : List Gone). front_holds (suc n) h ≡ true) (sym hand) (same_yes (suc n))))
      ∙ ap (λ (h : List Gone). Some (held_at (turning f todo) (emptied h) st)) hand)

  turn_one : (st start : Stand) (before : List Act) (run nodes i : ℕ) (rest : List Gone) → stand_after w start before ≡ Some st → st.stage ≡ turning f todo
      → st.hand ≡ record { run = run; nodes = nodes } ∷ rest
      → stand_after w start (on_pool (Turn run f) i ∷ given nodes ++ before) ≡ Some (held_at (granted f todo) rest st)
  turn_one st start before run zero i rest stood stage hand = ap (moved w (on_pool (Turn run f) i)) stood ∙ turn_it st run i rest stage hand
  turn_one st start before run (suc n) i rest stood stage hand =
      ap (λ (o : Option Stand). moved w (on_pool (Turn run f) i) (moved w (on_segments (seg.Gave (suc n))) o)) stood
      ∙ (ap (moved w (on_pool (Turn run f) i)) (give_it st run n rest stage hand)
      ∙ turn_it (held_at (turning f todo) (record { run = run; nodes = 0 } ∷ rest) st) run i rest refl refl)

given_none : (n : ℕ) → finished (given n) ≡ []
given_none zero = refl
given_none (suc n) = refl

given_refuses : (n : ℕ) → refused_in (given n) ≡ []
given_refuses zero = refl
given_refuses (suc n) = refl

pub turned : (s : Shared) (old new : Worker) (mid : Passes) (f run : ℕ) (e : EndedFlow) (obj o : _) → old.hand.items ≡ e ∷ new.hand.items → run ≡ e.run
    → Acted s old.passes mid (given (nodes_in e.obj))
    → CalledPool s mid new.passes (poolcall.Turn run f obj) (poolreply.Turned o) → (l : FlowLine) × (new.lines.items ≡ old.lines.items ++ l ∷ []) × IsLineFor e l
    → Goes s old new (is_turning f) (to_granted f) []
turned s old new mid f run e obj o popped same gave c line = λ before st todo is stage.
    let w = setup_of s in
    let n = nodes_in e.obj in
    let i = length c.stepped.before + 1 in
    let act : c.act ≡ on_pool (Turn e.run f) i = c.stepped.is ∙ ap (λ (x : PoolNote). on_pool x i) (c.answer.2 ∙ ap (λ (r : ℕ). Turn r f) same) in
    let a : Acted s old.passes new.passes (on_pool (Turn e.run f) i ∷ given n) = acted_through s old.passes mid new.passes (given n) (on_pool (Turn e.run f) i ∷ []) gave
    (subst (λ (x : Act). Acted s mid new.passes (x ∷ [])) act (acted_pool s mid new.passes (poolcall.Turn run f obj) (poolreply.Turned o) c)) in
    let items : Items w (seen new.passes) st.hand (e ∷ new.hand.items) = items_grow w (seen old.passes) (seen new.passes) a.grown st.hand (e ∷ new.hand.items) (subst (λ (h : List EndedFlow). Items w (seen old.passes) st.hand h) popped is.hand) in
    let have : st.hand ≡ gone_of e ∷ map gone_of new.hand.items = items_gone w (seen new.passes) st.hand (e ∷ new.hand.items) items in
    let each = subst (λ (h : List Gone). Items w (seen new.passes) h (e ∷ new.hand.items)) have items in
    moved_on s old new before st (on_pool (Turn e.run f) i ∷ given n) (granted f todo) (map gone_of new.hand.items) (line.0 ∷ []) [] is a line.1
    (subst (λ (x : List ℕ). LinesOf w (seen new.passes) (reverse (e.run ∷ x)) (line.0 ∷ [])) (sym (given_none n)) (items_lines w (seen new.passes) (gone_of e ∷ []) (e ∷ []) (line.0 ∷ []) (each.0, tt) (line.2, tt)))
    (given_refuses n) (turn_one w f todo st (fresh (work_of w (number_of old.passes))) before e.run n i (map gone_of new.hand.items) is.stood stage have) each.1
