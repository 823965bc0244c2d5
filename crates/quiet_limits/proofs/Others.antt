-- The manager, the recycler and the end role ask for no object and for no node.
use Rattle.std.proofs.Common.{◌≡◌, ℕ, List, [], ◌∷◌, Option, Some, None, refl, arith}
use Rattle.bucket_laws.specs.Leaving.{Gone}
use Rattle.quiet_limits.proofs.Measures.{asked_by, asks, wanted_by, wants}
use Rattle.run_laws.proofs.Using.{managed_some}
use Rattle.run_laws.specs.Measures.{total}
use Rattle.run_rules.specs.Acts.{Act, on_bucket, on_pool, on_segments}
use Rattle.run_rules.specs.Ending.{Ending, end_on, ended_on, ending_after, with_queue}
use Rattle.run_rules.specs.Manager.{Sweep, Task, end_round, leaving, manage, managed, manager_ended, new_manager, resting, start_round, sweeping, swept_after}
use Rattle.run_rules.specs.Serving.{queue_after, serve, serve_pool, serve_segments, served}
use Rattle.run_rules.specs.Setup.{Setup}
use Rattle.suri_base.specs.declared.entry.PoolNote.{PoolNote}
use Rattle.suri_base.specs.declared.entry.PoolNote.TheVariants.{Full, Mode, Over, Put, Took, Turn}
use Rattle.suri_base.specs.declared.entry.SegNote.{SegNote}
use Rattle.suri_base.specs.declared.entry.SegNote.TheVariants as seg

-- an act asks for nothing, and some acts do
abbrev AsksNothing : Act → Type 0
AsksNothing act = (asked_by act ≡ 0) × (wanted_by act ≡ 0)

abbrev pub AskNothing : List Act → Type 0
AskNothing acts = (total asked_by acts ≡ 0) × (total wanted_by acts ≡ 0)

one_more : (act : Act) (acts : List Act) → AsksNothing act → AskNothing acts → AskNothing (act ∷ acts)
one_more act acts one all = (omega (arith, one.0, all.0), omega (arith, one.1, all.1))

module _ (w : Setup) where
  -- the manager

  start_asks : (s : Sweep) (n : PoolNote) (i : ℕ) (t : Sweep) → start_round w s n i ≡ Some t → asks n ≡ 0
  start_asks s (Took f) i t h = cc
  start_asks s (Full f out limit) i t h = cc
  start_asks s (Put run) i t h = refl
  start_asks s (Turn run f) i t h = refl
  start_asks s (Mode e) i t h = refl
  start_asks s (Over round done) i t h = refl

  end_asks : (s : Sweep) (n : PoolNote) (t : Sweep) → end_round w s n ≡ Some t → asks n ≡ 0
  end_asks s (Took f) t h = cc
  end_asks s (Full f out limit) t h = cc
  end_asks s (Put run) t h = refl
  end_asks s (Turn run f) t h = refl
  end_asks s (Mode e) t h = refl
  end_asks s (Over round done) t h = refl

  manage_asks : (k : Task) (s t : Sweep) (act : Act) → manage w k s act ≡ Some t → AsksNothing act
  manage_asks k s t (on_bucket b n left) h = (refl, refl)
  manage_asks resting s t (on_pool n i) h = (start_asks s n i t h, refl)
  manage_asks (sweeping k) s t (on_pool n i) h = cc
  manage_asks leaving s t (on_pool n i) h = (end_asks s n t h, refl)
  manage_asks resting s t (on_segments n) h = cc
  manage_asks (sweeping k) s t (on_segments n) h = cc
  manage_asks leaving s t (on_segments n) h = cc

  manage_more : (o : Option Sweep) (t : Sweep) (act : Act) (acts : List Act) → managed w act o ≡ Some t → ((s : Sweep) → o ≡ Some s → AskNothing acts) → AskNothing (act ∷ acts)
  manage_more None t act acts h k = cc
  manage_more (Some s) t act acts h k = one_more act acts (manage_asks s.task s t act h) (k s refl)

  swept_asks : (start : Sweep) (acts : List Act) (t : Sweep) → swept_after w start acts ≡ Some t → AskNothing acts
  swept_asks start [] t h = (refl, refl)
  swept_asks start (act ∷ acts) t h = manage_more (swept_after w start acts) t act acts h (λ s e. swept_asks start acts s e)

  pub manager_asks : (acts : List Act) (all : List (List Gone)) → manager_ended w (swept_after w new_manager acts) ≡ Some all → AskNothing acts
  manager_asks acts all h = let e = managed_some w (swept_after w new_manager acts) all h in swept_asks new_manager acts e.0 e.1

  -- the recycler

  serve_pool_asks : (q : List Gone) (n : PoolNote) (t : List Gone) → serve_pool q n ≡ Some t → asks n ≡ 0
  serve_pool_asks q (Took f) t h = cc
  serve_pool_asks q (Full f out limit) t h = cc
  serve_pool_asks q (Put run) t h = refl
  serve_pool_asks q (Turn run f) t h = refl
  serve_pool_asks q (Mode e) t h = refl
  serve_pool_asks q (Over round done) t h = refl

  serve_segments_asks : (q : List Gone) (n : SegNote) (t : List Gone) → serve_segments q n ≡ Some t → wants n ≡ 0
  serve_segments_asks q (seg.Took f) t h = cc
  serve_segments_asks q (seg.Full f out limit) t h = cc
  serve_segments_asks q (seg.Gave n) t h = refl

  serve_asks : (q : List Gone) (act : Act) (t : List Gone) → serve q act ≡ Some t → AsksNothing act
  serve_asks q (on_pool n i) t h = (serve_pool_asks q n t h, refl)
  serve_asks q (on_segments n) t h = (refl, serve_segments_asks q n t h)
  serve_asks q (on_bucket b n left) t h = (refl, refl)

  serve_more : (o : Option (List Gone)) (t : List Gone) (act : Act) (acts : List Act) → served act o ≡ Some t → ((q : List Gone) → o ≡ Some q → AskNothing acts) → AskNothing (act ∷ acts)
  serve_more None t act acts h k = cc
  serve_more (Some q) t act acts h k = one_more act acts (serve_asks q act t h) (k q refl)

  pub queue_asks : (q : List Gone) (acts : List Act) (t : List Gone) → queue_after q acts ≡ Some t → AskNothing acts
  queue_asks q [] t h = (refl, refl)
  queue_asks q (act ∷ acts) t h = serve_more (queue_after q acts) t act acts h (λ x e. queue_asks q acts x e)

  -- the end role

  with_some : (d : ℕ) (o : Option (List Gone)) (t : Ending) → with_queue d o ≡ Some t → (q : List Gone) × (o ≡ Some q)
  with_some d None t h = cc
  with_some d (Some q) t h = (q, refl)

  end_on_asks : (q : List Gone) (s t : Ending) (act : Act) → end_on w q s act ≡ Some t → AsksNothing act
  end_on_asks q s t (on_bucket b n left) h = (refl, refl)
  end_on_asks [] s t (on_pool n i) h = cc
  end_on_asks (g ∷ q) s t (on_pool n i) h = let e = with_some s.drained (serve_pool (g ∷ q) n) t h in (serve_pool_asks (g ∷ q) n e.0 e.1, refl)
  end_on_asks [] s t (on_segments n) h = cc
  end_on_asks (g ∷ q) s t (on_segments n) h = let e = with_some s.drained (serve_segments (g ∷ q) n) t h in (refl, serve_segments_asks (g ∷ q) n e.0 e.1)

  end_more : (o : Option Ending) (t : Ending) (act : Act) (acts : List Act) → ended_on w act o ≡ Some t → ((s : Ending) → o ≡ Some s → AskNothing acts) → AskNothing (act ∷ acts)
  end_more None t act acts h k = cc
  end_more (Some s) t act acts h k = one_more act acts (end_on_asks s.queue s t act h) (k s refl)

  pub ender_asks : (start : Ending) (acts : List Act) (t : Ending) → ending_after w start acts ≡ Some t → AskNothing acts
  ender_asks start [] t h = (refl, refl)
  ender_asks start (act ∷ acts) t h = end_more (ending_after w start acts) t act acts h (λ s e. ender_asks start acts s e)
