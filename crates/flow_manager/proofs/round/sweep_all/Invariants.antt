use Rattle.flow_manager.specs.Sweeping.{Sweeping}
use Rattle.flow_manager.proofs.round.sweep_all.Given as goal

abbrev pub invariant-loop-at : goal.invariant-loop-at
invariant-loop-at g l = Sweeping l.shared l.fn.manager l.manager l.round l.emergency l.seen l.at
