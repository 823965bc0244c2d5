use Rattle.flow_worker.specs.Working.{DidSome}
use Rattle.flow_worker.proofs.round.work.Given as goal

abbrev pub invariant-loop-place : goal.invariant-loop-place
invariant-loop-place g l = DidSome l.shared l.fn.worker l.worker l.round l.place
