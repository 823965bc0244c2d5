use Rattle.flow_worker.specs.Batching.{ClosedSome}
use Rattle.flow_worker.proofs.batch.close_all.Given as goal

abbrev pub invariant-loop-place : goal.invariant-loop-place
invariant-loop-place g l = ClosedSome l.shared l.fn.worker l.worker l.batch l.place l.refused
