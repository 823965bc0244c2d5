use Rattle.flow_worker.specs.Batching.{LookedSome}
use Rattle.flow_worker.proofs.batch.look_all.Given as goal

abbrev pub invariant-loop-place : goal.invariant-loop-place
invariant-loop-place g l = LookedSome l.shared l.fn.worker l.worker l.batch l.emergency l.seen l.place l.refused.items
