use Rattle.std.proofs.Common.{length}
use Rattle.recycler.specs.Serving.{Serving}
use Rattle.recycler.proofs.serve.serve.Given as goal

abbrev pub invariant-loop-ended : goal.invariant-loop-ended
invariant-loop-ended g l = Serving l.shared l.initial.recycler l.recycler

abbrev pub decreases-loop-ended : goal.decreases-loop-ended
decreases-loop-ended g l = length l.recycler.waiting.items
