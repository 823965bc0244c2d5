use Rattle.std.proofs.Common.{length}
use Rattle.flow_object.proofs.tests.count.Given as goal

abbrev pub decreases-loop-node : goal.decreases-loop-node
decreases-loop-node g l = length l.nodes
