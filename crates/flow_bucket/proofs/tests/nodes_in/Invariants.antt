use Rattle.std.proofs.Common.{length}
use Rattle.flow_bucket.proofs.tests.nodes_in.Given as goal

abbrev pub decreases-loop-node : goal.decreases-loop-node
decreases-loop-node g l = length l.nodes
