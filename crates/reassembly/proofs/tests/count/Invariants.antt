use Rattle.std.proofs.Common.{length}
use Rattle.reassembly.proofs.tests.count.Given as goal

abbrev pub decreases-loop-node : goal.decreases-loop-node
decreases-loop-node g l = length l.nodes
