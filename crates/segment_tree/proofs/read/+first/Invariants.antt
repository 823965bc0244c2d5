use Rattle.segment_tree.specs.Tree.{height}
use Rattle.segment_tree.proofs.read.+first.Given as goal

-- the height falls
abbrev pub decreases-first : goal.decreases-first
decreases-first l = height l.tree.now
