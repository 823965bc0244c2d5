use Rattle.std.proofs.Common.{◌+◌, ◌-◌, ◌≤◌, length}
use Rattle.segment_tree.specs.Order.{AllBelow}
use Rattle.segment_tree.proofs.tests.planted.Given as goal

-- the nodes so far
abbrev pub invariant-loop-no : goal.invariant-loop-no
invariant-loop-no g l = (l.no ≤ length l.rows) × (length l.tree ≤ l.no) × AllBelow (l.no + 1) l.tree

abbrev pub decreases-loop-no : goal.decreases-loop-no
decreases-loop-no g l = length l.rows - l.no
