use Rattle.std.proofs.Common.{◌≡◌, ◌+◌, length}
use Rattle.std.specs.Option.{option_copied}
use Rattle.suri_base.specs.Chain.{nodes_at}
use Rattle.flow_bucket.proofs.looks.count.Given as goal

abbrev pub invariant-loop-place : goal.invariant-loop-place
invariant-loop-place l = l.count + length (nodes_at (option_copied l.place)) ≡ length l.nodes

abbrev pub decreases-loop-place : goal.decreases-loop-place
decreases-loop-place l = length (nodes_at (option_copied l.place))
