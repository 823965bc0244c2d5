use Rattle.std.proofs.Common.{◌≡◌, ◌+◌, length}
use Rattle.std.specs.Prelude.{filter, nat_lt}
use Rattle.reassembly.proofs.chain.release.Given as goal

abbrev pub invariant-loop-node : goal.invariant-loop-node
invariant-loop-node l =
    (filter (λ spot. nat_lt l.frontier spot.first) l.waiting ≡ filter (λ spot. nat_lt l.frontier spot.first) l.fn.waiting)
    × (length l.freed + length l.waiting ≡ length l.fn.freed + length l.fn.waiting)

abbrev pub decreases-loop-node : goal.decreases-loop-node
decreases-loop-node l = length l.waiting
