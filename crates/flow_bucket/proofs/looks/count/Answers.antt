use Rattle.std.proofs.Common.{◌≤◌, length, sym, subst, arith}
use Rattle.std.specs.Option.{option_copied}
use Rattle.suri_base.specs.Chain.{nodes_at, nodes_from}
use Rattle.suri_base.specs.Linked.{Linked}
use Rattle.flow_bucket.proofs.looks.count.Goals as goal

some_left : (n : Linked) → 1 ≤ length (nodes_from n)
some_left n = omega arith

pub overflow_add-count : goal.overflow_add-count
overflow_add-count c =
    let left : 1 ≤ length (nodes_at (option_copied c.loop-place.place)) = subst (λ p. 1 ≤ length (nodes_at (option_copied p))) (sym c.in-Some.is) (some_left c.in-Some.node.now) in
    omega (arith, c.loop-place.invariant, left, c.requires)
