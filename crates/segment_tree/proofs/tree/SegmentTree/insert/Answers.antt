use Rattle.std.proofs.Common.{◌<◌, List, length, sym, ap, ◌∙◌, subst, arith}
use Rattle.suri_base.specs.Chain.{node_of}
use Rattle.segment_tree.specs.Order.{IsSorted, Lacks, placed}
use Rattle.segment_tree.specs.Spots.{spot_of}
use Rattle.segment_tree.specs.Tree.{height, spots}
use Rattle.segment_tree.specs.declared.spot.Spot.{Spot}
use Rattle.segment_tree.proofs.Orders.{sorted_placed}
use Rattle.segment_tree.proofs.Trees.{low}
use Rattle.segment_tree.proofs.tree.SegmentTree.insert.Goals as goal

pub insert-root-requires-clause-room : goal.insert-root-requires-clause-room
insert-root-requires-clause-room c =
    let few = subst (λ (l : List Spot). length l < 4294967296) (sym c.self.view_is) c.requires.few in
    let most = low c.self.inside.root c.self.invariant.0 few in
    let same = ap height c.take.ensures.value in
    omega (arith, most, same)

pub invariant_of-self : goal.invariant_of-self
invariant_of-self c =
    let p = spot_of (node_of c.args.node.value) in
    let is = c.insert-root.ensures.spots ∙ ap (placed p) (ap spots c.take.ensures.value) in
    let lacks = subst (Lacks p) (sym c.self.view_is) c.requires.lacks in
    (c.insert-root.ensures.tree, subst IsSorted (sym is) (sorted_placed p (spots c.self.inside.root) c.self.invariant.1 lacks))
