use Rattle.std.proofs.Common.{◌<◌, List, refl, sym, ◌∙◌, subst, arith}
use Rattle.segment_tree.specs.Order.{AllBehind}
use Rattle.segment_tree.specs.Tree.{spots}
use Rattle.segment_tree.specs.declared.spot.Spot.{Spot}
use Rattle.segment_tree.proofs.Orders.{first_behind}
use Rattle.segment_tree.proofs.tree.SegmentTree.take_until.Goals as goal

pub returns-then-spot-at : goal.returns-then-spot-at
returns-then-spot-at c =
    let late : c.args.at < c.in-Some.spot.first = grind arith in
    let behind = first_behind c.args.at (spots c.self.inside.root) c.in-Some.spot c.self.invariant.1 (sym c.first.ensures ∙ c.in-Some.is) late in
    (subst (λ (l : List Spot). AllBehind c.args.at l) c.self.view_is behind, refl)
