use Rattle.std.proofs.Common.{◌≡◌, List, true, false, ◌∷◌, ◌++◌, sym, ap, ◌∙◌, subst, arith}
use Rattle.suri_base.specs.Chain.{node_of}
use Rattle.segment_tree.specs.Order.{IsSorted, before, placed}
use Rattle.segment_tree.specs.declared.spot.Spot.{Spot}
use Rattle.segment_tree.specs.Spots.{spot_of}
use Rattle.segment_tree.specs.Tree.{spots}
use Rattle.segment_tree.proofs.Orders.{placed_left, placed_right, sorted_back, sorted_front}
use Rattle.segment_tree.proofs.change.+insert.Goals as goal

pub insert-less-requires : goal.insert-less-requires
insert-less-requires t c =
    let is = ap spots c.in-Some.is ∙ c.open-less.ensures.spots in
    let sorted = subst IsSorted is c.requires.sorted in
    let above = c.open-less.ensures.height.is in
    (grind arith, (c.requires.fits, (c.open-less.ensures.less, (grind arith, sorted_front _ _ sorted))))

pub insert-more-requires : goal.insert-more-requires
insert-more-requires t c =
    let is = ap spots c.in-Some.is ∙ c.open-less.ensures.spots in
    let sorted = subst IsSorted is c.requires.sorted in
    let above = c.open-less.ensures.height.is in
    (grind arith, (c.requires.fits, (c.open-less.ensures.more, (grind arith, sorted_back _ _ _ sorted))))

pub returns-then-is_before-clause-spots : goal.returns-then-is_before-clause-spots
returns-then-is_before-clause-spots t c =
    let p = spot_of (node_of c.args.node.value) in
    let q = spot_of (node_of c.open-less.result.node.value) in
    let is = ap spots c.in-Some.is ∙ c.open-less.ensures.spots in
    let test : before p q ≡ true = grind arith in
    let there = placed_left p (spots c.open-less.result.less) q (spots c.open-less.result.more) test in
    c.balance.ensures.spots ∙ (ap (λ (l : List Spot). l ++ q ∷ spots c.open-less.result.more) c.insert-less.ensures.spots ∙ (sym there ∙ ap (placed p) (sym is)))

pub returns-else-is_before-clause-spots : goal.returns-else-is_before-clause-spots
returns-else-is_before-clause-spots t c =
    let p = spot_of (node_of c.args.node.value) in
    let q = spot_of (node_of c.open-less.result.node.value) in
    let is = ap spots c.in-Some.is ∙ c.open-less.ensures.spots in
    let sorted = subst IsSorted is c.requires.sorted in
    let test : before p q ≡ false = grind arith in
    let there = placed_right p (spots c.open-less.result.less) q (spots c.open-less.result.more) test sorted in
    c.balance-else-is_before.ensures.spots ∙ (ap (λ (l : List Spot). spots c.open-less.result.less ++ q ∷ l) c.insert-more.ensures.spots ∙ (sym there ∙ ap (placed p) (sym is)))
