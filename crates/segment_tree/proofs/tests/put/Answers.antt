use Rattle.std.proofs.Common.{◌+◌, ◌∙◌, List, length, sym, ap, subst, arith}
use Rattle.segment_tree.specs.Order.{AllBelow, Lacks, placed}
use Rattle.segment_tree.specs.declared.spot.Spot.{Spot}
use Rattle.segment_tree.proofs.Orders.{below_lacks, below_placed, below_up, length_placed}
use Rattle.segment_tree.proofs.tests.put.Goals as goal

pub insert-requires-clause-lacks : goal.insert-requires-clause-lacks
insert-requires-clause-lacks c =
    subst (λ (s : Spot). Lacks s c.args.tree.now) (sym c.write.ensures.says) (below_lacks c.args.spot c.args.tree.now c.requires.newer)

pub returns-in_err-node-clause-newer : goal.returns-in_err-node-clause-newer
returns-in_err-node-clause-newer c = below_up c.args.spot.no (c.args.spot.no + 1) c.args.tree.now (omega arith) c.requires.newer

pub returns-clause-few : goal.returns-clause-few
returns-clause-few c =
    let is = c.insert.ensures ∙ ap (λ (s : Spot). placed s c.args.tree.now) c.write.ensures.says in
    omega (arith, ap (λ (l : List Spot). length l) is, length_placed c.args.spot c.args.tree.now)

pub returns-clause-newer : goal.returns-clause-newer
returns-clause-newer c =
    let is = c.insert.ensures ∙ ap (λ (s : Spot). placed s c.args.tree.now) c.write.ensures.says in
    let more = c.args.spot.no + 1 in
    subst (AllBelow more) (sym is) (below_placed more c.args.spot c.args.tree.now (omega arith) (below_up c.args.spot.no more c.args.tree.now (omega arith) c.requires.newer))
