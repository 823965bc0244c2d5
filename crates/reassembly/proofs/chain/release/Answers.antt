use Rattle.std.proofs.Common.{sym, ◌∙◌}
use Rattle.segment_tree.proofs.Orders.{behind_filter}
use Rattle.reassembly.proofs.chain.release.Goals as goal

pub returns-clause-waiting : goal.returns-clause-waiting
returns-clause-waiting c =
    let left = c.in_default.ensures in
    left.1 ∙ (sym (behind_filter c.args.frontier c.loop-node.waiting left.0) ∙ c.loop-node.invariant.0)
