use Rattle.std.proofs.Common.{◌<◌, sym, ap, ◌∙◌, subst, min}
use Rattle.segment_tree.specs.Reads.{earliest}
use Rattle.segment_tree.specs.Tree.{spots}
use Rattle.segment_tree.proofs.Reading.{found_fits, run_on, run_same}
use Rattle.segment_tree.proofs.Trees.{all_fit}
use Rattle.segment_tree.proofs.tree.SegmentTree.run_at.Goals as goal

pub end_of-end-requires : goal.end_of-end-requires
end_of-end-requires c = found_fits c.args.at 0 (spots c.self.inside.root) c.earliest-spot.result (sym c.earliest-spot.ensures) (all_fit c.self.inside.root c.self.invariant.0)

pub returns-clause-on : goal.returns-clause-on
returns-clause-on c =
    let end = c.end_of-end.result in
    run_on c.args.at end (spots c.self.inside.root) c.earliest-spot.result (sym c.earliest-spot.ensures)
    (all_fit c.self.inside.root c.self.invariant.0) c.end_of-end.ensures c.min.result (c.min.ensures ∙ ap (λ n. min n end) c.next_first.ensures)

pub returns-clause-same : goal.returns-clause-same
returns-clause-same c = λ k up below.
    let end = c.end_of-end.result in
    let is = c.min.ensures ∙ ap (λ n. min n end) c.next_first.ensures in
    ap (earliest k) (sym c.self.view_is)
    ∙ run_same c.args.at end (spots c.self.inside.root) c.earliest-spot.result (sym c.earliest-spot.ensures)
    (all_fit c.self.inside.root c.self.invariant.0) c.self.invariant.1 c.end_of-end.ensures k up (subst (λ n. k < n) is below)
