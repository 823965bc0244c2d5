use Rattle.std.proofs.Common.{List, length, ap, sym, subst, ◌∙◌, rules}
use Rattle.std.proofs.lemmas.List.Sorted.{IsNonDecreasingBy-from_sort_by_key}
use Rattle.std.specs.List.Sorted.{IsNonDecreasingBy}
use Rattle.flow_object.specs.declared.outcome.FlowLine.{FlowLine}
use Rattle.lock_rows.proofs.Goods.{whole_back}
use Rattle.run_round.proofs.run.sort_lines.Goals as goal

pub returns-clause-rising : goal.returns-clause-rising
returns-clause-rising g c =
    let sorted = c.par_sort_unstable_by_key.ensures in
    let rising = IsNonDecreasingBy-from_sort_by_key (λ (l : FlowLine). l.sums.first_no) _ sorted.sorted (λ a r q k. search rules) in
    let back = whole_back c.par_sort_unstable_by_key.new.s c.args.lines.now.items c.args.lines.now.len (sorted.len ∙ ap length c.as_mut_slice.ensures.value) c.args.lines.now.ok.0 in
    subst (λ (l : List FlowLine). IsNonDecreasingBy (λ (l : FlowLine). l.sums.first_no) l) (sym back) rising
