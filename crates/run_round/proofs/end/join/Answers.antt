use Rattle.std.proofs.Common.{◌≡◌, ◌++◌, List, Vec, Global, sym, subst, ◌∙◌}
use Rattle.std.proofs.lemmas.List.Sorted.{IsPermutation-append_comm, IsPermutation-refl}
use Rattle.std.specs.List.Sorted.{IsPermutation}
use Rattle.flow_object.specs.declared.outcome.FlowLine.{FlowLine}
use Rattle.run_round.proofs.end.join.Goals.{then-len, else-len}
use Rattle.run_round.proofs.end.join.Goals as goal

moved : (all : List FlowLine) (v w x y : Vec FlowLine Global) → v ≡ x → w ≡ y → IsPermutation all (x.items ++ y.items) → IsPermutation all (v.items ++ w.items)
moved all v w x y p q h =
    subst (λ (u : Vec FlowLine Global). IsPermutation all (u.items ++ w.items)) (sym p) (subst (λ (u : Vec FlowLine Global). IsPermutation all (x.items ++ u.items)) (sym q) h)

pub returns : goal.returns
returns c =
    let all = c.args.lines.now.items ++ c.args.more.items in
    subst (λ (l : List FlowLine). IsPermutation all l) (sym c.in_ok-append.ensures.items) (elim c.if-len.branch [
      | then-len w ↦ moved all c.if-len.lines c.if-len.more c.args.more c.args.lines.now (w.lines-is ∙ w.swap.ensures.x_after) (w.more-is ∙ w.swap.ensures.y_after) (IsPermutation-append_comm c.args.lines.now.items c.args.more.items)
      | else-len w ↦ moved all c.if-len.lines c.if-len.more c.args.lines.now c.args.more w.lines-is w.more-is (IsPermutation-refl all)
    ])
