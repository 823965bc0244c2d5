use Rattle.std.proofs.Common.{◌≡◌, List, [], ◌∷◌, ◌++◌, length, map, reverse, sym, ap, subst, ◌∙◌, arith, length-append}
use Rattle.std.proofs.lemmas.List.{reverse-reverse}
use Rattle.std.proofs.lemmas.List.Sorted.{IsPermutation-append_left, IsPermutation-refl, IsPermutation-trans}
use Rattle.std.specs.List.Sorted.{IsPermutation}
use Rattle.end_laws.specs.Ended.{lines_in}
use Rattle.flow_object.specs.declared.outcome.FlowLine.{FlowLine}
use Rattle.role_meets.specs.Parts.{passes_of}
use Rattle.role_meets.specs.declared.roles.Role.{Role}
use Rattle.role_steps.specs.declared.roles.Passes.{Passes}
use Rattle.run_round.proofs.Parting.{lines_next}
use Rattle.run_round.proofs.Taking.{done_all, done_next, mapped_next}
use Rattle.run_round.proofs.end.take_apart.Goals as goal

pub loop-role-init : goal.loop-role-init
loop-role-init c =
    let all : c.args.roles.items ≡ reverse c.reverse.new.self.items = sym (ap reverse c.reverse.ensures.items ∙ reverse-reverse c.args.roles.items) in (
      omega (arith, ap length c.in_ok-passes.ensures.items, c.in_ok-passes.ensures.capacity, c.len.ensures, c.reverse.ensures.len, c.reverse.new.self.ok.0),
      ([], all, c.in_ok-passes.ensures.items, subst (λ (l : List FlowLine). IsPermutation [] l) (sym c.new-lines.ensures.items) (IsPermutation-refl [])),
    )

pub loop-role-preserved : goal.loop-role-preserved
loop-role-preserved c =
    let inv = c.loop-role.invariant in
    let t = inv.1 in
    let is = c.in-Some.ensures.items in
    let r : Role = c.in-Some.role in
    let pushed = c.push_reserved.ensures in
    let own = c.in_ok-own.ensures.passes in (
      omega (arith, inv.0, ap length is, length-append c.pop.new.self.items (r ∷ []), ap length pushed.items, length-append c.loop-role.passes.items (c.in_ok-own.own ∷ []), pushed.capacity),
      (
        t.0 ++ r ∷ [],
        done_next c.args.roles.items t.0 c.loop-role.roles.items c.pop.new.self.items r t.1 is,
        mapped_next (λ (q : Role). passes_of q) t.0 c.loop-role.passes.items c.push_reserved.new.self.items r t.2 (pushed.items ∙ ap (λ (p : Passes). c.loop-role.passes.items ++ p ∷ []) own),
        lines_next t.0 r c.loop-role.lines.items c.part_of.new.lines.items t.3 c.in_ok-own.ensures.lines,
      ),
    )

pub returns : goal.returns
returns c =
    let t = c.loop-role.invariant.1 in
    let olds = c.args.roles.items in
    let short : length c.loop-role.roles.items ≡ 0 = omega (arith, c.loop-role.roles.ok.0, c.in_default.ensures.cases.0) in
    let all : olds ≡ t.0 = done_all olds t.0 c.loop-role.roles.items short t.1 in record {
      passes_are = c.push_reserved-2.ensures.items ∙ ap (λ (l : List Passes). l ++ c.args.ender.passes ∷ []) (t.2 ∙ ap (map (λ (q : Role). passes_of q)) (sym all));
      lines_are = IsPermutation-trans (lines_in olds ++ c.args.ender.lines.items) (c.loop-role.lines.items ++ c.args.ender.lines.items) c.join.new.lines.items
          (IsPermutation-append_left c.args.ender.lines.items (lines_in olds) c.loop-role.lines.items (subst (λ (l : List Role). IsPermutation (lines_in l) c.loop-role.lines.items) (sym all) t.3)) c.in_ok-join.ensures;
    }
