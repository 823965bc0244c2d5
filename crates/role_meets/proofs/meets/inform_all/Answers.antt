use Rattle.std.proofs.Common.{◌≡◌, ◌≢◌, le_refl, get_or, refl, sym, ◌∙◌, subst, arith, length-set, get_or-set_other}
use Rattle.role_meets.proofs.Meetings.{told_itself, told_through, next_set}
use Rattle.role_meets.proofs.meets.inform_all.Goals as goal
use Rattle.role_meets.specs.Meets.{Informed}
use Rattle.role_meets.specs.Parts.{passes_of}
use Rattle.role_meets.specs.declared.roles.Role.{Role}
use Rattle.role_steps.specs.Roles.{Fits, seen}
use Rattle.run_rules.specs.Growing.{HasGrown}
use Rattle.run_rules.specs.Histories.{Histories}

pub loop-role-init : goal.loop-role-init
loop-role-init c = (refl, λ k d low high. refl, λ k d below. absurd (omega arith), told_itself _ _ c.requires.ender, refl, refl)

pub inform-requires-clause-role : goal.inform-requires-clause-role
inform-requires-clause-role c =
    let i = c.loop-role.role-index in
    let d = c.role-item.result in
    subst (λ (r : Role). Fits c.args.shared.now (passes_of r)) (sym (c.loop-role.invariant.1 i d (le_refl i) c.loop-role-test.true)) (c.requires.roles i d c.loop-role-test.true)

pub inform-requires-clause-less : goal.inform-requires-clause-less
inform-requires-clause-less c =
    let i = c.loop-role.role-index in
    let d = c.role-item.result in
    let inv = c.loop-role.invariant in
    subst (λ (t : Histories). HasGrown (seen (passes_of (get_or c.loop-role.roles i d))) t) (sym inv.3.seen_same)
    (subst (λ (r : Role). HasGrown (seen (passes_of r)) (seen c.args.ender.now.passes)) (sym (inv.1 i d (le_refl i) c.loop-role-test.true)) (c.requires.less i d c.loop-role-test.true))

pub loop-role-preserved : goal.loop-role-preserved
loop-role-preserved c =
    let inv = c.loop-role.invariant in
    let i = c.loop-role.role-index in
    let d = c.role-item.result in
    let s = c.args.shared.now in
    let olds = c.args.roles.now in
    let rows = c.loop-role.roles in
    let is : get_or rows i d ≡ get_or olds i d = inv.1 i d (le_refl i) c.loop-role-test.true in
    let new = subst (λ (t : Histories). Informed s t (get_or rows i d) c.inform.new.role) inv.3.seen_same c.inform.ensures.role in (
      length-set rows i c.inform.new.role ∙ inv.0,
      λ k e low high. let apart : k ≢ i = λ (z : k ≡ i). omega arith in get_or-set_other rows i k c.inform.new.role e apart ∙ inv.1 k e (omega arith) high,
      next_set (λ (o n : Role). Informed s (seen c.args.ender.now.passes) o n) olds rows i c.inform.new.role d inv.0 c.loop-role-test.true inv.2
          (subst (λ (r : Role). Informed s (seen c.args.ender.now.passes) r c.inform.new.role) is new),
      told_through s _ _ _ inv.3 c.inform.ensures.ender,
      c.inform.ensures.waiting ∙ inv.4,
      c.inform.ensures.lines ∙ inv.5,
    )
