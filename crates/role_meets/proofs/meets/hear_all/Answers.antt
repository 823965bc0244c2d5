use Rattle.std.proofs.Common.{get_or, refl, ◌∙◌, subst, arith, length-set}
use Rattle.role_meets.proofs.Meetings.{told_itself, told_through, grown_itself, grown_more, same_itself, same_through, each_set, one_more, same_seen}
use Rattle.role_meets.proofs.meets.hear_all.Goals as goal
use Rattle.role_meets.specs.Meets.{Told, SameRole}
use Rattle.role_meets.specs.Parts.{passes_of}
use Rattle.role_meets.specs.declared.roles.Role.{Role}
use Rattle.role_steps.proofs.Stepping.{grown_through}
use Rattle.role_steps.specs.Roles.{seen}
use Rattle.run_rules.specs.Growing.{HasGrown}
use Rattle.run_rules.specs.Histories.{Histories}

pub loop-role-init : goal.loop-role-init
loop-role-init c = (refl, λ k d below. (same_itself _, told_itself _ _ (c.requires.roles k d below)), λ k d below. absurd (omega arith), grown_itself _ _ c.requires.ender, refl, refl)

pub loop-role-preserved : goal.loop-role-preserved
loop-role-preserved c =
    let inv = c.loop-role.invariant in
    let i = c.loop-role.role-index in
    let d = c.role-item.result in
    let s = c.args.shared.now in
    let olds = c.args.roles.now in
    let rows = c.loop-role.roles in
    let was = inv.1 i d c.loop-role-test.true in
    let heard = c.hear.ensures.ender in (
      length-set rows i c.hear.new.role ∙ inv.0,
      each_set (λ (o n : Role). SameRole o n × Told s (passes_of o) (passes_of n)) olds rows i c.hear.new.role d inv.0 c.loop-role-test.true inv.1
          (same_through (get_or olds i d) (get_or rows i d) c.hear.new.role was.0 c.hear.ensures.same, told_through s _ _ _ was.1 c.hear.ensures.role),
      λ k e below. one_more (λ k. (e : Role) → HasGrown (seen (passes_of (get_or olds k e))) (seen c.hear.new.ender.passes)) i
          (λ k low e. grown_through _ _ _ (inv.2 k e low) heard.grown)
          (λ e. subst (λ (t : Histories). HasGrown t (seen c.hear.new.ender.passes)) (was.1.seen_same ∙ same_seen olds i d e c.loop-role-test.true) heard.grown_from) k below e,
      grown_more s _ _ _ _ c.requires.ender inv.3 heard,
      c.hear.ensures.waiting ∙ inv.4,
      c.hear.ensures.lines ∙ inv.5,
    )
