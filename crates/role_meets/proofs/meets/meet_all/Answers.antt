use Rattle.std.proofs.Common.{ℕ, ◌<◌, length, get_or, sym, ◌∙◌, subst}
use Rattle.role_meets.proofs.Meetings.{grown_told, told_informed}
use Rattle.role_meets.proofs.meets.meet_all.Goals as goal
use Rattle.role_steps.specs.Roles.{seen}
use Rattle.run_rules.specs.Growing.{HasGrown}
use Rattle.run_rules.specs.Histories.{Histories}

pub inform_all-requires-clause-roles : goal.inform_all-requires-clause-roles
inform_all-requires-clause-roles c = λ k d below. (c.hear_all.ensures.roles k d (subst (λ (n : ℕ). k < n) c.hear_all.ensures.count below)).1.fits

pub inform_all-requires-clause-less : goal.inform_all-requires-clause-less
inform_all-requires-clause-less c = λ k d below.
    let low = subst (λ (n : ℕ). k < n) c.hear_all.ensures.count below in
    subst (λ (t : Histories). HasGrown t (seen c.hear_all.new.ender.passes)) (sym (c.hear_all.ensures.roles k d low).1.seen_same) (c.hear_all.ensures.begins k d low)

pub returns : goal.returns
returns c =
    let s = c.args.shared.now in
    let heard = c.hear_all.ensures in
    let told = c.inform_all.ensures in
    let t = seen c.hear_all.new.ender.passes in
    let u = seen c.inform_all.new.ender.passes in record {
      count = told.count ∙ heard.count;
      roles = λ k d below.
          let low : k < length c.hear_all.new.roles = subst (λ (n : ℕ). k < n) (sym heard.count) below in
          let mine = heard.roles k d below in
          told_informed s t u (get_or c.args.roles.now k d) (get_or c.hear_all.new.roles k d) (get_or c.inform_all.new.roles k d)
          (c.requires.roles k d below) mine.0 mine.1 told.ender.seen_same (told.roles k d low);
      ender = grown_told s c.args.ender.now.passes c.hear_all.new.ender.passes c.inform_all.new.ender.passes c.requires.ender heard.ender told.ender;
      waiting = told.waiting ∙ heard.waiting;
      lines = told.lines ∙ heard.lines;
    }
