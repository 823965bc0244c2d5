use Rattle.std.proofs.Common.{◌≡◌, ◌∙◌, refl, ap₂, codes}
use Rattle.std.proofs.lemmas.Result.{IfOk-weaker}
use Rattle.clap.specs.Words.{app_of, rule_of, with_rule}
use Rattle.suri_opts.specs.Words.{app_12, app_13, number_rule}
use Rattle.suri_opts.proofs.building.command.Goals as goal

pub returns : goal.returns
returns c =
    let frames : rule_of c.number.result ≡ number_rule (codes "frames") 1 1000000 = c.number.ensures.rule 1 1000000 refl refl in
    let is_12 : app_of c.in_ok-command-2.command ≡ app_12 = c.in_ok-command-2.ensures ∙ ap₂ with_rule c.in_ok-command.ensures c.wide_number.ensures.rule in
    let is_13 : app_of c.in_ok-command-3.command ≡ app_13 = c.in_ok-command-3.ensures ∙ ap₂ with_rule is_12 frames in
    IfOk-weaker c.with-3.result _ _ (λ r h. h ∙ ap₂ with_rule is_13 c.flag.ensures.rule) c.with-3.ensures
