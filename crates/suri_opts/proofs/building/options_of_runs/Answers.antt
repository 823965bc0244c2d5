use Rattle.std.proofs.Common.{◌≡◌, ◌∙◌, refl, ap₂, codes}
use Rattle.std.proofs.lemmas.Result.{IfOk-weaker}
use Rattle.clap.specs.Words.{app_of, rule_of, with_rule}
use Rattle.suri_opts.specs.Words.{app_7, app_8, app_9, app_10, number_rule}
use Rattle.suri_opts.proofs.building.options_of_runs.Goals as goal

pub returns : goal.returns
returns c =
    let rule_7 : rule_of c.number.result ≡ number_rule (codes "segments") 0 1048576 = c.number.ensures.rule 0 1048576 refl refl in
    let rule_8 : rule_of c.number-2.result ≡ number_rule (codes "depth") 0 1073741824 = c.number-2.ensures.rule 0 1073741824 refl refl in
    let rule_9 : rule_of c.number-3.result ≡ number_rule (codes "recovery") 1 100 = c.number-3.ensures.rule 1 100 refl refl in
    let rule_10 : rule_of c.number-4.result ≡ number_rule (codes "seed") 0 65535 = c.number-4.ensures.rule 0 65535 refl refl in
    let is_7 : app_of c.in_ok-command-2.command ≡ app_7 = c.in_ok-command-2.ensures ∙ ap₂ with_rule c.in_ok-command.ensures rule_7 in
    let is_8 : app_of c.in_ok-command-3.command ≡ app_8 = c.in_ok-command-3.ensures ∙ ap₂ with_rule is_7 rule_8 in
    let is_9 : app_of c.in_ok-command-4.command ≡ app_9 = c.in_ok-command-4.ensures ∙ ap₂ with_rule is_8 rule_9 in
    let is_10 : app_of c.in_ok-command-5.command ≡ app_10 = c.in_ok-command-5.ensures ∙ ap₂ with_rule is_9 rule_10 in
    IfOk-weaker c.with-5.result _ _ (λ r h. h ∙ ap₂ with_rule is_10 c.flag.ensures.rule) c.with-5.ensures
