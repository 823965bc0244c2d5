use Rattle.std.proofs.Common.{◌≡◌, ◌∙◌, refl, ap₂, codes}
use Rattle.std.proofs.lemmas.Result.{IfOk-weaker}
use Rattle.clap.specs.Words.{app_of, rule_of, with_rule}
use Rattle.suri_opts.specs.Words.{app_1, app_2, app_3, app_4, app_5, number_rule}
use Rattle.suri_opts.proofs.building.sizes.Goals as goal

pub returns : goal.returns
returns c =
    let rule_1 : rule_of c.number.result ≡ number_rule (codes "workers") 1 64 = c.number.ensures.rule 1 64 refl refl in
    let rule_2 : rule_of c.number-2.result ≡ number_rule (codes "batch") 1 256 = c.number-2.ensures.rule 1 256 refl refl in
    let rule_3 : rule_of c.number-3.result ≡ number_rule (codes "round") 1 65536 = c.number-3.ensures.rule 1 65536 refl refl in
    let rule_4 : rule_of c.number-4.result ≡ number_rule (codes "rows") 1 4096 = c.number-4.ensures.rule 1 4096 refl refl in
    let rule_5 : rule_of c.number-5.result ≡ number_rule (codes "memcap") 1 1048576 = c.number-5.ensures.rule 1 1048576 refl refl in
    let rule_6 : rule_of c.number-6.result ≡ number_rule (codes "prealloc") 0 1048576 = c.number-6.ensures.rule 0 1048576 refl refl in
    let is_1 : app_of c.in_ok-command.command ≡ app_1 = c.in_ok-command.ensures ∙ ap₂ with_rule c.new-command.ensures.app rule_1 in
    let is_2 : app_of c.in_ok-command-2.command ≡ app_2 = c.in_ok-command-2.ensures ∙ ap₂ with_rule is_1 rule_2 in
    let is_3 : app_of c.in_ok-command-3.command ≡ app_3 = c.in_ok-command-3.ensures ∙ ap₂ with_rule is_2 rule_3 in
    let is_4 : app_of c.in_ok-command-4.command ≡ app_4 = c.in_ok-command-4.ensures ∙ ap₂ with_rule is_3 rule_4 in
    let is_5 : app_of c.in_ok-command-5.command ≡ app_5 = c.in_ok-command-5.ensures ∙ ap₂ with_rule is_4 rule_5 in
    IfOk-weaker c.with-6.result _ _ (λ r h. h ∙ ap₂ with_rule is_5 rule_6) c.with-6.ensures
