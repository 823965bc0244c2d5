use Rattle.std.proofs.Common.{◌≡◌, ◌∙◌, Decides, ap, subst, sym, map, string_bytes, List, [], inl, inr}
use Rattle.clap.specs.Words.{App, IsAmong, Kinds, Row, app_of, fault_of, is_simple, is_simple_and_free, kind_of, matches_of}
use Rattle.suri_opts.specs.Words.{AreChoices, GoTogether}
use Rattle.suri_opts.specs.declared.types.WordFault.TheVariants.{Refused}
use Rattle.suri_opts.proofs.Given.{suri_is_free, suri_is_simple}
use Rattle.suri_opts.proofs.reading.read.Goals as goal

pub returns-in-Ok-clause-chosen : goal.returns-in-Ok-clause-chosen
returns-in-Ok-clause-chosen c =
    let app = c.in_ok-suri.ensures in
    let words = map string_bytes c.args.words.now in
    let rows = (c.in-Ok.ensures.matches (ap is_simple app ∙ suri_is_simple)).0 in
    record {
      taken = ap (λ (a : App). fault_of a words) (sym app) ∙ c.in-Ok.ensures.kinds (ap is_simple_and_free app ∙ suri_is_free);
      choices = subst (λ (rs : List Row). AreChoices rs c.chosen.result) (rows ∙ ap (λ (a : App). matches_of a words) app) c.chosen.ensures;
    }

pub returns-in-Ok-clause-together : goal.returns-in-Ok-clause-together
returns-in-Ok-clause-together c =
    let app = c.in_ok-suri.ensures in
    let rows = (c.in-Ok.ensures.matches (ap is_simple app ∙ suri_is_simple)).0 in
    subst (λ (rs : List Row). Decides c.go_together.result (GoTogether rs)) (rows ∙ ap (λ (a : App). matches_of a (map string_bytes c.args.words.now)) app) c.go_together.ensures

pub returns-in-Err-clause-refused : goal.returns-in-Err-clause-refused
returns-in-Err-clause-refused c = λ refused none.
    let app = c.in_ok-suri.ensures in
    let no_kinds : fault_of (app_of c.in_ok-suri.suri) (map string_bytes c.args.words.now) ≡ [] = ap (λ (a : App). fault_of a (map string_bytes c.args.words.now)) app ∙ none in
    elim (c.in-Err.ensures.kinds (ap is_simple_and_free app ∙ suri_is_free)) [
      | inl memory ↦ (let same : c.word_fault.result ≡ Refused = cc in c.word_fault.ensures.refused same memory)
      | inr among ↦ subst (λ (ks : Kinds). IsAmong (kind_of c.in-Err.error) ks) no_kinds among
    ]
