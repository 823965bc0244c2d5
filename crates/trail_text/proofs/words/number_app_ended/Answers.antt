use Rattle.std.proofs.Common.{◌≡◌, ◌∷◌, [], Bool, Some, decimal, sym, ℕ, ◌∙◌}
use Rattle.suri_base.specs.declared.app.App.{App}
use Rattle.trail_text.specs.Words.{app_word, truth_word}
use Rattle.trail_text.proofs.words.number_app_ended.Goals as goal

pub returns-clause-each : goal.returns-clause-each
returns-clause-each c a b d e o fa fd fe is =
    let m = c.in-Some in
    let k = c.in-Some-two_truth in
    let first = m.ensures.each a b (decimal d ∷ decimal e ∷ truth_word o ∷ []) fa is in
    let front : ◌≡◌ {A = ℕ × App} (m.number, m.app) (a, b) = cc first in
    let rest : decimal m.number ∷ app_word m.app ∷ c.next_app_of.new.words ≡ decimal a ∷ app_word b ∷ decimal d ∷ decimal e ∷ truth_word o ∷ [] =
    sym m.ensures.some.1 ∙ is in
    let second = k.ensures.each d e o fd fe (cc) in
    let back : ◌≡◌ {A = ℕ × ℕ × Bool} (k.run', k.freed, k.ended) (d, e, o) = cc second in
    λ i. Some ((front i).0, (front i).1, (back i).0, (back i).1, (back i).2)
