use Rattle.std.proofs.Common.{◌≡◌, ◌∷◌, [], Bool, Some, decimal, sym, ℕ, ◌∙◌}
use Rattle.suri_base.specs.declared.stream.Offer.{Offer}
use Rattle.trail_text.specs.Words.{offer_word, truth_word}
use Rattle.trail_text.proofs.words.mode_offer.Goals as goal

pub returns-clause-each : goal.returns-clause-each
returns-clause-each c a b d e o fa fd fe is =
    let m = c.in-Some in
    let k = c.in-Some-number_offer in
    let first = m.ensures.each a b d (decimal e ∷ offer_word o ∷ []) fa fd is in
    let front : ◌≡◌ {A = ℕ × Bool × ℕ} (m.number, m.emergency, m.seen) (a, b, d) = cc first in
    let rest : decimal m.number ∷ truth_word m.emergency ∷ decimal m.seen ∷ c.next_mode.new.words ≡ decimal a ∷ truth_word b ∷ decimal d ∷ decimal e ∷ offer_word o ∷ [] =
    sym m.ensures.some.2 ∙ is in
    let second = k.ensures.each e o fe (cc) in
    let back : ◌≡◌ {A = ℕ × Offer} (k.run', k.offer) (e, o) = cc second in
    λ i. Some ((front i).0, (front i).1, (front i).2, (back i).0, (back i).1)
