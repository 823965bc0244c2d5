use Rattle.std.proofs.Common.{[], ◌∷◌, ◌≡◌, ◌==◌, List, ℕ, true, ap, arith, length, refl, sym, ◌∙◌}
use Rattle.std.proofs.lemmas.Bool.Decides.{nat_tests}
use Rattle.trail_text.specs.Faults.{whole_lines}
use Rattle.trail_text.specs.Pieces.{pieces}
use Rattle.trail_text.specs.Reading.{last_piece}
use Rattle.trail_text.proofs.Feeds.{empty}
use Rattle.trail_text.proofs.lines.Lines.is_at_end.Goals as goal

nothing : (t : List ℕ) → (length t == 0) ≡ true → t ≡ []
nothing [] is = refl
nothing (x ∷ xs) is = let l : length (x ∷ xs) ≡ 0 = grind (arith, nat_tests) in absurd (omega (arith, l))

pub returns : goal.returns
returns c =
    let t = c.self.inside.text.now in
    let lines = ap (λ r. r.lines) c.self.view_is in
    let tail = ap (λ r. r.tail) c.self.view_is in (
      λ h. let e = nothing t (sym c.is_empty.ensures ∙ h) in (sym lines ∙ ap (λ z. whole_lines z) e, sym tail ∙ ap (λ z. last_piece (pieces 10 z)) e),
      λ h. c.is_empty.ensures ∙ ap (λ z. length z == 0) (empty t (lines ∙ h.0) (tail ∙ h.1)),
    )
