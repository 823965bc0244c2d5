use Rattle.std.proofs.Common.{◌∷◌, [], arith, codes, decimal, refl}
use Rattle.trail_text.specs.Bounds.{Fits}
use Rattle.trail_text.proofs.EntryLines.{small}
use Rattle.trail_text.proofs.Spacing.{literal_free, spells_line, words_back}
use Rattle.trail_text.proofs.reading_heads.bucket_count.Goals as goal

pub returns : goal.returns
returns c =
    let number = c.args.number in
    spells_line (λ n. codes "bucket" ∷ decimal number ∷ decimal n ∷ []) Fits
    (λ n fit. words_back (codes "bucket") (decimal number ∷ decimal n ∷ []) (literal_free 32 (codes "bucket") refl) (small number (omega arith), (small n fit, tt))) c.args.line.now
    c.numbered.result (rw c.of-words.ensures at c.numbered.ensures)
