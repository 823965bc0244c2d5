use Rattle.std.proofs.Common.{◌∷◌, [], decimal}
use Rattle.trail_text.specs.Bounds.{Fits}
use Rattle.trail_text.proofs.EntryLines.{small}
use Rattle.trail_text.proofs.Spacing.{spells_line, words_back}
use Rattle.trail_text.proofs.reading_heads.pool_count.Goals as goal

pub returns : goal.returns
returns c =
    let name = c.args.name.now in
    spells_line (λ n. name ∷ decimal n ∷ []) Fits (λ n fit. words_back name (decimal n ∷ []) c.requires (small n fit, tt)) c.args.line.now c.named.result
    (rw c.of-words.ensures at c.named.ensures)
