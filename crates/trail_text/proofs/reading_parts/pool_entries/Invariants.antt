use Rattle.std.proofs.Common.{◌∷◌, []}
use Rattle.trail_text.specs.Bounds.{PoolFits, EntryFits}
use Rattle.trail_text.specs.Lines.{entry_line}
use Rattle.trail_text.specs.Reading.{TookRow}
use Rattle.trail_text.specs.Words.{pool_words}
use Rattle.trail_text.proofs.reading_parts.pool_entries.Given as goal

-- the entries so far were read
abbrev pub invariant-loop : goal.invariant-loop
invariant-loop l = TookRow (λ _ e. entry_line pool_words e ∷ []) (EntryFits PoolFits) l.fn.lines l.lines l.counter l.entries.items
