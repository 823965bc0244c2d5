use Rattle.trail_text.specs.Bounds.{EntryFits, PoolFits}
use Rattle.trail_text.specs.Lines.{entry_words}
use Rattle.trail_text.specs.Words.{pool_words}
use Rattle.trail_text.proofs.EntryLines.{pool_back}
use Rattle.trail_text.proofs.Spacing.{spells_line}
use Rattle.trail_text.proofs.reading_entries.pool_line.Goals as goal

pub returns : goal.returns
returns c = spells_line (entry_words pool_words) (EntryFits PoolFits) pool_back c.args.line.now c.pool_entry.result (rw c.of-words.ensures at c.pool_entry.ensures)
