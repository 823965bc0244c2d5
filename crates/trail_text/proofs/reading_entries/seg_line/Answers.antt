use Rattle.trail_text.specs.Bounds.{EntryFits, SegFits}
use Rattle.trail_text.specs.Lines.{entry_words}
use Rattle.trail_text.specs.Words.{seg_words}
use Rattle.trail_text.proofs.EntryLines.{seg_back}
use Rattle.trail_text.proofs.Spacing.{spells_line}
use Rattle.trail_text.proofs.reading_entries.seg_line.Goals as goal

pub returns : goal.returns
returns c = spells_line (entry_words seg_words) (EntryFits SegFits) seg_back c.args.line.now c.seg_entry.result (rw c.of-words.ensures at c.seg_entry.ensures)
