use Rattle.trail_text.specs.Bounds.{EntryFits, BucketFits}
use Rattle.trail_text.specs.Lines.{entry_words}
use Rattle.trail_text.specs.Words.{bucket_words}
use Rattle.trail_text.proofs.EntryLines.{bucket_back}
use Rattle.trail_text.proofs.Spacing.{spells_line}
use Rattle.trail_text.proofs.reading_entries.bucket_line.Goals as goal

pub returns : goal.returns
returns c = spells_line (entry_words bucket_words) (EntryFits BucketFits) bucket_back c.args.line.now c.bucket_entry.result (rw c.of-words.ensures at c.bucket_entry.ensures)
