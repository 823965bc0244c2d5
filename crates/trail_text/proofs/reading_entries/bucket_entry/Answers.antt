use Rattle.trail_text.specs.Bounds.{BucketFits}
use Rattle.trail_text.specs.Words.{bucket_words}
use Rattle.trail_text.proofs.EntryLines.{entry_reads}
use Rattle.trail_text.proofs.reading_entries.bucket_entry.Goals as goal

pub returns : goal.returns
returns c =
    let r = c.in-Some in
    let s = c.in-Some-next_large in
    let n = c.in-Some-bucket_note in
    entry_reads bucket_words BucketFits c.args.words.now c.next_number.new.words c.next_large.new.words r.role s.step n.note r.ensures s.ensures n.ensures
