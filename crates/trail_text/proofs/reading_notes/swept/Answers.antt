use Rattle.trail_text.proofs.BucketNotes.{swept_reads}
use Rattle.trail_text.proofs.reading_notes.swept.Goals as goal

pub returns : goal.returns
returns c = let m = c.in-Some in swept_reads c.args.words.now m.round m.emergency m.seen m.count m.ensures.some m.ensures.each
