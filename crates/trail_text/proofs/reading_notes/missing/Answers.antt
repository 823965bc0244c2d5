use Rattle.trail_text.proofs.BucketNotes.{missing_reads}
use Rattle.trail_text.proofs.reading_notes.missing.Goals as goal

pub returns : goal.returns
returns c = let m = c.in-Some in missing_reads c.args.words.now m.no m.emergency m.seen m.ended m.ensures.some m.ensures.each
