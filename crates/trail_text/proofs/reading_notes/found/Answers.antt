use Rattle.trail_text.proofs.BucketNotes.{found_reads}
use Rattle.trail_text.proofs.reading_notes.found.Goals as goal

pub returns : goal.returns
returns c = let m = c.in-Some in found_reads c.args.words.now m.no m.emergency m.seen m.run' m.offer m.ensures.some m.ensures.each
