use Rattle.trail_text.proofs.BucketNotes.{closed_reads}
use Rattle.trail_text.proofs.reading_notes.closed.Goals as goal

pub returns : goal.returns
returns c = let m = c.in-Some in closed_reads c.args.words.now m.no m.app m.run' m.freed m.ended m.ensures.some m.ensures.each
