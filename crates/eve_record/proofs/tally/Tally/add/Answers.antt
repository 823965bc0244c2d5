use Rattle.eve_record.specs.SummaryLine.{line_feeds}
use Rattle.eve_record.proofs.Tallying.{feeds_append, still}
use Rattle.eve_record.proofs.tally.Tally.add.Goals as goal

pub returns : goal.returns
returns c = λ text h. record {
  digest = c.update.ensures text h.digest;
  lines = rw (feeds_append text c.args.piece.now, ← still (line_feeds text) (line_feeds c.args.piece.now) 18446744073709551615, ← h.lines, ← c.line_feeds.ensures.value) c.saturating_add-self.ensures;
}
