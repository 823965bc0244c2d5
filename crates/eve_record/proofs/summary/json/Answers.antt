use Rattle.eve_record.specs.SummaryLine.{summary_event}
use Rattle.eve_record.proofs.WrittenText.{written_text}
use Rattle.eve_record.proofs.summary.json.Goals as goal

pub returns : goal.returns
returns c =
    written_text (summary_event c.args.stats.now c.args.seed c.args.frames c.args.lines c.args.digest.now) c.in_ok-out.out c.write_line.new.out c.into_inner.result.items
    c.in_ok-out.ensures.before c.in_ok-out.ensures.tokens c.in_ok-write_line.ensures c.into_inner.ensures.items
