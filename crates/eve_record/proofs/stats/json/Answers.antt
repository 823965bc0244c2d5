use Rattle.eve_record.specs.StatsLine.{stats_event}
use Rattle.eve_record.proofs.WrittenText.{written_text}
use Rattle.eve_record.proofs.stats.json.Goals as goal

pub returns : goal.returns
returns c =
    written_text (stats_event c.args.time.now c.args.stats.now) c.in_ok-out.out c.write_line.new.out c.into_inner.result.items c.in_ok-out.ensures.before
    c.in_ok-out.ensures.tokens c.in_ok-write_line.ensures c.into_inner.ensures.items
