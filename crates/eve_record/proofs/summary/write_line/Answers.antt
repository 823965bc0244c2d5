use Rattle.std.proofs.Common.{[], ◌∷◌, Some, codes, refl}
use Rattle.std.proofs.lemmas.Result.{on_ok_weaker}
use Rattle.eve_record.specs.StatsLine.{stats_data}
use Rattle.eve_record.specs.SummaryLine.{summary_event, summary_front}
use Rattle.eve_record.proofs.WrittenText.{writes_both}
use Rattle.eve_record.proofs.summary.write_line.Goals as goal

pub returns : goal.returns
unfolding summary_event
returns c =
    on_ok_weaker c.close.result
    (λ end.
    writes_both (summary_front c.args.seed c.args.frames c.args.lines c.args.digest.now) ((codes "stats", Some (stats_data c.args.stats.now)) ∷ []) c.args.out.now c.open.new.out
    c.write_front.new.out c.write_back.new.out c.close.new.out c.in_ok-open.ensures c.in_ok-write_front.ensures (c.write_back.new.out, c.in_ok-write_back.ensures, refl) end) c.close.ensures
