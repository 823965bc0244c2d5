use Rattle.std.proofs.lemmas.Result.{on_ok_weaker}
use Rattle.eve_record.specs.FlowLine.{totals_back, totals_data, totals_front}
use Rattle.eve_record.proofs.WrittenText.{writes_both}
use Rattle.eve_record.proofs.totals.write_totals.Goals as goal

pub returns : goal.returns
unfolding totals_data
returns c =
    on_ok_weaker c.close.result
    (writes_both (totals_front c.args.line.now c.args.end.now) (totals_back c.args.line.now c.args.start.now) c.args.out.now c.open.new.out c.write_front.new.out
    c.write_back.new.out c.close.new.out c.in_ok-open.ensures c.in_ok-write_front.ensures c.in_ok-write_back.ensures) c.close.ensures
