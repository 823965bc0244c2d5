use Rattle.std.proofs.lemmas.Result.{on_ok_weaker}
use Rattle.eve_record.specs.StatsLine.{records_back, records_data, records_front}
use Rattle.eve_record.proofs.WrittenText.{writes_both}
use Rattle.eve_record.proofs.stats.write_records.Goals as goal

pub returns : goal.returns
unfolding records_data
returns c =
    let s = c.args.stats.now in
    on_ok_weaker c.close.result
    (writes_both (records_front s) (records_back s) c.args.out.now c.open.new.out c.write_records_front.new.out c.write_records_back.new.out c.close.new.out
    c.in_ok-open.ensures c.in_ok-write_records_front.ensures c.in_ok-write_records_back.ensures) c.close.ensures
