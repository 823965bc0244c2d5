use Rattle.std.proofs.Common.{◌++◌}
use Rattle.std.proofs.lemmas.Result.{on_ok_weaker}
use Rattle.eve_record.specs.StatsLine.{decoder_back, decoder_data, decoder_front, decoder_middle}
use Rattle.eve_record.proofs.WrittenText.{writes_both, writes_more}
use Rattle.eve_record.proofs.stats.write_decoder.Goals as goal

pub returns : goal.returns
unfolding decoder_data
returns c =
    let s = c.args.stats.now in
    let rest = writes_more (decoder_middle s) (decoder_back s) c.write_counters_front.new.out c.write_counters_middle.new.out c.write_counters_back.new.out
    c.in_ok-write_counters_middle.ensures c.in_ok-write_counters_back.ensures in
    on_ok_weaker c.close.result
    (writes_both (decoder_front s) (decoder_middle s ++ decoder_back s) c.args.out.now c.open.new.out c.write_counters_front.new.out c.write_counters_back.new.out
    c.close.new.out c.in_ok-open.ensures c.in_ok-write_counters_front.ensures rest) c.close.ensures
