use Rattle.std.proofs.Common.{[], ◌∷◌, Some, codes, refl}
use Rattle.std.proofs.lemmas.Result.{on_ok_weaker}
use Rattle.eve_record.specs.StatsLine.{capture_data, decoder_data, records_data, stats_data}
use Rattle.eve_record.proofs.WrittenText.{writes_object}
use Rattle.eve_record.proofs.stats.write_stats.Goals as goal

pub returns : goal.returns
unfolding stats_data
returns c =
    let s = c.args.stats.now in
    on_ok_weaker c.close.result
    (λ end.
    writes_object ((codes "capture", Some (capture_data s)) ∷ (codes "decoder", Some (decoder_data s)) ∷ (codes "flow", Some (records_data s)) ∷ [])
    c.args.out.now c.open.new.out c.write_records.new.out c.close.new.out c.in_ok-open.ensures (
      c.write_capture.new.out,
      c.in_ok-write_capture.ensures,
      (
        c.write_decoder.new.out,
        (c.key.new.out, c.in_ok-key.ensures, c.in_ok-write_decoder.ensures),
        (c.write_records.new.out, (c.key-2.new.out, c.in_ok-key-2.ensures, c.in_ok-write_records.ensures), refl),
      ),
    ) end) c.close.ensures
