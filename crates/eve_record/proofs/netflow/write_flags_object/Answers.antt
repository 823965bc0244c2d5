use Rattle.std.proofs.lemmas.Result.{on_ok_weaker}
use Rattle.eve_record.specs.NetflowLine.{flags_back, flags_data}
use Rattle.eve_record.specs.Parts.{flag_fields}
use Rattle.eve_record.proofs.WrittenText.{writes_both}
use Rattle.eve_record.proofs.netflow.write_flags_object.Goals as goal

pub returns : goal.returns
unfolding flags_data
returns c =
    on_ok_weaker c.close.result
    (writes_both (flag_fields c.args.flags) (flags_back c.args.flags) c.args.out.now c.open.new.out c.write_flag_fields.new.out c.write_flags_back.new.out
    c.close.new.out c.in_ok-open.ensures c.in_ok-write_flag_fields.ensures c.in_ok-write_flags_back.ensures) c.close.ensures
