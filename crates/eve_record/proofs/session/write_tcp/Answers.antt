use Rattle.std.proofs.lemmas.Result.{on_ok_weaker}
use Rattle.eve_record.specs.FlowLine.{session_back, session_data}
use Rattle.eve_record.specs.Parts.{all_flags, flag_fields}
use Rattle.eve_record.proofs.WrittenText.{writes_both}
use Rattle.eve_record.proofs.session.write_tcp.Goals as goal

pub returns : goal.returns
unfolding session_data
returns c =
    let flags = all_flags c.args.line.now.sums in
    on_ok_weaker c.close.result
    (writes_both (flag_fields flags) (session_back c.args.line.now flags) c.args.out.now c.open.new.out c.write_flag_fields.new.out c.write_back.new.out c.close.new.out
    c.in_ok-open.ensures (rw c.flags-flags.ensures at c.in_ok-write_flag_fields.ensures) (rw c.flags-flags.ensures at c.in_ok-write_back.ensures)) c.close.ensures
