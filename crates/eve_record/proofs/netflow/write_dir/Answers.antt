use Rattle.std.proofs.lemmas.Result.{on_ok_weaker}
use Rattle.eve_record.specs.NetflowLine.{dir_back, dir_data, dir_front}
use Rattle.eve_record.proofs.WrittenText.{writes_both}
use Rattle.eve_record.proofs.netflow.write_dir.Goals as goal

pub returns : goal.returns
unfolding dir_data
returns c =
    on_ok_weaker c.close.result
    (writes_both (dir_front c.args.dir.now c.args.end.now) (dir_back c.args.dir.now c.args.start.now) c.args.out.now c.open.new.out c.write_dir_front.new.out
    c.write_dir_back.new.out c.close.new.out c.in_ok-open.ensures c.in_ok-write_dir_front.ensures c.in_ok-write_dir_back.ensures) c.close.ensures
