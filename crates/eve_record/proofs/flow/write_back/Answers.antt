use Rattle.std.proofs.Common.{refl}
use Rattle.std.proofs.lemmas.Result.{on_ok_weaker}
use Rattle.eve_record.proofs.flow.write_back.Goals as goal

pub returns : goal.returns
returns c =
    on_ok_weaker c.write_vlans.result
    (λ last. (
      c.write_streams.new.out,
      c.in_ok-write_streams.ensures,
      (c.write_session.new.out, c.in_ok-write_session.ensures, (c.text.new.out, c.in_ok-text.ensures, (c.write_vlans.new.out, last, refl))),
    )) c.write_vlans.ensures
