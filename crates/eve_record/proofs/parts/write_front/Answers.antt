use Rattle.std.proofs.Common.{refl}
use Rattle.std.proofs.lemmas.Result.{on_ok_weaker}
use Rattle.eve_record.proofs.parts.write_front.Goals as goal

pub returns : goal.returns
returns c =
    on_ok_weaker c.text-3.result
    (λ last. (
      c.write_app.new.out,
      c.in_ok-write_app.ensures,
      (
        c.text.new.out,
        c.in_ok-text.ensures,
        (
          c.text-2.new.out,
          c.in_ok-text-2.ensures,
          (c.write_port.new.out, rw c.dest.ensures at c.in_ok-write_port.ensures, (c.text-3.new.out, last, refl)),
        ),
      ),
    )) c.text-3.ensures
