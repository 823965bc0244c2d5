use Rattle.std.proofs.Common.{refl}
use Rattle.std.proofs.lemmas.Result.{on_ok_weaker}
use Rattle.eve_record.proofs.session.write_back.Goals as goal

pub returns : goal.returns
returns c =
    on_ok_weaker c.write_flag-2.result
    (λ last. (
      c.text.new.out,
      rw c.state_name.ensures at c.in_ok-text.ensures,
      (
        c.write_flag.new.out,
        c.in_ok-write_flag.ensures,
        (
          c.write_flags.new.out,
          c.in_ok-write_flags.ensures,
          (c.write_flags-2.new.out, c.in_ok-write_flags-2.ensures, (c.write_flags-3.new.out, c.in_ok-write_flags-3.ensures, (c.write_flag-2.new.out, last, refl))),
        ),
      ),
    )) c.write_flag-2.ensures
