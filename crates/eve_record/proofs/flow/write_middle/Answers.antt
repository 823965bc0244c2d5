use Rattle.std.proofs.Common.{refl}
use Rattle.std.proofs.lemmas.Result.{on_ok_weaker}
use Rattle.eve_record.proofs.flow.write_middle.Goals as goal

pub returns : goal.returns
returns c =
    on_ok_weaker c.count-3.result
    (λ last. (
      c.write_flow.new.out,
      c.in_ok-write_flow.ensures,
      (
        c.count.new.out,
        rw c.from-first.ensures at c.in_ok-count.ensures,
        (
          c.write_code.new.out,
          c.in_ok-write_code.ensures,
          (c.write_kind.new.out, c.in_ok-write_kind.ensures, (c.count-2.new.out, rw c.from-first.ensures at c.in_ok-count-2.ensures, (c.count-3.new.out, rw c.from-last.ensures at last, refl))),
        ),
      ),
    ))
    c.count-3.ensures
