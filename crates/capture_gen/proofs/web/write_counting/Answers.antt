use Rattle.std.proofs.Common.{◌+◌, ◌-◌, arith}
use Rattle.capture_gen.proofs.Appending.{next_byte}
use Rattle.capture_gen.proofs.web.write_counting.Goals as goal

pub loop-byte-preserved : goal.loop-byte-preserved
loop-byte-preserved c =
    let from = c.loop-byte.byte in
    rw c.in_ok-push.ensures.items
    (next_byte c.loop-byte.out.items _ from (c.args.count - from) (c.args.count - (from + 1)) (omega (arith, c.loop-byte-test.true)) c.loop-byte.invariant)
