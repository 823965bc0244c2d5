use Rattle.std.proofs.Common.{◌+◌, drop, arith}
use Rattle.std.proofs.lemmas.List.{drop_more}
use Rattle.capture_gen.proofs.Appending.{next_size}
use Rattle.capture_gen.proofs.capture.room.Goals as goal

pub loop-place-preserved : goal.loop-place-preserved
loop-place-preserved c =
    let place = c.loop-place.place in
    let turns = c.args.turns.now in
    record {
      counted = rw c.frame_size.ensures.value
          (next_size c.loop-place.room _ place _ (drop place turns) (drop (place + 1) turns) (drop_more turns place _ c.loop-place-test.true) c.loop-place.invariant.counted);
      small = omega (arith, c.loop-place.invariant.small, c.frame_size.ensures.small);
    }
