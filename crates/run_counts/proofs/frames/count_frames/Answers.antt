use Rattle.std.proofs.Common.{arith}
use Rattle.run_counts.proofs.Counting.{counts_small, next_counts}
use Rattle.run_counts.proofs.frames.count_frames.Goals as goal

pub add_frame-requires-clause-room : goal.add_frame-requires-clause-room
add_frame-requires-clause-room c =
    counts_small c.args.capture.now.seen c.loop-index.index c.loop-index.counts c.loop-index.invariant (omega (arith, c.count-count.ensures.same, c.count-count.ensures.few))

pub loop-index-preserved : goal.loop-index-preserved
loop-index-preserved c =
    next_counts c.args.capture.now.seen c.loop-index.index c.loop-index.counts c.add_frame.new.counts (omega (arith, c.loop-index-test.true, c.count-count.ensures.same)) c.loop-index.invariant
    c.add_frame.ensures
