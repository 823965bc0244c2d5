use Rattle.std.proofs.Common.{refl}
use Rattle.capture_index.proofs.Indexed.{clocked_all, clocked_more}
use Rattle.capture_index.proofs.capture.clocks_of.Goals as goal

pub loop-frame-preserved : goal.loop-frame-preserved
loop-frame-preserved c =
    clocked_more c.args.frames.now c.loop-frame.frame-index c.loop-frame.clock c.max-clock.result c.loop-frame.clocks.items c.push.new.self.items _ _ c.loop-frame.invariant c.loop-frame-test.true refl
    c.max-clock.ensures c.in_ok-push.ensures.items

pub returns : goal.returns
returns c = clocked_all c.args.frames.now c.loop-frame.frame-index c.loop-frame.clock c.loop-frame.clocks.items c.loop-frame.invariant c.loop-frame-test.false
