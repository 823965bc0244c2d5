use Rattle.std.proofs.Common.{◌≡◌, take}
use Rattle.run_counts.specs.Frames.{counts_of}
use Rattle.run_counts.proofs.frames.count_frames.Given as goal

abbrev pub invariant-loop-index : goal.invariant-loop-index
invariant-loop-index l = l.counts ≡ counts_of (take l.index l.capture.seen)
