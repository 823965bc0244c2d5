use Rattle.std.proofs.Common.{ℕ, ◌+◌, ◌∙◌, ap, arith}
use Rattle.suri_base.specs.declared.frame.Frame.{Frame}
use Rattle.run_counts.proofs.Summing.{next_sum}
use Rattle.run_counts.proofs.frames.capture_bytes.Goals as goal

pub loop-index-preserved : goal.loop-index-preserved
loop-index-preserved c = record {
  counted =
      ap (λ (n : ℕ). c.loop-index.bytes + n) c.from-bytes.ensures
      ∙ next_sum (λ (f : Frame). f.len) c.args.capture.now.frames c.loop-index.index c.loop-index.bytes c.frame-frame.result (omega (arith, c.loop-index-test.true, c.count-count.ensures.count))
      c.frame-frame.ensures c.loop-index.invariant.counted;
  small = omega (arith, c.loop-index.invariant.small);
}
