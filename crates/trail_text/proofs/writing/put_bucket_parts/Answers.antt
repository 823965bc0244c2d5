use Rattle.std.proofs.Common.{string_bytes}
use Rattle.trail_text.proofs.Parts.{puts_more}
use Rattle.trail_text.proofs.writing.put_bucket_parts.Goals as goal

pub loop-number-preserved : goal.loop-number-preserved
loop-number-preserved c =
    puts_more (λ h. h.items) c.args.buckets.now c.loop-number.number c.index-buckets-number.result (string_bytes c.put_bucket_part.new.out) (string_bytes c.loop-number.out)
    (string_bytes c.args.out.now) c.loop-number-test.true c.index-buckets-number.is (rw (← c.deref.ensures.value) c.in_ok-put_bucket_part.ensures) c.loop-number.invariant
