use Rattle.std.proofs.Common.{map}
use Rattle.trail_text.specs.Bounds.{BucketFits, HistoryFits}
use Rattle.trail_text.specs.Reading.{TookRow, bucket_part}
use Rattle.trail_text.proofs.reading_parts.bucket_parts.Given as goal

-- the buckets so far were read
abbrev pub invariant-loop-number : goal.invariant-loop-number
invariant-loop-number l = TookRow bucket_part (HistoryFits BucketFits) l.fn.lines l.lines l.number (map (λ h. h.items) l.buckets.items)
