use Rattle.std.proofs.Common.{◌≡◌, ℕ, ◌+◌, ◌<◌, ◌≤◌, length, get_or, vec_capacity}
use Rattle.flow_bucket.specs.Bucket.{fixed_of}
use Rattle.flow_bucket.specs.Stands.{BucketMay, BucketAnswers}
use Rattle.flow_pool.specs.Pool.{FlowPoolMay, FlowPoolAnswers, setting_of}
use Rattle.lock_rows.specs.Rows.{AreNewRows, IsFresh, IsGood}
use Rattle.run_start.specs.Starting.{AreNewBack}
use Rattle.segment_pool.specs.Pool.{PoolMay as SegPoolMay, PoolAnswers as SegPoolAnswers, limit_of}
use Rattle.run_start.proofs.deal.deal.Given as goal

-- the passes that are left are the first roles', and the others have theirs
abbrev pub invariant-loop-pool : goal.invariant-loop-pool
invariant-loop-pool l =
    (length l.segments.items ≡ length l.pools.items)
    × (length l.rows.items ≡ length l.pools.items)
    × (length l.all.items + length l.pools.items ≡ l.shared.layout.workers + 3)
    × (l.shared.layout.workers + 3 ≤ vec_capacity l.all)
    × ((k : ℕ) (d : _) → k < length l.pools.items
    → IsGood setting_of FlowPoolMay FlowPoolAnswers k l.shared.pool (get_or l.pools.items k d) × IsFresh (get_or l.pools.items k d))
    × ((k : ℕ) (d : _) → k < length l.segments.items
    → IsGood limit_of SegPoolMay SegPoolAnswers k l.shared.segments (get_or l.segments.items k d) × IsFresh (get_or l.segments.items k d))
    × AreNewRows fixed_of BucketMay BucketAnswers l.shared.buckets.items l.rows.items
    × AreNewBack l.shared (l.shared.layout.workers + 3) l.all.items

abbrev pub decreases-loop-pool : goal.decreases-loop-pool
decreases-loop-pool l = length l.pools.items
