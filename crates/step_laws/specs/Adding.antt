-- One entry more in one of the histories of a run, and the act that it is there.
use Rattle.std.specs.Prelude.{◌≡◌, ◌≢◌, ℕ, ◌+◌, ◌<◌, List, ◌∷◌, length}
use Rattle.suri_base.specs.History.{entry}
use Rattle.suri_base.specs.declared.entry.BucketNote.{BucketNote}
use Rattle.suri_base.specs.declared.entry.PoolNote.{PoolNote}
use Rattle.suri_base.specs.declared.entry.SegNote.{SegNote}
use Rattle.segment_pool.specs.Counting.{KeepsRules}
use Rattle.flow_pool.specs.Counting.{FlowPoolRules}
use Rattle.bucket_rules.specs.Rule.{IsLegal}
use Rattle.bucket_laws.specs.Leaving.{Gone, gone}
use Rattle.run_rules.specs.Acts.{Act, on_pool, on_segments, on_bucket}
use Rattle.run_rules.specs.Histories.{Histories, bucket_at}
use Rattle.run_rules.specs.Lawful.{setting_for}
use Rattle.run_rules.specs.Setup.{Setup, fixed_at}

-- an entry of the role more at the head of the history of the flow pool, which is legal; its place counts from 1. The other histories stay
pub record IsOnPool (w : Setup) (role step : ℕ) (old new : Histories) (n : PoolNote) (place : ℕ) : Type 0 where
  pub pool : new.pool ≡ entry role step n ∷ old.pool
  pub numbered : place ≡ length old.pool + 1
  pub legal : FlowPoolRules (setting_for w) new.pool
  pub segments : new.segments ≡ old.segments
  pub buckets : new.buckets ≡ old.buckets

-- the same of the pool of segment nodes
pub record IsOnSegments (w : Setup) (role step : ℕ) (old new : Histories) (n : SegNote) : Type 0 where
  pub segments : new.segments ≡ entry role step n ∷ old.segments
  pub legal : KeepsRules w.layout.segments new.segments
  pub pool : new.pool ≡ old.pool
  pub buckets : new.buckets ≡ old.buckets

-- the same of bucket b, with the runs that the entry lets go
pub record IsOnBucket (w : Setup) (role step : ℕ) (old new : Histories) (b : ℕ) (n : BucketNote) (left : List Gone) : Type 0 where
  pub real : b < length old.buckets
  pub bucket : bucket_at b new.buckets ≡ entry role step n ∷ bucket_at b old.buckets
  pub goes : left ≡ gone (fixed_at w b) (bucket_at b old.buckets) n
  pub legal : IsLegal (fixed_at w b) (bucket_at b new.buckets)
  pub rows : length new.buckets ≡ length old.buckets
  pub others : (c : ℕ) → c ≢ b → bucket_at c new.buckets ≡ bucket_at c old.buckets
  pub pool : new.pool ≡ old.pool
  pub segments : new.segments ≡ old.segments

-- the histories grew by one entry of the role, which is this act
abbrev pub IsAdded : Setup → ℕ → ℕ → Histories → Histories → Act → Type 0
IsAdded w role step old new (on_pool n place) = IsOnPool w role step old new n place
IsAdded w role step old new (on_segments n) = IsOnSegments w role step old new n
IsAdded w role step old new (on_bucket b n left) = IsOnBucket w role step old new b n left
