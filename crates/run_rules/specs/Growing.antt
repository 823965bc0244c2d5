-- How what a role has seen of the histories grows.
use Rattle.std.specs.Prelude.{◌≡◌, ◌≢◌, ℕ, ◌+◌, ◌<◌, List, [], ◌∷◌, ◌++◌, length}
use Rattle.suri_base.specs.History.{entry, entries_of, Begins}
use Rattle.suri_base.specs.declared.entry.BucketNote.{BucketNote}
use Rattle.suri_base.specs.declared.entry.Entry.{Entry}
use Rattle.suri_base.specs.declared.entry.PoolNote.{PoolNote}
use Rattle.suri_base.specs.declared.entry.SegNote.{SegNote}
use Rattle.bucket_laws.specs.Leaving.{gone}
use Rattle.run_rules.specs.Acts.{Act, on_pool, on_segments, on_bucket}
use Rattle.run_rules.specs.Histories.{Histories, bucket_at}
use Rattle.run_rules.specs.Setup.{Setup, fixed_at}

-- the history grew, by entries of other roles alone
abbrev pub GrewFor : {N : Type 0} → ℕ → List (Entry N) → List (Entry N) → Type 0
GrewFor {N} role old new = (since : List (Entry N)) × (new ≡ since ++ old) × (entries_of role since ≡ [])

-- every history grew so
pub record Grew (role : ℕ) (old new : Histories) : Type 0 where
  pub pool : GrewFor role old.pool new.pool
  pub segments : GrewFor role old.segments new.segments
  pub rows : length new.buckets ≡ length old.buckets
  pub buckets : (b : ℕ) → b < length old.buckets → GrewFor role (bucket_at b old.buckets) (bucket_at b new.buckets)

-- every history begins with what was seen of it before
pub record HasGrown (old new : Histories) : Type 0 where
  pub pool : Begins old.pool new.pool
  pub segments : Begins old.segments new.segments
  pub rows : length new.buckets ≡ length old.buckets
  pub buckets : (b : ℕ) → b < length old.buckets → Begins (bucket_at b old.buckets) (bucket_at b new.buckets)

-- one call of the role on the flow pool, as its pass sees it afterwards: the act that it is
pub record SteppedOnPool (role : ℕ) (old new : Histories) (step : ℕ) (n : PoolNote) (done : Act) : Type 0 where
  pub before : List (Entry PoolNote)
  pub grew : GrewFor role old.pool before
  pub pool : new.pool ≡ entry role step n ∷ before
  pub is : done ≡ on_pool n (length before + 1)
  pub segments : new.segments ≡ old.segments
  pub buckets : new.buckets ≡ old.buckets

-- the same on the segment pool
pub record SteppedOnSegments (role : ℕ) (old new : Histories) (step : ℕ) (n : SegNote) (done : Act) : Type 0 where
  pub before : List (Entry SegNote)
  pub grew : GrewFor role old.segments before
  pub segments : new.segments ≡ entry role step n ∷ before
  pub is : done ≡ on_segments n
  pub pool : new.pool ≡ old.pool
  pub buckets : new.buckets ≡ old.buckets

-- the same on bucket b
pub record SteppedOnBucket (w : Setup) (role : ℕ) (old new : Histories) (step b : ℕ) (n : BucketNote) (done : Act) : Type 0 where
  pub real : b < length old.buckets
  pub before : List (Entry BucketNote)
  pub grew : GrewFor role (bucket_at b old.buckets) before
  pub bucket : bucket_at b new.buckets ≡ entry role step n ∷ before
  pub is : done ≡ on_bucket b n (gone (fixed_at w b) before n)
  pub rows : length new.buckets ≡ length old.buckets
  pub others : (c : ℕ) → c ≢ b → bucket_at c new.buckets ≡ bucket_at c old.buckets
  pub pool : new.pool ≡ old.pool
  pub segments : new.segments ≡ old.segments
