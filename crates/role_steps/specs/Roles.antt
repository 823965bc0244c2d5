-- What a role has seen and made, over all its locks, and what the roles share.
use Rattle.std.specs.Prelude.{◌≡◌, ℕ, ◌+◌, ◌<◌, All, List, ◌++◌, length, map, slice_index_or}
use Rattle.flow_bucket.specs.Bucket.{fixed_of}
use Rattle.flow_bucket.specs.Stands.{BucketMay, BucketAnswers}
use Rattle.flow_bucket.specs.declared.calls.BucketCall.{BucketCall}
use Rattle.flow_pool.specs.Pool.{FlowPoolMay, FlowPoolAnswers, setting_of}
use Rattle.hist_lock.specs.Locks.{made_with, role_of, seen_by, made_of}
use Rattle.lock_rows.specs.Rows.{Pairs, IsGood}
use Rattle.role_steps.specs.declared.roles.Passes.{Passes}
use Rattle.role_steps.specs.declared.roles.Shared.{Shared}
use Rattle.run_rules.specs.Acts.{Act, AreActs}
use Rattle.run_rules.specs.Growing.{HasGrown}
use Rattle.run_rules.specs.Histories.{Histories, bucket_at}
use Rattle.run_rules.specs.Setup.{Setup, fixed_at}
use Rattle.suri_base.specs.Capture.{IsCapture}
use Rattle.segment_pool.specs.Pool.{PoolMay as SegPoolMay, PoolAnswers as SegPoolAnswers, limit_of}

-- the number of the role that holds these passes
abbrev pub number_of : Passes → ℕ
number_of p = role_of p.pool

-- what the passes have seen of the histories, and the entries that they made
abbrev pub seen : Passes → Histories
seen p = record { pool = seen_by p.pool; segments = seen_by p.segments; buckets = map (λ q. seen_by q) p.buckets.items }

abbrev pub made : Passes → Histories
made p = record { pool = made_of p.pool; segments = made_of p.segments; buckets = map (λ q. made_of q) p.buckets.items }

-- the steps of all these entries are below n
pub record AreBelow (n : ℕ) (t : Histories) : Type 0 where
  pub pool : All (λ e. e.step < n) t.pool
  pub segments : All (λ e. e.step < n) t.segments
  pub buckets : All (λ h. All (λ e. e.step < n) h) t.buckets

-- the passes are one role's at the shared locks, and its next step is above those that it made
pub record Fits (s : Shared) (p : Passes) : Type 0 where
  pub pool : IsGood setting_of FlowPoolMay FlowPoolAnswers (number_of p) s.pool p.pool
  pub segments : IsGood limit_of SegPoolMay SegPoolAnswers (number_of p) s.segments p.segments
  pub buckets : Pairs (λ l q. IsGood fixed_of BucketMay BucketAnswers (number_of p) l q) s.buckets.items p.buckets.items
  pub below : AreBelow p.step (made p)

-- what no call of the run changes
abbrev pub setup_of : Shared → Setup
setup_of s = record { capture = s.capture.now; layout = s.layout }

-- the machines are those of this capture and this layout
pub record IsShared (s : Shared) : Type 0 where
  pub capture : IsCapture s.capture.now
  pub pool : setting_of (made_with s.pool) ≡ record { memcap = s.layout.memcap; recovery = s.layout.recovery; depth = s.layout.depth }
  pub segments : limit_of (made_with s.segments) ≡ s.layout.segments
  pub rows : length s.buckets.items ≡ s.layout.rows
  pub buckets : (b : ℕ) (d : _) → b < length s.buckets.items → fixed_of (made_with (slice_index_or s.buckets.items b d)) ≡ fixed_at (setup_of s) b

-- the role may make that call on bucket b
abbrev pub MayOnBucket : Shared → Passes → ℕ → BucketCall → Type 0
MayOnBucket s p b call = BucketMay (fixed_at (setup_of s) b) (number_of p) (bucket_at b (seen p).buckets) call

-- the role went on by these acts, the newest first
pub record Acted (s : Shared) (old new : Passes) (now : List Act) : Type 0 where
  pub fits : Fits s new
  pub number : number_of new ≡ number_of old
  pub step : new.step ≡ old.step + length now
  pub grown : HasGrown (seen old) (seen new)
  pub own : (before : List Act) → length before ≡ old.step → AreActs (setup_of s) (seen old) (number_of old) before
      → AreActs (setup_of s) (seen new) (number_of old) (now ++ before)
