-- One call of a role on one lock: what it noted, which act that is, and what it was answered.
use Rattle.std.specs.Prelude.{◌≡◌, ℕ, ◌+◌}
use Rattle.flow_bucket.specs.Stands.{BucketAnswers}
use Rattle.flow_bucket.specs.declared.calls.BucketCall.{BucketCall}
use Rattle.flow_bucket.specs.declared.calls.BucketReply.{BucketReply}
use Rattle.flow_pool.specs.Pool.{FlowPoolAnswers, setting_of}
use Rattle.flow_pool.specs.declared.calls.PoolCall.{PoolCall}
use Rattle.flow_pool.specs.declared.calls.PoolReply.{PoolReply}
use Rattle.hist_lock.specs.Locks.{made_with}
use Rattle.role_steps.specs.Roles.{Fits, number_of, seen, setup_of}
use Rattle.role_steps.specs.declared.roles.Passes.{Passes}
use Rattle.role_steps.specs.declared.roles.Shared.{Shared}
use Rattle.run_rules.specs.Acts.{Act}
use Rattle.run_rules.specs.Growing.{SteppedOnPool, SteppedOnSegments, SteppedOnBucket}
use Rattle.run_rules.specs.Setup.{fixed_at}
use Rattle.segment_pool.specs.Pool.{PoolAnswers as SegPoolAnswers, limit_of}
use Rattle.segment_pool.specs.declared.calls.SegCall.{SegCall}
use Rattle.segment_pool.specs.declared.calls.SegReply.{SegReply}
use Rattle.suri_base.specs.declared.entry.BucketNote.{BucketNote}
use Rattle.suri_base.specs.declared.entry.PoolNote.{PoolNote}
use Rattle.suri_base.specs.declared.entry.SegNote.{SegNote}

-- a call on the pool of flow objects
pub record CalledPool (s : Shared) (old new : Passes) (call : PoolCall) (reply : PoolReply) : Type 0 where
  pub fits : Fits s new
  pub number : number_of new ≡ number_of old
  pub step : new.step ≡ old.step + 1
  pub note : PoolNote
  pub act : Act
  pub stepped : SteppedOnPool (number_of old) (seen old) (seen new) old.step note act
  pub answer : FlowPoolAnswers (setting_of (made_with s.pool)) stepped.before (number_of old) call reply note

-- a call on the pool of segment nodes
pub record CalledSegments (s : Shared) (old new : Passes) (call : SegCall) (reply : SegReply) : Type 0 where
  pub fits : Fits s new
  pub number : number_of new ≡ number_of old
  pub step : new.step ≡ old.step + 1
  pub note : SegNote
  pub act : Act
  pub stepped : SteppedOnSegments (number_of old) (seen old) (seen new) old.step note act
  pub answer : SegPoolAnswers (limit_of (made_with s.segments)) stepped.before (number_of old) call reply note

-- a call on bucket b
pub record CalledBucket (s : Shared) (old new : Passes) (b : ℕ) (call : BucketCall) (reply : BucketReply) : Type 0 where
  pub fits : Fits s new
  pub number : number_of new ≡ number_of old
  pub step : new.step ≡ old.step + 1
  pub note : BucketNote
  pub act : Act
  pub stepped : SteppedOnBucket (setup_of s) (number_of old) (seen old) (seen new) old.step b note act
  pub answer : BucketAnswers (fixed_at (setup_of s) b) stepped.before (number_of old) call reply note
