-- What the recycler's round asks and says.
use Rattle.std.specs.Prelude.{◌≡◌, ℕ, ◌+◌, ◌*◌, ◌<◌, ◌^◌, List, [], ◌++◌, length, reverse, Some}
use Rattle.bucket_laws.specs.Leaving.{Gone, runs}
use Rattle.flow_bucket.specs.Stands.{BucketMay, BucketAnswers}
use Rattle.flow_object.specs.declared.outcome.FlowLine.{FlowLine}
use Rattle.flow_pool.specs.Pool.{FlowPoolMay, FlowPoolAnswers, setting_of}
use Rattle.hist_lock.specs.Locks.{made_with}
use Rattle.role_steps.specs.Items.{Items, LinesOf}
use Rattle.role_steps.specs.Roles.{Fits, IsShared, number_of, seen, setup_of}
use Rattle.role_steps.specs.declared.roles.Passes.{Passes}
use Rattle.role_steps.specs.declared.roles.Recycler.{Recycler}
use Rattle.role_steps.specs.declared.roles.Shared.{Shared}
use Rattle.run_rules.specs.Acts.{Act, AreActs}
use Rattle.run_rules.specs.Growing.{HasGrown}
use Rattle.run_rules.specs.Histories.{Histories, bucket_at}
use Rattle.run_rules.specs.Serving.{finished, queue_after}
use Rattle.run_rules.specs.Setup.{fixed_at, recycler}
use Rattle.segment_pool.specs.Pool.{PoolMay as SegPoolMay, PoolAnswers as SegPoolAnswers, limit_of}
use Rattle.suri_base.specs.History.{Legal}

-- a legal history for each lock, that begins with what the role has seen
pub record IsChoice (s : Shared) (p : Passes) (t : Histories) : Type 0 where
  pub begins : HasGrown (seen p) t
  pub pool : Legal (FlowPoolMay (setting_of (made_with s.pool))) (FlowPoolAnswers (setting_of (made_with s.pool))) t.pool
  pub segments : Legal (SegPoolMay (limit_of (made_with s.segments))) (SegPoolAnswers (limit_of (made_with s.segments))) t.segments
  pub buckets : (b : ℕ) → b < length t.buckets → Legal (BucketMay (fixed_at (setup_of s) b)) (BucketAnswers (fixed_at (setup_of s) b)) (bucket_at b t.buckets)

-- of the queues that came in the rounds before nothing waits; what waits is the queue of this round, read over a choice of histories
pub record IsQueue (s : Shared) (r : Recycler) (t : Histories) (before : List Act) (came queue : List Gone) : Type 0 where
  pub choice : IsChoice s r.passes t
  pub own : AreActs (setup_of s) (seen r.passes) (number_of r.passes) before
  pub step : length before ≡ r.passes.step
  pub served : queue_after came before ≡ Some []
  pub items : Items (setup_of s) t queue r.waiting.items

-- when a round of the recycler may begin
pub record MayRecycle (s : Shared) (r : Recycler) : Type 0 where
  pub shared : IsShared s
  pub fits : Fits s r.passes
  pub number : number_of r.passes ≡ recycler (setup_of s)
  pub steps : r.passes.step + 2 * length r.waiting.items < 2 ^ 36
  pub choice : Histories
  pub before : List Act
  pub came : List Gone
  pub queue : List Gone
  pub waits : IsQueue s r choice before came queue

-- what the round says of one choice of histories
pub record RecycledOver (s : Shared) (old new : Recycler) (now : List Act) (t : Histories) (before : List Act) (came queue : List Gone) : Type 0 where
  -- the role's entries are those from before, and these
  pub own : AreActs (setup_of s) (seen new.passes) (number_of old.passes) (now ++ before)
  -- by its script nothing waits any more
  pub emptied : queue_after (came ++ queue) (now ++ before) ≡ Some []
  -- it finished the runs of the queue, in order
  pub finished : reverse (finished now) ≡ runs queue
  -- and added just their lines
  pub lines : List FlowLine
  pub grew : new.lines.items ≡ old.lines.items ++ lines
  pub told : LinesOf (setup_of s) t (runs queue) lines

-- what the round says: the acts by which the recycler went on, and what they are, whatever histories are chosen
pub record Recycled (s : Shared) (old new : Recycler) : Type 0 where
  pub fits : Fits s new.passes
  pub number : number_of new.passes ≡ number_of old.passes
  pub grown : HasGrown (seen old.passes) (seen new.passes)
  pub now : List Act
  pub step : new.passes.step ≡ old.passes.step + length now
  pub few : new.passes.step < 2 ^ 36
  pub over : (t : Histories) (before : List Act) (came queue : List Gone) → IsQueue s old t before came queue → RecycledOver s old new now t before came queue
