-- Who let the runs go that the recycler and the end role finish, and in which round.
use Rattle.std.specs.Prelude.{◌≡◌, ℕ, ◌+◌, ◌==◌, ◌<◌, true, if◌then◌else◌, List, length, Option, Some, None}
use Rattle.suri_base.specs.History.{Begins, entry}
use Rattle.suri_base.specs.declared.entry.BucketNote.{BucketNote}
use Rattle.suri_base.specs.declared.entry.BucketNote.TheVariants.{Drained}
use Rattle.suri_base.specs.declared.entry.Entry.{Entry}
use Rattle.bucket_rules.specs.Row.{lets_go}
use Rattle.bucket_laws.specs.Places.{At}
use Rattle.run_rules.specs.Acts.{Act}
use Rattle.run_rules.specs.Histories.{Histories, bucket_at}
use Rattle.run_rules.specs.Manager.{Sweep, new_manager, swept_after}
use Rattle.run_rules.specs.Setup.{Setup, ender, fixed_at, manager, rounds, work_of}
use Rattle.run_rules.specs.SoFar.{AreScriptedSoFar}
use Rattle.run_rules.specs.Worker.{Stand, fresh, stand_after}

-- how many hands of rounds that are over were put away
abbrev pub ended_by_stand : Option Stand → Option ℕ
ended_by_stand None = None
ended_by_stand (Some s) = Some (length s.hands)

abbrev pub ended_by_sweep : Option Sweep → Option ℕ
ended_by_sweep None = None
ended_by_sweep (Some s) = Some (length s.hands)

-- how many rounds a worker or the manager has ended by these acts. A worker puts the hand of a round away when it begins the next batch
abbrev pub ended_after : Setup → ℕ → List Act → Option ℕ
ended_after w role acts = if role == manager w then ended_by_sweep (swept_after w new_manager acts) else ended_by_stand (stand_after w (fresh (work_of w role)) acts)

-- an entry of a worker or of the manager let the run go, in the round of this number, counted from 0: so many rounds that role had ended before.
-- Its step is the number of acts that the role had done
pub record HasLeftIn (w : Setup) (t : Histories) (acts : ℕ → List Act) (run round : ℕ) : Type 0 where
  pub role : ℕ
  pub other : role < manager w + 1
  pub bucket : ℕ
  pub real : bucket < length t.buckets
  pub before : List Act
  pub began : Begins before (acts role)
  pub in_round : ended_after w role before ≡ Some round
  pub note : BucketNote
  pub past : List (Entry BucketNote)
  pub place : At (entry role (length before) note) past (bucket_at bucket t.buckets)
  pub left : lets_go (fixed_at w bucket) past note run ≡ true

-- the end role let the run go when it drained a bucket, at a step before this one
pub record HasDrained (w : Setup) (t : Histories) (step run : ℕ) : Type 0 where
  pub bucket : ℕ
  pub real : bucket < length t.buckets
  pub at_step : ℕ
  pub count : ℕ
  pub past : List (Entry BucketNote)
  pub place : At (entry (ender w) at_step (Drained count)) past (bucket_at bucket t.buckets)
  pub left : lets_go (fixed_at w bucket) past (Drained count) run ≡ true
  pub earlier : at_step < step

-- what the recycler finishes: a run that was let go in a round before the last
pub record IsOfRound (w : Setup) (t : Histories) (acts : ℕ → List Act) (run : ℕ) : Type 0 where
  pub round : ℕ
  pub went : HasLeftIn w t acts run round
  pub early : round + 1 < rounds w

-- what the end role finishes at this step: a run that was let go in the last round, or one that it drained itself
pub data IsOfEnd (w : Setup) (t : Histories) (acts : ℕ → List Act) (step run : ℕ) : Type 0 where
  of_last : (round : ℕ) → HasLeftIn w t acts run round → round + 1 ≡ rounds w → IsOfEnd w t acts step run
  of_drain : HasDrained w t step run → IsOfEnd w t acts step run

-- what waits for the recycler in a trail that is lawful so far: a run that was let go in a round whose hands came to it, so that all have ended that round
pub record IsOfServed (w : Setup) (t : Histories) (s : AreScriptedSoFar w t) (run : ℕ) : Type 0 where
  pub round : ℕ
  pub went : HasLeftIn w t s.acts run round
  pub over : round < s.served
