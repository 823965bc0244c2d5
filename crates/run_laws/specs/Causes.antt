-- Why frames are refused and runs evicted, and which reading of the mode a look or a sweep uses.
use Rattle.std.specs.Prelude.{◌≡◌, ℕ, ◌+◌, ◌<◌, ◌≤◌, Bool, List, [], length, Some}
use Rattle.suri_base.specs.History.{Begins, entry}
use Rattle.suri_base.specs.declared.entry.BucketNote.{BucketNote}
use Rattle.suri_base.specs.declared.entry.BucketNote.TheVariants.{AllInUse}
use Rattle.suri_base.specs.declared.entry.Entry.{Entry}
use Rattle.suri_base.specs.declared.entry.PoolNote.{PoolNote}
use Rattle.suri_base.specs.declared.entry.PoolNote.TheVariants.{Full, Mode}
use Rattle.bucket_laws.specs.Places.{At}
use Rattle.flow_pool.specs.Counting.{flows_out, is_on}
use Rattle.run_rules.specs.Acts.{Act}
use Rattle.run_rules.specs.Histories.{Histories, bucket_at}
use Rattle.run_rules.specs.Setup.{Setup, work_of}
use Rattle.run_rules.specs.Worker.{Stand, fresh, stand_after}

-- bucket b answered the role, between these steps, that all its flows are in use
pub record IsInUse (t : Histories) (role f b from step : ℕ) : Type 0 where
  pub at_step : ℕ
  pub count : ℕ
  pub past : List (Entry BucketNote)
  pub place : At (entry role at_step (AllInUse f count)) past (bucket_at b t.buckets)
  pub later : from < at_step
  pub earlier : at_step < step

-- a frame refused at this step: its worker, which did these acts, had found all objects out, with an empty hand, and since then every
-- bucket had only flows in use
pub record IsRefusedFor (w : Setup) (t : Histories) (acts : List Act) (role step f : ℕ) : Type 0 where
  pub full_step : ℕ
  pub past : List (Entry PoolNote)
  pub full : At (entry role full_step (Full f w.layout.memcap w.layout.memcap)) past t.pool
  pub all_out : flows_out past ≡ w.layout.memcap
  -- what the worker had done then, and its hand
  pub before : List Act
  pub began : Begins before acts
  pub so_far : full_step ≡ length before
  pub stand : Stand
  pub stood : stand_after w (fresh (work_of w role)) before ≡ Some stand
  pub empty : stand.hand ≡ []
  pub in_use : (b : ℕ) → b < w.layout.rows → IsInUse t role f b full_step step

-- a run evicted for a frame at this step: the worker had found all objects out
pub record IsForcedFor (w : Setup) (t : Histories) (role step f : ℕ) : Type 0 where
  pub full_step : ℕ
  pub past : List (Entry PoolNote)
  pub full : At (entry role full_step (Full f w.layout.memcap w.layout.memcap)) past t.pool
  pub all_out : flows_out past ≡ w.layout.memcap
  pub earlier : full_step < step

-- entry number `seen` of the pool told the role the mode, which it was then, at an earlier step, and the role didn't read it again before this one
pub record IsRead (t : Histories) (role step : ℕ) (emergency : Bool) (seen : ℕ) : Type 0 where
  pub read_step : ℕ
  pub past : List (Entry PoolNote)
  pub read : At (entry role read_step (Mode emergency)) past t.pool
  pub number : seen ≡ length past + 1
  pub on : is_on past ≡ emergency
  pub earlier : read_step < step
  pub newest : (s : ℕ) (told : Bool) (before : List (Entry PoolNote)) → At (entry role s (Mode told)) before t.pool → s < step → s ≤ read_step
