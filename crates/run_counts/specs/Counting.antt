-- What is counted of a run: of its capture, of its flow records, and of the histories of its machines.
use Rattle.std.specs.Prelude.{◌≡◌, ℕ, ◌+◌, ◌&&◌, not, Bool, true, false, if◌then◌else◌, List, [], ◌∷◌, count_by, sum_by}
use Rattle.suri_base.specs.Capture.{Captured}
use Rattle.suri_base.specs.Trail.{Trailed}
use Rattle.suri_base.specs.declared.entry.BucketNote.{BucketNote}
use Rattle.suri_base.specs.declared.entry.BucketNote.TheVariants.{Refused}
use Rattle.suri_base.specs.declared.entry.Entry.{Entry}
use Rattle.suri_base.specs.declared.entry.PoolNote.{PoolNote}
use Rattle.flow_object.specs.declared.outcome.FlowLine.{FlowLine}
use Rattle.flow_pool.specs.Counting.{is_on}
use Rattle.run_rules.specs.Histories.{Histories, histories_of}
use Rattle.run_rules.specs.Quiet.{is_full, is_short}
use Rattle.run_stats.specs.Counting.{IsCounted}
use Rattle.run_stats.specs.declared.stats.Stats.{Stats}

-- a packet found no flow and no room for one
abbrev pub is_refusal : BucketNote → Bool
is_refusal (Refused f) = true
is_refusal _ = false

-- how many entries of a history refuse a packet, and of all buckets' histories
abbrev pub refusals : List (Entry BucketNote) → ℕ
refusals history = count_by (λ e. is_refusal e.note) history

abbrev pub all_refusals : List (List (Entry BucketNote)) → ℕ
all_refusals buckets = sum_by (λ h. refusals h) buckets

-- the pool of flows was full while no emergency was on
abbrev pub begins_emergency : Bool → PoolNote → Bool
begins_emergency on n = is_full n && not on

-- how often that was so, by a history with the newest entry first: each entry after those before it
abbrev pub emergencies_begun : List (Entry PoolNote) → ℕ
emergencies_begun [] = 0
emergencies_begun (e ∷ past) = if begins_emergency (is_on past) e.note then emergencies_begun past + 1 else emergencies_begun past

-- what is counted of the histories, each with the newest entry first
pub record AreHistoryCounts (t : Histories) (s : Stats) : Type 0 where
  pub no_flow : s.no_flow ≡ all_refusals t.buckets
  pub memcap_full : s.memcap_full ≡ count_by (λ e. is_full e.note) t.pool
  pub segment_full : s.segment_full ≡ count_by (λ e. is_short e.note) t.segments
  pub emergency_entered : s.emergency_entered ≡ emergencies_begun t.pool

-- the counts of a capture, of the records made of it, and of a trail
pub record IsStatsOf (capture : Captured) (lines : List FlowLine) (trail : Trailed) (s : Stats) : Type 0 where
  pub counted : IsCounted capture lines s
  pub of_histories : AreHistoryCounts (histories_of trail) s
