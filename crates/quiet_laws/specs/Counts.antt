-- What is counted of a run that never was short of an object or of a node.
use Rattle.std.specs.Prelude.{◌≡◌, List}
use Rattle.flow_object.specs.declared.outcome.FlowLine.{FlowLine}
use Rattle.run_stats.specs.Counting.{IsCounted}
use Rattle.run_stats.specs.declared.stats.Stats.{Stats}
use Rattle.suri_base.specs.Capture.{Captured}

-- no packet found no room, no pool was ever full, and no emergency began
pub record CountsNoShortage (s : Stats) : Type 0 where
  pub no_flow : s.no_flow ≡ 0
  pub memcap_full : s.memcap_full ≡ 0
  pub segment_full : s.segment_full ≡ 0
  pub emergency_entered : s.emergency_entered ≡ 0

-- the counts of a capture and of these records, where nothing was ever short
pub record ArePlainCounts (capture : Captured) (lines : List FlowLine) (s : Stats) : Type 0 where
  pub counted : IsCounted capture lines s
  pub short : CountsNoShortage s
