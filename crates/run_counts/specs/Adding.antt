-- The records of all runs of a trail, and the frames under all decoder counters.
use Rattle.std.specs.Prelude.{◌≡◌, ℕ, ◌+◌, List, map, Some}
use Rattle.flow_object.specs.declared.outcome.FlowLine.{FlowLine}
use Rattle.run_rules.specs.Histories.{Histories}
use Rattle.run_rules.specs.Runs.{line_in, runs_in}
use Rattle.run_rules.specs.Setup.{Setup}
use Rattle.run_stats.specs.declared.stats.Stats.{Stats}

-- these are the records of all runs, one of each, by the rising numbers of the runs
abbrev pub AreRecordsOf : Setup → Histories → List FlowLine → Type 0
AreRecordsOf w t lines = map (λ l. Some l) lines ≡ map (λ run. line_in w t run) (runs_in t)

-- the frames under the fourteen decoder counters together
abbrev pub under_counters : Stats → ℕ
under_counters s =
    s.link_small + s.vlan_small + s.vlan_deep + s.ethertype + s.ip_small + s.ip_version + s.ip_header + s.ip_extensions + s.fragment + s.tcp_small + s.tcp_header + s.udp_small
    + s.icmp_small + s.other_proto
