-- What a run reports of a capture, from what it keeps.
use Rattle.std.proofs.Common.{◌≡◌, ℕ, ◌+◌, ◌*◌, ◌≤◌, List, Ok, subst}
use Rattle.capture_index.specs.Index.{captured_of}
use Rattle.flow_object.specs.declared.outcome.FlowLine.{FlowLine}
use Rattle.pcap_read.specs.File.{CaptureFile, Reads}
use Rattle.suri_base.specs.Capture.{Captured}
use Rattle.suri_base.specs.Trail.{Trailed}
use Rattle.run_counts.specs.Counting.{IsStatsOf}
use Rattle.run_counts.specs.Adding.{under_counters}
use Rattle.run_round.specs.Accounts.{AccountsFor, setup_for}
use Rattle.run_rules.specs.Setup.{rounds}
use Rattle.run_stats.specs.declared.stats.Stats.{Stats}
use Rattle.suri_opts.specs.declared.types.Options.{Options}
use Rattle.suri_run.specs.Report.{IsAccount}

-- the run over a capture accounts for the bytes of its file
pub accounted : (o : Options) (bytes : List ℕ) (file : CaptureFile) (capture : Captured) (trail : Trailed) (lines : List FlowLine) (stats : Stats)
    → Reads bytes (Ok file) → capture ≡ captured_of bytes file → rounds (setup_for capture o.layout) * o.layout.rows ≤ 16777216
    → AccountsFor (setup_for capture o.layout) trail lines → IsStatsOf capture lines trail stats → stats.frames ≡ under_counters stats + stats.no_flow + stats.packets → IsAccount o bytes trail lines stats
accounted o bytes file capture trail lines stats reads is fits accounts counts once = record {
  file = file;
  reads = reads;
  fits = subst (λ (c : Captured). rounds (setup_for c o.layout) * o.layout.rows ≤ 16777216) is fits;
  accounts = subst (λ (c : Captured). AccountsFor (setup_for c o.layout) trail lines) is accounts;
  counts = subst (λ (c : Captured). IsStatsOf c lines trail stats) is counts;
  once = once;
}
