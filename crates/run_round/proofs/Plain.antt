-- What a run reports where neither pool was ever full: the records of the plain runs of its capture, and their counts. A capture has one list of
-- plain runs, and so of such records.
use Rattle.std.proofs.Common.{◌≡◌, ℕ, List, sym, ap, ◌∙◌, subst}
use Rattle.flow_object.specs.declared.outcome.FlowLine.{FlowLine}
use Rattle.plain_runs.proofs.Growing.{capture_has}
use Rattle.plain_runs.proofs.Same.{plain_once}
use Rattle.plain_runs.specs.Plain.{PlainRun, records_of}
use Rattle.quiet_laws.proofs.Counting.{plain_counts, plain_lines}
use Rattle.quiet_laws.specs.Counts.{ArePlainCounts}
use Rattle.run_counts.specs.Counting.{IsStatsOf}
use Rattle.run_round.specs.Accounts.{AccountsFor}
use Rattle.run_round.specs.Quiet.{ArePlainRecords}
use Rattle.run_rules.specs.Histories.{histories_of}
use Rattle.run_rules.specs.Quiet.{IsQuiet}
use Rattle.run_rules.specs.Setup.{Setup}
use Rattle.run_stats.specs.declared.stats.Stats.{Stats}
use Rattle.suri_base.specs.Capture.{Captured, packets_in}
use Rattle.suri_base.specs.Clock.{clock_of}
use Rattle.suri_base.specs.Trail.{Trailed}

pub quiet_records : (w : Setup) (t : Trailed) (lines : List FlowLine) → AccountsFor w t lines → IsQuiet (histories_of t) → ArePlainRecords w.layout.depth w.capture lines
quiet_records w t lines a q =
    let p = capture_has w.capture a.setup.capture in
    record { runs = p.0; plain = p.1; records = plain_lines w (histories_of t) a.setup a.lawful.histories.scripted q p.0 p.1 lines a.records }

pub quiet_counts : (w : Setup) (t : Trailed) (lines : List FlowLine) → AccountsFor w t lines → IsQuiet (histories_of t) → (s : Stats) → IsStatsOf w.capture lines t s
    → ArePlainCounts w.capture lines s
quiet_counts w t lines a q s c = plain_counts w t a.setup a.lawful.histories.scripted q lines s c

pub records_once : (depth : ℕ) (c : Captured) (lines others : List FlowLine) → ArePlainRecords depth c lines → ArePlainRecords depth c others → lines ≡ others
records_once depth c lines others a b =
    a.records
    ∙ (ap (λ (runs : List PlainRun). records_of depth c.bytes (clock_of c.frames) runs) (plain_once (packets_in c.seen) a.runs b.runs a.plain b.plain)
    ∙ sym b.records)

-- so two such runs of one capture have the same records, where they look at as many bytes of each stream
pub alike_records : (w v : Setup) (t u : Trailed) (lines others : List FlowLine) → AccountsFor w t lines → AccountsFor v u others → IsQuiet (histories_of t) → IsQuiet (histories_of u)
    → w.capture ≡ v.capture → w.layout.depth ≡ v.layout.depth → lines ≡ others
alike_records w v t u lines others a b q r capture depth =
    records_once v.layout.depth v.capture lines others
    (subst (λ (n : ℕ). ArePlainRecords n v.capture lines) depth (subst (λ (c : Captured). ArePlainRecords w.layout.depth c lines) capture (quiet_records w t lines a q)))
    (quiet_records v u others b r)
