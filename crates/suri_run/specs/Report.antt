-- What is reported of a capture: the flow records of a run of the engine over it, and the counts of the stats line.
use Rattle.std.specs.Prelude.{◌≡◌, ℕ, ◌+◌, ◌*◌, ◌<◌, ◌≤◌, Bool, true, false, List, [], ◌++◌, Ok, Option, Some, None}
use Rattle.suri_base.specs.Trail.{Trailed}
use Rattle.pcap_read.specs.File.{CaptureFile, Reads}
use Rattle.flow_object.specs.declared.outcome.FlowLine.{FlowLine}
use Rattle.capture_index.specs.Index.{captured_of}
use Rattle.run_rules.specs.Setup.{Setup, rounds}
use Rattle.run_round.specs.Accounts.{AccountsFor, setup_for}
use Rattle.run_stats.specs.declared.stats.Stats.{Stats}
use Rattle.run_counts.specs.Adding.{under_counters}
use Rattle.run_counts.specs.Counting.{IsStatsOf}
use Rattle.eve_record.specs.StatsLine.{stats_line}
use Rattle.eve_record.specs.SummaryLine.{summary_of}
use Rattle.record_texts.specs.Lines.{lines_of}
use Rattle.suri_opts.specs.declared.types.Options.{Options}
use Rattle.trail_text.specs.Lines.{text_of_trail}

-- the capture of these bytes, which hold this file, laid out by the options
abbrev pub setup_in : Options → List ℕ → CaptureFile → Setup
setup_in o bytes file = setup_for (captured_of bytes file) o.layout

-- what a run with this trail reports of the bytes, whatever its workers and the order in which its roles had the locks
pub record IsAccount (o : Options) (bytes : List ℕ) (trail : Trailed) (lines : List FlowLine) (stats : Stats) : Type 0 where
  -- the bytes are this capture file, with no more rounds and rows than the limit
  pub file : CaptureFile
  pub reads : Reads bytes (Ok file)
  pub fits : rounds (setup_in o bytes file) * o.layout.rows ≤ 16777216
  -- the trail is lawful, and the records are one for each of its runs; each packet is a member of one run or was refused; each run is cut from the
  -- packets of its key and has its end and its cause, and so has each refusal; each object came back once before it was used again
  pub accounts : AccountsFor (setup_in o bytes file) trail lines
  pub counts : IsStatsOf (captured_of bytes file) lines trail stats
  -- so each frame of the capture is counted once: under one decoder counter, as a packet without a flow, or in one flow record
  pub once : stats.frames ≡ under_counters stats + stats.no_flow + stats.packets

-- the bytes hold a capture that makes so many rounds of so many rows, and these are above the limit
pub record AreMany (o : Options) (bytes : List ℕ) (count table_rows : ℕ) : Type 0 where
  pub file : CaptureFile
  pub reads : Reads bytes (Ok file)
  pub count_is : count ≡ rounds (setup_in o bytes file)
  pub rows_are : table_rows ≡ o.layout.rows
  pub more : 16777216 < count * table_rows

-- the whole text: the lines of the records, and then the stats line
abbrev pub text_of : Options → List FlowLine → Stats → List ℕ
text_of o lines stats = lines_of o.seed o.netflow lines ++ stats_line stats

-- where a capture was generated from this seed and so many frames, the summary stands in place of the text
abbrev pub written_for : Option (ℕ × ℕ) → Stats → List ℕ → List ℕ
written_for None stats text = text
written_for (Some g) stats text = summary_of stats g.0 g.1 text

-- behind the text stands the trail, where an audit is asked for; behind a summary nothing
abbrev pub audit_behind : Option (ℕ × ℕ) → Bool → Trailed → List ℕ
audit_behind None true trail = text_of_trail trail
audit_behind None false trail = []
audit_behind (Some g) audit trail = []

abbrev pub audit_of : Options → Trailed → List ℕ
audit_of o trail = audit_behind o.generate o.audit trail

-- what is written: the text or the summary of it, and then the audit
abbrev pub output_of : Options → List FlowLine → Stats → Trailed → List ℕ
output_of o lines stats trail = written_for o.generate stats (text_of o lines stats) ++ audit_of o trail
