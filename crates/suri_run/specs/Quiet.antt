-- What is reported of a capture where no object and no node was ever short: its plain runs, whatever the workers, batches, rounds and rows.
use Rattle.std.specs.Prelude.{◌≡◌, ℕ, Bool, List, ◌++◌, Ok, Option}
use Rattle.std.specs.Io.KnownBytes.{Appends}
use Rattle.capture_index.specs.Index.{captured_of}
use Rattle.clap.specs.Words.{Text}
use Rattle.eve_record.specs.StatsLine.{stats_line}
use Rattle.flow_object.specs.declared.outcome.FlowLine.{FlowLine}
use Rattle.pcap_read.specs.File.{CaptureFile, Reads}
use Rattle.quiet_laws.specs.Counts.{ArePlainCounts}
use Rattle.record_texts.specs.Lines.{lines_of}
use Rattle.run_round.specs.Quiet.{ArePlainRecords}
use Rattle.run_stats.specs.declared.stats.Stats.{Stats}
use Rattle.suri_base.specs.Trail.{Trailed}
use Rattle.suri_opts.specs.declared.types.Options.{Options}
use Rattle.suri_run.specs.Report.{audit_of, written_for}
use Rattle.suri_run.specs.Run.{ComeFrom, Takes}

-- the text reports the capture in the bytes by its plain runs: the lines of their records, and then the stats line with the counts of the capture and
-- of these records. Of all options it asks for the seed, the depth, and whether there are netflow lines.
pub record IsPlainReport (seed depth : ℕ) (netflow : Bool) (bytes text : List ℕ) : Type 0 where
  pub file : CaptureFile
  pub reads : Reads bytes (Ok file)
  pub lines : List FlowLine
  pub records : ArePlainRecords depth (captured_of bytes file) lines
  pub stats : Stats
  pub counts : ArePlainCounts (captured_of bytes file) lines stats
  pub is_text : text ≡ lines_of seed netflow lines ++ stats_line stats

-- what the sink took is the text that reports, by its plain runs, the capture which the run was about: the generated one, or else the one that the
-- source had left where it tells its bytes. Where it was generated, it is the summary of that text; else the audit of this trail stands behind it,
-- where it is asked for.
pub record TookPlainReport (trail : Trailed) (words : List Text) (left taken now : Option (List ℕ)) : Type 0 where
  pub options : Options
  pub takes : Takes words options
  pub bytes : List ℕ
  pub from : ComeFrom options.generate left bytes
  pub text : List ℕ
  pub report : IsPlainReport options.seed options.layout.depth options.netflow bytes text
  pub took : Appends taken now (written_for options.generate report.stats text ++ audit_of options trail)

-- two outputs, each by its options and its trail, are the same but for the audits at their ends
pub record AreAlike (o p : Options) (trail another : Trailed) (text other : List ℕ) : Type 0 where
  pub common : List ℕ
  pub first : text ≡ common ++ audit_of o trail
  pub second : other ≡ common ++ audit_of p another
