-- The text of a run that never was short of an object or of a node is that of the plain runs of its capture. These have one text for each seed, each
-- depth and each choice of netflow lines; so two such runs over one capture have the same, but for the audits behind it.
use Rattle.std.proofs.Common.{◌≡◌, ◌≤◌, ℕ, Bool, List, ◌++◌, length, Ok, Option, Some, sym, refl, ap, ◌∙◌, subst}
use Rattle.std.specs.Io.KnownBytes.{Appends}
use Rattle.capture_index.specs.Index.{captured_of}
use Rattle.clap.specs.Words.{Text}
use Rattle.eve_record.specs.StatsLine.{stats_line}
use Rattle.flow_object.specs.declared.outcome.FlowLine.{FlowLine}
use Rattle.pcap_read.proofs.Once.{reads_once}
use Rattle.pcap_read.specs.File.{CaptureFile, Reads}
use Rattle.quiet_laws.proofs.Counting.{one_count}
use Rattle.quiet_laws.specs.Counts.{ArePlainCounts}
use Rattle.quiet_limits.proofs.Limits.{quiet}
use Rattle.quiet_limits.specs.Payloads.{tcp_payloads}
use Rattle.record_texts.specs.Lines.{lines_of}
use Rattle.run_round.proofs.Plain.{quiet_counts, quiet_records, records_once}
use Rattle.run_round.specs.Quiet.{ArePlainRecords}
use Rattle.run_rules.specs.Histories.{histories_of}
use Rattle.run_rules.specs.Quiet.{IsQuiet}
use Rattle.run_stats.specs.declared.stats.Stats.{Stats}
use Rattle.suri_base.specs.Capture.{packets_in}
use Rattle.suri_base.specs.Trail.{Trailed}
use Rattle.suri_opts.specs.declared.types.Options.{Options}
use Rattle.suri_run.proofs.Outputs.{file_or}
use Rattle.suri_run.specs.Quiet.{AreAlike, IsPlainReport, TookPlainReport}
use Rattle.suri_run.specs.Report.{IsAccount, audit_of, output_of, setup_in, text_of, written_for}
use Rattle.suri_run.specs.Run.{IsHeadline, IsReport}

-- an account of the bytes by a quiet trail has the text of the plain runs
pub quiet_report : (o : Options) (bytes : List ℕ) (trail : Trailed) (lines : List FlowLine) (stats : Stats) → IsAccount o bytes trail lines stats → IsQuiet (histories_of trail)
    → IsPlainReport o.seed o.layout.depth o.netflow bytes (text_of o lines stats)
quiet_report o bytes trail lines stats a q = record {
  file = a.file;
  reads = a.reads;
  lines = lines;
  records = quiet_records (setup_in o bytes a.file) trail lines a.accounts q;
  stats = stats;
  counts = quiet_counts (setup_in o bytes a.file) trail lines a.accounts q stats a.counts;
  is_text = refl;
}

-- the plain runs of the capture in some bytes are the same in two reports: so are their records and counts,
module _ (seed sown depth : ℕ) (netflow chosen : Bool) (bytes text other : List ℕ) (a : IsPlainReport seed depth netflow bytes text) (b : IsPlainReport sown depth chosen bytes other) where
  same_file : b.file ≡ a.file
  same_file = ap (file_or b.file) (reads_once bytes (Ok b.file) (Ok a.file) b.reads a.reads)

  pub same_lines : a.lines ≡ b.lines
  same_lines =
      records_once depth (captured_of bytes a.file) a.lines b.lines a.records
      (subst (λ (f : CaptureFile). ArePlainRecords depth (captured_of bytes f) b.lines) same_file b.records)

  pub same_stats : a.stats ≡ b.stats
  same_stats =
      one_count (captured_of bytes a.file) b.lines a.stats b.stats
      (subst (λ (l : List FlowLine). ArePlainCounts (captured_of bytes a.file) l a.stats) same_lines a.counts)
      (subst (λ (f : CaptureFile). ArePlainCounts (captured_of bytes f) b.lines b.stats) same_file b.counts)

-- and, under one seed and one choice of netflow lines, their text
pub one_plain_report : (seed depth : ℕ) (netflow : Bool) (bytes text other : List ℕ) → IsPlainReport seed depth netflow bytes text → IsPlainReport seed depth netflow bytes other → text ≡ other
one_plain_report seed depth netflow bytes text other a b =
    a.is_text
    ∙ (ap (λ (l : List FlowLine). lines_of seed netflow l ++ stats_line a.stats) (same_lines seed seed depth netflow netflow bytes text other a b)
    ∙ (ap (λ (s : Stats). lines_of seed netflow b.lines ++ stats_line s) (same_stats seed seed depth netflow netflow bytes text other a b) ∙ sym b.is_text))

-- so two runs over one capture that never were short of anything have the same text, where seed, depth and netflow lines are chosen alike
pub quiet_texts_alike : (o p : Options) (bytes : List ℕ) (trail another : Trailed) (lines others : List FlowLine) (stats counts : Stats) → IsAccount o bytes trail lines stats
    → IsAccount p bytes another others counts → IsQuiet (histories_of trail) → IsQuiet (histories_of another) → o.seed ≡ p.seed → o.layout.depth ≡ p.layout.depth → o.netflow ≡ p.netflow
    → text_of o lines stats ≡ text_of p others counts
quiet_texts_alike o p bytes trail another lines others stats counts a b q r seed depth netflow =
    let first : IsPlainReport o.seed o.layout.depth o.netflow bytes (text_of o lines stats) = quiet_report o bytes trail lines stats a q in
    one_plain_report p.seed p.layout.depth p.netflow bytes (text_of o lines stats) (text_of p others counts)
    (subst (λ (c : Bool). IsPlainReport p.seed p.layout.depth c bytes (text_of o lines stats)) netflow
    (subst (λ (n : ℕ). IsPlainReport p.seed n o.netflow bytes (text_of o lines stats)) depth
    (subst (λ (n : ℕ). IsPlainReport n o.layout.depth o.netflow bytes (text_of o lines stats)) seed first)))
    (quiet_report p bytes another others counts b r)

-- and the same counts, however the text is chosen
pub quiet_counts_alike : (o p : Options) (bytes : List ℕ) (trail another : Trailed) (lines others : List FlowLine) (stats counts : Stats) → IsAccount o bytes trail lines stats
    → IsAccount p bytes another others counts → IsQuiet (histories_of trail) → IsQuiet (histories_of another) → o.layout.depth ≡ p.layout.depth → stats ≡ counts
unfolding quiet_report
quiet_counts_alike o p bytes trail another lines others stats counts a b q r depth =
    same_stats o.seed p.seed p.layout.depth o.netflow p.netflow bytes (text_of o lines stats) (text_of p others counts)
    (subst (λ (n : ℕ). IsPlainReport o.seed n o.netflow bytes (text_of o lines stats)) depth (quiet_report o bytes trail lines stats a q))
    (quiet_report p bytes another others counts b r)

-- a run with the status 0 whose trail is quiet wrote the text of the plain runs and then its audit, or the summary of the text
abbrev trail_in : Trailed → Option Trailed → Trailed
trail_in other (Some t) = t
trail_in other _ = other

pub took_plainly : (told : Option Trailed) (words : List Text) (left taken now : Option (List ℕ)) (trail : Trailed) → IsHeadline told words left taken now → told ≡ Some trail
    → IsQuiet (histories_of trail) → TookPlainReport trail words left taken now
unfolding quiet_report
took_plainly told words left taken now trail h is q =
    let same : trail ≡ h.run_trail = ap (trail_in trail) (sym is ∙ h.told) in
    record {
      options = h.options;
      takes = h.takes;
      bytes = h.bytes;
      from = h.from;
      text = text_of h.options h.lines h.stats;
      report = quiet_report h.options h.bytes h.run_trail h.lines h.stats h.account (subst (λ (t : Trailed). IsQuiet (histories_of t)) same q);
      took = subst (λ (t : Trailed). Appends taken now (output_of h.options h.lines h.stats t)) (sym same) h.text;
    }

-- and two such runs over one capture write the same but for their audits, where seed, depth, netflow lines and the choice of a generated capture are
-- alike
pub quiet_outputs_alike : (o p : Options) (bytes text other : List ℕ) (trail another : Trailed) → IsReport o bytes trail text → IsReport p bytes another other → IsQuiet (histories_of trail)
    → IsQuiet (histories_of another) → o.seed ≡ p.seed → o.layout.depth ≡ p.layout.depth → o.netflow ≡ p.netflow → o.generate ≡ p.generate → AreAlike o p trail another text other
quiet_outputs_alike o p bytes text other trail another a b q r seed depth netflow generate =
    let texts = quiet_texts_alike o p bytes trail another a.lines b.lines a.stats b.stats a.account b.account q r seed depth netflow in
    let counts = quiet_counts_alike o p bytes trail another a.lines b.lines a.stats b.stats a.account b.account q r depth in
    let same : written_for o.generate a.stats (text_of o a.lines a.stats) ≡ written_for p.generate b.stats (text_of p b.lines b.stats) =
    ap (λ (g : Option (ℕ × ℕ)). written_for g a.stats (text_of o a.lines a.stats)) generate
    ∙ (ap (λ (s : Stats). written_for p.generate s (text_of o a.lines a.stats)) counts ∙ ap (λ (t : List ℕ). written_for p.generate b.stats t) texts) in
    record {
      common = written_for p.generate b.stats (text_of p b.lines b.stats);
      first = a.is_text ∙ ap (λ (t : List ℕ). t ++ audit_of o trail) same;
      second = b.is_text;
    }

-- the trail is quiet where the limits are at least what the capture could ask for
pub wide_is_quiet : (o : Options) (bytes text : List ℕ) (file : CaptureFile) (trail : Trailed) → IsReport o bytes trail text → Reads bytes (Ok file)
    → length (packets_in (captured_of bytes file).seen) ≤ o.layout.memcap → length (tcp_payloads (captured_of bytes file).seen) ≤ o.layout.segments → IsQuiet (histories_of trail)
wide_is_quiet o bytes text file trail r reads objects nodes =
    let a = r.account in
    let same : file ≡ a.file = ap (file_or file) (reads_once bytes (Ok file) (Ok a.file) reads a.reads) in
    quiet (setup_in o bytes a.file) (histories_of trail) a.accounts.setup a.accounts.lawful.histories.scripted
    (subst (λ (f : CaptureFile). length (packets_in (captured_of bytes f).seen) ≤ o.layout.memcap) same objects)
    (subst (λ (f : CaptureFile). length (tcp_payloads (captured_of bytes f).seen) ≤ o.layout.segments) same nodes)
