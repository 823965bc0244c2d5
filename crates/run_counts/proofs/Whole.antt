-- Each packet of a capture is a member of one run or was refused, once: so over all buckets the members of runs and the refused packets weigh
-- what the packets weigh, whatever is weighed. For each frame the answers of all buckets are one, where it bears a packet, and else none: those
-- of the bucket of its key. A record tells of the members of its run, and the records are those of all runs. And each frame bears a packet or
-- falls under one counter.
use Rattle.std.proofs.Common.{◌≡◌, ℕ, ◌==◌, ◌+◌, ◌≤◌, ◌<◌, Bool, true, false, cond, List, [], ◌∷◌, length, map, Option, Some, None, refl, sym, ◌∙◌, ap, subst, arith, mod-lt, ◌/◌}
use Rattle.std.specs.List.{concat}
use Rattle.std.specs.Option.{is_some}
use Rattle.std.specs.Prelude.{sum_by}
use Rattle.std.proofs.lemmas.List.Sums.{sum_by-cons}
use Rattle.bucket_laws.proofs.Tests.{same}
use Rattle.bucket_laws.specs.Counts.{one_if}
use Rattle.bucket_rules.proofs.Words.{none_some, some_is, true_false}
use Rattle.bucket_rules.specs.Packets.{bearing}
use Rattle.bucket_rules.specs.Row.{Place, Row, detached, linked, made, row, unbegun}
use Rattle.flow_object.specs.declared.outcome.FlowLine.{FlowLine}
use Rattle.flow_sum.proofs.Once.{bytes_once, packets_once}
use Rattle.flow_sum.specs.Run.{Run, members}
use Rattle.flow_sum.specs.Sums.{sums_of}
use Rattle.flow_sum.specs.declared.sums.Sums.{Sums}
use Rattle.run_counts.proofs.Adding.{count_joined, joined_below, over_alike, over_joined, over_places, over_rising, over_same, sum_by_place, sum_over}
use Rattle.run_counts.proofs.Answered.{named_once, not_named}
use Rattle.run_counts.proofs.Bearing.{bearers, bears, count_bearers, over_bearers}
use Rattle.run_counts.proofs.Counting.{frames_once}
use Rattle.run_counts.proofs.Naming.{all_named, members_named, refused_count, size_in, weight_of}
use Rattle.run_counts.proofs.Telling.{counters_told}
use Rattle.run_counts.proofs.Summing.{refusals_reversed}
use Rattle.run_counts.specs.Adding.{AreRecordsOf, under_counters}
use Rattle.run_counts.specs.Counting.{AreHistoryCounts, all_refusals, refusals}
use Rattle.run_counts.specs.Frames.{all_counted, counts_of}
use Rattle.run_counts.specs.declared.counts.Counts.{Counts}
use Rattle.run_laws.proofs.Counting.{count_in}
use Rattle.run_laws.proofs.Drained.{drained}
use Rattle.run_laws.proofs.Leavers.{made_own}
use Rattle.run_laws.proofs.Sums.{same_number, sum_one, sum_plus, sum_same, sum_zero}
use Rattle.run_laws.specs.Counts.{sum_below}
use Rattle.run_laws.specs.Setting.{IsSetup}
use Rattle.run_rules.specs.Histories.{Histories, bucket_at, histories_of}
use Rattle.run_rules.specs.Lawful.{AreScripted}
use Rattle.run_rules.specs.Runs.{line_in, line_when, members_in, refused, row_in, runs_in}
use Rattle.run_rules.specs.Setup.{Setup, bucket_by, bucket_for, fixed_at}
use Rattle.run_stats.specs.Counting.{IsCounted}
use Rattle.run_stats.specs.declared.stats.Stats.{Stats}
use Rattle.suri_base.proofs.Captures.{as_many_seen}
use Rattle.suri_base.specs.Capture.{packets_in}
use Rattle.suri_base.specs.Dealing.{bucket_of}
use Rattle.suri_base.specs.Hash.{fnv1a, key_bytes}
use Rattle.suri_base.specs.Trail.{Trailed}
use Rattle.suri_base.specs.declared.entry.BucketNote.{BucketNote}
use Rattle.suri_base.specs.declared.entry.Entry.{Entry}
use Rattle.suri_base.specs.declared.facts.Facts.{Facts}

-- what a record tells of its run, by its sums
module _ (q : Sums → ℕ) (g : Facts → ℕ) (tells : (r : Run) → q (sums_of r) ≡ sum_by g (members r)) where
  abbrev told : Option FlowLine → ℕ
  told None = 0
  told (Some l) = q l.sums

  line_tells : (w : Setup) (r : Row) (ms : List Facts) (place : Place) (l : FlowLine) → Some l ≡ line_when w r ms place → q l.sums ≡ sum_by g ms
  line_tells w r [] place l h = cc
  line_tells w r (m ∷ ms) unbegun l h = cc
  line_tells w r (m ∷ ms) linked l h = cc
  line_tells w r (m ∷ ms) (detached o) l h = ap told h ∙ tells (record { newest = m; older = ms })

  lines_tell : (w : Setup) (t : Histories) (lines : List FlowLine) (runs : List ℕ) → map (λ l. Some l) lines ≡ map (λ run. line_in w t run) runs
      → sum_by (λ l. q l.sums) lines ≡ sum_over (λ run. sum_by g (members_in w t run)) runs
  lines_tell w t [] [] h = refl
  lines_tell w t [] (run ∷ runs) h = cc
  lines_tell w t (l ∷ lines) [] h = cc
  lines_tell w t (l ∷ lines) (run ∷ runs) h =
      let here : Some l ≡ line_in w t run = cc in
      let rest : map (λ k. Some k) lines ≡ map (λ k. line_in w t k) runs = cc in
      let r = row_in w t run in
      omega (arith, sum_by-cons (λ (k : FlowLine). q k.sums) l lines, line_tells w r r.members r.place l here, lines_tell w t lines runs rest)

pub ones : (packets : List Facts) → sum_by (λ p. 1) packets ≡ length packets
ones [] = refl
ones (f ∷ packets) = omega (arith, sum_by-cons (λ (p : Facts). 1) f packets, ones packets)

module _ (w : Setup) (d : IsSetup w) (t : Histories) (l : AreScripted w t) where
  abbrev at_bucket : ℕ → List (Entry BucketNote)
  at_bucket b = bucket_at b t.buckets

  abbrev buckets : ℕ
  buckets = length t.buckets

  -- the answers of one bucket for a frame
  once_at : (a b : ℕ) (p : Facts) → b < buckets → bearing w.capture a ≡ Some p → count_in a (all_named (at_bucket b)) ≡ cond (bucket_of p.key w.layout.rows == b) 1 0
  once_at a b p h k = by (bucket_of p.key w.layout.rows == b) refl
    where
      by : (test : Bool) → (bucket_of p.key w.layout.rows == b) ≡ test → count_in a (all_named (at_bucket b)) ≡ cond test 1 0
      by true e = named_once (fixed_at w b) (at_bucket b) a p (l.legal.buckets b h) (drained w t l b h) k (same_number (bucket_of p.key w.layout.rows) b e)
      by false e = not_named (fixed_at w b) (at_bucket b) a (l.legal.buckets b h) (λ own.
          true_false (same (bucket_of p.key w.layout.rows) b (ap (λ (q : Facts). bucket_of q.key w.layout.rows) (some_is k own.bears) ∙ own.bucket)) e)

  none_at : (a b : ℕ) → b < buckets → bearing w.capture a ≡ None → count_in a (all_named (at_bucket b)) ≡ 0
  none_at a b h k = not_named (fixed_at w b) (at_bucket b) a (l.legal.buckets b h) (λ own. none_some k own.bears)

  -- the bucket of a packet is one of those that there are
  home : (p : Facts) → bucket_of p.key w.layout.rows < buckets
  home p = subst (λ (n : ℕ). bucket_of p.key w.layout.rows < n) (sym l.legal.rows) (mod-lt (fnv1a (key_bytes p.key) / 256) d.layout.rows.0)

  -- the answers of all buckets for a frame
  once_over_all : (a : ℕ) → sum_below buckets (λ b. count_in a (all_named (at_bucket b))) ≡ one_if (bears w.capture a)
  once_over_all a = by (bearing w.capture a) refl
    where
      by : (o : Option Facts) → bearing w.capture a ≡ o → sum_below buckets (λ b. count_in a (all_named (at_bucket b))) ≡ one_if (is_some o)
      by None e = sum_same buckets (λ b. count_in a (all_named (at_bucket b))) (λ b. 0) (λ b h. none_at a b h e) ∙ sum_zero buckets
      by (Some p) e =
          sum_same buckets (λ b. count_in a (all_named (at_bucket b))) (λ b. cond (bucket_of p.key w.layout.rows == b) 1 0) (λ b h. once_at a b p h e)
          ∙ sum_one buckets (bucket_of p.key w.layout.rows) 1 (home p)

  module _ (g : Facts → ℕ) where
    -- so all answers weigh what the packets weigh
    pub answers_are_packets : sum_below buckets (λ b. sum_over (weight_of g w.capture) (all_named (at_bucket b))) ≡ sum_by g (packets_in w.capture.seen)
    answers_are_packets =
        sym (over_places (weight_of g w.capture) buckets (λ b. all_named (at_bucket b)))
        ∙ (over_alike (weight_of g w.capture) (joined_below buckets (λ b. all_named (at_bucket b))) (bearers w.capture)
        (λ a. count_joined a buckets (λ b. all_named (at_bucket b)) ∙ (once_over_all a ∙ sym (count_bearers w.capture a)))
        ∙ over_bearers g w.capture)

    -- what the members of a run weigh
    abbrev weight_in : ℕ → ℕ
    weight_in run = sum_by g (members_in w t run)

    -- a run is in the bucket where it began
    size_at : (b : ℕ) → b < buckets → sum_over weight_in (made (at_bucket b)) ≡ sum_over (size_in g (fixed_at w b) (at_bucket b)) (made (at_bucket b))
    size_at b h = over_same weight_in (size_in g (fixed_at w b) (at_bucket b)) (made (at_bucket b))
        (λ run k.
        let own = made_own (fixed_at w b) (at_bucket b) run (l.legal.buckets b h) k in
        let home_is : bucket_for w run ≡ b = ap (λ (o : Option Facts). bucket_by w.layout.rows o) own.bears ∙ own.bucket in
        ap (λ (c : ℕ). sum_by g (row (fixed_at w c) run (at_bucket c)).members) home_is)

    members_of_runs : sum_over weight_in (runs_in t) ≡ sum_below buckets (λ b. sum_over (size_in g (fixed_at w b) (at_bucket b)) (made (at_bucket b)))
    members_of_runs =
        over_rising weight_in (concat (map (λ h. made h) t.buckets))
        ∙ (over_joined weight_in (λ h. made h) t.buckets
        ∙ (sum_by_place (λ h. sum_over weight_in (made h)) [] t.buckets
        ∙ sum_same buckets (λ b. sum_over weight_in (made (at_bucket b))) (λ b. sum_over (size_in g (fixed_at w b) (at_bucket b)) (made (at_bucket b)))
        (λ b h. size_at b h)))

    -- members and refused packets
    weights_add_up : sum_over weight_in (runs_in t) + sum_below buckets (λ b. sum_over (weight_of g w.capture) (refused (at_bucket b))) ≡ sum_by g (packets_in w.capture.seen)
    weights_add_up =
        let each =
        sum_same buckets (λ b. sum_over (size_in g (fixed_at w b) (at_bucket b)) (made (at_bucket b)) + sum_over (weight_of g w.capture) (refused (at_bucket b)))
        (λ b. sum_over (weight_of g w.capture) (all_named (at_bucket b))) (λ b h. members_named g (fixed_at w b) (at_bucket b) (l.legal.buckets b h)) in
        let two =
        sum_plus buckets (λ b. sum_over (size_in g (fixed_at w b) (at_bucket b)) (made (at_bucket b))) (λ b. sum_over (weight_of g w.capture) (refused (at_bucket b))) in
        omega (arith, each, two, members_of_runs, answers_are_packets)

  refusals_are : sum_below buckets (λ b. sum_over (weight_of (λ f. 1) w.capture) (refused (at_bucket b))) ≡ all_refusals t.buckets
  refusals_are =
      sum_same buckets (λ b. sum_over (weight_of (λ f. 1) w.capture) (refused (at_bucket b))) (λ b. refusals (at_bucket b))
      (λ b h. refused_count (fixed_at w b) (at_bucket b) (l.legal.buckets b h))
      ∙ sym (sum_by_place (λ h. refusals h) [] t.buckets)

  packets_add_up : sum_over (λ run. sum_by (λ f. 1) (members_in w t run)) (runs_in t) + all_refusals t.buckets ≡ length (packets_in w.capture.seen)
  packets_add_up = omega (arith, weights_add_up (λ f. 1), refusals_are, ones (packets_in w.capture.seen))

  packets_told : (lines : List FlowLine) → AreRecordsOf w t lines → sum_by (λ k. k.sums.ts.pkts + k.sums.tc.pkts) lines ≡ sum_over (λ run. sum_by (λ f. 1) (members_in w t run)) (runs_in t)
  packets_told lines r = lines_tell (λ q. q.ts.pkts + q.tc.pkts) (λ f. 1) (λ m. packets_once m ∙ sym (ones (members m))) w t lines (runs_in t) r

  -- no more bytes than those of the packets
  pub bytes_few : (lines : List FlowLine) → AreRecordsOf w t lines → sum_by (λ k. k.sums.ts.bytes + k.sums.tc.bytes) lines ≤ sum_by (λ f. f.len) (packets_in w.capture.seen)
  bytes_few lines r = omega (arith, lines_tell (λ q. q.ts.bytes + q.tc.bytes) (λ f. f.len) bytes_once w t lines (runs_in t) r, weights_add_up (λ f. f.len))

  -- no more than the frames
  frames_cover : length (packets_in w.capture.seen) ≤ length w.capture.frames
  frames_cover = omega (arith, frames_once w.capture.seen, as_many_seen w.capture d.capture)

  pub recorded_few : (lines : List FlowLine) → AreRecordsOf w t lines → sum_by (λ k. k.sums.ts.pkts + k.sums.tc.pkts) lines ≤ length w.capture.frames
  recorded_few lines r = omega (arith, packets_told lines r, packets_add_up, frames_cover)

  pub refused_few : all_refusals t.buckets ≤ length w.capture.frames
  refused_few = omega (arith, packets_add_up, frames_cover)

  pub counts_add : (lines : List FlowLine) (s : Stats) → AreRecordsOf w t lines → IsCounted w.capture lines s → AreHistoryCounts t s → s.frames ≡ under_counters s + s.no_flow + s.packets
  counts_add lines s r c h =
      let under : under_counters s ≡ all_counted (counts_of w.capture.seen) = ap (λ (k : Counts). all_counted k) (counters_told w.capture s c.of_frames) in
      omega (
        arith,
        under,
        frames_once w.capture.seen,
        as_many_seen w.capture d.capture,
        c.of_frames.frames,
        c.of_records.packets,
        h.no_flow,
        packets_told lines r,
        packets_add_up,
      )

pub trail_refused : (w : Setup) (t : Trailed) → IsSetup w → AreScripted w (histories_of t) → all_refusals t.buckets ≤ length w.capture.frames
trail_refused w t d l = subst (λ (n : ℕ). n ≤ length w.capture.frames) (refusals_reversed t.buckets) (refused_few w d (histories_of t) l)
