-- The counts of flow records, one after another: each record is one more flow that ended for its own reason and for no other.
use Rattle.std.proofs.Common.{◌≡◌, ℕ, ◌+◌, ◌^◌, ◌<◌, ◌≤◌, List, [], ◌∷◌, cond, length, take, get_or, refl, sym, ap, ◌∙◌, arith}
use Rattle.std.specs.Prelude.{sum_by}
use Rattle.std.proofs.lemmas.List.{length-take-le}
use Rattle.std.proofs.lemmas.List.Sums.{count_by-le-length, sum_by-cons, sum_by_more, sum_by_more_le}
use Rattle.suri_base.specs.declared.reason.Reason.{Reason}
use Rattle.suri_base.specs.declared.reason.Reason.TheVariants.{Timeout, TcpReuse, Forced, Shutdown}
use Rattle.flow_object.specs.declared.outcome.FlowLine.{FlowLine}
use Rattle.run_stats.specs.Counting.{ended_by, same_reason}
use Rattle.run_counts.specs.declared.records.RecordCounts.{RecordCounts}
use Rattle.run_counts.specs.Records.{all_ended, records_of, with_reason, with_record}
use Rattle.run_counts.proofs.Counting.{plus, plus-is}

-- one flow more, counted by each reason
abbrev each_plus : Reason → RecordCounts → RecordCounts
each_plus r c = record c {
  timeout = plus (same_reason Timeout r) c.timeout;
  tcp_reuse = plus (same_reason TcpReuse r) c.tcp_reuse;
  forced = plus (same_reason Forced r) c.forced;
  shutdown = plus (same_reason Shutdown r) c.shutdown;
}

-- it is counted by its own reason alone
each_plus-is : (r : Reason) (c : RecordCounts) → each_plus r c ≡ with_reason r c
each_plus-is Timeout c = refl
each_plus-is TcpReuse c = refl
each_plus-is Forced c = refl
each_plus-is Shutdown c = refl

-- one record more, counted by each reason
abbrev each_more : FlowLine → RecordCounts → RecordCounts
each_more l c = each_plus l.reason (record c {
  packets = c.packets + (l.sums.ts.pkts + l.sums.tc.pkts);
  bytes = c.bytes + (l.sums.ts.bytes + l.sums.tc.bytes);
  emergency = c.emergency + cond l.emergency 1 0;
})

each_more-is : (l : FlowLine) (c : RecordCounts) → each_more l c ≡ with_record l c
each_more-is l c = each_plus-is l.reason _

ended_more : (r : Reason) (lines : List FlowLine) (i : ℕ) (d : FlowLine) → i < length lines
    → ended_by r (take (i + 1) lines) ≡ plus (same_reason r (get_or lines i d).reason) (ended_by r (take i lines))
ended_more r lines i d lt =
    sum_by_more (λ (l : FlowLine). cond (same_reason r l.reason) 1 0) lines i d lt ∙ plus-is (same_reason r (get_or lines i d).reason) (ended_by r (take i lines))

records_more : (lines : List FlowLine) (i : ℕ) (d : FlowLine) → i < length lines → records_of (take (i + 1) lines) ≡ each_more (get_or lines i d) (records_of (take i lines))
unfolding records_of
records_more lines i d lt = λ j. record {
  packets = sum_by_more (λ (l : FlowLine). l.sums.ts.pkts + l.sums.tc.pkts) lines i d lt j;
  bytes = sum_by_more (λ (l : FlowLine). l.sums.ts.bytes + l.sums.tc.bytes) lines i d lt j;
  timeout = ended_more Timeout lines i d lt j;
  tcp_reuse = ended_more TcpReuse lines i d lt j;
  forced = ended_more Forced lines i d lt j;
  shutdown = ended_more Shutdown lines i d lt j;
  emergency = sum_by_more (λ (l : FlowLine). cond l.emergency 1 0) lines i d lt j;
}

-- the counts with the record at a place
pub next_records : (lines : List FlowLine) (i : ℕ) (d : FlowLine) (old new : RecordCounts) → i < length lines → old ≡ records_of (take i lines)
    → new ≡ with_record (get_or lines i d) old → new ≡ records_of (take (i + 1) lines)
next_records lines i d old new lt is made =
    made
    ∙ (ap (λ (c : RecordCounts). with_record (get_or lines i d) c) is ∙ (sym (each_more-is (get_or lines i d) (records_of (take i lines))) ∙ sym (records_more lines i d lt)))

-- each flow ended for one reason
own_reason : (r : Reason) → cond (same_reason Timeout r) 1 0 + cond (same_reason TcpReuse r) 1 0 + cond (same_reason Forced r) 1 0 + cond (same_reason Shutdown r) 1 0 ≡ 1
own_reason Timeout = refl
own_reason TcpReuse = refl
own_reason Forced = refl
own_reason Shutdown = refl

ended_cons : (r : Reason) (l : FlowLine) (lines : List FlowLine) → ended_by r (l ∷ lines) ≡ cond (same_reason r l.reason) 1 0 + ended_by r lines
ended_cons r l lines = sum_by-cons (λ (k : FlowLine). cond (same_reason r k.reason) 1 0) l lines

ended_once : (lines : List FlowLine) → all_ended (records_of lines) ≡ length lines
unfolding records_of
ended_once [] = refl
ended_once (l ∷ lines) =
    omega (
      arith,
      own_reason l.reason,
      ended_cons Timeout l lines,
      ended_cons TcpReuse l lines,
      ended_cons Forced l lines,
      ended_cons Shutdown l lines,
      ended_once lines,
    )

-- the counts of the records before a place are in range
pub ended_few : (lines : List FlowLine) (i : ℕ) (c : RecordCounts) → c ≡ records_of (take i lines) → i ≤ length lines → all_ended c ≡ i
ended_few lines i c is le = ap all_ended is ∙ (ended_once (take i lines) ∙ length-take-le i lines le)

pub emergencies_few : (lines : List FlowLine) (c : RecordCounts) → c ≡ records_of lines → c.emergency ≤ all_ended c
unfolding records_of
emergencies_few lines c is =
    omega (arith, ap (λ (k : RecordCounts). k.emergency) is, ap all_ended is, ended_once lines, count_by-le-length (λ (l : FlowLine). l.emergency) lines)

-- and so are the sums with the record at that place
pub packets_fit : (lines : List FlowLine) (i : ℕ) (d : FlowLine) (c : RecordCounts) → i < length lines → c ≡ records_of (take i lines)
    → sum_by (λ l. l.sums.ts.pkts + l.sums.tc.pkts) lines < 2 ^ 64 → c.packets + ((get_or lines i d).sums.ts.pkts + (get_or lines i d).sums.tc.pkts) < 2 ^ 64
unfolding records_of
packets_fit lines i d c lt is few = omega (arith, ap (λ (k : RecordCounts). k.packets) is, sum_by_more_le (λ (l : FlowLine). l.sums.ts.pkts + l.sums.tc.pkts) lines i d lt)

pub bytes_fit : (lines : List FlowLine) (i : ℕ) (d : FlowLine) (c : RecordCounts) → i < length lines → c ≡ records_of (take i lines)
    → sum_by (λ l. l.sums.ts.bytes + l.sums.tc.bytes) lines < 2 ^ 64 → c.bytes + ((get_or lines i d).sums.ts.bytes + (get_or lines i d).sums.tc.bytes) < 2 ^ 64
unfolding records_of
bytes_fit lines i d c lt is few = omega (arith, ap (λ (k : RecordCounts). k.bytes) is, sum_by_more_le (λ (l : FlowLine). l.sums.ts.bytes + l.sums.tc.bytes) lines i d lt)
