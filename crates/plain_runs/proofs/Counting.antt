-- The records of plain runs count every packet once.
use Rattle.std.proofs.Common.{◌≡◌, ℕ, suc, ◌+◌, List, [], ◌∷◌, flat_map, length, length-append, reverse, refl, ap, ◌∙◌, arith}
use Rattle.std.specs.Prelude.{sum_by}
use Rattle.std.proofs.lemmas.List.{length-reverse}
use Rattle.std.proofs.lemmas.List.Sorted.{IsPermutation-reverse, length_permutation, sum_by-IsPermutation}
use Rattle.std.proofs.lemmas.List.Sums.{sum_by-append, sum_by-cons}
use Rattle.suri_base.specs.declared.facts.Facts.{Facts}
use Rattle.flow_sum.specs.Run.{members}
use Rattle.flow_sum.proofs.Once.{bytes_once, packets_once}
use Rattle.flow_object.specs.declared.outcome.FlowLine.{FlowLine}
use Rattle.plain_runs.specs.Plain.{ArePlain, PlainRun, in_file_order, record_of, records_of}
use Rattle.plain_runs.proofs.Covering.{has_each}

pub records_length : (depth : ℕ) (bytes : List ℕ) (clock : ℕ) (ps : List PlainRun) → length (records_of depth bytes clock ps) ≡ length ps
records_length depth bytes clock [] = refl
records_length depth bytes clock (p ∷ ps) = ap suc (records_length depth bytes clock ps)

-- the packets that records count in both directions are those of the plain runs
packets_of_runs : (depth : ℕ) (bytes : List ℕ) (clock : ℕ) (ps : List PlainRun)
    → sum_by (λ l. l.sums.ts.pkts + l.sums.tc.pkts) (records_of depth bytes clock ps) ≡ length (flat_map in_file_order ps)
packets_of_runs depth bytes clock [] = refl
packets_of_runs depth bytes clock (p ∷ ps) = omega (
  arith,
  sum_by-cons (λ (l : FlowLine). l.sums.ts.pkts + l.sums.tc.pkts) (record_of depth bytes clock p) (records_of depth bytes clock ps),
  length-append (in_file_order p) (flat_map in_file_order ps),
  length-reverse (members p.run),
  packets_once p.run,
  packets_of_runs depth bytes clock ps,
)

-- and so are the captured bytes
bytes_of_runs : (depth : ℕ) (bytes : List ℕ) (clock : ℕ) (ps : List PlainRun)
    → sum_by (λ l. l.sums.ts.bytes + l.sums.tc.bytes) (records_of depth bytes clock ps) ≡ sum_by (λ f. f.len) (flat_map in_file_order ps)
bytes_of_runs depth bytes clock [] = refl
bytes_of_runs depth bytes clock (p ∷ ps) = omega (
  arith,
  sum_by-cons (λ (l : FlowLine). l.sums.ts.bytes + l.sums.tc.bytes) (record_of depth bytes clock p) (records_of depth bytes clock ps),
  sum_by-append (λ (f : Facts). f.len) (in_file_order p) (flat_map in_file_order ps),
  sum_by-IsPermutation (λ (f : Facts). f.len) (members p.run) (reverse (members p.run)) (IsPermutation-reverse (members p.run)),
  bytes_once p.run,
  bytes_of_runs depth bytes clock ps,
)

pub records_packets : (depth : ℕ) (bytes : List ℕ) (clock : ℕ) (packets : List Facts) (ps : List PlainRun) → ArePlain packets ps
    → sum_by (λ l. l.sums.ts.pkts + l.sums.tc.pkts) (records_of depth bytes clock ps) ≡ length packets
records_packets depth bytes clock packets ps plain =
    packets_of_runs depth bytes clock ps ∙ length_permutation packets (flat_map in_file_order ps) (has_each packets ps plain)

pub records_bytes : (depth : ℕ) (bytes : List ℕ) (clock : ℕ) (packets : List Facts) (ps : List PlainRun) → ArePlain packets ps
    → sum_by (λ l. l.sums.ts.bytes + l.sums.tc.bytes) (records_of depth bytes clock ps) ≡ sum_by (λ f. f.len) packets
records_bytes depth bytes clock packets ps plain =
    bytes_of_runs depth bytes clock ps ∙ sum_by-IsPermutation (λ (f : Facts). f.len) packets (flat_map in_file_order ps) (has_each packets ps plain)
