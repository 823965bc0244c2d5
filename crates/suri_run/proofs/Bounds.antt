-- The bytes of all packets of a capture are far below 2 ^ 64.
use Rattle.std.proofs.Common.{ℕ, ◌*◌, ◌<◌, ◌≤◌, ◌^◌, List, [], ◌∷◌, length, arith}
use Rattle.std.specs.Prelude.{sum_by}
use Rattle.std.proofs.lemmas.List.Sums.{sum_by-cons}
use Rattle.capture_index.specs.Order.{AreInOrder}
use Rattle.suri_base.specs.Capture.{Captured, IsCapture, packets_in}
use Rattle.suri_base.specs.declared.facts.Facts.{Facts}
use Rattle.suri_base.specs.declared.seen.Seen.{Seen}
use Rattle.suri_base.specs.declared.seen.Seen.TheVariants.{Bears, Counted}
use Rattle.suri_base.proofs.Captures.{as_many_seen}

each_small : (above : ℕ) (packets : List Facts) → AreInOrder above packets → sum_by (λ (f : Facts). f.len) packets ≤ length packets * 4294967296
each_small above [] o = omega arith
each_small above (f ∷ packets) o =
    omega (arith, sum_by-cons (λ (p : Facts). p.len) f packets, o.2, each_small f.no packets o.4)

no_more : (seen : List Seen) → length (packets_in seen) ≤ length seen
no_more [] = omega arith
no_more (Bears f ∷ seen) = omega (arith, no_more seen)
no_more (Counted c ∷ seen) = omega (arith, no_more seen)

pub bytes_small : (c : Captured) → IsCapture c → AreInOrder 0 (packets_in c.seen) → sum_by (λ (f : Facts). f.len) (packets_in c.seen) < 18446744073709551616
bytes_small c is o = omega (arith, each_small 0 (packets_in c.seen) o, no_more c.seen, as_many_seen c is, is.few)
