-- A frame whose stream needs a node is a TCP segment with payload: where there is none of either the stream's answer is another one.
use Rattle.std.proofs.Common.{◌≡◌, ℕ, ◌+◌, ◌-◌, ◌<◌, ◌≤◌, nat_lt, Bool, true, false, cond, ◌&&◌, List, [], ◌∷◌, length, drop, Option, Some, None, refl, ap, arith}
use Rattle.std.specs.Option.{is_some}
use Rattle.std.specs.Prelude.{slice_range}
use Rattle.std.proofs.lemmas.Bool.Decides.{nat_tests}
use Rattle.std.proofs.lemmas.List.{length-take}
use Rattle.bucket_laws.specs.Counts.{one_if}
use Rattle.bucket_rules.specs.Own.{is_needing}
use Rattle.bucket_rules.specs.Streams.{answer_to, offer_after}
use Rattle.flow_object.specs.Object.{Stops}
use Rattle.reassembly.proofs.Standing.{needs_payload}
use Rattle.reassembly.specs.Members.{Member, member, offer_of}
use Rattle.suri_base.specs.Capture.{has_segment}
use Rattle.suri_base.specs.declared.facts.Facts.{Facts}
use Rattle.suri_base.specs.declared.facts.TcpFacts.{TcpFacts}
use Rattle.suri_base.specs.declared.stream.Offer.{Offer}
use Rattle.suri_base.specs.declared.stream.Offer.TheVariants as offer

something : (len : ℕ) → 0 < len → nat_lt 0 len ≡ true
something len h = grind (arith, nat_tests)

-- an offer that needs a node only where something stands
few_needing : (o : Offer) (len : ℕ) → (o ≡ offer.NeedsSegment → 0 < len) → one_if (is_needing o) ≤ one_if (nat_lt 0 len)
few_needing offer.InOrder len h = omega arith
few_needing offer.Nothing len h = omega arith
few_needing offer.Stopped len h = omega arith
few_needing offer.NeedsSegment len h = let some : one_if (nat_lt 0 len) ≡ 1 = ap one_if (something len (h refl)) in omega (arith, some)

short_range : (bytes : List ℕ) (at len : ℕ) → length (slice_range bytes at (at + len)) ≤ len
short_range bytes at len = omega (arith, length-take (at + len - at) (drop at bytes))

-- the stream's answer to a packet with this payload
answer_few : (tcp : Option TcpFacts) (depth stop number at len : ℕ) (bytes : List ℕ) (older : List Member)
    → one_if (is_needing (answer_to tcp depth stop number at (slice_range bytes at (at + len)) older)) ≤ one_if (is_some tcp && nat_lt 0 len)
answer_few None depth stop number at len bytes older = omega arith
answer_few (Some tcp) depth stop number at len bytes older =
    let m = member number tcp at (slice_range bytes at (at + len)) in
    few_needing (offer_of depth stop older m) len (λ e. let some = needs_payload depth stop older m e in omega (arith, some, short_range bytes at len))

first_few : (tcp : Option TcpFacts) (depth number at len : ℕ) (bytes : List ℕ)
    → one_if (is_needing (elim tcp as (λ _. Offer) [ None ↦ offer.Nothing | Some tcp ↦ offer_of depth 0 [] (member number tcp at (slice_range bytes at (at + len))) ]))
    ≤ one_if (is_some tcp && nat_lt 0 len)
first_few None depth number at len bytes = omega arith
first_few (Some tcp) depth number at len bytes = answer_few (Some tcp) depth 0 number at len bytes []

either_few : (b : Bool) (x y : Offer) (n : ℕ) → one_if (is_needing x) ≤ n → one_if (is_needing y) ≤ n → one_if (is_needing (cond b x y)) ≤ n
either_few true x y n h k = h
either_few false x y n h k = k

-- at most one node is needed for a packet, and only for a TCP segment with payload
pub offer_few : (depth : ℕ) (bytes : List ℕ) (stops : Stops) (ms : List Facts) (t : Facts) → one_if (is_needing (offer_after depth bytes stops ms t)) ≤ one_if (has_segment t)
offer_few depth bytes stops [] t = first_few t.tcp depth t.no t.pay_at t.pay_len bytes
offer_few depth bytes stops (m ∷ ms) t = either_few _ _ _ (one_if (has_segment t))
    (answer_few t.tcp depth stops.to_server t.no t.pay_at t.pay_len bytes _)
    (answer_few t.tcp depth stops.to_client t.no t.pay_at t.pay_len bytes _)
