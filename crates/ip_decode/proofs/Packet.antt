-- The IPv6 packet in the captured bytes.
use Rattle.std.proofs.Common.{◌≡◌, ℕ, ◌+◌, ◌-◌, ◌/◌, ◌≤◌, List, length, take, drop, min, slice_index, Ok, Err, sym, ap, ◌∙◌, arith}
use Rattle.std.proofs.lemmas.Bool.Decides.{nat_tests}
use Rattle.std.proofs.lemmas.List.{drop-take, length-take, take_min}
use Rattle.suri_base.specs.declared.counter.Counter.{Counter}
use Rattle.ip_decode.specs.declared.extensions.Upper.{Upper}
use Rattle.ip_decode.specs.Extensions.{and_then, upper_of}
use Rattle.ip_decode.specs.Ip.{ipv6_of, ipv6_view, packet_of, whole_of}

-- a packet with a whole header of version 6 is what stands behind its extension headers
pub ipv6_of-header : (bytes : List ℕ) → 40 ≤ length bytes → slice_index bytes 0 / 16 ≡ 6
    → ipv6_of bytes ≡ and_then (λ upper. Ok (ipv6_view bytes upper)) (upper_of 16 (slice_index bytes 6) (drop 40 (packet_of bytes)))
unfolding ipv6_of
ipv6_of-header bytes long six = grind (arith, nat_tests)

-- what stands behind the header, in the packet and in the bytes
rest_is : (whole stop : ℕ) (bytes : List ℕ) → 40 ≤ stop → stop ≡ min whole (length bytes) → take (stop - 40) (drop 40 bytes) ≡ drop 40 (take whole bytes)
rest_is whole stop bytes long is =
    let split : 40 + (stop - 40) ≡ stop = omega arith in
    sym (drop-take 40 (stop - 40) bytes) ∙ ap (λ n. drop 40 (take n bytes)) (split ∙ is) ∙ ap (drop 40) (take_min whole bytes)

-- a walk that ends in a payload
pub ipv6_of-ok : (bytes : List ℕ) (whole stop : ℕ) (upper : Upper) → 40 ≤ length bytes → slice_index bytes 0 / 16 ≡ 6 → whole ≡ whole_of bytes → 40 ≤ stop
    → stop ≡ min whole (length bytes) → Ok upper ≡ upper_of 16 (slice_index bytes 6) (take (stop - 40) (drop 40 bytes))
    → ipv6_of bytes ≡ Ok (record (ipv6_view bytes upper) { pay_at = stop - upper.len; stated = whole - (stop - upper.len) })
ipv6_of-ok bytes whole stop upper long six whole_is some stop_is walked =
    let same : take (stop - 40) (drop 40 bytes) ≡ drop 40 (packet_of bytes) = rest_is whole stop bytes some stop_is ∙ ap (λ n. drop 40 (take n bytes)) whole_is in
    let size : length (packet_of bytes) ≡ stop = length-take (whole_of bytes) bytes ∙ ap (λ n. min n (length bytes)) (sym whole_is) ∙ sym stop_is in
    let header = ipv6_of-header bytes long six in
    let here : upper_of 16 (slice_index bytes 6) (drop 40 (packet_of bytes)) ≡ Ok upper = ap (upper_of 16 (slice_index bytes 6)) (sym same) ∙ sym walked in
    header ∙ ap (and_then (λ u. Ok (ipv6_view bytes u))) here
    ∙ ap (λ n. Ok (record (ipv6_view bytes upper) { pay_at = n - upper.len; stated = whole_of bytes - (n - upper.len) })) size
    ∙ ap (λ n. Ok (record (ipv6_view bytes upper) { pay_at = stop - upper.len; stated = n - (stop - upper.len) })) (sym whole_is)

-- a walk that ends in a counter
pub ipv6_of-err : (bytes : List ℕ) (whole stop : ℕ) (counter : Counter) → 40 ≤ length bytes → slice_index bytes 0 / 16 ≡ 6 → whole ≡ whole_of bytes → 40 ≤ stop
    → stop ≡ min whole (length bytes) → Err counter ≡ upper_of 16 (slice_index bytes 6) (take (stop - 40) (drop 40 bytes)) → ipv6_of bytes ≡ Err counter
ipv6_of-err bytes whole stop counter long six whole_is some stop_is walked =
    let same : take (stop - 40) (drop 40 bytes) ≡ drop 40 (packet_of bytes) = rest_is whole stop bytes some stop_is ∙ ap (λ n. drop 40 (take n bytes)) whole_is in
    let header = ipv6_of-header bytes long six in
    let here : upper_of 16 (slice_index bytes 6) (drop 40 (packet_of bytes)) ≡ Err counter = ap (upper_of 16 (slice_index bytes 6)) (sym same) ∙ sym walked in
    header ∙ ap (and_then (λ u. Ok (ipv6_view bytes u))) here
