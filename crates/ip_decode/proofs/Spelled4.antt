-- An IPv4 packet that is spelled from fields is read as those fields.
use Rattle.std.proofs.Common.{◌≡◌, ◌⊎◌, ℕ, ◌+◌, ◌-◌, ◌*◌, ◌%◌, ◌^◌, ◌<◌, ◌≤◌, ◌&&◌, ◌||◌, ◌==◌, not, if◌then◌else◌, List, [], ◌∷◌, ◌++◌, length, take, drop, min, Bool, true, false, Result, Ok, Err, refl, ap, ◌∙◌, arith, inl, inr, length-append, append_assoc}
use Rattle.std.specs.Int.Bits.{bit_and}
use Rattle.std.proofs.lemmas.Bool.Decides.{nat_tests}
use Rattle.std.proofs.lemmas.List.{drop_at, take_at}
use Rattle.std.proofs.lemmas.Nat.{and_block, and_mask, mod_low}
use Rattle.suri_base.specs.declared.counter.Counter.TheVariants.{Fragment}
use Rattle.suri_base.specs.declared.counter.Counter.{Counter}
use Rattle.header_fields.specs.Fields.{number_at}
use Rattle.header_fields.specs.Spelled.{half, word}
use Rattle.header_fields.proofs.Spelled.{half-spelled, word-spelled}
use Rattle.ip_decode.specs.declared.view.IpView.{IpView}
use Rattle.ip_decode.specs.Ip.{header_of, ipv4_of, ipv4_view, is_fragment_of, total_of, version_of}
use Rattle.ip_decode.specs.Spelled4.{Ipv4Fields, IsIpv4, ReadsIpv4, first_byte, fragment_field, header_len, ipv4_answer, ipv4_fields_view, ipv4_packet, total_len}

-- a header without fault
ipv4_of-whole : (bytes : List ℕ) → 20 ≤ length bytes → version_of bytes ≡ 4 → 20 ≤ header_of bytes → header_of bytes ≤ total_of bytes → header_of bytes ≤ length bytes
    → is_fragment_of bytes ≡ false → ipv4_of bytes ≡ Ok (ipv4_view bytes)
unfolding ipv4_of
ipv4_of-whole bytes long four least stated captured none = grind (arith, nat_tests)

-- the same of a fragment
ipv4_of-fragment : (bytes : List ℕ) → 20 ≤ length bytes → version_of bytes ≡ 4 → 20 ≤ header_of bytes → header_of bytes ≤ total_of bytes → header_of bytes ≤ length bytes
    → is_fragment_of bytes ≡ true → ipv4_of bytes ≡ Err Fragment
unfolding ipv4_of
ipv4_of-fragment bytes long four least stated captured one = grind (arith, nat_tests)

-- the third bit of the fragment field
more_bit : (high m o : ℕ) → m < 2 → o < 2 ^ 13 → bit_and ((high * 2 + m) * 2 ^ 13 + o) 0x2000 ≡ m * 2 ^ 13
more_bit high m o bit small =
    let block : bit_and ((high * 2 + m) * 2 ^ 13 + o) (1 * 2 ^ 13 + 0) ≡ bit_and (high * 2 + m) 1 * 2 ^ 13 + bit_and o 0 = and_block 13 (high * 2 + m) 1 o 0 small (omega arith) in
    let low : bit_and (high * 2 + m) 1 ≡ (high * 2 + m) % 2 = and_mask (high * 2 + m) 1 in
    let none : bit_and o 0 ≡ o % 1 = and_mask o 0 in
    let one : (high * 2 + m) % 2 ≡ m = omega (arith, bit) in
    let zero_is : o % 1 ≡ 0 = omega arith in
    block ∙ ap (λ n. n * 2 ^ 13 + bit_and o 0) (low ∙ one) ∙ ap (λ n. m * 2 ^ 13 + n) (none ∙ zero_is) ∙ omega arith

-- its lower thirteen bits
offset_bits : (high o : ℕ) → o < 2 ^ 13 → bit_and (high * 2 ^ 13 + o) 0x1fff ≡ o
offset_bits high o small = and_mask (high * 2 ^ 13 + o) 13 ∙ mod_low high 13 o small

-- both tests on numbers
both_tests : (m o : ℕ) → not (m * 8192 == 0) || not (o == 0) ≡ not ((m == 0) && (o == 0))
both_tests m o = grind (arith, nat_tests)

length-packet : (f : Ipv4Fields) → length (ipv4_packet f) ≡ 20 + length f.options + length f.payload + length f.padding
length-packet f =
    let inner = length-append f.options f.payload in
    let outer = length-append (f.options ++ f.payload) f.padding in
    omega (arith, inner, outer)

-- the packet in the captured bytes, padding left out
captured_end : (f : Ipv4Fields) → (f.left_out ≡ 0) ⊎ (f.padding ≡ []) → min (total_len f) (length (ipv4_packet f)) ≡ 20 + length f.options + length f.payload
captured_end f (inl whole) = let size = length-packet f in omega (arith, size, whole)
captured_end f (inr none) = let size = length-packet f in let empty : length f.padding ≡ 0 = ap length none in omega (arith, size, empty)

-- the view of these numbers
made_of : (src dst header total size : ℕ) (f : Ipv4Fields) → src ≡ f.source → dst ≡ f.destination → header ≡ 20 + length f.options → total ≡ total_len f
    → min (total_len f) size ≡ 20 + length f.options + length f.payload
    → record {
      version = 4;
      src = src;
      dst = dst;
      ttl = f.ttl;
      proto = f.protocol;
      pay_at = header;
      pay_len = min total size - header;
      stated = total - header;
    } ≡ ipv4_fields_view f
made_of src dst header total size f e1 e2 e3 e4 e5 =
    let pay : min total size - header ≡ length f.payload = ap (λ n. min n size - header) e4 ∙ omega (arith, e3, e5) in
    let stated : total - header ≡ length f.payload + f.left_out = omega (arith, e3, e4) in
    rw (pay, stated, e1, e2, e3) refl

answered : (f : Ipv4Fields) (b : Bool) → (f.more_fragments == 0) && (f.offset == 0) ≡ b → 20 ≤ length (ipv4_packet f) → version_of (ipv4_packet f) ≡ 4
    → 20 ≤ header_of (ipv4_packet f) → header_of (ipv4_packet f) ≤ total_of (ipv4_packet f) → header_of (ipv4_packet f) ≤ length (ipv4_packet f)
    → is_fragment_of (ipv4_packet f) ≡ not b → ipv4_view (ipv4_packet f) ≡ ipv4_fields_view f
    → ipv4_of (ipv4_packet f) ≡ (if b then Ok (ipv4_fields_view f) else Err Fragment)
answered f true is long four least stated captured none view = ipv4_of-whole (ipv4_packet f) long four least stated captured none ∙ ap (λ (v : IpView). Ok v) view
answered f false is long four least stated captured one view = ipv4_of-fragment (ipv4_packet f) long four least stated captured one

pub ipv4-spelled : (f : Ipv4Fields) → IsIpv4 f → ipv4_of (ipv4_packet f) ≡ ipv4_answer f
ipv4-spelled f is =
    let bytes = ipv4_packet f in
    let size = length-packet f in
    let total : number_at 2 2 (ipv4_packet f) ≡ total_len f = half-spelled 2 (total_len f) (ipv4_packet f) _ is.total refl in
    let fits : fragment_field f < 2 ^ 16 = omega (arith, is.reserved, is.dont_fragment, is.more_fragments, is.offset) in
    let field : number_at 2 6 (ipv4_packet f) ≡ fragment_field f = half-spelled 6 (fragment_field f) (ipv4_packet f) _ fits refl in
    let src : number_at 4 12 (ipv4_packet f) ≡ f.source = word-spelled 12 f.source (ipv4_packet f) _ is.source refl in
    let dst : number_at 4 16 (ipv4_packet f) ≡ f.destination = word-spelled 16 f.destination (ipv4_packet f) _ is.destination refl in
    let four : version_of (ipv4_packet f) ≡ 4 = omega (arith, is.few) in
    let header : header_of (ipv4_packet f) ≡ 20 + length f.options = omega (arith, is.few, is.words) in
    let whole : total_of (ipv4_packet f) ≡ total_len f = grind (arith, nat_tests, total) in
    let more : bit_and (fragment_field f) 0x2000 ≡ f.more_fragments * 2 ^ 13 = more_bit (f.reserved * 2 + f.dont_fragment) f.more_fragments f.offset is.more_fragments is.offset in
    let low : bit_and (fragment_field f) 0x1fff ≡ f.offset = offset_bits ((f.reserved * 2 + f.dont_fragment) * 2 + f.more_fragments) f.offset is.offset in
    let fragment : is_fragment_of (ipv4_packet f) ≡ not ((f.more_fragments == 0) && (f.offset == 0)) =
    ap (λ n. not (bit_and n 0x2000 == 0) || not (bit_and n 0x1fff == 0)) field
    ∙ ap (λ n. not (n == 0) || not (bit_and (fragment_field f) 0x1fff == 0)) more
    ∙ ap (λ n. not (f.more_fragments * 2 ^ 13 == 0) || not (n == 0)) low ∙ both_tests f.more_fragments f.offset in
    let captured : min (total_len f) (length (ipv4_packet f)) ≡ 20 + length f.options + length f.payload = captured_end f is.end in
    let view : ipv4_view (ipv4_packet f) ≡ ipv4_fields_view f =
    made_of (number_at 4 12 (ipv4_packet f)) (number_at 4 16 (ipv4_packet f)) (header_of (ipv4_packet f)) (total_of (ipv4_packet f)) (length (ipv4_packet f)) f src dst header whole captured in
    answered f ((f.more_fragments == 0) && (f.offset == 0)) refl (omega (arith, size)) four (omega (arith, header)) (omega (arith, header, whole)) (omega (arith, header, size)) fragment view

-- so whatever is read by the definition is read so
pub reads_ipv4 : (bytes : List ℕ) (result : Result IpView Counter) → result ≡ ipv4_of bytes → ReadsIpv4 bytes result
reads_ipv4 bytes result read f is spelled = read ∙ ap ipv4_of spelled ∙ ipv4-spelled f is

-- the header without its options
abbrev fixed : Ipv4Fields → List ℕ
fixed f =
    (first_byte f ∷ f.service ∷ []) ++ half (total_len f) ++ half f.identification ++ half (fragment_field f)
    ++ (f.ttl ∷ f.protocol ∷ []) ++ half f.checksum
    ++ word f.source
    ++ word f.destination

-- the payload stands where the view says
pub payload-spelled4 : (f : Ipv4Fields) → take (length f.payload) (drop (header_len f) (ipv4_packet f)) ≡ f.payload
payload-spelled4 f =
    ap (take (length f.payload)) (ap (drop (header_len f)) (append_assoc (fixed f ++ f.options) f.payload f.padding)
    ∙ drop_at (fixed f ++ f.options) (f.payload ++ f.padding) (header_len f) (omega arith))
    ∙ take_at f.payload f.padding (length f.payload) refl
