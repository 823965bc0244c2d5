-- An IPv6 packet that is spelled from fields is read as those fields.
use Rattle.std.proofs.Common.{◌≡◌, ℕ, ◌+◌, ◌-◌, ◌*◌, ◌/◌, ◌%◌, ◌≤◌, ◌&&◌, ◌||◌, ◌==◌, not, List, [], ◌∷◌, ◌++◌, length, take, drop, true, false, Result, Ok, refl, sym, ap, ◌∙◌, arith, inl, inr, length-append, append_assoc, append-nil, subst}
use Rattle.std.proofs.lemmas.Bool.Decides.{nat_tests}
use Rattle.std.proofs.lemmas.List.{drop_at, take_at, take_all}
use Rattle.suri_base.specs.declared.counter.Counter.{Counter}
use Rattle.header_fields.specs.Fields.{number_at}
use Rattle.header_fields.specs.Spelled.{address, half, word}
use Rattle.header_fields.proofs.Spelled.{address-spelled, half-spelled}
use Rattle.ip_decode.specs.declared.view.IpView.{IpView}
use Rattle.ip_decode.specs.Extensions.{and_then, extension_size, is_extension, is_fragment_header, stated_size, upper_of}
use Rattle.ip_decode.specs.Ip.{ipv6_of, ipv6_view, packet_of, version_of, whole_of}
use Rattle.ip_decode.specs.Spelled6.{AreWalkable, Extension, Ipv6Fields, IsAuthentication, IsIpv6, IsOptions, IsWalkable, IsWholeFragment, ReadsIpv6, chain, first_of, first_word, ipv6_fields_view, ipv6_packet, payload_len}
use Rattle.ip_decode.proofs.Packet.{ipv6_of-header}
use Rattle.ip_decode.proofs.Upper.{upper_of-end, upper_of-step}

-- the bytes of one extension header, and what stands behind it
abbrev one_header : ℕ → Extension → List ℕ → List ℕ
one_header next e rest = next ∷ e.second ∷ e.body ++ rest

-- a header that states no more than there is
whole_header : (kind size : ℕ) (bytes : List ℕ) → 8 ≤ length bytes → stated_size kind bytes ≡ size → size ≤ length bytes → (kind == 44) && is_fragment_header bytes ≡ false
    → extension_size kind bytes ≡ Ok size
unfolding extension_size
whole_header kind size bytes long is fits none = grind (arith, nat_tests)

-- an extension header of this kind is walked past
abbrev IsWalked : ℕ → Extension → List ℕ → ℕ → Type 0
IsWalked next e rest kind = (is_extension kind ≡ true) × (extension_size kind (one_header next e rest) ≡ Ok (length e.body + 2))

walked : (next : ℕ) (e : Extension) (rest : List ℕ) (kind : ℕ) → is_extension kind ≡ true → stated_size kind (one_header next e rest) ≡ length e.body + 2 → 6 ≤ length e.body
    → (kind == 44) && is_fragment_header (one_header next e rest) ≡ false → IsWalked next e rest kind
walked next e rest kind one size long none =
    let all = length-append e.body rest in
    (one, whole_header kind (length e.body + 2) (one_header next e rest) (omega (arith, all)) size (omega (arith, all)) none)

options_walked : (next : ℕ) (e : Extension) (rest : List ℕ) → IsOptions e → 6 ≤ length e.body → IsWalked next e rest e.kind
options_walked next e rest is long = elim (is.kind) [
  | inl k ↦ subst (IsWalked next e rest) (sym k) (walked next e rest 0 refl (sym is.size) long refl)
  | inr (inl k) ↦ subst (IsWalked next e rest) (sym k) (walked next e rest 43 refl (sym is.size) long refl)
  | inr (inr k) ↦ subst (IsWalked next e rest) (sym k) (walked next e rest 60 refl (sym is.size) long refl)
]

authentication_walked : (next : ℕ) (e : Extension) (rest : List ℕ) → IsAuthentication e → 6 ≤ length e.body → IsWalked next e rest e.kind
authentication_walked next e rest is long = subst (IsWalked next e rest) (sym is.kind) (walked next e rest 51 refl (sym is.size) long refl)

fragment_walked : (next : ℕ) (e : Extension) (rest : List ℕ) → IsWholeFragment e → 6 ≤ length e.body → IsWalked next e rest e.kind
fragment_walked next e rest is long =
    let six : length e.body ≡ 6 = ap length is.body in
    let field : number_at 2 2 (one_header next e rest) ≡ is.reserved * 2 =
    half-spelled 2 (is.reserved * 2) (one_header next e rest) (word is.identification ++ rest) (omega (arith, is.small)) (ap (λ (b : List ℕ). b ++ rest) is.body) in
    let offset : is.reserved * 2 / 8 ≡ 0 = omega (arith, is.small) in
    let more : is.reserved * 2 % 2 ≡ 0 = omega arith in
    let none : is_fragment_header (one_header next e rest) ≡ false =
    ap (λ n. not (n / 8 == 0) || not (n % 2 == 0)) field ∙ ap (λ n. not (n == 0) || not (is.reserved * 2 % 2 == 0)) offset ∙ ap (λ n. not (n == 0)) more in
    subst (IsWalked next e rest) (sym is.kind) (walked next e rest 44 refl (omega (arith, six)) long none)

extension_is : (next : ℕ) (e : Extension) (rest : List ℕ) → IsWalkable e → IsWalked next e rest e.kind
extension_is next e rest is = elim (is.form) [
  | inl options ↦ options_walked next e rest options is.long
  | inr (inl authentication) ↦ authentication_walked next e rest authentication is.long
  | inr (inr fragment) ↦ fragment_walked next e rest fragment is.long
]

-- the walk past the chain ends in the payload
chain_is : (room protocol : ℕ) (es : List Extension) (payload : List ℕ) → length es ≤ room → AreWalkable es → is_extension protocol ≡ false
    → upper_of room (first_of es protocol) (chain es protocol ++ payload) ≡ Ok (record { proto = protocol; len = length payload })
chain_is room protocol [] payload few are upper = upper_of-end room protocol payload upper
chain_is room protocol (e ∷ es) payload few are upper =
    let spelled : chain (e ∷ es) protocol ++ payload ≡ one_header (first_of es protocol) e (chain es protocol ++ payload) =
    ap (λ (l : List ℕ). first_of es protocol ∷ e.second ∷ l) (append_assoc e.body (chain es protocol) payload) in
    let one = extension_is (first_of es protocol) e (chain es protocol ++ payload) are.0 in
    let step = upper_of-step room e.kind (length e.body + 2) (one_header (first_of es protocol) e (chain es protocol ++ payload)) one.0 (omega arith) one.1 in
    let behind : drop (length e.body + 2) (one_header (first_of es protocol) e (chain es protocol ++ payload)) ≡ chain es protocol ++ payload =
    drop_at (first_of es protocol ∷ e.second ∷ e.body) (chain es protocol ++ payload) (length e.body + 2) (omega arith) in
    ap (upper_of room e.kind) spelled ∙ step ∙ ap (upper_of (room - 1) (first_of es protocol)) behind ∙ chain_is (room - 1) protocol es payload (omega arith) are.1 upper

-- the header, and behind it what is payload to it
abbrev header : Ipv6Fields → List ℕ
header f =
    word (first_word f) ++ half (payload_len f) ++ (first_of f.extensions f.protocol ∷ f.hop_limit ∷ []) ++ address f.source ++ address f.destination

abbrev behind : Ipv6Fields → List ℕ
behind f = chain f.extensions f.protocol ++ f.payload

length-behind : (f : Ipv6Fields) → length (behind f) ≡ length (chain f.extensions f.protocol) + length f.payload
length-behind f = length-append (chain f.extensions f.protocol) f.payload

length-packet : (f : Ipv6Fields) → length (ipv6_packet f) ≡ 40 + length (behind f) + length f.padding
length-packet f = let all = length-append (behind f) f.padding in omega (arith, all)

whole_is : (f : Ipv6Fields) → IsIpv6 f → whole_of (ipv6_packet f) ≡ 40 + payload_len f
whole_is f is =
    let stated : number_at 2 4 (ipv6_packet f) ≡ payload_len f = half-spelled 4 (payload_len f) (ipv6_packet f) _ is.total refl in
    let size = length-packet f in
    let part = length-behind f in
    elim (is.end) [
      | inl none ↦ let empty : length f.padding ≡ 0 = ap length none in grind (arith, nat_tests, stated, size, part, empty)
      | inr some ↦ let long = some.1 in grind (arith, nat_tests, stated, long)
    ]

-- the packet in the captured bytes, padding left out
packet_is : (f : Ipv6Fields) → IsIpv6 f → packet_of (ipv6_packet f) ≡ header f ++ behind f
packet_is f is =
    let size = length-packet f in
    let part = length-behind f in
    ap (λ n. take n (ipv6_packet f)) (whole_is f is) ∙ elim (is.end) [
      | inl none ↦
          let empty : length f.padding ≡ 0 = ap length none in
          take_all (40 + payload_len f) (ipv6_packet f) (omega (arith, size, part, empty))
          ∙ ap (λ (p : List ℕ). header f ++ (behind f ++ p)) none ∙ ap (λ (p : List ℕ). header f ++ p) (append-nil (behind f))
      | inr some ↦ let left = some.0 in take_at (header f ++ behind f) f.padding (40 + payload_len f) (omega (arith, part, left))
    ]

-- the view of these numbers
made_of : (src dst whole size : ℕ) (f : Ipv6Fields) → src ≡ f.source → dst ≡ f.destination → whole ≡ 40 + payload_len f
    → size ≡ 40 + length (chain f.extensions f.protocol) + length f.payload
    → record {
      version = 6;
      src = src;
      dst = dst;
      ttl = f.hop_limit;
      proto = f.protocol;
      pay_at = size - length f.payload;
      pay_len = length f.payload;
      stated = whole - (size - length f.payload);
    } ≡ ipv6_fields_view f
made_of src dst whole size f e1 e2 e3 e4 =
    let stated : whole - (size - length f.payload) ≡ length f.payload + f.left_out = omega (arith, e3, e4) in
    let at : size - length f.payload ≡ 40 + length (chain f.extensions f.protocol) = omega (arith, e4) in
    rw (stated, at, e1, e2) refl

pub ipv6-spelled : (f : Ipv6Fields) → IsIpv6 f → ipv6_of (ipv6_packet f) ≡ Ok (ipv6_fields_view f)
ipv6-spelled f is =
    let size = length-packet f in
    let part = length-behind f in
    let src : number_at 16 8 (ipv6_packet f) ≡ f.source = address-spelled 8 f.source (ipv6_packet f) _ is.source refl in
    let dst : number_at 16 24 (ipv6_packet f) ≡ f.destination = address-spelled 24 f.destination (ipv6_packet f) _ is.destination refl in
    let six : version_of (ipv6_packet f) ≡ 6 = omega (arith, is.traffic_class, is.flow_label) in
    let packet = packet_is f is in
    let packet_len : length (packet_of (ipv6_packet f)) ≡ 40 + length (chain f.extensions f.protocol) + length f.payload = ap length packet ∙ omega (arith, part) in
    let walk = chain_is 16 f.protocol f.extensions f.payload is.few is.walkable is.upper in
    let upper : upper_of 16 (first_of f.extensions f.protocol) (drop 40 (packet_of (ipv6_packet f))) ≡ Ok (record { proto = f.protocol; len = length f.payload }) =
    ap (λ (p : List ℕ). upper_of 16 (first_of f.extensions f.protocol) (drop 40 p)) packet ∙ walk in
    let view = made_of (number_at 16 8 (ipv6_packet f)) (number_at 16 24 (ipv6_packet f)) (whole_of (ipv6_packet f)) (length (packet_of (ipv6_packet f))) f src dst (whole_is f is) packet_len in
    ipv6_of-header (ipv6_packet f) (omega (arith, size)) six ∙ ap (and_then (λ u. Ok (ipv6_view (ipv6_packet f) u))) upper ∙ ap (λ (v : IpView). Ok v) view

-- so whatever is read by the definition is read so
pub reads_ipv6 : (bytes : List ℕ) (result : Result IpView Counter) → result ≡ ipv6_of bytes → ReadsIpv6 bytes result
reads_ipv6 bytes result read f is spelled = read ∙ ap ipv6_of spelled ∙ ipv6-spelled f is

-- the payload stands where the view says
pub payload-spelled6 : (f : Ipv6Fields) → take (length f.payload) (drop (40 + length (chain f.extensions f.protocol)) (ipv6_packet f)) ≡ f.payload
payload-spelled6 f =
    ap (take (length f.payload)) (ap (drop (40 + length (chain f.extensions f.protocol))) (append_assoc (header f ++ chain f.extensions f.protocol) f.payload f.padding)
    ∙ drop_at (header f ++ chain f.extensions f.protocol) (f.payload ++ f.padding) (40 + length (chain f.extensions f.protocol)) (omega arith))
    ∙ take_at f.payload f.padding (length f.payload) refl
