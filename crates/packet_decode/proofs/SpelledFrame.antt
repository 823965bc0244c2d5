-- A frame that is spelled from fields is read as its tags and what its packet is read as.
use Rattle.std.proofs.Common.{◌≡◌, ◌⊎◌, ℕ, ◌+◌, ◌-◌, ◌*◌, ◌%◌, ◌^◌, ◌<◌, ◌≤◌, List, [], ◌∷◌, ◌++◌, length, drop, true, false, Result, Ok, refl, sym, ap, ◌∙◌, arith, inl, inr, length-append, append_assoc}
use Rattle.std.proofs.lemmas.List.{drop_at, drop-drop}
use Rattle.suri_base.specs.declared.counter.Counter.{Counter}
use Rattle.header_fields.specs.Fields.{number_at}
use Rattle.header_fields.specs.Spelled.{half}
use Rattle.header_fields.proofs.Spelled.{half-spelled}
use Rattle.ip_decode.specs.declared.view.IpView.{IpView}
use Rattle.ip_decode.specs.Extensions.{and_then}
use Rattle.ip_decode.specs.Ip.{ip_of}
use Rattle.packet_decode.specs.declared.laws.Inner.{Inner}
use Rattle.packet_decode.specs.Frame.{carried_by, headed_packet_of, inner_of, to_ip_of}
use Rattle.packet_decode.specs.Spelled.{AllTags, FrameFields, IsFrame, IsTag, ReadsFrame, Tag, frame, ids_of, packet_at, tagged, type_of, types}
use Rattle.packet_decode.specs.Tags.{behind_type, inside, is_tag, packet_of, vlans_of}
use Rattle.packet_decode.proofs.Ends.{headed-long}
use Rattle.packet_decode.proofs.SoFar.{behind_type-packet, behind_type-tag}

-- the first EtherType
abbrev first_type : List Tag → ℕ → ℕ
first_type [] last = last
first_type (t ∷ ts) last = t.kind

types_begin : (ts : List Tag) (last : ℕ) (packet : List ℕ) → types ts last ++ packet ≡ half (first_type ts last) ++ drop 2 (types ts last ++ packet)
types_begin [] last packet = refl
types_begin (t ∷ ts) last packet = refl

tag_small : (t : Tag) → IsTag t → t.kind < 2 ^ 16
tag_small t is = elim (is.kind) [
  | inl k ↦ omega (arith, k)
  | inr k ↦ omega (arith, k)
]

tag_is : (t : Tag) → IsTag t → is_tag t.kind ≡ true
tag_is t is = elim (is.kind) [
  | inl k ↦ ap is_tag k
  | inr k ↦ ap is_tag k
]

first_small : (ts : List Tag) (last : ℕ) → AllTags ts → last < 2 ^ 16 → first_type ts last < 2 ^ 16
first_small [] last all small = small
first_small (t ∷ ts) last all small = tag_small t all.0

-- the walk past the tags ends in the packet
behind_types : (room last version : ℕ) (ts : List Tag) (packet : List ℕ) → length ts ≤ room → AllTags ts → last < 2 ^ 16 → is_tag last ≡ false
    → packet_of last packet ≡ Ok (record { ids = []; version = version; packet = packet })
    → behind_type room (first_type ts last) (drop 2 (types ts last ++ packet)) ≡ Ok (record { ids = ids_of ts; version = version; packet = packet })
behind_types room last version [] packet few all small none is = behind_type-packet room last packet none ∙ is
behind_types room last version (t ∷ ts) packet few all small none is =
    let begins = types_begin ts last packet in
    let long : 4 ≤ length (half (t.priority * 2 ^ 12 + t.id) ++ (types ts last ++ packet)) = let size = ap length begins in omega (arith, size) in
    let control : number_at 2 0 (half (t.priority * 2 ^ 12 + t.id) ++ (types ts last ++ packet)) ≡ t.priority * 2 ^ 12 + t.id =
    half-spelled 0 (t.priority * 2 ^ 12 + t.id) (half (t.priority * 2 ^ 12 + t.id) ++ (types ts last ++ packet)) (types ts last ++ packet) (omega (arith, all.0.priority, all.0.id)) refl in
    let id : number_at 2 0 (half (t.priority * 2 ^ 12 + t.id) ++ (types ts last ++ packet)) % 4096 ≡ t.id = omega (arith, control, all.0.id) in
    let next : number_at 2 2 (half (t.priority * 2 ^ 12 + t.id) ++ (types ts last ++ packet)) ≡ first_type ts last =
    half-spelled 2 (first_type ts last) (half (t.priority * 2 ^ 12 + t.id) ++ (types ts last ++ packet)) (drop 2 (types ts last ++ packet)) (first_small ts last all.1 small) begins in
    behind_type-tag room t.kind (half (t.priority * 2 ^ 12 + t.id) ++ (types ts last ++ packet)) (omega (arith, few)) (tag_is t all.0) long
    ∙ ap (λ n. inside (n ∷ []) (behind_type (room - 1) (number_at 2 2 (half (t.priority * 2 ^ 12 + t.id) ++ (types ts last ++ packet))) (drop 2 (types ts last ++ packet)))) id
    ∙ ap (λ n. inside (t.id ∷ []) (behind_type (room - 1) n (drop 2 (types ts last ++ packet)))) next
    ∙ ap (inside (t.id ∷ [])) (behind_types (room - 1) last version ts packet (omega (arith, few)) all.1 small none is)

-- the EtherTypes of the two versions
type_small : (version : ℕ) → (version ≡ 4) ⊎ (version ≡ 6) → type_of version < 2 ^ 16
type_small version (inl v) = rw v (omega arith)
type_small version (inr v) = rw v (omega arith)

type_none : (version : ℕ) → (version ≡ 4) ⊎ (version ≡ 6) → is_tag (type_of version) ≡ false
type_none version (inl v) = rw v refl
type_none version (inr v) = rw v refl

type_packet : (version : ℕ) (packet : List ℕ) → (version ≡ 4) ⊎ (version ≡ 6) → packet_of (type_of version) packet ≡ Ok (record { ids = []; version = version; packet = packet })
type_packet version packet (inl v) = rw v refl
type_packet version packet (inr v) = rw v refl

length-types : (ts : List Tag) (last : ℕ) → length (types ts last) ≡ 4 * length ts + 2
length-types [] last = refl
length-types (t ∷ ts) last = let more = length-types ts last in omega (arith, more)

-- what stands before the packet
abbrev pub header_bytes : FrameFields → List ℕ
header_bytes f = f.start ++ types f.tags (type_of f.version)

pub length-header : (f : FrameFields) → length (header_bytes f) ≡ packet_at f
length-header f =
    let b = length-append f.start (types f.tags (type_of f.version)) in
    let c = length-types f.tags (type_of f.version) in
    omega (arith, b, c)

pub length-frame : (f : FrameFields) → length (frame f) ≡ packet_at f + length f.packet
length-frame f =
    let all = length-append (header_bytes f) f.packet in
    let start = length-header f in
    omega (arith, all, start)

-- behind a link header with so many bytes before the EtherType
headed : (at link : ℕ) (f : FrameFields) → IsFrame link f → length f.start ≡ at
    → headed_packet_of (at + 2) at (frame f) ≡ Ok (record { ids = ids_of f.tags; version = f.version; packet = f.packet })
headed at link f is start =
    let split : frame f ≡ f.start ++ (types f.tags (type_of f.version) ++ f.packet) = append_assoc f.start (types f.tags (type_of f.version)) f.packet in
    let behind : drop at (frame f) ≡ types f.tags (type_of f.version) ++ f.packet = ap (drop at) split ∙ drop_at f.start (types f.tags (type_of f.version) ++ f.packet) at start in
    let begins = types_begin f.tags (type_of f.version) f.packet in
    let small = type_small f.version is.version in
    let first : number_at 2 at (frame f) ≡ first_type f.tags (type_of f.version) =
    half-spelled at (first_type f.tags (type_of f.version)) (frame f) (drop 2 (types f.tags (type_of f.version) ++ f.packet)) (first_small f.tags (type_of f.version) is.tags small) (behind ∙ begins) in
    let rest : drop (at + 2) (frame f) ≡ drop 2 (types f.tags (type_of f.version) ++ f.packet) = sym (drop-drop 2 at (frame f)) ∙ ap (drop 2) behind in
    let size = length-frame f in
    headed-long (at + 2) at (frame f) (omega (arith, size, start))
    ∙ ap (λ n. behind_type 3 n (drop (at + 2) (frame f))) first ∙ ap (behind_type 3 (first_type f.tags (type_of f.version))) rest
    ∙ behind_types 3 (type_of f.version) f.version f.tags f.packet is.few is.tags small (type_none f.version is.version) (type_packet f.version f.packet is.version)

carried : (link : ℕ) (f : FrameFields) → IsFrame link f → carried_by link (frame f) ≡ Ok (record { ids = ids_of f.tags; version = f.version; packet = f.packet })
unfolding carried_by
carried link f is = elim (is.header) [
  | inl ethernet ↦ let one : link ≡ 1 = ethernet.0 in rw one (headed 12 link f is ethernet.1)
  | inr cooked ↦ let one : link ≡ 113 = cooked.0 in rw one (headed 14 link f is cooked.1)
]

pub frame-spelled : (link : ℕ) (f : FrameFields) → IsFrame link f → to_ip_of link (frame f) ≡ and_then (λ view. Ok (tagged f view)) (ip_of f.version f.packet)
unfolding to_ip_of
frame-spelled link f is =
    let size = length-frame f in
    let at : length (frame f) - length f.packet ≡ packet_at f = omega (arith, size) in
    ap (and_then (inner_of (frame f))) (carried link f is)
    ∙ ap (λ n. and_then (λ (view : IpView). Ok (record { vlans = vlans_of (ids_of f.tags); ip = record view { pay_at = n + view.pay_at } })) (ip_of f.version f.packet)) at

pub reads_frame : (link : ℕ) (bytes : List ℕ) (result : Result Inner Counter) → result ≡ to_ip_of link bytes → ReadsFrame link bytes result
reads_frame link bytes result read f is spelled = read ∙ ap (to_ip_of link) spelled ∙ frame-spelled link f is
