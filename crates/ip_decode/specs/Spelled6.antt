-- How an IPv6 packet is spelled from its fields, and what such a packet is to be read as.
use Rattle.std.specs.Prelude.{◌≡◌, ◌⊎◌, ℕ, ◌+◌, ◌*◌, ◌^◌, ◌<◌, ◌≤◌, List, [], ◌∷◌, ◌++◌, length, false, Result, Ok}
use Rattle.suri_base.specs.declared.counter.Counter.{Counter}
use Rattle.header_fields.specs.Spelled.{address, half, word}
use Rattle.ip_decode.specs.declared.view.IpView.{IpView}
use Rattle.ip_decode.specs.Extensions.{is_extension}

-- an extension header (RFC 8200, section 4): its kind, which the header before it names, its second byte, and what stands behind its first two bytes
pub record Extension : Type 0 where
  pub kind : ℕ
  pub second : ℕ
  pub body : List ℕ

-- hop-by-hop options (0), routing (43) and destination options (60): the second byte is the length in eights, less the first (sections 4.3, 4.4, 4.6)
pub record IsOptions (e : Extension) : Type 0 where
  pub kind : (e.kind ≡ 0) ⊎ (e.kind ≡ 43) ⊎ (e.kind ≡ 60)
  pub size : length e.body + 2 ≡ (e.second + 1) * 8

-- authentication: the second byte is the length in fours, less two (RFC 4302, section 2.2)
pub record IsAuthentication (e : Extension) : Type 0 where
  pub kind : e.kind ≡ 51
  pub size : length e.body + 2 ≡ (e.second + 2) * 4

-- a fragment header before a whole packet (section 4.5; RFC 6946): offset 0, two reserved bits, no more fragments, and an identification
pub record IsWholeFragment (e : Extension) : Type 0 where
  pub kind : e.kind ≡ 44
  pub reserved : ℕ
  pub identification : ℕ
  pub small : reserved < 4
  pub body : e.body ≡ half (reserved * 2) ++ word identification

-- an extension header that can be walked past has at least eight bytes
pub record IsWalkable (e : Extension) : Type 0 where
  pub form : IsOptions e ⊎ IsAuthentication e ⊎ IsWholeFragment e
  pub long : 6 ≤ length e.body

abbrev pub AreWalkable : List Extension → Type 0
AreWalkable [] = Unit {0}
AreWalkable (e ∷ es) = IsWalkable e × AreWalkable es

-- the next header that names the first of these, or the protocol where there is none
abbrev pub first_of : List Extension → ℕ → ℕ
first_of [] protocol = protocol
first_of (e ∷ es) protocol = e.kind

-- these headers end to end, the last of which names the protocol
abbrev pub chain : List Extension → ℕ → List ℕ
chain [] protocol = []
chain (e ∷ es) protocol = (first_of es protocol ∷ e.second ∷ []) ++ e.body ++ chain es protocol

-- the fields of an IPv6 packet (RFC 8200, section 3), in their order; behind them how many payload bytes the capture left out, and the padding behind the packet
pub record Ipv6Fields : Type 0 where
  pub traffic_class : ℕ
  pub flow_label : ℕ
  pub hop_limit : ℕ
  pub source : ℕ
  pub destination : ℕ
  pub extensions : List Extension
  pub protocol : ℕ
  pub payload : List ℕ
  pub left_out : ℕ
  pub padding : List ℕ

-- extension headers count as payload
abbrev pub payload_len : Ipv6Fields → ℕ
payload_len f = length (chain f.extensions f.protocol) + length f.payload + f.left_out

-- four bits of version, eight of traffic class, twenty of flow label
abbrev pub first_word : Ipv6Fields → ℕ
first_word f = (6 * 2 ^ 8 + f.traffic_class) * 2 ^ 20 + f.flow_label

-- the bytes of the packet
abbrev pub ipv6_packet : Ipv6Fields → List ℕ
ipv6_packet f =
    word (first_word f) ++ half (payload_len f)
    ++ (first_of f.extensions f.protocol ∷ f.hop_limit ∷ [])
    ++ address f.source
    ++ address f.destination
    ++ chain f.extensions f.protocol ++ f.payload ++ f.padding

-- the fields fit their bits, at most sixteen extension headers stand before a protocol that is none, and padding stands only behind a packet that was captured whole and states a length
pub record IsIpv6 (f : Ipv6Fields) : Type 0 where
  pub traffic_class : f.traffic_class < 2 ^ 8
  pub flow_label : f.flow_label < 2 ^ 20
  pub source : f.source < 2 ^ 128
  pub destination : f.destination < 2 ^ 128
  pub few : length f.extensions ≤ 16
  pub walkable : AreWalkable f.extensions
  pub upper : is_extension f.protocol ≡ false
  pub total : payload_len f < 2 ^ 16
  pub end : (f.padding ≡ []) ⊎ ((f.left_out ≡ 0) × (0 < payload_len f))

-- what its headers say
abbrev pub ipv6_fields_view : Ipv6Fields → IpView
ipv6_fields_view f = record {
  version = 6;
  src = f.source;
  dst = f.destination;
  ttl = f.hop_limit;
  proto = f.protocol;
  pay_at = 40 + length (chain f.extensions f.protocol);
  pay_len = length f.payload;
  stated = length f.payload + f.left_out;
}

-- bytes that are spelled from fields are read as just those fields
abbrev pub ReadsIpv6 : List ℕ → Result IpView Counter → Type 0
ReadsIpv6 bytes result = (f : Ipv6Fields) → IsIpv6 f → bytes ≡ ipv6_packet f → result ≡ Ok (ipv6_fields_view f)
