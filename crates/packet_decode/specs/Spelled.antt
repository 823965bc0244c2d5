-- How frames are spelled from their fields, and what they are to be read as.
use Rattle.std.specs.Prelude.{◌≡◌, ◌⊎◌, ℕ, ◌+◌, ◌*◌, ◌^◌, ◌<◌, ◌≤◌, ◌==◌, if◌then◌else◌, List, [], ◌∷◌, ◌++◌, length, IsTrue, Result, Ok}
use Rattle.suri_base.specs.declared.counter.Counter.{Counter}
use Rattle.suri_base.specs.Protocols.{is_icmp}
use Rattle.header_fields.specs.Spelled.{half}
use Rattle.ip_decode.specs.declared.view.IpView.{IpView}
use Rattle.ip_decode.specs.Extensions.{and_then}
use Rattle.ip_decode.specs.Ip.{ip_of}
use Rattle.ip_decode.specs.Spelled4.{Ipv4Fields, IsIpv4, ipv4_fields_view, ipv4_packet}
use Rattle.ip_decode.specs.Spelled6.{Ipv6Fields, IsIpv6, ipv6_fields_view, ipv6_packet}
use Rattle.l4_decode.specs.declared.view.L4View.{L4View}
use Rattle.l4_decode.specs.Spelled.{IcmpFields, IsTcp, IsUdp, TcpFields, UdpFields, icmp_fields_view, icmp_message, tcp_fields_view, tcp_header_len, tcp_segment, udp_datagram, udp_fields_view}
use Rattle.packet_decode.specs.declared.laws.Inner.{Inner}
use Rattle.packet_decode.specs.declared.whole.View.{View}
use Rattle.packet_decode.specs.Tags.{vlans_of}

-- a VLAN tag (IEEE 802.1Q, sections 9.5 and 9.6): the EtherType that announces it, the priority with the drop eligibility, and the id
pub record Tag : Type 0 where
  pub kind : ℕ
  pub priority : ℕ
  pub id : ℕ

-- a customer's tag or a provider's, four bits of priority and drop eligibility, twelve bits of id
pub record IsTag (t : Tag) : Type 0 where
  pub kind : (t.kind ≡ 0x8100) ⊎ (t.kind ≡ 0x88a8)
  pub priority : t.priority < 2 ^ 4
  pub id : t.id < 2 ^ 12

abbrev pub AllTags : List Tag → Type 0
AllTags [] = Unit {0}
AllTags (t ∷ ts) = IsTag t × AllTags ts

-- the ids, the outermost first
abbrev pub ids_of : List Tag → List ℕ
ids_of [] = []
ids_of (t ∷ ts) = t.id ∷ ids_of ts

-- each tag after the EtherType that announces it, and the EtherType of what they carry
abbrev pub types : List Tag → ℕ → List ℕ
types [] last = half last
types (t ∷ ts) last = half t.kind ++ half (t.priority * 2 ^ 12 + t.id) ++ types ts last

-- the EtherType of an IP version (RFC 894; RFC 2464, section 3)
abbrev pub type_of : ℕ → ℕ
type_of version = if version == 4 then 0x0800 else 0x86dd

-- the fields of a frame with a link header: what stands before the first EtherType, the tags, and the IP packet of a version with what stands behind it
pub record FrameFields : Type 0 where
  pub start : List ℕ
  pub tags : List Tag
  pub version : ℕ
  pub packet : List ℕ

-- the bytes of the frame
abbrev pub frame : FrameFields → List ℕ
frame f = f.start ++ types f.tags (type_of f.version) ++ f.packet

-- before the EtherType stand the two addresses of Ethernet (1; IEEE 802.3, clause 3.2), or the packet type, the hardware type and the sender's address of Linux cooked capture (113)
pub record IsFrame (link : ℕ) (f : FrameFields) : Type 0 where
  pub header : ((link ≡ 1) × (length f.start ≡ 12)) ⊎ ((link ≡ 113) × (length f.start ≡ 14))
  pub few : length f.tags ≤ 3
  pub tags : AllTags f.tags
  pub version : (f.version ≡ 4) ⊎ (f.version ≡ 6)

-- the place of the packet
abbrev pub packet_at : FrameFields → ℕ
packet_at f = length f.start + 4 * length f.tags + 2

-- the tags, and the view of the packet with places counted from the frame's start
abbrev pub tagged : FrameFields → IpView → Inner
tagged f view = record { vlans = vlans_of (ids_of f.tags); ip = record view { pay_at = packet_at f + view.pay_at } }

-- a frame that is spelled from fields is read as its tags and what its packet is read as
abbrev pub ReadsFrame : ℕ → List ℕ → Result Inner Counter → Type 0
ReadsFrame link bytes result =
    (f : FrameFields) → IsFrame link f → bytes ≡ frame f → result ≡ and_then (λ view. Ok (tagged f view)) (ip_of f.version f.packet)

-- an IPv4 packet, no fragment, that is spelled from fields, what they say, and its payload
pub record SpellsIpv4 (packet : List ℕ) (view : IpView) (payload : List ℕ) : Type 0 where
  pub fields : Ipv4Fields
  pub are : IsIpv4 fields
  pub last : fields.more_fragments ≡ 0
  pub first : fields.offset ≡ 0
  pub packet_is : packet ≡ ipv4_packet fields
  pub view_is : view ≡ ipv4_fields_view fields
  pub payload_is : payload ≡ fields.payload

-- the same of an IPv6 packet
pub record SpellsIpv6 (packet : List ℕ) (view : IpView) (payload : List ℕ) : Type 0 where
  pub fields : Ipv6Fields
  pub are : IsIpv6 fields
  pub packet_is : packet ≡ ipv6_packet fields
  pub view_is : view ≡ ipv6_fields_view fields
  pub payload_is : payload ≡ fields.payload

abbrev pub SpellsIp : ℕ → List ℕ → IpView → List ℕ → Type 0
SpellsIp version packet view payload = ((version ≡ 4) × SpellsIpv4 packet view payload) ⊎ ((version ≡ 6) × SpellsIpv6 packet view payload)

-- a TCP segment that is spelled from fields, in a packet that states its whole header, and what they say
pub record SpellsTcp (stated : ℕ) (payload : List ℕ) (view : L4View) : Type 0 where
  pub fields : TcpFields
  pub are : IsTcp fields
  pub stated_whole : tcp_header_len fields ≤ stated
  pub payload_is : payload ≡ tcp_segment fields
  pub view_is : view ≡ tcp_fields_view fields

-- the same of a UDP datagram
pub record SpellsUdp (payload : List ℕ) (view : L4View) : Type 0 where
  pub fields : UdpFields
  pub are : IsUdp fields
  pub payload_is : payload ≡ udp_datagram fields
  pub view_is : view ≡ udp_fields_view fields

-- the same of an ICMP message
pub record SpellsIcmp (payload : List ℕ) (view : L4View) : Type 0 where
  pub fields : IcmpFields
  pub payload_is : payload ≡ icmp_message fields
  pub view_is : view ≡ icmp_fields_view fields

abbrev pub SpellsTransport : IpView → List ℕ → L4View → Type 0
SpellsTransport ip payload view =
    ((ip.proto ≡ 6) × SpellsTcp ip.stated payload view) ⊎ ((ip.proto ≡ 17) × SpellsUdp payload view)
    ⊎ (IsTrue (is_icmp ip.version ip.proto) × SpellsIcmp payload view)

-- the whole view, with all places counted from the frame's start
abbrev pub whole_view : FrameFields → IpView → L4View → View
whole_view f ip l4 = record {
  vlans = vlans_of (ids_of f.tags);
  ip = record ip { pay_at = packet_at f + ip.pay_at };
  l4 = record l4 { pay_at = packet_at f + ip.pay_at + l4.pay_at };
}

-- a frame whose headers are all spelled from fields is read as just those fields
abbrev pub ReadsWhole : ℕ → List ℕ → Result View Counter → Type 0
ReadsWhole link bytes result =
    (f : FrameFields) (ip : IpView) (payload : List ℕ) (l4 : L4View) → IsFrame link f → SpellsIp f.version f.packet ip payload → SpellsTransport ip payload l4
    → bytes ≡ frame f → result ≡ Ok (whole_view f ip l4)
