-- How transport headers are spelled from their fields, and what they are to be read as.
use Rattle.std.specs.Prelude.{◌≡◌, ◌⊎◌, ℕ, ◌+◌, ◌*◌, ◌/◌, ◌%◌, ◌^◌, ◌<◌, ◌≤◌, List, [], ◌∷◌, ◌++◌, length, Some, None, Result, Ok}
use Rattle.suri_base.specs.declared.counter.Counter.{Counter}
use Rattle.header_fields.specs.Spelled.{half, word}
use Rattle.l4_decode.specs.declared.view.L4View.{L4View}

-- the fields of a TCP segment (RFC 9293, section 3.1), in their order
pub record TcpFields : Type 0 where
  pub source_port : ℕ
  pub destination_port : ℕ
  pub sequence : ℕ
  pub acknowledgement : ℕ
  pub reserved : ℕ
  pub flags : ℕ
  pub window : ℕ
  pub checksum : ℕ
  pub urgent_pointer : ℕ
  pub options : List ℕ
  pub payload : List ℕ

-- the length of the header with its options
abbrev pub tcp_header_len : TcpFields → ℕ
tcp_header_len f = 20 + length f.options

-- the data offset, in words of four bytes, shares its byte with four reserved bits
abbrev pub offset_byte : TcpFields → ℕ
offset_byte f = tcp_header_len f / 4 * 16 + f.reserved

-- the bytes of the segment
abbrev pub tcp_segment : TcpFields → List ℕ
tcp_segment f =
    half f.source_port ++ half f.destination_port ++ word f.sequence ++ word f.acknowledgement
    ++ (offset_byte f ∷ f.flags ∷ []) ++ half f.window ++ half f.checksum
    ++ half f.urgent_pointer
    ++ f.options ++ f.payload

-- the fields fit their bits, and options come in words of four bytes, ten at most
pub record IsTcp (f : TcpFields) : Type 0 where
  pub source_port : f.source_port < 2 ^ 16
  pub destination_port : f.destination_port < 2 ^ 16
  pub sequence : f.sequence < 2 ^ 32
  pub acknowledgement : f.acknowledgement < 2 ^ 32
  pub reserved : f.reserved < 2 ^ 4
  pub words : length f.options % 4 ≡ 0
  pub few : length f.options ≤ 40

-- what its header says
abbrev pub tcp_fields_view : TcpFields → L4View
tcp_fields_view f = record {
  sport = f.source_port;
  dport = f.destination_port;
  tcp = Some (record { seq = f.sequence; ack = f.acknowledgement; flags = f.flags });
  icmp = None;
  pay_at = tcp_header_len f;
  pay_len = length f.payload;
}

-- the fields of a UDP datagram (RFC 768), in their order; behind them how many payload bytes the capture left out, and what stands behind the datagram
pub record UdpFields : Type 0 where
  pub source_port : ℕ
  pub destination_port : ℕ
  pub checksum : ℕ
  pub payload : List ℕ
  pub left_out : ℕ
  pub padding : List ℕ

-- the length of the datagram with its header
abbrev pub udp_len : UdpFields → ℕ
udp_len f = 8 + length f.payload + f.left_out

-- the bytes of the datagram
abbrev pub udp_datagram : UdpFields → List ℕ
udp_datagram f = half f.source_port ++ half f.destination_port ++ half (udp_len f) ++ half f.checksum ++ f.payload ++ f.padding

-- the fields fit their bits, and something stands only behind a datagram that was captured whole
pub record IsUdp (f : UdpFields) : Type 0 where
  pub source_port : f.source_port < 2 ^ 16
  pub destination_port : f.destination_port < 2 ^ 16
  pub total : udp_len f < 2 ^ 16
  pub end : (f.left_out ≡ 0) ⊎ (f.padding ≡ [])

-- what its header says
abbrev pub udp_fields_view : UdpFields → L4View
udp_fields_view f = record {
  sport = f.source_port;
  dport = f.destination_port;
  tcp = None;
  icmp = None;
  pay_at = 8;
  pay_len = length f.payload;
}

-- the fields of an ICMP message (RFC 792; RFC 4443, section 2.1), in their order
pub record IcmpFields : Type 0 where
  pub kind : ℕ
  pub code : ℕ
  pub checksum : ℕ
  pub body : List ℕ

-- the bytes of the message
abbrev pub icmp_message : IcmpFields → List ℕ
icmp_message f = (f.kind ∷ f.code ∷ []) ++ half f.checksum ++ f.body

-- what its header says
abbrev pub icmp_fields_view : IcmpFields → L4View
icmp_fields_view f = record {
  sport = 0;
  dport = 0;
  tcp = None;
  icmp = Some (record { kind = f.kind; code = f.code });
  pay_at = 4 + length f.body;
  pay_len = 0;
}

-- bytes that are spelled from fields are read as just those fields, TCP where the IP packet states its whole header
abbrev pub ReadsTcp : ℕ → List ℕ → Result L4View Counter → Type 0
ReadsTcp stated bytes result = (f : TcpFields) → IsTcp f → tcp_header_len f ≤ stated → bytes ≡ tcp_segment f → result ≡ Ok (tcp_fields_view f)

abbrev pub ReadsUdp : List ℕ → Result L4View Counter → Type 0
ReadsUdp bytes result = (f : UdpFields) → IsUdp f → bytes ≡ udp_datagram f → result ≡ Ok (udp_fields_view f)

abbrev pub ReadsIcmp : List ℕ → Result L4View Counter → Type 0
ReadsIcmp bytes result = (f : IcmpFields) → bytes ≡ icmp_message f → result ≡ Ok (icmp_fields_view f)
