-- What the transport header of an IP packet says, or the first counter that applies. The first byte of a header has place 0.
use Rattle.std.specs.Prelude.{ℕ, ◌-◌, ◌*◌, ◌/◌, ◌||◌, min, nat_lt, if◌then◌else◌, List, length, slice_index, Some, None, Result, Ok, Err}
use Rattle.suri_base.specs.Protocols.{is_icmp, is_tcp, is_udp}
use Rattle.suri_base.specs.declared.counter.Counter.{Counter}
use Rattle.suri_base.specs.declared.counter.Counter.TheVariants.{TcpSmall, TcpHeader, UdpSmall, IcmpSmall, OtherProto}
use Rattle.header_fields.specs.Fields.{number_at}
use Rattle.l4_decode.specs.declared.view.L4View.{L4View}

-- TCP: the data offset in bytes, four times the upper four bits of byte 12 (RFC 9293, section 3.1)
abbrev pub data_offset : List ℕ → ℕ
data_offset bytes = slice_index bytes 12 / 16 * 4

-- the view of a TCP header without fault (RFC 9293, section 3.1): the ports at bytes 0 and 2, the sequence number at byte 4, the acknowledgement number at byte 8,
-- the control bits at byte 13; the payload runs from the data offset to the end, and is empty where the header ends behind it
abbrev pub tcp_view : List ℕ → L4View
tcp_view bytes = record {
  sport = number_at 2 0 bytes;
  dport = number_at 2 2 bytes;
  tcp = Some (record { seq = number_at 4 4 bytes; ack = number_at 4 8 bytes; flags = slice_index bytes 13 });
  icmp = None;
  pay_at = min (data_offset bytes) (length bytes);
  pay_len = length bytes - data_offset bytes;
}

-- TCP (RFC 9293, section 3.1): a header has at least 20 bytes, and no more than the IP packet states
unfoldable pub tcp_of : ℕ → List ℕ → Result L4View Counter
tcp_of stated bytes =
    if nat_lt (length bytes) 20 then Err TcpSmall
    else (if nat_lt (data_offset bytes) 20 || nat_lt stated (data_offset bytes) then Err TcpHeader
    else Ok (tcp_view bytes))

-- UDP: the length of the datagram with its header of 8 bytes, bytes 4 and 5 (RFC 768), where a length below 8 means all bytes
abbrev pub datagram_len : List ℕ → ℕ
datagram_len bytes = if nat_lt (number_at 2 4 bytes) 8 then length bytes else number_at 2 4 bytes

-- UDP (RFC 768): the ports at bytes 0 and 2; the payload runs from the header to the end of the datagram, or of the bytes where that is cut off
unfoldable pub udp_of : List ℕ → Result L4View Counter
udp_of bytes =
    if nat_lt (length bytes) 8 then Err UdpSmall
    else Ok (record {
      sport = number_at 2 0 bytes;
      dport = number_at 2 2 bytes;
      tcp = None;
      icmp = None;
      pay_at = 8;
      pay_len = min (datagram_len bytes) (length bytes) - 8;
    })

-- ICMP (RFC 792; RFC 4443, section 2.1): the type at byte 0 and the code at byte 1, in a header of which all messages share 4 bytes;
-- no ports, and an empty payload at the end of the bytes
unfoldable pub icmp_of : List ℕ → Result L4View Counter
icmp_of bytes =
    if nat_lt (length bytes) 4 then Err IcmpSmall
    else Ok (record {
      sport = 0;
      dport = 0;
      tcp = None;
      icmp = Some (record { kind = slice_index bytes 0; code = slice_index bytes 1 });
      pay_at = length bytes;
      pay_len = 0;
    })

-- the transport header of a packet of this IP version and protocol, which states so many payload bytes
unfoldable pub l4_of : ℕ → ℕ → ℕ → List ℕ → Result L4View Counter
l4_of version proto stated bytes =
    if is_tcp proto then tcp_of stated bytes
    else (if is_udp proto then udp_of bytes
    else (if is_icmp version proto then icmp_of bytes
    else Err OtherProto))
