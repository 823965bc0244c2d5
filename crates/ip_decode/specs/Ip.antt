-- What the IP header of a packet says, or the first counter that applies. The first byte of a packet has place 0.
use Rattle.std.specs.Prelude.{ℕ, ◌+◌, ◌-◌, ◌*◌, ◌/◌, ◌%◌, ◌||◌, ◌==◌, min, nat_lt, not, Bool, if◌then◌else◌, List, length, take, drop, slice_index, Result, Ok, Err}
use Rattle.std.specs.Int.Bits.{bit_and}
use Rattle.suri_base.specs.declared.counter.Counter.{Counter}
use Rattle.suri_base.specs.declared.counter.Counter.TheVariants.{IpSmall, IpVersion, IpHeader, Fragment}
use Rattle.header_fields.specs.Fields.{number_at}
use Rattle.ip_decode.specs.declared.view.IpView.{IpView}
use Rattle.ip_decode.specs.declared.extensions.Upper.{Upper}
use Rattle.ip_decode.specs.Extensions.{and_then, upper_of}

-- the upper four bits of the first byte
abbrev pub version_of : List ℕ → ℕ
version_of bytes = slice_index bytes 0 / 16

-- IPv4: the header length, four times the lower four bits of the first byte (RFC 791, section 3.1)
abbrev pub header_of : List ℕ → ℕ
header_of bytes = slice_index bytes 0 % 16 * 4

-- IPv4: the total length, bytes 2 and 3 (RFC 791, section 3.1), where 0 means all bytes
abbrev pub total_of : List ℕ → ℕ
total_of bytes = if number_at 2 2 bytes == 0 then length bytes else number_at 2 2 bytes

-- IPv4: whether the packet is a fragment of a datagram (RFC 791, section 3.1): in bytes 6 and 7 the third bit says that more fragments follow, and the lower 13 are the offset
abbrev pub is_fragment_of : List ℕ → Bool
is_fragment_of bytes =
    not (bit_and (number_at 2 6 bytes) 0x2000 == 0) || not (bit_and (number_at 2 6 bytes) 0x1fff == 0)

-- the view of an IPv4 packet without fault (RFC 791, section 3.1): time to live at byte 8, protocol at byte 9, source at byte 12, destination at byte 16
abbrev pub ipv4_view : List ℕ → IpView
ipv4_view bytes = record {
  version = 4;
  src = number_at 4 12 bytes;
  dst = number_at 4 16 bytes;
  ttl = slice_index bytes 8;
  proto = slice_index bytes 9;
  pay_at = header_of bytes;
  pay_len = min (total_of bytes) (length bytes) - header_of bytes;
  stated = total_of bytes - header_of bytes;
}

-- IPv4 (RFC 791, section 3.1): a header has at least 20 bytes
unfoldable pub ipv4_of : List ℕ → Result IpView Counter
ipv4_of bytes =
    if nat_lt (length bytes) 20 then Err IpSmall
    else (if not (version_of bytes == 4) then Err IpVersion
    else (if nat_lt (header_of bytes) 20 || nat_lt (total_of bytes) (header_of bytes) then Err IpHeader
    else (if nat_lt (length bytes) (header_of bytes) then Err IpSmall
    else (if is_fragment_of bytes then Err Fragment
    else Ok (ipv4_view bytes)))))

-- IPv6: the length of the packet with its header of 40 bytes; bytes 4 and 5 are the payload length (RFC 8200, section 3), where 0 means all bytes
abbrev pub whole_of : List ℕ → ℕ
whole_of bytes = if number_at 2 4 bytes == 0 then length bytes else 40 + number_at 2 4 bytes

-- IPv6: the captured bytes of the packet, padding left out
abbrev pub packet_of : List ℕ → List ℕ
packet_of bytes = take (whole_of bytes) bytes

-- the view of an IPv6 packet with this behind its extension headers: the payload is the end of the packet.
-- The hop limit stands at byte 7, the source at byte 8, the destination at byte 24 (RFC 8200, section 3)
abbrev pub ipv6_view : List ℕ → Upper → IpView
ipv6_view bytes upper = record {
  version = 6;
  src = number_at 16 8 bytes;
  dst = number_at 16 24 bytes;
  ttl = slice_index bytes 7;
  proto = upper.proto;
  pay_at = length (packet_of bytes) - upper.len;
  pay_len = upper.len;
  stated = whole_of bytes - (length (packet_of bytes) - upper.len);
}

-- IPv6 (RFC 8200, section 3): a header has 40 bytes, and byte 6 is the next header; at most sixteen extension headers, this project's own limit
unfoldable pub ipv6_of : List ℕ → Result IpView Counter
ipv6_of bytes =
    if nat_lt (length bytes) 40 then Err IpSmall
    else (if not (version_of bytes == 6) then Err IpVersion
    else and_then (λ upper. Ok (ipv6_view bytes upper)) (upper_of 16 (slice_index bytes 6) (drop 40 (packet_of bytes))))

-- the header of a packet of this version, 4 or 6
abbrev pub ip_of : ℕ → List ℕ → Result IpView Counter
ip_of version bytes = if version == 4 then ipv4_of bytes else ipv6_of bytes
