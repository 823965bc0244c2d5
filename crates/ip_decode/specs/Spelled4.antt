-- How an IPv4 packet is spelled from its fields, and what such a packet is to be read as.
use Rattle.std.specs.Prelude.{◌≡◌, ◌⊎◌, ℕ, ◌+◌, ◌*◌, ◌/◌, ◌%◌, ◌^◌, ◌<◌, ◌≤◌, ◌&&◌, ◌==◌, if◌then◌else◌, List, [], ◌∷◌, ◌++◌, length, Result, Ok, Err}
use Rattle.suri_base.specs.declared.counter.Counter.{Counter}
use Rattle.suri_base.specs.declared.counter.Counter.TheVariants.{Fragment}
use Rattle.header_fields.specs.Spelled.{half, word}
use Rattle.ip_decode.specs.declared.view.IpView.{IpView}

-- the fields of an IPv4 packet (RFC 791, section 3.1), in their order; behind them how many payload bytes the capture left out, and the padding behind the packet
pub record Ipv4Fields : Type 0 where
  pub service : ℕ
  pub identification : ℕ
  pub reserved : ℕ
  pub dont_fragment : ℕ
  pub more_fragments : ℕ
  pub offset : ℕ
  pub ttl : ℕ
  pub protocol : ℕ
  pub checksum : ℕ
  pub source : ℕ
  pub destination : ℕ
  pub options : List ℕ
  pub payload : List ℕ
  pub left_out : ℕ
  pub padding : List ℕ

-- the length of the header with its options
abbrev pub header_len : Ipv4Fields → ℕ
header_len f = 20 + length f.options

-- the length of the packet with its header
abbrev pub total_len : Ipv4Fields → ℕ
total_len f = 20 + length f.options + length f.payload + f.left_out

-- three flags, each a bit, and the offset in 13 bits
abbrev pub fragment_field : Ipv4Fields → ℕ
fragment_field f = ((f.reserved * 2 + f.dont_fragment) * 2 + f.more_fragments) * 2 ^ 13 + f.offset

-- the version and the header length, in words of four bytes, share the first byte
abbrev pub first_byte : Ipv4Fields → ℕ
first_byte f = 4 * 16 + header_len f / 4

-- the bytes of the packet
abbrev pub ipv4_packet : Ipv4Fields → List ℕ
ipv4_packet f =
    (first_byte f ∷ f.service ∷ []) ++ half (total_len f)
    ++ half f.identification ++ half (fragment_field f)
    ++ (f.ttl ∷ f.protocol ∷ []) ++ half f.checksum
    ++ word f.source
    ++ word f.destination
    ++ f.options ++ f.payload ++ f.padding

-- the fields fit their bits, options come in words of four bytes, ten at most, and padding stands only behind a packet that was captured whole
pub record IsIpv4 (f : Ipv4Fields) : Type 0 where
  pub reserved : f.reserved < 2
  pub dont_fragment : f.dont_fragment < 2
  pub more_fragments : f.more_fragments < 2
  pub offset : f.offset < 2 ^ 13
  pub source : f.source < 2 ^ 32
  pub destination : f.destination < 2 ^ 32
  pub words : length f.options % 4 ≡ 0
  pub few : length f.options ≤ 40
  pub total : total_len f < 2 ^ 16
  pub end : (f.left_out ≡ 0) ⊎ (f.padding ≡ [])

-- what its header says
abbrev pub ipv4_fields_view : Ipv4Fields → IpView
ipv4_fields_view f = record {
  version = 4;
  src = f.source;
  dst = f.destination;
  ttl = f.ttl;
  proto = f.protocol;
  pay_at = header_len f;
  pay_len = length f.payload;
  stated = length f.payload + f.left_out;
}

-- a packet behind which no more fragments follow, and before which none stand, is read as its fields; every other one is a fragment
abbrev pub ipv4_answer : Ipv4Fields → Result IpView Counter
ipv4_answer f = if (f.more_fragments == 0) && (f.offset == 0) then Ok (ipv4_fields_view f) else Err Fragment

-- bytes that are spelled from fields are read as just those fields
abbrev pub ReadsIpv4 : List ℕ → Result IpView Counter → Type 0
ReadsIpv4 bytes result = (f : Ipv4Fields) → IsIpv4 f → bytes ≡ ipv4_packet f → result ≡ ipv4_answer f
