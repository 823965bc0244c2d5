-- The records of a capture file, whole ones, end to end, and what stands behind them (draft-ietf-opsawg-pcap, section 'Packet Record'): a record header of 16 bytes has
-- the seconds at 0, the fraction at 4, the captured length at 8 and the original length at 12; the captured bytes follow.
-- At most 4,194,304 records, of at most 262,144 captured bytes, is this project's own rule.
use Rattle.std.specs.Prelude.{◌≡◌, ℕ, ◌+◌, ◌*◌, ◌<◌, ◌≤◌, ◌==◌, nat_lt, if◌then◌else◌, List, [], ◌∷◌, length, Result, Ok, Err}
use Rattle.suri_base.specs.declared.frame.Frame.{Frame}
use Rattle.pcap_read.specs.declared.header.Header.{Header}
use Rattle.pcap_read.specs.declared.fault.PcapFault.{PcapFault}
use Rattle.pcap_read.specs.declared.fault.PcapFault.TheVariants.{Long, TooMany}
use Rattle.pcap_read.specs.Header.{field}

-- the captured length that a record header states
abbrev pub captured : Header → List ℕ → ℕ
captured h bytes = field h.order 4 8 bytes

-- a whole record: its header, and as many bytes as that states, which are not too many
pub record IsWhole (h : Header) (bytes : List ℕ) : Type 0 where
  pub header : 16 ≤ length bytes
  pub small : captured h bytes ≤ 262144
  pub body : length bytes ≡ 16 + captured h bytes

-- each is a whole record
abbrev pub AreWhole : Header → List (List ℕ) → Type 0
AreWhole h [] = Unit {0}
AreWhole h (r ∷ rs) = IsWhole h r × AreWhole h rs

-- the frame of a record that begins at a place of the file, after so many others
abbrev pub frame_of : Header → ℕ → ℕ → List ℕ → Frame
frame_of h before at r = record {
  no = before + 1;
  time = field h.order 4 0 r * 1000000000 + field h.order 4 4 r * h.unit;
  orig = field h.order 4 12 r;
  at = at + 16;
  len = captured h r;
}

-- the frames of records that stand end to end from a place on, after so many others
abbrev pub frames_of : Header → ℕ → ℕ → List (List ℕ) → List Frame
frames_of h before at [] = []
frames_of h before at (r ∷ rs) = frame_of h before at r ∷ frames_of h (before + 1) (at + length r) rs

-- a tail does not begin with a whole record, but where the most frames stand before it
abbrev pub IsTail : Header → ℕ → List ℕ → Type 0
IsTail h before tail = 16 ≤ length tail → before < 4194304 → captured h tail ≤ 262144 → length tail < 16 + captured h tail

-- what a tail after so many records means: the file ends there, with so many bytes cut off, or has this fault
abbrev pub ends_in : Header → ℕ → List ℕ → Result ℕ PcapFault
ends_in h before tail =
    if length tail == 0 then Ok 0
    else (if before == 4194304 then Err TooMany
    else (if nat_lt (length tail) 16 then Ok (length tail)
    else (if nat_lt 262144 (captured h tail) then Err (Long (before + 1) (captured h tail))
    else Ok (length tail))))
