-- A capture file (the pcap format, version 2.4): a header, whole records end to end, and a tail that begins with no whole record.
use Rattle.std.specs.Prelude.{◌≡◌, ℕ, ◌≤◌, List, ◌++◌, length, drop, Result, Ok, Err, MatchResult, ◌⊎◌, All}
use Rattle.std.specs.List.{concat}
use Rattle.suri_base.specs.declared.frame.Frame.{Frame}
use Rattle.pcap_read.specs.declared.header.Header.{Header}
use Rattle.pcap_read.specs.declared.fault.PcapFault.{PcapFault}
use Rattle.pcap_read.specs.declared.fault.PcapFault.TheVariants.{NoMemory}
use Rattle.pcap_read.specs.Header.{header_of}
use Rattle.pcap_read.specs.Records.{AreWhole, IsTail, ends_in, frames_of}

-- the bytes are a good header, these whole records and this tail
pub record IsSpelled (h : Header) (records : List (List ℕ)) (tail bytes : List ℕ) : Type 0 where
  pub header : header_of bytes ≡ Ok h
  pub records_whole : AreWhole h records
  pub few : length records ≤ 4194304
  pub tail_cut : IsTail h (length records) tail
  pub joined : drop 24 bytes ≡ concat records ++ tail

-- what a file holds: its link type, its frames, and how many bytes are cut off
pub record CaptureFile : Type 0 where
  pub link : ℕ
  pub frames : List Frame
  pub cut_bytes : ℕ

-- a file with these records, of which so many bytes are cut off
abbrev pub file_of : Header → List (List ℕ) → ℕ → CaptureFile
file_of h records cut = record { link = h.link; frames = frames_of h 0 24 records; cut_bytes = cut }

-- with the records known, the tail decides what the file holds
abbrev pub Concludes : Header → List (List ℕ) → Result ℕ PcapFault → Result CaptureFile PcapFault → Type 0
Concludes h records (Ok cut) answer = answer ≡ Ok (file_of h records cut)
Concludes h records (Err fault) answer = answer ≡ Err fault

-- the file holds this, or this is its first fault
pub data Reads (bytes : List ℕ) : Result CaptureFile PcapFault → Type 0 where
  bad_header : (fault : PcapFault) → header_of bytes ≡ Err fault → Reads bytes (Err fault)
  whole : (h : Header) (records : List (List ℕ)) (tail : List ℕ) (answer : Result CaptureFile PcapFault) → IsSpelled h records tail bytes
      → Concludes h records (ends_in h (length records) tail) answer → Reads bytes answer

-- the answer is what the file holds, or its first fault, unless memory ran out
abbrev pub Tells : List ℕ → Result CaptureFile PcapFault → Type 0
Tells bytes result = MatchResult result (λ f. Reads bytes (Ok f)) (λ e. (e ≡ NoMemory) ⊎ Reads bytes (Err e))

-- the answer is this one, unless memory ran out
abbrev pub Agrees : Result CaptureFile PcapFault → Result CaptureFile PcapFault → Type 0
Agrees result answer = MatchResult result (λ f. answer ≡ Ok f) (λ e. (e ≡ NoMemory) ⊎ (answer ≡ Err e))

-- no frame is longer than a record may be
abbrev pub AreShort : List Frame → Type 0
AreShort frames = All (λ f. f.len ≤ 262144) frames
