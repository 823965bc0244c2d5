-- A generated capture: a capture file (draft-ietf-opsawg-pcap) of Ethernet frames, one each 10 ms from 2023-11-14T22:13:20Z on.
use Rattle.std.specs.Prelude.{ℕ, ◌+◌, ◌*◌, ◌/◌, ◌%◌, List, [], ◌∷◌, ◌++◌, length}
use Rattle.std.specs.Int.{w32, to_le_bytes}
use Rattle.capture_gen.specs.declared.plan.Turn.{Turn}
use Rattle.capture_gen.specs.Frame.{frame}
use Rattle.capture_gen.specs.Plan.{planned}

-- the file's header: little-endian, microseconds, version 2.4, zone and accuracy 0, at most 262,144 captured bytes, link type 1
abbrev pub file_header : List ℕ
file_header =
    0xd4 ∷ 0xc3 ∷ 0xb2 ∷ 0xa1 ∷ 2 ∷ 0 ∷ 4 ∷ 0 ∷ 0 ∷ 0 ∷ 0 ∷ 0 ∷ 0 ∷ 0 ∷ 0 ∷ 0 ∷ 0 ∷ 0 ∷ 4 ∷ 0 ∷ 1 ∷ 0 ∷ 0 ∷ 0 ∷ []

-- seconds and microseconds of the time of the frame with this place, from 0
abbrev pub time_bytes : ℕ → List ℕ
time_bytes place = to_le_bytes w32 (1700000000 + place * 10000 / 1000000) ++ to_le_bytes w32 (place * 10000 % 1000000)

-- the header of its record: its time, and its length, which is both the captured and the original one
abbrev pub record_header : ℕ → ℕ → List ℕ
record_header place size = time_bytes place ++ to_le_bytes w32 size ++ to_le_bytes w32 size

-- the record of the frame with this place; its lane is the place modulo 16
abbrev pub record_of : ℕ → Turn → List ℕ
record_of place t = record_header place (length (frame (place % 16) t)) ++ frame (place % 16) t

-- the records of these turns, from a place on
abbrev pub records_from : ℕ → List Turn → List ℕ
records_from place [] = []
records_from place (t ∷ ts) = record_of place t ++ records_from (place + 1) ts

-- the capture of so many frames under a seed
abbrev pub generated : ℕ → ℕ → List ℕ
generated seed frames = file_header ++ records_from 0 (planned seed frames).turns
