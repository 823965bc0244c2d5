-- The segments of a web conversation: a handshake, a request, its answer, and the close of both directions (RFC 9293, section 3.5 and 3.6).
use Rattle.std.specs.Prelude.{ℕ, ◌+◌, ◌%◌, ◌==◌, Bool, true, false, if◌then◌else◌, List, [], ◌∷◌, ◌++◌, map, codes}
use Rattle.std.specs.List.{range_with_len}
use Rattle.capture_gen.specs.declared.web.Payload.{Payload}
use Rattle.capture_gen.specs.declared.web.Payload.TheVariants.{Nothing, Request, Answer}
use Rattle.capture_gen.specs.declared.web.Segment.{Segment}

-- a segment: whether the client sends it, its flags, its sequence and acknowledgement numbers, and what it bears
abbrev pub segment : Bool → ℕ → ℕ → ℕ → Payload → Segment
segment from_client flags seq ack payload = record { from_client = from_client; flags = flags; seq = seq; ack = ack; payload = payload }

-- the segment of each step; the server's first number behind its answer of 100 + size bytes is 5101 + size
abbrev pub segment_of : ℕ → ℕ → Segment
segment_of size step =
    if step == 1 then segment true 0x02 1000 0 Nothing
    else (if step == 2 then segment false 0x12 5000 1001 Nothing
    else (if step == 3 then segment true 0x10 1001 5001 Nothing
    else (if step == 4 then segment true 0x18 1001 5001 Request
    else (if step == 5 then segment false 0x18 5001 1019 Answer
    else (if step == 6 then segment true 0x10 1019 (5101 + size) Nothing
    else (if step == 7 then segment true 0x11 1019 (5101 + size) Nothing
    else (if step == 8 then segment false 0x10 (5101 + size) 1020 Nothing
    else (if step == 9 then segment false 0x11 (5101 + size) 1020 Nothing
    else segment true 0x10 1020 (5101 + size + 1) Nothing))))))))

-- bytes that count from 0 on and begin again after 255
abbrev pub counting : ℕ → List ℕ
counting n = map (λ j. j % 256) (range_with_len 0 n)

-- what a segment bears: nothing, a request and its empty line (RFC 9112, section 2.1), or bytes that count
abbrev pub payload_bytes : ℕ → Payload → List ℕ
payload_bytes size Nothing = []
payload_bytes size Request = codes "GET / HTTP/1.1" ++ (13 ∷ 10 ∷ 13 ∷ 10 ∷ [])
payload_bytes size Answer = counting (100 + size)
