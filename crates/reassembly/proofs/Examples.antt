-- Small streams, worked out by hand, by computing them. Lists have the newest first. Of flags, SYN is 0x02, ACK 0x10, PSH 0x08 and
-- FIN 0x01 (RFC 9293, section 3.1). Where nothing else is said the depth is 2^20.
use Rattle.std.proofs.Common.{◌≡◌, ℕ, List, [], ◌∷◌, length, None, Some, refl}
use Rattle.std.specs.Prelude.{codes}
use Rattle.sha1.specs.Sha1.{first_words, schedule, rounds, compress, hash_after, digest_bytes, sha1}
use Rattle.suri_base.specs.declared.stream.Offer.{Offer}
use Rattle.suri_base.specs.declared.stream.Offer.TheVariants.{InOrder, Nothing, NeedsSegment, Stopped}
use Rattle.reassembly.specs.Kept.{waiting_among}
use Rattle.reassembly.specs.Members.{Member, base_of, line_of, offer_of, stream_of}
use Rattle.reassembly.specs.Parts.{bytes_from}

-- the number of the frame, sequence number, flags and payload of a segment; no definition of a stream reads its place
abbrev segment : ℕ → ℕ → ℕ → List ℕ → Member
segment number sequence flags payload =
    record { no = number; tcp = record { seq = sequence; ack = 0; flags = flags }; at = 0; payload = payload }

-- the answer to each of some members, where none is a stop
abbrev answers : ℕ → List Member → List Offer
answers depth [] = []
answers depth (m ∷ older) = offer_of depth 0 older m ∷ answers depth older

-- how many wait after each of them
abbrev waits : ℕ → List Member → List ℕ
waits depth [] = []
waits depth (m ∷ older) = length (waiting_among depth 0 (m ∷ older)) ∷ waits depth older

-- an overlap across the wrap of the sequence numbers: the earlier segment keeps its byte
abbrev wrapped : List Member
wrapped =
    segment 4 4294967294 0x18 (codes "ayz") ∷
    segment 3 0 0x18 (codes "z") ∷
    segment 2 4294967295 0x18 (codes "bc") ∷
    segment 1 4294967293 0x02 [] ∷
    []

wrapped_answers : answers 1048576 wrapped ≡ InOrder ∷ Nothing ∷ NeedsSegment ∷ Nothing ∷ []
unfolding bytes_from
wrapped_answers = refl

wrapped_stream : stream_of 1048576 0 wrapped ≡ codes "abc"
unfolding bytes_from
wrapped_stream = refl

wrapped_waits : waits 1048576 wrapped ≡ 0 ∷ 1 ∷ 1 ∷ 0 ∷ []
unfolding bytes_from
wrapped_waits = refl

wrapped_base : base_of wrapped ≡ Some 4294967294
wrapped_base = refl

-- no byte at the depth or beyond it is delivered
abbrev deep : List Member
deep =
    segment 3 13 0x18 (codes "d") ∷
    segment 2 10 0x18 (codes "abc") ∷
    segment 1 9 0x02 [] ∷
    []

deep_answers : answers 2 deep ≡ Nothing ∷ InOrder ∷ Nothing ∷ []
unfolding bytes_from
deep_answers = refl

deep_stream : stream_of 2 0 deep ≡ codes "ab"
unfolding bytes_from
deep_stream = refl

-- with depth 0 no byte is
abbrev closed : List Member
closed =
    segment 3 20 0x18 (codes "d") ∷
    segment 2 10 0x18 (codes "abc") ∷
    segment 1 9 0x02 [] ∷
    []

closed_answers : answers 0 closed ≡ Nothing ∷ Nothing ∷ Nothing ∷ []
unfolding bytes_from
closed_answers = refl

closed_stream : stream_of 0 0 closed ≡ codes ""
unfolding bytes_from
closed_stream = refl

-- a SYN with payload: its first byte has the number after that of the SYN (RFC 9293, section 3.4)
abbrev opened : List Member
opened =
    segment 2 102 0x18 (codes "!") ∷
    segment 1 99 0x02 (codes "hi") ∷
    []

opened_answers : answers 1048576 opened ≡ InOrder ∷ InOrder ∷ []
unfolding bytes_from
opened_answers = refl

opened_stream : stream_of 1048576 0 opened ≡ codes "hi!"
unfolding bytes_from
opened_stream = refl

opened_base : base_of opened ≡ Some 100
opened_base = refl

-- an acknowledgement sets no base, and the first payload does; bytes before the base are not delivered
abbrev begun_late : List Member
begun_late =
    segment 4 998 0x18 (codes "abxye") ∷
    segment 3 998 0x18 (codes "ab") ∷
    segment 2 1000 0x18 (codes "cd") ∷
    segment 1 700 0x10 [] ∷
    []

begun_late_answers : answers 1048576 begun_late ≡ InOrder ∷ Nothing ∷ InOrder ∷ Nothing ∷ []
unfolding bytes_from
begun_late_answers = refl

begun_late_stream : stream_of 1048576 0 begun_late ≡ codes "cde"
unfolding bytes_from
begun_late_stream = refl

begun_late_base : base_of begun_late ≡ Some 1000
begun_late_base = refl

-- a retransmission with other bytes: what came first stays, and only what is new is delivered
abbrev sent_again : List Member
sent_again =
    segment 4 11 0x18 (codes "yzd") ∷
    segment 3 10 0x18 (codes "xyz") ∷
    segment 2 10 0x18 (codes "abc") ∷
    segment 1 9 0x02 [] ∷
    []

sent_again_answers : answers 1048576 sent_again ≡ InOrder ∷ Nothing ∷ InOrder ∷ Nothing ∷ []
unfolding bytes_from
sent_again_answers = refl

sent_again_stream : stream_of 1048576 0 sent_again ≡ codes "abcd"
unfolding bytes_from
sent_again_stream = refl

-- one segment closes the gap before ten that wait, the last of them first
abbrev closed_gap : List Member
closed_gap =
    segment 12 1 0x18 (codes "a") ∷
    segment 11 2 0x18 (codes "b") ∷
    segment 10 3 0x18 (codes "c") ∷
    segment 9 4 0x18 (codes "d") ∷
    segment 8 5 0x18 (codes "e") ∷
    segment 7 6 0x18 (codes "f") ∷
    segment 6 7 0x18 (codes "g") ∷
    segment 5 8 0x18 (codes "h") ∷
    segment 4 9 0x18 (codes "i") ∷
    segment 3 10 0x18 (codes "j") ∷
    segment 2 11 0x18 (codes "k") ∷
    segment 1 0 0x02 [] ∷
    []

closed_gap_answers : answers 1048576 closed_gap
    ≡ InOrder ∷ NeedsSegment ∷ NeedsSegment ∷ NeedsSegment ∷ NeedsSegment ∷ NeedsSegment ∷ NeedsSegment ∷ NeedsSegment ∷ NeedsSegment ∷ NeedsSegment ∷
    NeedsSegment ∷ Nothing ∷ []
unfolding bytes_from
closed_gap_answers = refl

closed_gap_stream : stream_of 1048576 0 closed_gap ≡ codes "abcdefghijk"
unfolding bytes_from
closed_gap_stream = refl

closed_gap_waits : waits 1048576 closed_gap ≡ 0 ∷ 10 ∷ 9 ∷ 8 ∷ 7 ∷ 6 ∷ 5 ∷ 4 ∷ 3 ∷ 2 ∷ 1 ∷ 0 ∷ []
unfolding bytes_from
closed_gap_waits = refl

-- a segment that closes a gap overlaps one that waits, and this another: each byte is that of the segment that came first
abbrev overlapped : List Member
overlapped =
    segment 4 10 0x18 (codes "AB") ∷
    segment 3 11 0x18 (codes "bcdef") ∷
    segment 2 12 0x18 (codes "CD") ∷
    segment 1 9 0x02 [] ∷
    []

overlapped_answers : answers 1048576 overlapped ≡ InOrder ∷ NeedsSegment ∷ NeedsSegment ∷ Nothing ∷ []
unfolding bytes_from
overlapped_answers = refl

overlapped_stream : stream_of 1048576 0 overlapped ≡ codes "AbCDef"
unfolding bytes_from
overlapped_stream = refl

overlapped_waits : waits 1048576 overlapped ≡ 0 ∷ 2 ∷ 1 ∷ 0 ∷ []
unfolding bytes_from
overlapped_waits = refl

-- 2^31 numbers after the base a segment stands before it; one number less after it, it waits
abbrev halves : List Member
halves =
    segment 3 2147483657 0x18 (codes "b") ∷
    segment 2 2147483658 0x18 (codes "a") ∷
    segment 1 9 0x02 [] ∷
    []

halves_answers : answers 1048576 halves ≡ Nothing ∷ Nothing ∷ Nothing ∷ []
unfolding bytes_from
halves_answers = refl

halves_stream : stream_of 1048576 0 halves ≡ codes ""
unfolding bytes_from
halves_stream = refl

-- a client that opens a connection, sends three bytes and closes it
abbrev client : List Member
client =
    segment 5 105 0x10 [] ∷
    segment 4 104 0x11 [] ∷
    segment 3 101 0x18 (codes "abc") ∷
    segment 2 101 0x10 [] ∷
    segment 1 100 0x02 [] ∷
    []

client_answers : answers 1048576 client ≡ Nothing ∷ Nothing ∷ InOrder ∷ Nothing ∷ Nothing ∷ []
unfolding bytes_from
client_answers = refl

client_stream : stream_of 1048576 0 client ≡ codes "abc"
unfolding bytes_from
client_stream = refl

client_base : base_of client ≡ Some 101
client_base = refl

-- its server, which sends none
abbrev server : List Member
server =
    segment 2 501 0x11 [] ∷
    segment 1 500 0x12 [] ∷
    []

server_answers : answers 1048576 server ≡ Nothing ∷ Nothing ∷ []
unfolding bytes_from
server_answers = refl

server_stream : stream_of 1048576 0 server ≡ codes ""
unfolding bytes_from
server_stream = refl

server_base : base_of server ≡ Some 501
server_base = refl

-- a segment of which no payload was captured
abbrev cut : List Member
cut =
    segment 1 101 0x18 [] ∷
    []

cut_answers : answers 1048576 cut ≡ Nothing ∷ []
unfolding bytes_from
cut_answers = refl

cut_stream : stream_of 1048576 0 cut ≡ codes ""
unfolding bytes_from
cut_stream = refl

cut_base : base_of cut ≡ None
cut_base = refl

-- a stop at the second frame: neither it nor a later one counts
abbrev stopped : List Member
stopped =
    segment 3 1001 0x18 (codes "a") ∷
    segment 2 1002 0x18 (codes "b") ∷
    segment 1 1000 0x02 [] ∷
    []

stopped_stream : stream_of 1048576 2 stopped ≡ codes ""
unfolding bytes_from
stopped_stream = refl

-- what is told of the stream that the overlap made: three bytes, with the digest of 'abc' (FIPS 180-4)
wrapped_line : line_of 1048576 0 wrapped
    ≡ record {
      bytes = 3;
      digest = 0xa9 ∷ 0x99 ∷ 0x3e ∷ 0x36 ∷ 0x47 ∷ 0x06 ∷ 0x81 ∷ 0x6a ∷ 0xba ∷ 0x3e ∷ 0x25 ∷ 0x71 ∷ 0x78 ∷ 0x50 ∷ 0xc2 ∷ 0x6c ∷
          0x9c ∷ 0xd0 ∷ 0xd8 ∷ 0x9d ∷ [];
      stop = 0;
    }
unfolding bytes_from first_words schedule rounds compress hash_after digest_bytes sha1
wrapped_line = refl

stopped_asks : offer_of 1048576 0 (segment 1 1000 0x02 [] ∷ []) (segment 2 1002 0x18 (codes "b")) ≡ NeedsSegment
unfolding bytes_from
stopped_asks = refl

stopped_answer : offer_of 1048576 2 (segment 2 1002 0x18 (codes "b") ∷ segment 1 1000 0x02 [] ∷ []) (segment 3 1001 0x18 (codes "a")) ≡ Stopped
stopped_answer = refl

stopped_waits : waiting_among 1048576 2 stopped ≡ []
stopped_waits = refl
