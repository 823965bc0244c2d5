-- The members of one direction of a TCP run, and their stream. Lists have the newest member first. Which bytes a segment
-- brings is RFC 9293, section 3.4; that the earliest member wins, the depth and the stop are this project's own.
use Rattle.std.specs.Prelude.{ℕ, ◌+◌, ◌-◌, ◌%◌, ◌^◌, ◌==◌, Bool, ◌||◌, if◌then◌else◌, nat_lt, List, [], ◌∷◌, length, map, filter, take}
use Rattle.std.specs.Prelude.{drop, min, Option, None, Some}
use Rattle.std.specs.Option.{option_or, unwrap_or}
use Rattle.sha1.specs.Sha1.{sha1}
use Rattle.suri_base.specs.Flags.{has_all}
use Rattle.suri_base.specs.declared.facts.TcpFacts.{TcpFacts}
use Rattle.suri_base.specs.declared.stream.Offer.{Offer}
use Rattle.suri_base.specs.declared.stream.Offer.TheVariants.{Stopped}
use Rattle.suri_base.specs.declared.stream.StreamLine.{StreamLine}
use Rattle.reassembly.specs.Parts.{Part, answer_to, byte_at, bytes_from, part}

-- a TCP segment: the number of its frame, what its header tells, the place of its payload in the capture's bytes, and the payload
pub record Member : Type 0 where
  pub no : ℕ
  pub tcp : TcpFacts
  pub at : ℕ
  pub payload : List ℕ

abbrev pub member : ℕ → TcpFacts → ℕ → List ℕ → Member
member number tcp at payload = record { no = number; tcp = tcp; at = at; payload = payload }

-- SYN is set (RFC 9293, section 3.1)
abbrev pub has_syn : TcpFacts → Bool
has_syn tcp = has_all 0x02 tcp.flags

-- the sequence number of the first payload byte: a SYN takes one number (RFC 9293, section 3.4)
abbrev pub sequence_of : TcpFacts → ℕ
sequence_of tcp = (tcp.seq + (if has_syn tcp then 1 else 0)) % 2 ^ 32

-- a member with SYN or with payload may set the base
abbrev pub sets_base : Member → Bool
sets_base m = has_syn m.tcp || nat_lt 0 (length m.payload)

-- the base, which is the sequence number at offset 0: that of the first payload byte of the earliest member that may set it
abbrev pub base_of : List Member → Option ℕ
base_of [] = None
base_of (m ∷ older) = option_or (base_of older) (if sets_base m then Some (sequence_of m.tcp) else None)

-- how far a sequence number stands after the base, modulo 2^32 (RFC 9293, section 3.4); from 2^31 on it stands before the base
abbrev pub ahead : ℕ → ℕ → ℕ
ahead base sequence = (sequence + 2 ^ 32 - base) % 2 ^ 32

-- the first offset of a member that is at least 0
abbrev pub first_of : ℕ → ℕ → ℕ
first_of base sequence = if nat_lt (ahead base sequence) (2 ^ 31) then ahead base sequence else 0

-- how many of its payload bytes stand before the base
abbrev pub early : ℕ → ℕ → List ℕ → ℕ
early base sequence payload =
    if nat_lt (ahead base sequence) (2 ^ 31) then 0 else min (2 ^ 32 - ahead base sequence) (length payload)

-- its payload bytes whose offsets are at least 0 and below the depth
abbrev pub bytes_of : ℕ → ℕ → ℕ → List ℕ → List ℕ
bytes_of depth base sequence payload = take (depth - first_of base sequence) (drop (early base sequence payload) payload)

-- what a member brings
abbrev pub part_of : ℕ → ℕ → Member → Part
part_of depth base m =
    let sequence = sequence_of m.tcp in
    part m.no (first_of base sequence) (m.at + early base sequence m.payload) (bytes_of depth base sequence m.payload)

-- what members bring, seen from a base; where there is none no member has a payload, so any base serves
abbrev pub parts_from : ℕ → Option ℕ → List Member → List Part
parts_from depth base members = map (part_of depth (unwrap_or base 0)) members

-- what members bring, seen from their own base
abbrev pub parts_of : ℕ → List Member → List Part
parts_of depth members = parts_from depth (base_of members) members

-- the members that count: where a stop was set, those before that frame alone; 0 is no stop
abbrev pub before_stop : ℕ → List Member → List Member
before_stop stop members = if stop == 0 then members else filter (λ m. nat_lt m.no stop) members

-- the stream: the bytes below the frontier
abbrev pub stream_of : ℕ → ℕ → List Member → List ℕ
stream_of depth stop members = bytes_from (byte_at (parts_of depth (before_stop stop members))) 0 depth

-- what a flow record says of it, with the SHA-1 of its bytes (FIPS 180-4)
abbrev pub line_of : ℕ → ℕ → List Member → StreamLine
line_of depth stop members = record {
  bytes = length (stream_of depth stop members);
  digest = sha1 (stream_of depth stop members);
  stop = stop;
}

-- the answer to a member, seen from the members before it and from the base, which it may set itself
abbrev pub offer_of : ℕ → ℕ → List Member → Member → Offer
offer_of depth stop older m =
    let base = base_of (m ∷ older) in
    if stop == 0 then answer_to depth (parts_from depth base older) (part_of depth (unwrap_or base 0) m) else Stopped
