-- What is kept of what became of a frame, and what is read back from it.
use Rattle.std.specs.Prelude.{◌≡◌, ℕ, ◌+◌, ◌*◌, ◌/◌, ◌%◌, ◌^◌, ◌<◌, ◌≤◌, false, if◌then◌else◌, List, [], ◌∷◌, ◌++◌, length, Option, Some, None, unwrap_or}
use Rattle.suri_base.specs.Hash.{fnv1a, key_bytes}
use Rattle.suri_base.specs.Protocols.{is_icmp, is_tcp}
use Rattle.suri_base.specs.declared.address.Address.{Address}
use Rattle.suri_base.specs.declared.counter.Counter.{Counter}
use Rattle.suri_base.specs.declared.facts.Facts.{Facts}
use Rattle.suri_base.specs.declared.facts.IcmpFacts.{IcmpFacts}
use Rattle.suri_base.specs.declared.facts.TcpFacts.{TcpFacts}
use Rattle.suri_base.specs.declared.frame.Frame.{Frame}
use Rattle.suri_base.specs.declared.key.Key.{Key}
use Rattle.suri_base.specs.declared.key.Side.TheVariants.{FromA}
use Rattle.suri_base.specs.declared.seen.Seen.{Seen}
use Rattle.suri_base.specs.declared.seen.Seen.TheVariants.{Bears, Counted}
use Rattle.suri_base.specs.declared.slot.Slot.{Slot}

-- an address of two halves of 64 bits, and the halves of an address
abbrev pub address_of : Address → ℕ
address_of a = a.high * 2 ^ 64 + a.low

abbrev pub halved : ℕ → Address
halved n = record { high = n / 2 ^ 64; low = n % 2 ^ 64 }

abbrev pub no_tcp : TcpFacts
no_tcp = record { seq = 0; ack = 0; flags = 0 }

abbrev pub no_icmp : IcmpFacts
no_icmp = record { kind = 0; code = 0 }

-- what is kept of what became of a frame
unfoldable pub packed : Seen → Slot
packed (Bears f) = record {
  counter = None;
  hash = fnv1a (key_bytes f.key);
  vlans = f.key.vlans;
  version = f.key.version;
  proto = f.key.proto;
  one_way = f.key.one_way;
  a_addr = halved f.key.a.addr;
  a_port = f.key.a.port;
  b_addr = halved f.key.b.addr;
  b_port = f.key.b.port;
  side = f.side;
  ttl = f.ttl;
  len = f.len;
  tcp = unwrap_or f.tcp no_tcp;
  icmp = unwrap_or f.icmp no_icmp;
  pay_at = f.pay_at;
  pay_len = f.pay_len;
  next = f.next;
}
packed (Counted c) = record {
  counter = Some c;
  hash = 0;
  vlans = record { count = 0; first = 0; second = 0; third = 0 };
  version = 0;
  proto = 0;
  one_way = false;
  a_addr = halved 0;
  a_port = 0;
  b_addr = halved 0;
  b_port = 0;
  side = FromA;
  ttl = 0;
  len = 0;
  tcp = no_tcp;
  icmp = no_icmp;
  pay_at = 0;
  pay_len = 0;
  next = 0;
}

-- the key that is kept
abbrev pub slot_key : Slot → Key
slot_key s = record {
  vlans = s.vlans;
  version = s.version;
  proto = s.proto;
  one_way = s.one_way;
  a = record { addr = address_of s.a_addr; port = s.a_port };
  b = record { addr = address_of s.b_addr; port = s.b_port };
}

-- the facts of a frame with this clock; TCP's are there for protocol 6 alone, and ICMP's for the ICMP of the IP version
abbrev pub slot_facts : Frame → ℕ → Slot → Facts
slot_facts frame clock s = record {
  no = frame.no;
  time = frame.time;
  clock = clock;
  key = slot_key s;
  side = s.side;
  len = s.len;
  ttl = s.ttl;
  tcp = if is_tcp s.proto then Some s.tcp else None;
  icmp = if is_icmp s.version s.proto then Some s.icmp else None;
  pay_at = s.pay_at;
  pay_len = s.pay_len;
  next = s.next;
}

-- what became of a frame with this clock, by its counter
abbrev pub unpacked_as : Option Counter → Frame → ℕ → Slot → Seen
unpacked_as (Some c) frame clock s = Counted c
unpacked_as None frame clock s = Bears (slot_facts frame clock s)

-- what became of a frame with this clock
abbrev pub unpacked : Frame → ℕ → Slot → Seen
unpacked frame clock s = unpacked_as s.counter frame clock s

-- what became of each of some frames, with the clocks beside them
abbrev pub all_unpacked : List Frame → List ℕ → List Slot → List Seen
all_unpacked (f ∷ frames) (clock ∷ clocks) (s ∷ slots) = unpacked f clock s ∷ all_unpacked frames clocks slots
all_unpacked _ _ _ = []

-- the hash of the key is kept where there is one
abbrev pub IsHashed : Slot → Type 0
IsHashed s = s.counter ≡ None → s.hash ≡ fnv1a (key_bytes (slot_key s))

abbrev pub AreHashed : List Slot → Type 0
AreHashed [] = Unit {0}
AreHashed (s ∷ slots) = IsHashed s × AreHashed slots

-- some pieces one behind the other
abbrev pub joined : {A : Type 0} → List (List A) → List A
joined [] = []
joined (piece ∷ pieces) = piece ++ joined pieces

-- no piece has more slots than this, and each that slots follow has as many
abbrev pub ArePieces : ℕ → List (List Slot) → Type 0
ArePieces size [] = Unit {0}
ArePieces size (piece ∷ pieces) = (length piece ≤ size) × (0 < length (joined pieces) → length piece ≡ size) × ArePieces size pieces
