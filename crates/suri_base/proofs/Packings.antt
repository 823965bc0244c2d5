-- What is kept of what became of a frame is read back as it was, and is found by its place.
use Rattle.std.proofs.Common.{◌≡◌, ℕ, zero, suc, ◌^◌, ◌<◌, ◌≤◌, Bool, true, false, if◌then◌else◌, IsTrue, List, [], ◌∷◌, length, Option, Some, None, IsSome, get_or, map, refl, ap, sym, ◌∙◌, subst, arith}
use Rattle.std.specs.Prelude.{slice_get, unwrap_or}
use Rattle.std.proofs.lemmas.Nat.{div-add-mod'}
use Rattle.suri_base.specs.Capture.{AreFactsOf, AreSeenOf, IsSeenOf, counter_in, key_in, linked_to}
use Rattle.suri_base.specs.Hash.{fnv1a, key_bytes}
use Rattle.suri_base.specs.Protocols.{is_icmp, is_tcp}
use Rattle.suri_base.specs.Slot.{address_of, all_unpacked, AreHashed, halved, IsHashed, packed, slot_facts, slot_key, unpacked, unpacked_as}
use Rattle.suri_base.specs.declared.counter.Counter.{Counter}
use Rattle.suri_base.specs.declared.facts.Facts.{Facts}
use Rattle.suri_base.specs.declared.frame.Frame.{Frame}
use Rattle.suri_base.specs.declared.key.Key.{Key}
use Rattle.suri_base.specs.declared.seen.Seen.{Seen}
use Rattle.suri_base.specs.declared.seen.Seen.TheVariants.{Bears, Counted}
use Rattle.suri_base.specs.declared.slot.Slot.{Slot}

-- an address is made of its halves
whole : (n : ℕ) → address_of (halved n) ≡ n
whole n = div-add-mod' n (2 ^ 64)

-- the key is read back
pub key_back : (f : Facts) → slot_key (packed (Bears f)) ≡ f.key
unfolding packed
key_back f = λ i. record {
  vlans = f.key.vlans;
  version = f.key.version;
  proto = f.key.proto;
  one_way = f.key.one_way;
  a = record { addr = whole f.key.a.addr i; port = f.key.a.port };
  b = record { addr = whole f.key.b.addr i; port = f.key.b.port };
}

-- what is there exactly under a condition is read back by that condition
option_back : {T : Type 0} (b : Bool) (o : Option T) (d : T) → (IsSome o → IsTrue b) → (IsTrue b → IsSome o) → (if b then Some (unwrap_or o d) else None) ≡ o
option_back {T = T} true None d there back = let some : IsSome {T = T} None = back refl in cc
option_back true (Some x) d there back = refl
option_back false None d there back = refl
option_back false (Some x) d there back = let holds : IsTrue false = there refl in cc

is_six : (p : ℕ) → p ≡ 6 → IsTrue (is_tcp p)
is_six p e = subst (λ (n : ℕ). IsTrue (is_tcp n)) (sym e) refl

six_is : (p : ℕ) → IsTrue (is_tcp p) → p ≡ 6
six_is p t = grind (arith, t)

facts_back : (size : ℕ) (frame : Frame) (clock : ℕ) (f : Facts) → AreFactsOf size frame clock f → slot_facts frame clock (packed (Bears f)) ≡ f
unfolding packed
facts_back size frame clock f are =
    let number = sym are.number in
    let time = sym are.time in
    let clock_is = sym are.clock in
    let key = key_back f in
    let tcp = option_back (is_tcp f.key.proto) f.tcp (record { seq = 0; ack = 0; flags = 0 }) (λ s. is_six f.key.proto (are.tcp.0 s)) (λ t. are.tcp.1 (six_is f.key.proto t)) in
    let icmp = option_back (is_icmp f.key.version f.key.proto) f.icmp (record { kind = 0; code = 0 }) are.icmp.0 are.icmp.1 in
    λ i. record {
      no = number i;
      time = time i;
      clock = clock_is i;
      key = key i;
      side = f.side;
      len = f.len;
      ttl = f.ttl;
      tcp = tcp i;
      icmp = icmp i;
      pay_at = f.pay_at;
      pay_len = f.pay_len;
      next = f.next;
    }

-- what became of a frame is read back
pub kept : (size : ℕ) (frame : Frame) (clock : ℕ) (seen : Seen) → IsSeenOf size frame clock seen → unpacked frame clock (packed seen) ≡ seen
unfolding packed
kept size frame clock (Bears f) are = ap Bears (facts_back size frame clock f are)
kept size frame clock (Counted c) are = refl

pub all_kept : (size : ℕ) (frames : List Frame) (clocks : List ℕ) (seen : List Seen) → AreSeenOf size frames clocks seen → all_unpacked frames clocks (map packed seen) ≡ seen
all_kept size [] [] [] are = refl
all_kept size (f ∷ frames) (clock ∷ clocks) (s ∷ seen) are =
    ap (λ (x : Seen). x ∷ all_unpacked frames clocks (map packed seen)) (kept size f clock s are.0) ∙ ap (λ (l : List Seen). s ∷ l) (all_kept size frames clocks seen are.1)
all_kept size [] [] (s ∷ seen) are = absurd are
all_kept size [] (clock ∷ clocks) seen are = absurd are
all_kept size (f ∷ frames) [] seen are = absurd are
all_kept size (f ∷ frames) (clock ∷ clocks) [] are = absurd are

-- the hash that is kept is that of the key
hash_kept : (seen : Seen) → IsHashed (packed seen)
unfolding packed
hash_kept (Bears f) none = ap (λ (k : Key). fnv1a (key_bytes k)) (sym (key_back f))
hash_kept (Counted c) none = cc

pub all_hashed : (seen : List Seen) → AreHashed (map packed seen)
all_hashed [] = tt
all_hashed (s ∷ seen) = (hash_kept s, all_hashed seen)

-- the key is told by the counter
pub no_key : (seen : Seen) (s : Slot) (c : Counter) → s ≡ packed seen → s.counter ≡ Some c → None ≡ key_in seen
unfolding packed
no_key (Bears f) s c e is = let none : s.counter ≡ None = ap (λ (t : Slot). t.counter) e in cc
no_key (Counted d) s c e is = refl

pub its_key : (seen : Seen) (s : Slot) (k : Key) → s ≡ packed seen → s.counter ≡ None → k ≡ slot_key s → Some k ≡ key_in seen
unfolding packed
its_key (Bears f) s k e none is = ap Some (is ∙ ap slot_key e ∙ key_back f)
its_key (Counted d) s k e none is = let some : s.counter ≡ Some d = ap (λ (t : Slot). t.counter) e in cc

-- the next frame is named where a flow is borne
pub linked_slot : (seen : Seen) (s : Slot) (next : ℕ) → s ≡ packed seen → s.counter ≡ None
    → record {
      counter = s.counter;
      hash = s.hash;
      vlans = s.vlans;
      version = s.version;
      proto = s.proto;
      one_way = s.one_way;
      a_addr = s.a_addr;
      a_port = s.a_port;
      b_addr = s.b_addr;
      b_port = s.b_port;
      side = s.side;
      ttl = s.ttl;
      len = s.len;
      tcp = s.tcp;
      icmp = s.icmp;
      pay_at = s.pay_at;
      pay_len = s.pay_len;
      next = next;
    } ≡ packed (linked_to next seen)
unfolding packed
linked_slot (Bears f) s next e none = ap (λ (t : Slot). record {
  counter = t.counter;
  hash = t.hash;
  vlans = t.vlans;
  version = t.version;
  proto = t.proto;
  one_way = t.one_way;
  a_addr = t.a_addr;
  a_port = t.a_port;
  b_addr = t.b_addr;
  b_port = t.b_port;
  side = t.side;
  ttl = t.ttl;
  len = t.len;
  tcp = t.tcp;
  icmp = t.icmp;
  pay_at = t.pay_at;
  pay_len = t.pay_len;
  next = next;
}) e
linked_slot (Counted d) s next e none = let some : s.counter ≡ Some d = ap (λ (t : Slot). t.counter) e in cc

pub unlinked_slot : (seen : Seen) (s : Slot) (next : ℕ) (c : Counter) → s ≡ packed seen → s.counter ≡ Some c → s ≡ packed (linked_to next seen)
unfolding packed
unlinked_slot (Bears f) s next c e is = let none : s.counter ≡ None = ap (λ (t : Slot). t.counter) e in cc
unlinked_slot (Counted d) s next c e is = e

-- where a flow is borne, its facts are read back from the slot
borne_as : (o : Option Counter) (frame : Frame) (clock : ℕ) (s : Slot) (f : Facts) → unpacked_as o frame clock s ≡ Bears f → (o ≡ None) × (slot_facts frame clock s ≡ f)
borne_as None frame clock s f e = let facts : slot_facts frame clock s ≡ f = cc in (refl, facts)
borne_as (Some c) frame clock s f e = cc

pub borne : (frame : Frame) (clock : ℕ) (s : Slot) (f : Facts) → unpacked frame clock s ≡ Bears f → (s.counter ≡ None) × (slot_facts frame clock s ≡ f)
borne frame clock s f e = borne_as s.counter frame clock s f e

-- there are no fewer slots than frames are told of
pub enough_slots : (frames : List Frame) (clocks : List ℕ) (slots : List Slot) → length (all_unpacked frames clocks slots) ≤ length slots
enough_slots [] clocks slots = omega arith
enough_slots (f ∷ frames) [] slots = omega arith
enough_slots (f ∷ frames) (clock ∷ clocks) [] = omega arith
enough_slots (f ∷ frames) (clock ∷ clocks) (s ∷ slots) = let rest = enough_slots frames clocks slots in omega (arith, rest)

-- what became of a frame is told by the slot at its place
pub unpacked_at : (frames : List Frame) (clocks : List ℕ) (slots : List Slot) (k : ℕ) (f : Frame) (clock : ℕ) (s : Slot) → k < length (all_unpacked frames clocks slots) → slice_get slots k ≡ Some s
    → slice_get (all_unpacked frames clocks slots) k ≡ Some (unpacked (get_or frames k f) (get_or clocks k clock) s)
unpacked_at [] clocks slots k f clock s low is = absurd (omega (arith, low))
unpacked_at (g ∷ frames) [] slots k f clock s low is = absurd (omega (arith, low))
unpacked_at (g ∷ frames) (now ∷ clocks) [] k f clock s low is = absurd (omega (arith, low))
unpacked_at (g ∷ frames) (now ∷ clocks) (t ∷ slots) zero f clock s low is = let own : t ≡ s = cc in ap (λ (x : Slot). Some (unpacked g now x)) own
unpacked_at (g ∷ frames) (now ∷ clocks) (t ∷ slots) (suc k) f clock s low is = unpacked_at frames clocks slots k f clock s (omega (arith, low)) is

-- the slot at the place of a frame tells what became of it
pub slot_at : (frames : List Frame) (clocks : List ℕ) (slots : List Slot) (k : ℕ) (s : Slot) (seen : Seen) → slice_get (all_unpacked frames clocks slots) k ≡ Some seen → slice_get slots k ≡ Some s
    → (frame : Frame) × (clock : ℕ) × (unpacked frame clock s ≡ seen)
slot_at [] clocks slots k s seen has is = cc
slot_at (g ∷ frames) [] slots k s seen has is = cc
slot_at (g ∷ frames) (now ∷ clocks) [] k s seen has is = cc
slot_at (g ∷ frames) (now ∷ clocks) (t ∷ slots) zero s seen has is =
    let own : t ≡ s = cc in
    let tells : unpacked g now t ≡ seen = cc in
    (g, now, ap (λ (x : Slot). unpacked g now x) (sym own) ∙ tells)
slot_at (g ∷ frames) (now ∷ clocks) (t ∷ slots) (suc k) s seen has is = slot_at frames clocks slots k s seen has is

-- the counter tells which frames bear a flow
counter_as : (o : Option Counter) (frame : Frame) (clock : ℕ) (s : Slot) → o ≡ counter_in (unpacked_as o frame clock s)
counter_as (Some c) frame clock s = refl
counter_as None frame clock s = refl

pub counter_is : (frame : Frame) (clock : ℕ) (s : Slot) → s.counter ≡ counter_in (unpacked frame clock s)
counter_is frame clock s = counter_as s.counter frame clock s

pub bears_of : (seen : Seen) → counter_in seen ≡ None → (f : Facts) × (seen ≡ Bears f)
bears_of (Bears f) none = (f, refl)
bears_of (Counted c) none = cc

pub hashed_at : (slots : List Slot) (k : ℕ) (s : Slot) → AreHashed slots → slice_get slots k ≡ Some s → IsHashed s
hashed_at [] k s are is = cc
hashed_at (t ∷ slots) zero s are is = let own : t ≡ s = cc in subst IsHashed own are.0
hashed_at (t ∷ slots) (suc k) s are is = hashed_at slots k s are.1 is
