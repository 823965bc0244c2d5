-- What a frame carries stands at its end.
use Rattle.std.proofs.Common.{◌≡◌, ◌⊎◌, ℕ, zero, suc, ◌+◌, ◌-◌, ◌/◌, ◌%◌, ◌<◌, ◌≤◌, ◌==◌, ◌||◌, List, [], ◌∷◌, ◌++◌, length, drop, slice_index, Bool, true, false, nat_lt, Result, Ok, Err, refl, sym, ap, ◌∙◌, arith, inl, inr, length-drop, if◌then◌else◌}
use Rattle.std.proofs.lemmas.Bool.{cases_lt}
use Rattle.std.proofs.lemmas.Bool.Decides.{nat_tests}
use Rattle.std.proofs.lemmas.List.{drop-drop}
use Rattle.suri_base.specs.declared.counter.Counter.{Counter}
use Rattle.suri_base.specs.declared.counter.Counter.TheVariants.{Ethertype, IpSmall, IpVersion, LinkSmall}
use Rattle.header_fields.specs.Fields.{number_at}
use Rattle.packet_decode.specs.Frame.{carried_by, headed_packet_of, raw_packet_of}
use Rattle.packet_decode.specs.Tags.{Carried, behind_type, inside, is_tag, packet_of}
use Rattle.packet_decode.proofs.SoFar.{behind_type-cut, behind_type-deep, behind_type-packet, behind_type-tag}

-- the bytes end in these
pub record EndsIn (bytes packet : List ℕ) : Type 0 where
  pub start : ℕ
  pub within : start ≤ length bytes
  pub is : packet ≡ drop start bytes

-- counted from the end
pub ends_in-drop : (bytes packet : List ℕ) → EndsIn bytes packet → packet ≡ drop (length bytes - length packet) bytes
ends_in-drop bytes packet e =
    let size : length packet ≡ length bytes - e.start = ap length e.is ∙ length-drop e.start bytes in
    let place : e.start ≡ length bytes - length packet = omega (arith, e.within) in
    e.is ∙ ap (λ n. drop n bytes) place

whole : (bytes packet : List ℕ) → packet ≡ bytes → EndsIn bytes packet
whole bytes packet e = record { start = 0; within = omega arith; is = e }

-- what stands at the end of the end
later : (bytes packet : List ℕ) (n : ℕ) → n ≤ length bytes → EndsIn (drop n bytes) packet → EndsIn bytes packet
later bytes packet n fits e = record {
  start = n + e.start;
  within = omega (arith, e.within, length-drop n bytes);
  is = e.is ∙ drop-drop e.start n bytes;
}

bool_is : (b : Bool) → (b ≡ true) ⊎ (b ≡ false)
bool_is true = inl refl
bool_is false = inr refl

-- of two packets over the same bytes one was picked
picked : (a b : Bool) (bytes : List ℕ) (c : Carried)
    → (if a then Ok (record { ids = []; version = 4; packet = bytes }) else (if b then Ok (record { ids = []; version = 6; packet = bytes }) else Err Ethertype)) ≡ Ok c
    → EndsIn bytes c.packet
picked true b bytes c is = whole bytes c.packet (let same : record { ids = []; version = 4; packet = bytes } ≡ c = cc in sym (ap (λ (x : Carried). x.packet) same))
picked false true bytes c is = whole bytes c.packet (let same : record { ids = []; version = 6; packet = bytes } ≡ c = cc in sym (ap (λ (x : Carried). x.packet) same))
picked false false bytes c is = absurd (cc)

packet_of-end : (ethertype : ℕ) (bytes : List ℕ) (c : Carried) → packet_of ethertype bytes ≡ Ok c → EndsIn bytes c.packet
packet_of-end ethertype bytes c is = picked (ethertype == 2048) (ethertype == 34525) bytes c is

-- a packet inside tags is the packet without them
inside-packet : (ids : List ℕ) (carried : Result Carried Counter) (c : Carried) → inside ids carried ≡ Ok c → (d : Carried) × (carried ≡ Ok d) × (c.packet ≡ d.packet)
inside-packet ids (Ok d) c is =
    (d, refl, (let same : record { ids = ids ++ d.ids; version = d.version; packet = d.packet } ≡ c = cc in sym (ap (λ (x : Carried). x.packet) same)))
inside-packet ids (Err counter) c is = absurd (cc)

behind_type-end : (room ethertype : ℕ) (bytes : List ℕ) (c : Carried) → behind_type room ethertype bytes ≡ Ok c → EndsIn bytes c.packet
behind_type-end zero ethertype bytes c is = elim (bool_is (is_tag ethertype)) [
  | inl tag ↦ absurd (let e = behind_type-deep ethertype bytes tag in cc)
  | inr none ↦ packet_of-end ethertype bytes c (sym (behind_type-packet 0 ethertype bytes none) ∙ is)
]
behind_type-end (suc room) ethertype bytes c is = elim (bool_is (is_tag ethertype)) [
  | inl tag ↦ elim (cases_lt (length bytes) 4) [
    | inl short ↦ absurd (let e = behind_type-cut (suc room) ethertype bytes (omega arith) tag short in cc)
    | inr long ↦
        let step = behind_type-tag (suc room) ethertype bytes (omega arith) tag long in
        let next = inside-packet (number_at 2 0 bytes % 4096 ∷ []) (behind_type (suc room - 1) (number_at 2 2 bytes) (drop 4 bytes)) c (sym step ∙ is) in
        let back : suc room - 1 ≡ room = omega arith in
        let one : behind_type room (number_at 2 2 bytes) (drop 4 bytes) ≡ Ok next.0 = ap (λ n. behind_type n (number_at 2 2 bytes) (drop 4 bytes)) (sym back) ∙ next.1 in
        let e = behind_type-end room (number_at 2 2 bytes) (drop 4 bytes) next.0 one in
        later bytes c.packet 4 long (record { start = e.start; within = e.within; is = next.2 ∙ e.is })
  ]
  | inr none ↦ packet_of-end ethertype bytes c (sym (behind_type-packet (suc room) ethertype bytes none) ∙ is)
]

headed-short : (size at : ℕ) (frame : List ℕ) → length frame < size → headed_packet_of size at frame ≡ Err LinkSmall
headed-short size at frame short = let test : nat_lt (length frame) size ≡ true = grind (arith, nat_tests) in rw test refl

pub headed-long : (size at : ℕ) (frame : List ℕ) → size ≤ length frame → headed_packet_of size at frame ≡ behind_type 3 (number_at 2 at frame) (drop size frame)
headed-long size at frame long = let test : nat_lt (length frame) size ≡ false = grind (arith, nat_tests) in rw test refl

headed-end : (size at : ℕ) (frame : List ℕ) (c : Carried) → headed_packet_of size at frame ≡ Ok c → EndsIn frame c.packet
headed-end size at frame c is = elim (cases_lt (length frame) size) [
  | inl short ↦ absurd (let e = headed-short size at frame short in cc)
  | inr long ↦ later frame c.packet size long (behind_type-end 3 (number_at 2 at frame) (drop size frame) c (sym (headed-long size at frame long) ∙ is))
]

raw_picked : (a b : Bool) (version : ℕ) (frame : List ℕ) (c : Carried)
    → (if a then Err IpSmall else (if b then Ok (record { ids = []; version = version; packet = frame }) else Err IpVersion)) ≡ Ok c → EndsIn frame c.packet
raw_picked true b version frame c is = absurd (cc)
raw_picked false true version frame c is = whole frame c.packet (let same : record { ids = []; version = version; packet = frame } ≡ c = cc in sym (ap (λ (x : Carried). x.packet) same))
raw_picked false false version frame c is = absurd (cc)

raw-end : (frame : List ℕ) (c : Carried) → raw_packet_of frame ≡ Ok c → EndsIn frame c.packet
raw-end frame c is =
    raw_picked (length frame == 0) ((slice_index frame 0 / 16 == 4) || (slice_index frame 0 / 16 == 6)) (slice_index frame 0 / 16) frame c is

link_picked : (a b : Bool) (frame : List ℕ) (c : Carried)
    → (if a then headed_packet_of 14 12 frame else (if b then headed_packet_of 16 14 frame else raw_packet_of frame)) ≡ Ok c → EndsIn frame c.packet
link_picked true b frame c is = headed-end 14 12 frame c is
link_picked false true frame c is = headed-end 16 14 frame c is
link_picked false false frame c is = raw-end frame c is

pub carried_by-end : (link : ℕ) (frame : List ℕ) (c : Carried) → carried_by link frame ≡ Ok c → EndsIn frame c.packet
unfolding carried_by
carried_by-end link frame c is = link_picked (link == 1) (link == 113) frame c is
