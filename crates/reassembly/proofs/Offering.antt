-- What the parts of an offer give together.
use Rattle.std.proofs.Common.{◌≡◌, ℕ, ◌+◌, ◌-◌, ◌<◌, ◌≤◌, ◌%◌, ◌^◌, min, true, false, cond, Bool, List, ◌∷◌, length, Option, Some}
use Rattle.std.proofs.Common.{None, sym, ap, ◌∙◌, subst, arith}
use Rattle.std.specs.Prelude.{nat_lt}
use Rattle.std.specs.Option.{option_or, unwrap_or}
use Rattle.suri_base.specs.declared.stream.Offer.{Offer}
use Rattle.suri_base.specs.declared.stream.Offer.TheVariants.{NeedsSegment}
use Rattle.reassembly.specs.Kept.{AllLieIn, KeptStream, Stands, newest_of, spot_in}
use Rattle.reassembly.specs.Members.{Member, base_of, bytes_of, early, first_of, sequence_of, sets_base}
use Rattle.reassembly.specs.Nodes.{parts_at, LieWithin}
use Rattle.reassembly.specs.Parts.{answer_to, bytes_from, byte_at, byte_in, frontier_of, part, waiting_of, EndsBelow, Part}
use Rattle.segment_tree.specs.declared.spot.Spot.{Spot}
use Rattle.reassembly.proofs.Bytes.{from_few, from_same}
use Rattle.reassembly.proofs.Places.{parts_lie, spots_have, spots_within, waiting_lie}
use Rattle.reassembly.proofs.Standing.{Unstopped, Seen, brought, open_of, seen_of}
use Rattle.reassembly.proofs.Steps.{next_same, needs_far}
use Rattle.reassembly.proofs.Turns.{ends_below, part_below, seen_from}
use Rattle.reassembly.proofs.Waiting.{skips, waiting_has}

-- what is known when a member is offered
pub record Given (now : KeptStream) (bytes : List ℕ) (m : Member) (members : List Member) : Type 0 where
  pub stands : Stands now members
  pub lie : AllLieIn bytes members
  pub later : newest_of members < m.no
  pub none : now.stop ≡ 0

-- what a member brings was found
pub record Found (depth : ℕ) (m : Member) (members : List Member) (base : Option ℕ) (first : ℕ) (packet : List ℕ) : Type 0 where
  pub is_base : base ≡ base_of (m ∷ members)
  pub is_first : first ≡ (brought depth m members).first
  pub is_bytes : packet ≡ (brought depth m members).bytes

pub found_by : (depth : ℕ) (m : Member) (members : List Member) (was opening base : Option ℕ) (start sequence first : ℕ) (packet : List ℕ)
    → was ≡ base_of members → opening ≡ cond (sets_base m) (Some (sequence_of m.tcp)) None → base ≡ option_or was opening → start ≡ unwrap_or base 0
    → sequence ≡ sequence_of m.tcp
    → first ≡ first_of start sequence → packet ≡ bytes_of depth start sequence m.payload → Found depth m members base first packet
found_by depth m members was opening base start sequence first packet is_was is_opening is_base is_start is_sequence is_first is_packet =
    let b : base ≡ base_of (m ∷ members) =
    is_base ∙ (ap (λ (o : Option ℕ). option_or o opening) is_was ∙ ap (option_or (base_of members)) is_opening) in
    let s : start ≡ unwrap_or (base_of (m ∷ members)) 0 = is_start ∙ ap (λ (o : Option ℕ). unwrap_or o 0) b in
    record {
      is_base = b;
      is_first = is_first ∙ (ap (λ (k : ℕ). first_of k sequence) s ∙ ap (first_of (unwrap_or (base_of (m ∷ members)) 0)) is_sequence);
      is_bytes = is_packet ∙ (ap (λ (k : ℕ). bytes_of depth k sequence m.payload) s
          ∙ ap (λ (k : ℕ). bytes_of depth (unwrap_or (base_of (m ∷ members)) 0) k m.payload) is_sequence);
    }

module _ (now : KeptStream) (bytes : List ℕ) (m : Member) (members : List Member) (g : Given now bytes m members) where
  abbrev before : List Part
  before = seen_from now.depth m members

  pub opened : Unstopped now members
  opened = open_of now members g.none g.stands.tells g.stands.waiting

  pub seen : Seen now m members
  seen = seen_of now m members opened

  pub have : parts_at bytes now.waiting ≡ waiting_of now.depth (seen_from now.depth m members)
  have = spots_have bytes now.waiting (waiting_of now.depth before) seen.waiting
      (waiting_lie bytes now.depth before (parts_lie bytes now.depth _ members g.lie))

  pub within : LieWithin (length bytes) now.waiting
  within = spots_within bytes now.waiting (waiting_of now.depth before) seen.waiting
      (waiting_lie bytes now.depth before (parts_lie bytes now.depth _ members g.lie))

  pub ends : EndsBelow now.depth (seen_from now.depth m members)
  ends = ends_below now.depth _ members

  pub low : now.frontier ≤ now.depth
  low = omega (arith, seen.frontier, from_few (byte_at before) 0 now.depth)

  -- beyond the frontier the nodes have the bytes of all members
  pub same : (k : ℕ) → frontier_of now.depth (seen_from now.depth m members) ≤ k → byte_at (parts_at bytes now.waiting) k ≡ byte_at (seen_from now.depth m members) k
  same k later = ap (λ (l : List Part). byte_at l k) have ∙ waiting_has now.depth k before ends later

  module _ (base : Option ℕ) (first : ℕ) (packet : List ℕ) (found : Found now.depth m members base first packet) where
    brings : (k : ℕ) → byte_in (part 0 first 0 packet) k ≡ byte_in (brought now.depth m members) k
    brings k = ap (λ (f : ℕ). byte_in (part 0 f 0 packet) k) found.is_first
        ∙ ap (λ (l : List ℕ). byte_in (part 0 (brought now.depth m members).first 0 l) k) found.is_bytes

    pub next_ends : EndsBelow now.depth (part 0 first 0 packet ∷ parts_at bytes now.waiting)
    next_ends = λ k past.
        let later : frontier_of now.depth before ≤ k = omega (arith, from_few (byte_at before) 0 now.depth) in
        skips (parts_at bytes now.waiting) (part 0 first 0 packet) k (brings k ∙ part_below now.depth _ k m past) ∙ (same k later ∙ ends k past)

    pub next_is : bytes_from (byte_at (part 0 first 0 packet ∷ parts_at bytes now.waiting)) now.frontier (now.depth - now.frontier)
        ≡ bytes_from (byte_at (brought now.depth m members ∷ seen_from now.depth m members)) now.frontier (now.depth - now.frontier)
    next_is =
        from_same (byte_at (part 0 first 0 packet ∷ parts_at bytes now.waiting)) (byte_at (brought now.depth m members ∷ parts_at bytes now.waiting)) now.frontier
        (now.depth - now.frontier)
        (λ i h. ap (option_or (byte_at (parts_at bytes now.waiting) (now.frontier + i))) (brings (now.frontier + i)))
        ∙ subst (λ (f : ℕ). bytes_from (byte_at (brought now.depth m members ∷ parts_at bytes now.waiting)) f (now.depth - f)
        ≡ bytes_from (byte_at (brought now.depth m members ∷ before)) f (now.depth - f))
        (sym seen.frontier) (next_same now.depth before (parts_at bytes now.waiting) (brought now.depth m members) same)

    -- the answer
    pub answered : (offer : Offer)
        → ((depth : ℕ) (parts : List Part) (number place : ℕ) → EndsBelow depth parts → now.frontier ≡ frontier_of depth parts
        → parts_at bytes now.waiting ≡ waiting_of depth parts
        → offer ≡ answer_to depth parts (part number first place packet))
        → offer ≡ answer_to now.depth (seen_from now.depth m members) (brought now.depth m members)
    answered offer told =
        let b = unwrap_or (base_of (m ∷ members)) 0 in
        let place = m.at + early b (sequence_of m.tcp) m.payload in
        told now.depth before m.no place ends seen.frontier have
        ∙ (ap (λ (f : ℕ). answer_to now.depth before (part m.no f place packet)) found.is_first
        ∙ ap (λ (l : List ℕ). answer_to now.depth before (part m.no (brought now.depth m members).first place l)) found.is_bytes)

    -- the place of a member that has to wait is that of its payload
    pub spot_is : answer_to now.depth (seen_from now.depth m members) (brought now.depth m members) ≡ NeedsSegment
        → ◌≡◌ {A = Spot} (record { no = m.no; first = first; at = m.at; len = length packet }) (spot_in (brought now.depth m members))
    spot_is needs =
        let far = (needs_far now.depth before (brought now.depth m members) needs).far in
        let at : m.at ≡ (brought now.depth m members).at = begins (unwrap_or (base_of (m ∷ members)) 0) (omega (arith, far)) in
        λ i. record { no = m.no; first = found.is_first i; at = at i; len = length (found.is_bytes i) }
      where
        begins : (b : ℕ) → 0 < first_of b (sequence_of m.tcp) → m.at ≡ m.at + early b (sequence_of m.tcp) m.payload
        begins b some = by (nat_lt ((sequence_of m.tcp + 2 ^ 32 - b) % 2 ^ 32) (2 ^ 31)) some
          where
            by : (t : Bool) → 0 < cond t ((sequence_of m.tcp + 2 ^ 32 - b) % 2 ^ 32) 0
                → m.at ≡ m.at + cond t 0 (min (2 ^ 32 - (sequence_of m.tcp + 2 ^ 32 - b) % 2 ^ 32) (length m.payload))
            by true h = omega arith
            by false h = absurd (omega arith)
