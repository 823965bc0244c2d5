-- What nodes say of the bytes that they stand for.
use Rattle.std.specs.Prelude.{ℕ, ◌+◌, ◌<◌, ◌≤◌, ◌^◌, List, [], ◌∷◌, length, map, slice_range}
use Rattle.segment_tree.specs.Order.{AllBelow, end_of}
use Rattle.segment_tree.specs.declared.spot.Spot.{Spot}
use Rattle.reassembly.specs.Parts.{Part, part}

-- the part that a node stands for: its bytes are those of the capture at its place
abbrev pub part_at : List ℕ → Spot → Part
part_at bytes spot = part spot.no spot.first spot.at (slice_range bytes spot.at (spot.at + spot.len))

abbrev pub parts_at : List ℕ → List Spot → List Part
parts_at bytes spots = map (part_at bytes) spots

-- the places of the nodes lie among so many bytes
abbrev pub LieWithin : ℕ → List Spot → Type 0
LieWithin many [] = Unit {0}
LieWithin many (spot ∷ spots) = (spot.at + spot.len ≤ many) × LieWithin many spots

-- a node that may be put among those that wait: it is newer than each of them, its end is an offset, and they aren't too many
pub record MayWait (waiting : List Spot) (spot : Spot) : Type 0 where
  pub newer : AllBelow spot.no waiting
  pub fits : end_of spot < 2 ^ 32
  pub few : length waiting < 2 ^ 32
