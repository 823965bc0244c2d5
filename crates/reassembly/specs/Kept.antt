-- What is kept of a stream, and of which members it is.
use Rattle.std.specs.Prelude.{◌≡◌, ℕ, ◌+◌, ◌<◌, ◌≤◌, ◌==◌, if◌then◌else◌, List, [], ◌∷◌, length, map, slice_range, Option, None, Some}
use Rattle.std.specs.Option.{unwrap_or}
use Rattle.sha1.specs.Sha1.{Holds}
use Rattle.sha1.specs.declared.Sha1.{Sha1}
use Rattle.suri_base.specs.declared.stream.Offer.TheVariants.{NeedsSegment}
use Rattle.reassembly.specs.Members.{Member, base_of, before_stop, offer_of, part_of, parts_of, stream_of}
use Rattle.reassembly.specs.Parts.{waiting_of, Part}
use Rattle.segment_tree.specs.declared.spot.Spot.{Spot}

-- what contracts see of a stream: its setting, and what it keeps. What waits stands with the newest first; of the nodes that
-- no longer wait only their number is told
pub record KeptStream : Type 0 where
  pub depth : ℕ
  pub base : Option ℕ
  pub frontier : ℕ
  pub hasher : Sha1
  pub waiting : List Spot
  pub freed : ℕ
  pub stop : ℕ
  pub asked : Option Spot

-- how many nodes it holds
abbrev pub held : KeptStream → ℕ
held kept = length kept.waiting + kept.freed

-- the frame number of the newest member, 0 where there is none
abbrev pub newest_of : List Member → ℕ
newest_of [] = 0
newest_of (m ∷ older) = m.no

-- the frame numbers rise
abbrev pub Rises : List Member → Type 0
Rises [] = Unit {0}
Rises (m ∷ older) = (newest_of older < m.no) × Rises older

-- a payload lies in the capture's bytes, at this place
pub record LiesIn (bytes : List ℕ) (at : ℕ) (payload : List ℕ) : Type 0 where
  pub within : at + length payload ≤ length bytes
  pub same : slice_range bytes at (at + length payload) ≡ payload

-- so do the payloads of all of these
abbrev pub AllLieIn : List ℕ → List Member → Type 0
AllLieIn bytes [] = Unit {0}
AllLieIn bytes (m ∷ older) = LiesIn bytes m.at m.payload × AllLieIn bytes older

-- the place of what a part brings
abbrev pub spot_in : Part → Spot
spot_in p = record { no = p.no; first = p.first; at = p.at; len = length p.bytes }

-- where the bytes of the members stand that are stored and still wait; after a stop none waits
abbrev pub waiting_among : ℕ → ℕ → List Member → List Spot
waiting_among depth stop members = if stop == 0 then map spot_in (waiting_of depth (parts_of depth members)) else []

-- the base, the frontier and the digest are those of these members, as far as they count
pub record Tells (kept : KeptStream) (members : List Member) : Type 0 where
  pub base : kept.base ≡ base_of (before_stop kept.stop members)
  pub frontier : kept.frontier ≡ length (stream_of kept.depth kept.stop members)
  pub digest : Holds kept.hasher (stream_of kept.depth kept.stop members)

-- the stream is that of these members, and each was settled
pub record Stands (kept : KeptStream) (members : List Member) : Type 0 where
  pub rises : Rises members
  pub stop : kept.stop ≤ newest_of members
  pub tells : Tells kept members
  pub waiting : kept.waiting ≡ waiting_among kept.depth kept.stop members
  pub settled : kept.asked ≡ None

-- the stream is that of these members, and one more came that is to be stored, or to be the stop
pub record Asks (kept : KeptStream) (m : Member) (members : List Member) : Type 0 where
  pub later : newest_of members < m.no
  pub rises : Rises members
  pub unstopped : kept.stop ≡ 0
  pub tells : Tells kept members
  pub waiting : kept.waiting ≡ waiting_among kept.depth kept.stop members
  pub needed : offer_of kept.depth 0 members m ≡ NeedsSegment
  pub asked : kept.asked ≡ Some (spot_in (part_of kept.depth (unwrap_or (base_of (m ∷ members)) 0) m))

-- a blank stream
pub record IsBlank (depth : ℕ) (kept : KeptStream) : Type 0 where
  pub setting : kept.depth ≡ depth
  pub stands : Stands kept []
  pub unstopped : kept.stop ≡ 0
  pub holds_none : kept.freed ≡ 0
