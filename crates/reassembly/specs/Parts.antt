-- What members bring to a stream, and the stream that they make. Lists have the newest first.
use Rattle.std.specs.Prelude.{◌≡◌, ◌≤◌, ℕ, zero, suc, ◌+◌, ◌-◌, Bool, true, if◌then◌else◌, not, ◌&&◌, nat_le, nat_lt, List, [], ◌∷◌}
use Rattle.std.specs.Prelude.{length, filter, slice_get, Option, None, Some}
use Rattle.std.specs.Option.{option_or, is_some}
use Rattle.suri_base.specs.declared.stream.Offer.{Offer}
use Rattle.suri_base.specs.declared.stream.Offer.TheVariants.{InOrder, Nothing, NeedsSegment}

-- what a member brings: the number of its frame, bytes from an offset on, and the place of the first of them in the capture's bytes
pub record Part : Type 0 where
  pub no : ℕ
  pub first : ℕ
  pub at : ℕ
  pub bytes : List ℕ

abbrev pub part : ℕ → ℕ → ℕ → List ℕ → Part
part number first at bytes = record { no = number; first = first; at = at; bytes = bytes }

-- the byte that a part has at an offset
abbrev pub byte_in : Part → ℕ → Option ℕ
byte_in p k = if nat_le p.first k then slice_get p.bytes (k - p.first) else None

-- the byte at an offset: that of the earliest part that covers it
abbrev pub byte_at : List Part → ℕ → Option ℕ
byte_at [] k = None
byte_at (p ∷ older) k = option_or (byte_at older k) (byte_in p k)

-- an offset is covered where some part has a byte there
abbrev pub is_covered : List Part → ℕ → Bool
is_covered parts k = is_some (byte_at parts k)

-- all that is covered is below the depth
abbrev pub EndsBelow : ℕ → List Part → Type 0
EndsBelow depth parts = (k : ℕ) → depth ≤ k → byte_at parts k ≡ None

-- the bytes from an offset on, as long as there is one at each; at most so many
unfoldable pub bytes_from : (ℕ → Option ℕ) → ℕ → ℕ → List ℕ
bytes_from at k zero = []
bytes_from at k (suc most) = elim (at k) as (λ _. List ℕ) [ None ↦ [] | Some b ↦ b ∷ bytes_from at (k + 1) most ]

-- the frontier, which is the least offset that no part covers where all that is covered is below the depth: so many bytes
-- stand from offset 0 on without a gap
abbrev pub frontier_of : ℕ → List Part → ℕ
frontier_of depth parts = length (bytes_from (byte_at parts) 0 depth)

-- an offset and those after it, one for each of some bytes, are covered
abbrev pub are_covered : List Part → ℕ → List ℕ → Bool
are_covered parts k [] = true
are_covered parts k (b ∷ bytes) = is_covered parts k && are_covered parts (k + 1) bytes

-- a part brings nothing where each offset that it covers is covered already
abbrev pub is_old : List Part → Part → Bool
is_old older p = are_covered older p.first p.bytes

-- the answer to a part, seen from those before it
abbrev pub answer_to : ℕ → List Part → Part → Offer
answer_to depth older p =
    if is_old older p then Nothing
    else (if nat_le p.first (frontier_of depth older) then InOrder else NeedsSegment)

-- it brings something, and begins beyond the frontier
abbrev pub needs_segment : ℕ → List Part → Part → Bool
needs_segment depth older p = not (is_old older p) && nat_lt (frontier_of depth older) p.first

-- the parts that had to be stored
abbrev pub stored_of : ℕ → List Part → List Part
stored_of depth [] = []
stored_of depth (p ∷ older) = if needs_segment depth older p then p ∷ stored_of depth older else stored_of depth older

-- those of some parts that begin beyond an offset
abbrev pub beyond : ℕ → List Part → List Part
beyond k parts = filter (λ p. nat_lt k p.first) parts

-- the stored parts that wait: those that begin beyond the frontier
abbrev pub waiting_of : ℕ → List Part → List Part
waiting_of depth parts = beyond (frontier_of depth parts) (stored_of depth parts)
