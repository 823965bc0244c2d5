-- What is kept of the frames of a capture, in pieces.
use Rattle.std.specs.Prelude.{ℕ, List, length, map}
use Rattle.std.specs.Fork.{slice_chunk}
use Rattle.std.specs.Int.{div_ceil}
use Rattle.std.specs.List.{range_with_len}
use Rattle.suri_base.specs.Slot.{packed}
use Rattle.suri_base.specs.declared.seen.Seen.{Seen}
use Rattle.suri_base.specs.declared.slot.Slot.{Slot}

-- what is kept of a piece of these frames, where each piece has so many
abbrev pub piece_of : ℕ → List Seen → ℕ → List Slot
piece_of size seen piece = map packed (slice_chunk seen size piece)

-- what is kept of all of them, piece by piece; the last piece may be shorter
abbrev pub pieces_of : ℕ → List Seen → List (List Slot)
pieces_of size seen = map (piece_of size seen) (range_with_len 0 (div_ceil (length seen) size))
