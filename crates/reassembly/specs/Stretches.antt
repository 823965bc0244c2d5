-- Some of the bytes that parts have from an offset on.
use Rattle.std.specs.Prelude.{◌≡◌, ℕ, ◌+◌, ◌<◌, ◌≤◌, true, List, length, slice_get, Option, None, Some}
use Rattle.reassembly.specs.Parts.{Part, byte_at, is_covered}

-- at least one byte, from an offset on, and each is the one that the parts have there; none where they don't cover the offset
abbrev pub IsStretch : List Part → ℕ → Option (List ℕ) → Type 0
IsStretch parts at None = byte_at parts at ≡ None
IsStretch parts at (Some stretch) = (0 < length stretch) × ((i : ℕ) → i < length stretch → byte_at parts (at + i) ≡ slice_get stretch i)

-- the offsets from one on, below another, are covered
abbrev pub AreCovered : List Part → ℕ → ℕ → Type 0
AreCovered parts from end = (k : ℕ) → from ≤ k → k < end → is_covered parts k ≡ true
