-- How a header spells its numbers: the highest byte first (RFC 791, appendix B).
use Rattle.std.specs.Prelude.{ℕ, List}
use Rattle.std.specs.Int.{bytes_high_first, w16, w32, to_be_bytes}

-- a number of 16 bits
abbrev pub half : ℕ → List ℕ
half n = to_be_bytes w16 n

-- a number of 32 bits
abbrev pub word : ℕ → List ℕ
word n = to_be_bytes w32 n

-- a number of 128 bits
abbrev pub address : ℕ → List ℕ
address n = bytes_high_first 16 n
