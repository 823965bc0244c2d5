-- The numbers in the fields of a header, the highest byte first (RFC 791, appendix B).
use Rattle.std.specs.Prelude.{◌≡◌, ℕ, ◌^◌, ◌<◌, List, ◌++◌, drop}
use Rattle.std.specs.Int.{bytes_high_first}
use Rattle.byteorder.specs.Endian.{big_number}

-- the number in so many bytes from a place on
unfoldable pub number_at : ℕ → ℕ → List ℕ → ℕ
number_at size at bytes = big_number size (drop at bytes)

-- where a number is spelled in so many bytes from the place on, whatever stands behind it, it is this one
abbrev pub IsReadBack : ℕ → ℕ → List ℕ → ℕ → Type 0
IsReadBack size at bytes result = (n : ℕ) (rest : List ℕ) → n < 256 ^ size → drop at bytes ≡ bytes_high_first size n ++ rest → result ≡ n
