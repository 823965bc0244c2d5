-- The number at a place depends only on the bytes there, and fits them.
use Rattle.std.proofs.Common.{◌≡◌, ℕ, ◌+◌, ◌^◌, ◌<◌, ◌≤◌, List, ◌++◌, length, drop, get_or, arith, length-drop}
use Rattle.std.proofs.lemmas.List.{drop-append-le}
use Rattle.byteorder.specs.Numbers.{big_from-append, little_from-append, big_from-lt, little_from-lt}
use Rattle.pcap_read.specs.declared.header.Header.{Header}
use Rattle.pcap_read.specs.declared.header.Order.{Order}
use Rattle.pcap_read.specs.declared.header.Order.TheVariants.{Big, Little}
use Rattle.pcap_read.specs.Header.{field}
use Rattle.pcap_read.specs.Records.{captured}

-- a field that lies inside the first bytes does not depend on what follows them
pub field-append : (order : Order) (size at : ℕ) (xs ys : List ℕ) → at + size ≤ length xs → field order size at (xs ++ ys) ≡ field order size at xs
field-append Big size at xs ys inside =
    rw (drop-append-le at xs ys (omega arith)) (big_from-append size (drop at xs) ys (omega (arith, length-drop at xs)))
field-append Little size at xs ys inside =
    rw (drop-append-le at xs ys (omega arith)) (little_from-append size (drop at xs) ys (omega (arith, length-drop at xs)))

-- what a record header states does not depend on what follows it
pub captured-append : (h : Header) (xs ys : List ℕ) → 16 ≤ length xs → captured h (xs ++ ys) ≡ captured h xs
captured-append h xs ys long = field-append h.order 4 8 xs ys (omega arith)

-- each is a byte
abbrev pub AreBytes : List ℕ → Type 0
AreBytes xs = (i : ℕ) → get_or xs i 0 < 256

-- a field of four bytes fits 32 bits
pub field-fits : (order : Order) (at : ℕ) (xs : List ℕ) → AreBytes (drop at xs) → field order 4 at xs < 2 ^ 32
field-fits Big at xs bytes = big_from-lt 0 4 (drop at xs) bytes
field-fits Little at xs bytes = little_from-lt 0 4 (drop at xs) bytes
