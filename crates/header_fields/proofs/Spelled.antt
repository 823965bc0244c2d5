-- What a number is spelled as reads as that number.
use Rattle.std.proofs.Common.{◌≡◌, ℕ, ◌^◌, ◌<◌, List, [], ◌∷◌, ◌++◌, drop, refl, ap, ◌∙◌}
use Rattle.std.specs.Int.{bytes_high_first}
use Rattle.byteorder.specs.Endian.{big_number}
use Rattle.byteorder.specs.Numbers.{big_number-reads_back}
use Rattle.header_fields.specs.Fields.{number_at, IsReadBack}
use Rattle.header_fields.specs.Spelled.{half, word, address}

-- a number spelled at a place
pub number_at-spelled : (size at n : ℕ) (bytes rest : List ℕ) → n < 256 ^ size → drop at bytes ≡ bytes_high_first size n ++ rest → number_at size at bytes ≡ n
unfolding number_at
number_at-spelled size at n bytes rest fits is = ap (big_number size) is ∙ big_number-reads_back size n rest fits

pub half-spelled : (at n : ℕ) (bytes rest : List ℕ) → n < 2 ^ 16 → drop at bytes ≡ half n ++ rest → number_at 2 at bytes ≡ n
half-spelled at n bytes rest fits is = number_at-spelled 2 at n bytes rest fits is

pub word-spelled : (at n : ℕ) (bytes rest : List ℕ) → n < 2 ^ 32 → drop at bytes ≡ word n ++ rest → number_at 4 at bytes ≡ n
word-spelled at n bytes rest fits is = number_at-spelled 4 at n bytes rest fits is

pub address-spelled : (at n : ℕ) (bytes rest : List ℕ) → n < 2 ^ 128 → drop at bytes ≡ address n ++ rest → number_at 16 at bytes ≡ n
address-spelled at n bytes rest fits is = number_at-spelled 16 at n bytes rest fits is

-- what is read is what is spelled
pub is_read_back : (size at : ℕ) (bytes : List ℕ) (result : ℕ) → result ≡ number_at size at bytes → IsReadBack size at bytes result
is_read_back size at bytes result read n rest fits is = read ∙ number_at-spelled size at n bytes rest fits is

-- worked: bytes that all differ
worked_half : number_at 2 1 (0x01 ∷ 0x23 ∷ 0x45 ∷ 0x67 ∷ []) ≡ 0x2345
unfolding number_at
worked_half = refl
