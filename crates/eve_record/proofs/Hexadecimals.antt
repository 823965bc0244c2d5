-- Numbers in a fixed count of hexadecimal digits.
use Rattle.std.proofs.Common.{◌≡◌, ℕ, zero, suc, ◌+◌, ◌-◌, ◌/◌, ◌%◌, ◌^◌, ◌<◌, ◌≤◌, Bool, true, false, cond, List, [], ◌∷◌, ◌++◌, length, replicate, refl, sym, ap, ◌∙◌, subst, append_assoc, length-append, arith, inl, inr, slice_index_or, codes}
use Rattle.std.proofs.lemmas.Bool.{cases_lt, eq-eqb, ne_eqb}
use Rattle.std.proofs.Math.Dec.{ltb}
use Rattle.std.proofs.lemmas.Fmt.{hex_byte, hex_one_digit}
use Rattle.std.proofs.lemmas.Str.{IsAscii-append}
use Rattle.std.proofs.lemmas.Str.Ascii.{IsAscii-cons, IsAscii-nil}
use Rattle.std.specs.Fmt.{digit_glyph, digits, digits_onto}
use Rattle.std.specs.Str.{IsAscii}
use Rattle.hex.specs.Hex.{encode_lower, lower_digits}
use Rattle.hex.proofs.HexLemmas.{IsAscii-encode_with}
use Rattle.eve_record.specs.Address.{four_groups, padded_hex}
use Rattle.eve_record.proofs.Padded.{zero_padded}

abbrev spell : ℕ → ℕ → List ℕ → List ℕ
spell k n acc = digits_onto k 16 false n acc

abbrev pub glyph : ℕ → ℕ
glyph n = digit_glyph false n

spell_last : (k n : ℕ) (acc : List ℕ) → n < 16 → spell (suc k) n acc ≡ glyph (n % 16) ∷ acc
spell_last k n acc h = ap (λ t. cond t (glyph (n % 16) ∷ acc) (spell k (n / 16) (glyph (n % 16) ∷ acc))) (eq-eqb (n / 16) 0 (omega arith))

spell_next : (k n : ℕ) (acc : List ℕ) → 16 ≤ n → spell (suc k) n acc ≡ spell k (n / 16) (glyph (n % 16) ∷ acc)
spell_next k n acc h = ap (λ t. cond t (glyph (n % 16) ∷ acc) (spell k (n / 16) (glyph (n % 16) ∷ acc))) (ne_eqb (n / 16) 0 (λ e. omega arith))

spell-append : (k n : ℕ) (acc : List ℕ) → spell k n acc ≡ spell k n [] ++ acc
spell-append zero n acc = refl
spell-append (suc k) n acc = elim (cases_lt n 16) [
  | inl l ↦ spell_last k n acc l ∙ ap (λ x. x ++ acc) (sym (spell_last k n [] l))
  | inr l ↦ spell_next k n acc l ∙ spell-append k (n / 16) (glyph (n % 16) ∷ acc) ∙ sym (append_assoc (spell k (n / 16) []) (glyph (n % 16) ∷ []) acc)
      ∙ ap (λ x. x ++ acc) (sym (spell_next k n [] l ∙ spell-append k (n / 16) (glyph (n % 16) ∷ [])))
]

spell_enough : (j k n : ℕ) (acc : List ℕ) → n < 16 ^ suc j → n < 16 ^ suc k → spell (suc j) n acc ≡ spell (suc k) n acc
spell_enough zero k n acc p q = spell_last zero n acc (omega arith) ∙ sym (spell_last k n acc (omega arith))
spell_enough (suc j) zero n acc p q = spell_last (suc j) n acc (omega arith) ∙ sym (spell_last zero n acc (omega arith))
spell_enough (suc j) (suc k) n acc p q = elim (cases_lt n 16) [
  | inl l ↦ spell_last (suc j) n acc l ∙ sym (spell_last (suc k) n acc l)
  | inr l ↦ spell_next (suc j) n acc l ∙ spell_enough j k (n / 16) (glyph (n % 16) ∷ acc) (omega arith) (omega arith) ∙ sym (spell_next (suc k) n acc l)
]

onto-nil : (n : ℕ) → digits_onto 64 16 false n [] ≡ digits 16 false n
unfolding digits
onto-nil n = refl

hex_step : (n : ℕ) → 16 ≤ n → n < 2 ^ 64 → digits 16 false n ≡ digits 16 false (n / 16) ++ glyph (n % 16) ∷ []
hex_step n h small =
    sym (onto-nil n) ∙ spell_next 63 n [] h ∙ spell_enough 62 63 (n / 16) (glyph (n % 16) ∷ []) (omega arith) (omega arith) ∙ spell-append 64 (n / 16) (glyph (n % 16) ∷ [])
    ∙ ap (λ l. l ++ glyph (n % 16) ∷ []) (onto-nil (n / 16))

replicate-more : (k : ℕ) (xs : List ℕ) → replicate (suc k) 48 ++ xs ≡ replicate k 48 ++ 48 ∷ xs
replicate-more zero xs = refl
replicate-more (suc k) xs = ap (λ l. 48 ∷ l) (replicate-more k xs)

last_hex : (w n : ℕ) → n < 2 ^ 64 → padded_hex (suc (suc w)) n ≡ padded_hex (suc w) (n / 16) ++ glyph (n % 16) ∷ []
last_hex w n small = elim (cases_lt n 16) [
  | inl lt ↦ one lt
  | inr le ↦ more le
]
  where
    one : n < 16 → padded_hex (suc (suc w)) n ≡ padded_hex (suc w) (n / 16) ++ glyph (n % 16) ∷ []
    one lt =
        let front : n / 16 ≡ 0 = omega arith in
        let back : n % 16 ≡ n = omega arith in
        let wide : suc (suc w) - 1 ≡ suc w = omega arith in
        let narrow : suc w - 1 ≡ w = omega arith in
        rw (front, back, hex_one_digit false n lt, hex_one_digit false 0 (omega arith), wide, narrow)
        (replicate-more w (glyph n ∷ []) ∙ sym (append_assoc (replicate w 48) (48 ∷ []) (glyph n ∷ [])))

    more : 16 ≤ n → padded_hex (suc (suc w)) n ≡ padded_hex (suc w) (n / 16) ++ glyph (n % 16) ∷ []
    more le =
        let step = hex_step n le small in
        let size : suc (suc w) - length (digits 16 false (n / 16) ++ glyph (n % 16) ∷ []) ≡ suc w - length (digits 16 false (n / 16)) = omega (arith, length-append (digits 16 false (n / 16)) (glyph (n % 16) ∷ [])) in
        rw (step, size) (sym (append_assoc (replicate (suc w - length (digits 16 false (n / 16))) 48) (digits 16 false (n / 16)) (glyph (n % 16) ∷ [])))

pub two_hex_digits : (n : ℕ) → n < 256 → padded_hex 2 n ≡ glyph (n / 16) ∷ glyph (n % 16) ∷ []
two_hex_digits n small = sym (zero_padded 2 (digits 16 false n)) ∙ hex_byte false n small

pub four_hex_digits : (n : ℕ) → n < 65536 → padded_hex 4 n ≡ glyph (n / 256 / 16) ∷ glyph (n / 256 % 16) ∷ glyph (n % 256 / 16) ∷ glyph (n % 256 % 16) ∷ []
four_hex_digits n small =
    let front : n / 16 / 16 ≡ n / 256 = omega arith in
    let middle : n / 16 % 16 ≡ n % 256 / 16 = omega arith in
    let back : n % 16 ≡ n % 256 % 16 = omega arith in
    last_hex 2 n (omega arith) ∙ ap (λ l. l ++ glyph (n % 16) ∷ []) (last_hex 1 (n / 16) (omega arith))
    ∙ ap (λ l. (l ++ glyph (n / 16 % 16) ∷ []) ++ glyph (n % 16) ∷ []) (two_hex_digits (n / 16 / 16) (omega arith))
    ∙ ap (λ m. glyph (m / 16) ∷ glyph (m % 16) ∷ glyph (n / 16 % 16) ∷ glyph (n % 16) ∷ []) front
    ∙ (λ i. glyph (n / 256 / 16) ∷ glyph (n / 256 % 16) ∷ glyph (middle i) ∷ glyph (back i) ∷ [])

-- the four bytes of a group, one after the other
pub read_group : (bytes : List ℕ) (n : ℕ) → n < 65536 → bytes ≡ padded_hex 4 n
    → slice_index_or bytes 0 0 ∷ slice_index_or bytes 1 0 ∷ slice_index_or bytes 2 0 ∷ slice_index_or bytes 3 0 ∷ [] ≡ padded_hex 4 n
read_group bytes n small value = all_of bytes (value ∙ four_hex_digits n small) ∙ value
  where
    all_of : (bytes : List ℕ) → bytes ≡ glyph (n / 256 / 16) ∷ glyph (n / 256 % 16) ∷ glyph (n % 256 / 16) ∷ glyph (n % 256 % 16) ∷ []
        → slice_index_or bytes 0 0 ∷ slice_index_or bytes 1 0 ∷ slice_index_or bytes 2 0 ∷ slice_index_or bytes 3 0 ∷ [] ≡ bytes
    all_of bytes digits = rw digits refl

glyph_ascii : (n : ℕ) → n < 16 → glyph n < 128
glyph_ascii n small = by (ltb n 10)
  where
    by : (b : Bool) → cond b (48 + n) (cond false (55 + n) (87 + n)) < 128
    by true = omega (arith, small)
    by false = omega (arith, small)

ascii_group : (n : ℕ) → n < 65536 → IsAscii (padded_hex 4 n)
ascii_group n small =
    subst IsAscii (sym (four_hex_digits n small))
    (IsAscii-cons (glyph (n / 256 / 16)) (glyph (n / 256 % 16) ∷ glyph (n % 256 / 16) ∷ glyph (n % 256 % 16) ∷ []) (glyph_ascii (n / 256 / 16) (omega arith))
    (IsAscii-cons (glyph (n / 256 % 16)) (glyph (n % 256 / 16) ∷ glyph (n % 256 % 16) ∷ []) (glyph_ascii (n / 256 % 16) (omega arith))
    (IsAscii-cons (glyph (n % 256 / 16)) (glyph (n % 256 % 16) ∷ []) (glyph_ascii (n % 256 / 16) (omega arith))
    (IsAscii-cons (glyph (n % 256 % 16)) [] (glyph_ascii (n % 256 % 16) (omega arith)) IsAscii-nil))))

-- a group and a colon before others
ascii_more : (n : ℕ) (bytes : List ℕ) → n < 65536 → IsAscii bytes → IsAscii (padded_hex 4 n ++ 58 ∷ bytes)
ascii_more n bytes small h = IsAscii-append (padded_hex 4 n) (58 ∷ bytes) (ascii_group n small) (IsAscii-cons 58 bytes (omega arith) h)

pub ascii_groups : (n : ℕ) → n < 2 ^ 64 → IsAscii (four_groups n)
ascii_groups n small =
    ascii_more (n / 2 ^ 48) (padded_hex 4 (n / 2 ^ 32 % 65536) ++ 58 ∷ (padded_hex 4 (n / 65536 % 65536) ++ 58 ∷ padded_hex 4 (n % 65536))) (omega arith)
    (ascii_more (n / 2 ^ 32 % 65536) (padded_hex 4 (n / 65536 % 65536) ++ 58 ∷ padded_hex 4 (n % 65536)) (omega arith)
    (ascii_more (n / 65536 % 65536) (padded_hex 4 (n % 65536)) (omega arith) (ascii_group (n % 65536) (omega arith))))

-- the groups, with colons between them
abbrev pub groups_of : List ℕ → List ℕ → List ℕ → List ℕ → List ℕ
groups_of a b c d = a ++ 58 ∷ (b ++ 58 ∷ (c ++ 58 ∷ d))

-- the text of a digest
digits_ascii : IsAscii lower_digits
digits_ascii =
    IsAscii-cons 48 (codes "123456789abcdef") (omega arith) (
    IsAscii-cons 49 (codes "23456789abcdef") (omega arith) (
    IsAscii-cons 50 (codes "3456789abcdef") (omega arith) (
    IsAscii-cons 51 (codes "456789abcdef") (omega arith) (
    IsAscii-cons 52 (codes "56789abcdef") (omega arith) (
    IsAscii-cons 53 (codes "6789abcdef") (omega arith) (
    IsAscii-cons 54 (codes "789abcdef") (omega arith) (
    IsAscii-cons 55 (codes "89abcdef") (omega arith) (
    IsAscii-cons 56 (codes "9abcdef") (omega arith) (
    IsAscii-cons 57 (codes "abcdef") (omega arith) (
    IsAscii-cons 97 (codes "bcdef") (omega arith) (
    IsAscii-cons 98 (codes "cdef") (omega arith) (
    IsAscii-cons 99 (codes "def") (omega arith) (
    IsAscii-cons 100 (codes "ef") (omega arith) (
    IsAscii-cons 101 (codes "f") (omega arith) (
    IsAscii-cons 102 [] (omega arith) IsAscii-nil)))))))))))))))

pub digest_ascii : (bytes : List ℕ) → IsAscii (encode_lower bytes)
digest_ascii bytes = IsAscii-encode_with lower_digits bytes digits_ascii
