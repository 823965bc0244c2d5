-- Numbers in a fixed count of digits.
use Rattle.std.proofs.Common.{◌≡◌, ℕ, zero, suc, ◌+◌, ◌-◌, ◌/◌, ◌%◌, ◌^◌, ◌<◌, ◌≤◌, List, [], ◌∷◌, ◌++◌, length, replicate, decimal, refl, sym, ap, ◌∙◌, append_assoc, length-append, arith, inl, inr, codes, subst, slice_index_or}
use Rattle.std.proofs.lemmas.Bool.{cases_lt}
use Rattle.std.proofs.lemmas.Fmt.{decimal_digit, decimal_step}
use Rattle.std.proofs.lemmas.Str.{IsAscii-append, IsUtf8-from_ascii}
use Rattle.std.proofs.lemmas.Str.Ascii.{IsAscii-cons, IsAscii-nil}
use Rattle.std.specs.Fmt.{digits}
use Rattle.std.specs.Str.{IsAscii, IsUtf8}
use Rattle.eve_record.specs.Address.{padded_decimal}
use Rattle.eve_record.specs.Time.{clock_text, date_text, stamp_text}
use Rattle.eve_record.specs.declared.time.Civil.{Civil}

replicate-more : (k : ℕ) (xs : List ℕ) → replicate (suc k) 48 ++ xs ≡ replicate k 48 ++ 48 ∷ xs
replicate-more zero xs = refl
replicate-more (suc k) xs = ap (λ l. 48 ∷ l) (replicate-more k xs)

-- the last digit, and those before it
pub last_digit : (w n : ℕ) → n < 2 ^ 64 → padded_decimal (suc (suc w)) n ≡ padded_decimal (suc w) (n / 10) ++ (48 + n % 10) ∷ []
last_digit w n small = elim (cases_lt n 10) [
  | inl lt ↦ one lt
  | inr le ↦ more le
]
  where
    one : n < 10 → padded_decimal (suc (suc w)) n ≡ padded_decimal (suc w) (n / 10) ++ (48 + n % 10) ∷ []
    one lt =
        let front : n / 10 ≡ 0 = omega arith in
        let back : n % 10 ≡ n = omega arith in
        let wide : suc (suc w) - 1 ≡ suc w = omega arith in
        let narrow : suc w - 1 ≡ w = omega arith in
        rw (front, back, decimal_digit n lt, decimal_digit 0 (omega arith), wide, narrow)
        (replicate-more w ((48 + n) ∷ []) ∙ sym (append_assoc (replicate w 48) (48 ∷ []) ((48 + n) ∷ [])))

    more : 10 ≤ n → padded_decimal (suc (suc w)) n ≡ padded_decimal (suc w) (n / 10) ++ (48 + n % 10) ∷ []
    more le =
        let step = decimal_step n le small in
        let size : suc (suc w) - length (decimal (n / 10) ++ (48 + n % 10) ∷ []) ≡ suc w - length (decimal (n / 10)) = omega (arith, length-append (decimal (n / 10)) ((48 + n % 10) ∷ [])) in
        rw (step, size) (sym (append_assoc (replicate (suc w - length (decimal (n / 10))) 48) (decimal (n / 10)) ((48 + n % 10) ∷ [])))

-- the digits of a number below 100
abbrev pair : ℕ → List ℕ
pair n = (48 + n / 10) ∷ (48 + n % 10) ∷ []

pub two_digits : (n : ℕ) → n < 100 → padded_decimal 2 n ≡ (48 + n / 10) ∷ (48 + n % 10) ∷ []
two_digits n small =
    let front : padded_decimal 1 (n / 10) ≡ (48 + n / 10) ∷ [] = rw (decimal_digit (n / 10) (omega arith)) refl in
    last_digit zero n (omega arith) ∙ ap (λ l. l ++ (48 + n % 10) ∷ []) front

-- the last two digits, and those before them
last_two : (w n : ℕ) → n < 2 ^ 64 → padded_decimal (suc (suc (suc w))) n ≡ padded_decimal (suc w) (n / 100) ++ pair (n % 100)
last_two w n small =
    let front : n / 10 / 10 ≡ n / 100 = omega arith in
    let middle : n / 10 % 10 ≡ n % 100 / 10 = omega arith in
    let back : n % 10 ≡ n % 100 % 10 = omega arith in
    last_digit (suc w) n small ∙ ap (λ l. l ++ (48 + n % 10) ∷ []) (last_digit w (n / 10) (omega arith))
    ∙ append_assoc (padded_decimal (suc w) (n / 10 / 10)) ((48 + n / 10 % 10) ∷ []) ((48 + n % 10) ∷ [])
    ∙ ap (λ m. padded_decimal (suc w) m ++ (48 + n / 10 % 10) ∷ (48 + n % 10) ∷ []) front
    ∙ ap (λ m. padded_decimal (suc w) (n / 100) ++ (48 + m) ∷ (48 + n % 10) ∷ []) middle
    ∙ ap (λ m. padded_decimal (suc w) (n / 100) ++ (48 + n % 100 / 10) ∷ (48 + m) ∷ []) back

pub four_digits : (n : ℕ) → n < 10000 → padded_decimal 4 n ≡ (48 + n / 100 / 10) ∷ (48 + n / 100 % 10) ∷ (48 + n % 100 / 10) ∷ (48 + n % 100 % 10) ∷ []
four_digits n small = last_two 1 n (omega arith) ∙ ap (λ l. l ++ pair (n % 100)) (two_digits (n / 100) (omega arith))

pub six_digits : (n : ℕ) → n < 1000000 → padded_decimal 6 n
    ≡ (48 + n / 100 / 100 / 10) ∷ (48 + n / 100 / 100 % 10) ∷ (48 + n / 100 % 100 / 10) ∷ (48 + n / 100 % 100 % 10) ∷ (48 + n % 100 / 10) ∷ (48 + n % 100 % 10) ∷ []
six_digits n small = last_two 3 n (omega arith) ∙ ap (λ l. l ++ pair (n % 100)) (four_digits (n / 100) (omega arith))

pub ascii_is_utf8 : (bytes : List ℕ) → IsAscii bytes → IsUtf8 bytes
ascii_is_utf8 bytes h = IsUtf8-from_ascii bytes h

-- both bytes of a pair, one after the other
pub read_pair : (bytes : List ℕ) (n : ℕ) → bytes ≡ padded_decimal 2 n → bytes ≡ (48 + n / 10) ∷ (48 + n % 10) ∷ []
    → slice_index_or bytes 0 0 ∷ slice_index_or bytes 1 0 ∷ [] ≡ padded_decimal 2 n
read_pair bytes n value digits = pair_of bytes digits ∙ value
  where
    pair_of : (bytes : List ℕ) → bytes ≡ (48 + n / 10) ∷ (48 + n % 10) ∷ [] → slice_index_or bytes 0 0 ∷ slice_index_or bytes 1 0 ∷ [] ≡ bytes
    pair_of bytes digits = rw digits refl

-- four digits are two pairs, and six are three
pub four_pairs : (n : ℕ) → n < 10000 → padded_decimal 4 n ≡ padded_decimal 2 (n / 100) ++ padded_decimal 2 (n % 100)
four_pairs n small = last_two 1 n (omega arith) ∙ ap (λ l. padded_decimal 2 (n / 100) ++ l) (sym (two_digits (n % 100) (omega arith)))

pub six_pairs : (n : ℕ) → n < 1000000 → padded_decimal 6 n ≡ (padded_decimal 2 (n / 100 / 100) ++ padded_decimal 2 (n / 100 % 100)) ++ padded_decimal 2 (n % 100)
six_pairs n small =
    last_two 3 n (omega arith) ∙ ap (λ l. padded_decimal 4 (n / 100) ++ l) (sym (two_digits (n % 100) (omega arith)))
    ∙ ap (λ l. l ++ padded_decimal 2 (n % 100)) (four_pairs (n / 100) (omega arith))

ascii_two : (n : ℕ) → n < 100 → IsAscii (padded_decimal 2 n)
ascii_two n small =
    subst IsAscii (sym (two_digits n small)) (IsAscii-cons (48 + n / 10) ((48 + n % 10) ∷ []) (omega arith) (IsAscii-cons (48 + n % 10) [] (omega arith) IsAscii-nil))

ascii_four : (n : ℕ) → n < 10000 → IsAscii (padded_decimal 4 n)
ascii_four n small = subst IsAscii (sym (four_pairs n small)) (IsAscii-append (padded_decimal 2 (n / 100)) (padded_decimal 2 (n % 100)) (ascii_two (n / 100) (omega arith)) (ascii_two (n % 100) (omega arith)))

ascii_six : (n : ℕ) → n < 1000000 → IsAscii (padded_decimal 6 n)
ascii_six n small =
    subst IsAscii (sym (last_two 3 n (omega arith) ∙ ap (λ l. padded_decimal 4 (n / 100) ++ l) (sym (two_digits (n % 100) (omega arith)))))
    (IsAscii-append (padded_decimal 4 (n / 100)) (padded_decimal 2 (n % 100)) (ascii_four (n / 100) (omega arith)) (ascii_two (n % 100) (omega arith)))

pub ascii_stamp : (d : Civil) (seconds micros : ℕ) → d.year < 10000 → d.month < 100 → d.day < 100 → seconds < 86400 → micros < 1000000 → IsAscii (stamp_text d seconds micros)
ascii_stamp d seconds micros year month day sec mic =
    let date : IsAscii (date_text d) = IsAscii-append (padded_decimal 4 d.year) (45 ∷ (padded_decimal 2 d.month ++ 45 ∷ padded_decimal 2 d.day)) (ascii_four d.year year)
    (IsAscii-cons 45 _ (omega arith) (IsAscii-append (padded_decimal 2 d.month) (45 ∷ padded_decimal 2 d.day) (ascii_two d.month month) (IsAscii-cons 45 _ (omega arith) (ascii_two d.day day)))) in
    let clock : IsAscii (clock_text seconds) = IsAscii-append (padded_decimal 2 (seconds / 3600)) (58 ∷ (padded_decimal 2 (seconds / 60 % 60) ++ 58 ∷ padded_decimal 2 (seconds % 60))) (ascii_two (seconds / 3600) (omega arith))
    (IsAscii-cons 58 _ (omega arith) (IsAscii-append (padded_decimal 2 (seconds / 60 % 60)) (58 ∷ padded_decimal 2 (seconds % 60)) (ascii_two (seconds / 60 % 60) (omega arith)) (IsAscii-cons 58 _ (omega arith) (ascii_two (seconds % 60) (omega arith))))) in
    let zone : IsAscii (codes "+0000") = IsAscii-cons 43 (48 ∷ 48 ∷ 48 ∷ 48 ∷ []) (omega arith) (IsAscii-cons 48 (48 ∷ 48 ∷ 48 ∷ []) (omega arith) (IsAscii-cons 48 (48 ∷ 48 ∷ []) (omega arith) (IsAscii-cons 48 (48 ∷ []) (omega arith) (IsAscii-cons 48 [] (omega arith) IsAscii-nil)))) in
    IsAscii-append (date_text d) (84 ∷ (clock_text seconds ++ 46 ∷ (padded_decimal 6 micros ++ codes "+0000"))) date
    (IsAscii-cons 84 _ (omega arith) (IsAscii-append (clock_text seconds) (46 ∷ (padded_decimal 6 micros ++ codes "+0000")) clock
    (IsAscii-cons 46 _ (omega arith) (IsAscii-append (padded_decimal 6 micros) (codes "+0000") (ascii_six micros mic) zone))))

-- the pieces of a time, with what stands between them
abbrev pub stamp_of : List ℕ → List ℕ → List ℕ → List ℕ → List ℕ → List ℕ → List ℕ → List ℕ
stamp_of year month day hour minute second micros =
    (year ++ (codes "-" ++ (month ++ (codes "-" ++ day)))) ++ (codes "T" ++ ((hour ++ (codes ":" ++ (minute ++ (codes ":" ++ second)))) ++ (codes "." ++ (micros ++ codes "+0000"))))
