-- Numbers in decimal digits, read.
use Rattle.std.proofs.Common.{◌≡◌, List, ℕ, zero, suc, ◌<◌, ◌^◌, Result, Ok, Err, None, ap, arith, decimal, get_or, refl, sym}
use Rattle.std.specs.Result.{result_ok}
use Rattle.std.specs.Str.{IsUtf8}
use Rattle.std.specs.Str.Parse.{AllDigits, ParsesUnsigned, digits_value}
use Rattle.std.proofs.lemmas.Fmt.{IsAscii-decimal, decimal-digits_value, decimal_digit, decimal_nonempty, first_decimal, parse-decimal}
use Rattle.std.proofs.lemmas.Str.{IsUtf8-from_ascii}
use Rattle.std.proofs.lemmas.Str.Parse.{IsNumeralModel, numerals_by_value, parse_plain, tells_digits}
use Rattle.trail_text.specs.Pieces.{IsPlain, Spells}

own : IsNumeralModel (AllDigits 10) (digits_value 10)
own = numerals_by_value (AllDigits 10) tells_digits

plain_decimal : (n : ℕ) → n < 2 ^ 64 → IsPlain (decimal n)
plain_decimal zero lt = rw (decimal_digit 0 (omega arith)) (omega arith, (λ h. omega (arith, h)), λ h. refl)
plain_decimal (suc n) lt =
    let h : 48 < get_or (decimal (suc n)) 0 0 = first_decimal (suc n) (omega arith) lt in
    (decimal_nonempty (suc n) lt, (λ k. omega (arith, h, k)), λ k. absurd (omega (arith, h, k)))

pub parsed : {E : Type 0} (digits : List ℕ) (r : Result ℕ E) → IsPlain digits → ParsesUnsigned 64 10 digits r → Spells decimal (λ n. n < 2 ^ 64) digits (result_ok r)
parsed {E} digits (Ok x) p h =
    let k = parse_plain own {E = E} 64 digits (Ok x) h p.1 in
    let same : decimal x ≡ digits = rw k.1 (decimal-digits_value own digits k.0.0 k.0.1 p.2 k.0.2) in
    record {
      some = (rw k.1 k.0.2, sym same);
      each = λ n lt e. ap (result_ok {E = E}) (parse-decimal 64 n digits (Ok x) lt lt e h);
    }
parsed {E} digits (Err e) p h = record {
  some = tt;
  each = λ n lt is. ap (result_ok {E = E}) (parse-decimal 64 n digits (Err e) lt lt is h);
}

pub not_plain : (digits : List ℕ) → (IsPlain digits → ⊥) → Spells decimal (λ n. n < 2 ^ 64) digits None
not_plain digits h = record { some = tt; each = λ n lt e. absurd (h (rw e (plain_decimal n lt))) }

pub not_text : (digits : List ℕ) → (IsUtf8 digits → ⊥) → Spells decimal (λ n. n < 2 ^ 64) digits None
not_text digits h = record { some = tt; each = λ n lt e. absurd (h (rw e (IsUtf8-from_ascii (decimal n) (IsAscii-decimal n lt)))) }
