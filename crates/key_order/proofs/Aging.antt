-- Ages stand in the order of their clocks, then in that of their runs.
use Rattle.std.proofs.Common.{◌≡◌, ℕ, ◌≤◌, ◌/◌, ◌%◌, ◌^◌, true, false, refl, ap, arith}
use Rattle.std.specs.Ordering.{is_eq, is_gt, nat_cmp, ordering_then}
use Rattle.std.specs.Cmp.{IsTotalOrder}
use Rattle.std.proofs.lemmas.Cmp.{then_total, on_total, nat_cmp_total}
use Rattle.std.proofs.lemmas.Bool.Decides.{nat_tests}
use Rattle.key_order.specs.Ages.{age_cmp, age_of, clock_of}
use Rattle.key_order.specs.declared.ages.Age.{Age}

pub ages : IsTotalOrder age_cmp
ages = then_total (on_total (λ (a : Age). a.high) nat_cmp_total) (then_total (on_total (λ (a : Age). a.low) nat_cmp_total) (on_total (λ (a : Age). a.run) nat_cmp_total))

-- equal ages are one
pub equal_ages : (a b : Age) → is_eq (age_cmp a b) ≡ true → a ≡ b
equal_ages a b h = let e = parts a.high a.low a.run b.high b.low b.run h in rw (e.0, e.1, e.2) refl
  where
    parts : (h l r i m s : ℕ) → is_eq (ordering_then (nat_cmp h i) (ordering_then (nat_cmp l m) (nat_cmp r s))) ≡ true → (h ≡ i) × (l ≡ m) × (r ≡ s)
    parts h l r i m s e = grind (arith, nat_tests)

at_most : (h l r i m s : ℕ) → is_gt (ordering_then (nat_cmp h i) (ordering_then (nat_cmp l m) (nat_cmp r s))) ≡ false → (h ≤ i) × (h ≡ i → l ≤ m) × (h ≡ i → l ≡ m → r ≤ s)
at_most h l r i m s e = grind (arith, nat_tests)

-- an age that stands not above another has no later clock, and at the same clock no later run
pub not_above : (c r d s : ℕ) → is_gt (age_cmp (age_of c r) (age_of d s)) ≡ false → (c ≤ d) × (c ≡ d → r ≤ s)
not_above c r d s e =
    let p = at_most (c / 2 ^ 32) (c % 2 ^ 32) r (d / 2 ^ 32) (d % 2 ^ 32) s e in
    (clock p.0 p.1, λ h. p.2 (ap (λ (n : ℕ). n / 2 ^ 32) h) (ap (λ (n : ℕ). n % 2 ^ 32) h))
  where
    clock : c / 2 ^ 32 ≤ d / 2 ^ 32 → (c / 2 ^ 32 ≡ d / 2 ^ 32 → c % 2 ^ 32 ≤ d % 2 ^ 32) → c ≤ d
    clock h k = grind (arith, nat_tests)

pub clock_back : (c r : ℕ) → clock_of (age_of c r) ≡ c
clock_back c r = omega arith
