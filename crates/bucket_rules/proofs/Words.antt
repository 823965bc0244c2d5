-- Small lemmas on tests, options and lists of numbers, told once.
use Rattle.std.proofs.Common.{◌≡◌, ℕ, ◌==◌, ◌≤◌, Bool, true, false, cond, Option, Some, None, arith}
use Rattle.std.proofs.lemmas.Bool.Decides.{nat_tests}
pub use Rattle.flow_uses.proofs.Sets.{has-without}

pub true_false : {b : Bool} → b ≡ true → b ≡ false → ⊥
true_false h k = cc

pub cond_other : {A : Type 0} (r a : ℕ) (x y : A) → (r ≡ a → ⊥) → cond (r == a) x y ≡ y
cond_other r a x y n = grind (arith, nat_tests)

pub cond_this : {A : Type 0} (r : ℕ) (x y : A) → cond (r == r) x y ≡ x
cond_this r x y = grind (arith, nat_tests)

-- a number differs from another the other way round too
pub other_way : (g f : ℕ) → (g == f) ≡ false → (f == g) ≡ false
other_way g f e = grind (arith, nat_tests)

pub some_is : {A : Type 0} {o : Option A} {t u : A} → o ≡ Some t → o ≡ Some u → t ≡ u
some_is e k = cc

pub none_some : {A : Type 0} {o : Option A} {t : A} → o ≡ None → o ≡ Some t → ⊥
none_some e k = cc

pub not_zero : (f : ℕ) → 1 ≤ f → 0 ≡ f → ⊥
not_zero f h e = omega arith
