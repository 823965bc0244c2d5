-- Tests and numbers.
use Rattle.std.proofs.Common.{◌≡◌, ℕ, ◌==◌, ◌<◌, nat_lt, Bool, true, false, not, ◌&&◌, ◌||◌, ◌⊎◌, inl, inr, refl, arith}
use Rattle.std.proofs.lemmas.Bool.Decides.{nat_tests}

pub no_true : (p : Bool) → (p ≡ true → ⊥) → p ≡ false
no_true true n = absurd (n refl)
no_true false n = refl

pub no_false : (p : Bool) → (p ≡ false → ⊥) → p ≡ true
no_false true n = refl
no_false false n = absurd (n refl)

pub both : (p q : Bool) → (p && q) ≡ true → (p ≡ true) × (q ≡ true)
both true q h = (refl, h)
both false q h = cc

pub all_of : (p q : Bool) → p ≡ true → q ≡ true → (p && q) ≡ true
all_of true q h k = k
all_of false q h k = h

pub either : (p q : Bool) → (p || q) ≡ true → (p ≡ true) ⊎ (q ≡ true)
either true q h = inl refl
either false q h = inr h

pub neither : (p q : Bool) → (p || q) ≡ false → (p ≡ false) × (q ≡ false)
neither true q h = cc
neither false q h = (refl, h)

pub none_of : (p q : Bool) → p ≡ false → q ≡ false → (p || q) ≡ false
none_of true q h k = h
none_of false q h k = k

pub or_right : (p q : Bool) → q ≡ true → (p || q) ≡ true
or_right true q h = refl
or_right false q h = h

pub or_left : (p q : Bool) → p ≡ true → (p || q) ≡ true
or_left true q h = refl
or_left false q h = cc

pub not_true : (p : Bool) → not p ≡ true → p ≡ false
not_true true h = cc
not_true false h = refl

pub other : (g f : ℕ) → (g ≡ f → ⊥) → (g == f) ≡ false
other g f n = grind (arith, nat_tests)

pub same : (g f : ℕ) → g ≡ f → (g == f) ≡ true
same g f e = grind (arith, nat_tests)

pub below : (a b : ℕ) → nat_lt a b ≡ true → a < b
below a b h = grind (arith, nat_tests)
