-- A list of which one place was written.
use Rattle.std.proofs.Common.{◌≡◌, ℕ, zero, suc, List, [], ◌∷◌, Some, length, slice_get, slice_set, refl, ap}

module _ {X : Type 0} where
  -- a place that was written
  pub get_set : (xs : List X) (i : ℕ) (g h : X) → slice_get xs i ≡ Some g → slice_get (slice_set xs i h) i ≡ Some h
  get_set [] i g h e = cc
  get_set (x ∷ xs) zero g h e = refl
  get_set (x ∷ xs) (suc i) g h e = get_set xs i g h e

  pub set_set : (xs : List X) (i : ℕ) (g h : X) → slice_set (slice_set xs i g) i h ≡ slice_set xs i h
  set_set [] i g h = refl
  set_set (x ∷ xs) zero g h = refl
  set_set (x ∷ xs) (suc i) g h = ap (λ l. x ∷ l) (set_set xs i g h)

  pub set_length : (xs : List X) (i : ℕ) (y : X) → length (slice_set xs i y) ≡ length xs
  set_length [] i y = refl
  set_length (z ∷ xs) zero y = refl
  set_length (z ∷ xs) (suc i) y = ap suc (set_length xs i y)
