-- The frames that use a flow.
use Rattle.std.specs.Prelude.{◌≡◌, ℕ, ◌==◌, ◌-◌, ◌<◌, ◌≤◌, ◌^◌, Bool, true, false, List, [], ◌∷◌, length, slice_index_or}
use Rattle.std.specs.List.{list_any}

-- the frames, whose order means nothing, and for how many more there is room
pub record InUse : Type 0 where
  pub frames : List ℕ
  pub room : ℕ

-- what is left of a capacity
abbrev pub spare : ℕ → ℕ → ℕ
spare capacity len = capacity - len

-- that number is among them
abbrev pub has : List ℕ → ℕ → Bool
has us f = list_any (λ u. u == f) us

-- no number stands twice
abbrev pub IsNumberSet : List ℕ → Type 0
IsNumberSet [] = Unit {0}
IsNumberSet (x ∷ xs) = (has xs x ≡ false) × IsNumberSet xs

-- the number is below all of these
abbrev pub IsBelow : ℕ → List ℕ → Type 0
IsBelow x [] = Unit {0}
IsBelow x (y ∷ ys) = (x < y) × IsBelow x ys

-- each number is below those after it, so that none stands twice
abbrev pub AreRising : List ℕ → Type 0
AreRising [] = Unit {0}
AreRising (x ∷ xs) = IsBelow x xs × AreRising xs

-- the number stands at a place
pub record IsAt (xs : List ℕ) (f i : ℕ) : Type 0 where
  pub within : i < length xs
  pub same : slice_index_or xs i 0 ≡ f

-- smaller numbers stand before the place, greater ones from it on
pub record IsGap (xs : List ℕ) (f i : ℕ) : Type 0 where
  pub within : i ≤ length xs
  pub before : (j : ℕ) → j < i → slice_index_or xs j 0 < f
  pub after : (j : ℕ) → i ≤ j → j < length xs → f < slice_index_or xs j 0

-- numbers of frames, from 1, as they rise
pub record AreFrames (xs : List ℕ) : Type 0 where
  pub rising : AreRising xs
  pub positive : has xs 0 ≡ false
  pub small : (u : ℕ) → has xs u ≡ true → u < 2 ^ 32
