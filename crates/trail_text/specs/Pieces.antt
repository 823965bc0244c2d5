-- A text in pieces: its lines, or the words of a line.
use Rattle.std.specs.Prelude.{◌<◌, ◌≢◌, length, slice_index, ◌≡◌, ◌==◌, Bool, true, false, ℕ, List, [], ◌∷◌, Option, Some, if◌then◌else◌, IfSome}
use Rattle.trail_text.specs.Words.{Text}

-- the text has no such byte
abbrev pub Without : ℕ → List ℕ → Type 0
Without at [] = Unit {0}
Without at (c ∷ cs) = ((c == at) ≡ false) × Without at cs

-- a byte more in front of the first piece
abbrev pub with_first : ℕ → List Text → List Text
with_first c [] = (c ∷ []) ∷ []
with_first c (piece ∷ pieces) = (c ∷ piece) ∷ pieces

-- the pieces of a text between the bytes `at`: one more than there are such bytes
abbrev pub pieces : ℕ → Text → List Text
pieces at [] = [] ∷ []
pieces at (c ∷ cs) = if c == at then [] ∷ pieces at cs else with_first c (pieces at cs)

-- those that are left of it, where all of them were handed out or not
abbrev pub left : Bool → ℕ → Text → List Text
left true at text = []
left false at text = pieces at text

-- the digits begin with no plus, and with no zero but that of `0`
abbrev pub IsPlain : Text → Type 0
IsPlain digits = (0 < length digits) × (slice_index digits 0 ≢ 43) × (slice_index digits 0 ≡ 48 → length digits ≡ 1)

-- a last word
abbrev pub last : {A : Type 0} → (A → Text) → A → List Text
last word a = word a ∷ []

-- any truth value, or name, fits
abbrev pub Any : {A : Type 0} → A → Type 0
Any a = Unit {0}

-- r is the one fitting value that is written so, if there is one
pub record Spells {A T : Type 0} (write : A → T) (Fit : A → Type 0) (written : T) (r : Option A) : Type 0 where
  pub some : IfSome r (λ a. Fit a × (written ≡ write a))
  pub each : (a : A) → Fit a → written ≡ write a → r ≡ Some a

-- the same of the first word, where the others are left
pub record Reads {A : Type 0} (write : A → Text) (Fit : A → Type 0) (old new : List Text) (r : Option A) : Type 0 where
  pub some : IfSome r (λ a. Fit a × (old ≡ write a ∷ new))
  pub each : (a : A) (words : List Text) → Fit a → old ≡ write a ∷ words → r ≡ Some a
