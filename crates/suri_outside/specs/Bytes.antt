-- What a source gave and a sink took, where they tell their bytes.
use Rattle.std.specs.Prelude.{◌≡◌, ℕ, ◌≤◌, List, ◌++◌, length, take, None, Some, ⊤}
use Rattle.std.specs.declared.option.Option.{Option}
use Rattle.std.specs.Io.KnownBytes.{Appends, Consumes}

-- the source gave at most so many bytes, and has left what followed them
abbrev pub GivesAtMost : Option (List ℕ) → Option (List ℕ) → ℕ → Type 0
GivesAtMost old new most = (came : List ℕ) × (length came ≤ most) × Consumes old new came

-- the sink took a front of the bytes, perhaps all or none, and nothing else
abbrev pub TakesFront : Option (List ℕ) → Option (List ℕ) → List ℕ → Type 0
TakesFront None new bytes = ⊤
TakesFront (Some xs) None bytes = ⊥
TakesFront (Some xs) (Some ys) bytes = (n : ℕ) × (n ≤ length bytes) × (ys ≡ xs ++ take n bytes)

-- the sink took all of the text but the end of it that waits
abbrev pub TakesAllBut : Option (List ℕ) → Option (List ℕ) → List ℕ → List ℕ → Type 0
TakesAllBut old new waiting text = (sent : List ℕ) × Appends old new sent × (sent ++ waiting ≡ text)
