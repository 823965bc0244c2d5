-- Where an entry stands in a history.
use Rattle.std.specs.Prelude.{◌≡◌, ◌⊎◌, List, [], ◌∷◌}
use Rattle.suri_base.specs.declared.entry.BucketNote.{BucketNote}
use Rattle.suri_base.specs.declared.entry.Entry.{Entry}

-- the history of a bucket, the newest entry first
abbrev pub History : Type 0
History = List (Entry BucketNote)

-- the element stands in the list right after these: the list has the newest first
abbrev pub At : {A : Type 0} → A → List A → List A → Type 0
At x past [] = ⊥
At x past (y ∷ ys) = ((y ≡ x) × (ys ≡ past)) ⊎ At x past ys

-- the element is in the list
abbrev pub In : {A : Type 0} → A → List A → Type 0
In x [] = ⊥
In x (y ∷ ys) = (y ≡ x) ⊎ In x ys
