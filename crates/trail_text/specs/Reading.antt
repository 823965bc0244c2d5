-- Lines, read one after another.
use Rattle.std.specs.Prelude.{◌≡◌, ◌+◌, ℕ, suc, List, [], ◌∷◌, ◌++◌, All, Result, MatchResult, codes, decimal, length}
use Rattle.suri_base.specs.declared.entry.BucketNote.{BucketNote}
use Rattle.suri_base.specs.declared.entry.Entry.{Entry}
use Rattle.trail_text.specs.declared.fault.TrailFault.{TrailFault}
use Rattle.trail_text.specs.declared.fault.TrailFault.TheVariants as fault
use Rattle.trail_text.specs.Lines.{part}
use Rattle.trail_text.specs.Words.{Text, bucket_words, spaced}

-- a text that is read by lines: those that are left, what stands behind the last line feed, and the number of the next line, from 1
pub record Reading : Type 0 where
  pub lines : List Text
  pub tail : Text
  pub no : ℕ

-- what stands behind the last line feed
abbrev pub last_piece : List Text → Text
last_piece [] = []
last_piece (p ∷ []) = p
last_piece (p ∷ q ∷ qs) = last_piece (q ∷ qs)

-- lines have the same first one, or both there is none
abbrev pub Agree : List Text → List Text → Type 0
Agree [] other = other ≡ []
Agree (line ∷ lines) other = (rest : List Text) × (other ≡ line ∷ rest)

-- the lines written for a value tell it, whatever follows
abbrev pub Tells : {V : Type 0} → (V → List Text) → (V → Type 0) → V → Type 0
Tells {V} write Fit v = (w : V) → Fit w → (p q : List Text) → write w ++ p ≡ write v ++ q → (w ≡ v) × (p ≡ q)

-- that fitting value was read, and no other is written there
pub record Took {V : Type 0} (write : V → List Text) (Fit : V → Type 0) (old new : Reading) (v : V) : Type 0 where
  pub fit : Fit v
  pub lines : old.lines ≡ write v ++ new.lines
  pub tail : new.tail ≡ old.tail
  pub no : new.no ≡ old.no + length (write v)
  pub tells : Tells write Fit v

-- no fitting value is written there: the lines `done` begin one, and no value agrees with these and the line after them, as far as there is one
pub record Stops {V : Type 0} (write : V → List Text) (Fit : V → Type 0) (old : Reading) (at : ℕ) : Type 0 where
  pub done : List Text
  pub left : List Text
  pub lines : old.lines ≡ done ++ left
  pub no : at ≡ old.no + length done
  pub before : (v : V) × Fit v × ((more : List Text) × (write v ≡ done ++ more))
  pub clash : (v : V) → Fit v → (p q : List Text) → Agree left q → write v ++ p ≡ done ++ q → ⊥

abbrev pub Faulty : {V : Type 0} → (V → List Text) → (V → Type 0) → Reading → TrailFault → Type 0
Faulty write Fit old (fault.Line at) = Stops write Fit old at
Faulty write Fit old fault.NoMemory = Unit {0}

-- r is what was read, or where it stopped
abbrev pub Parses : {V : Type 0} → (V → List Text) → (V → Type 0) → Reading → Reading → Result V TrailFault → Type 0
Parses write Fit old new r = MatchResult r (Took write Fit old new) (Faulty write Fit old)

-- a value that is written in one line
abbrev pub alone : {V : Type 0} → (V → Text) → V → List Text
alone write v = write v ∷ []

-- values written one after another, each with its number, from that one on
abbrev pub row : {V : Type 0} → (ℕ → V → List Text) → ℕ → List V → List Text
row write number [] = []
row write number (v ∷ vs) = write number v ++ row write (suc number) vs

-- so many fitting values
abbrev pub Count : {V : Type 0} → (V → Type 0) → ℕ → List V → Type 0
Count Fit count vs = (length vs ≡ count) × All Fit vs

-- the line before the entries of a part
abbrev pub head_line : List Text → ℕ → Text
head_line name count = spaced (name ++ decimal count ∷ [])

-- the lines of entries
abbrev pub entry_row : {N : Type 0} → (Entry N → Text) → List (Entry N) → List Text
entry_row line entries = row (λ _ e. line e ∷ []) 0 entries

-- the part of the bucket with that number
abbrev pub bucket_part : ℕ → List (Entry BucketNote) → List Text
bucket_part number entries = part (codes "bucket" ∷ decimal number ∷ []) bucket_words entries

-- each of them is told by its lines
abbrev pub RowTells : {V : Type 0} → (ℕ → V → List Text) → (V → Type 0) → ℕ → List V → Type 0
RowTells write Fit number [] = Unit {0}
RowTells write Fit number (v ∷ vs) = Tells (write number) Fit v × RowTells write Fit (suc number) vs

-- these values were read one after another, with their numbers from 0
pub record TookRow {V : Type 0} (write : ℕ → V → List Text) (Fit : V → Type 0) (old new : Reading) (count : ℕ) (vs : List V) : Type 0 where
  pub fit : All Fit vs
  pub number : length vs ≡ count
  pub lines : old.lines ≡ row write 0 vs ++ new.lines
  pub tail : new.tail ≡ old.tail
  pub no : new.no ≡ old.no + length (row write 0 vs)
  pub tells : RowTells write Fit 0 vs
