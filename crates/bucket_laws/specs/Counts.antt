-- How often the entries of a history do something to a run.
use Rattle.std.specs.Prelude.{ℕ, ◌+◌, ◌==◌, Bool, false, if◌then◌else◌, List, [], ◌∷◌}
use Rattle.suri_base.specs.declared.entry.BucketNote.{BucketNote}
use Rattle.suri_base.specs.declared.entry.BucketNote.TheVariants.{Made}
use Rattle.suri_base.specs.declared.entry.Entry.{Entry}
use Rattle.bucket_rules.specs.Row.{lets_go}
use Rattle.bucket_rules.specs.declared.fixed.Fixed.{Fixed}

-- the sum of what the entries of a history count for, each after those before it
abbrev pub times : (List (Entry BucketNote) → BucketNote → ℕ) → List (Entry BucketNote) → ℕ
times m [] = 0
times m (e ∷ past) = m past e.note + times m past

abbrev pub one_if : Bool → ℕ
one_if test = if test then 1 else 0

-- the entry begins the run
abbrev pub begins : BucketNote → ℕ → Bool
begins (Made f said) a = f == a
begins _ a = false

-- how often a history begins a run, and how often it lets it go
abbrev pub times_begun : ℕ → List (Entry BucketNote) → ℕ
times_begun a history = times (λ past n. one_if (begins n a)) history

abbrev pub times_left : Fixed → ℕ → List (Entry BucketNote) → ℕ
times_left s a history = times (λ past n. one_if (lets_go s past n a)) history
