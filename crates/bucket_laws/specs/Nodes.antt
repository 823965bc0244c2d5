-- The nodes that runs hold.
use Rattle.std.specs.Prelude.{ℕ, ◌==◌, if◌then◌else◌, List, sum_by}
use Rattle.suri_base.specs.declared.entry.BucketNote.{BucketNote}
use Rattle.suri_base.specs.declared.entry.BucketNote.TheVariants.{Stored, Closed}
use Rattle.suri_base.specs.declared.entry.Entry.{Entry}
use Rattle.bucket_rules.specs.Row.{Row, row, after, has, is_here, lets_go, made}
use Rattle.bucket_rules.specs.declared.fixed.Fixed.{Fixed}
use Rattle.bucket_laws.specs.Counts.{one_if, times}

-- how many nodes an entry stores in a run: one where a member of the run is stored
abbrev pub stored_in : Fixed → ℕ → List (Entry BucketNote) → BucketNote → ℕ
stored_in s a past (Stored f) = one_if (has (row s a past).uses f)
stored_in s a past _ = 0

-- how many it frees of the run's
abbrev pub freed_from : ℕ → BucketNote → ℕ
freed_from a (Closed f app run freed ended) = if run == a then freed else 0
freed_from a _ = 0

-- how many the run takes along, where the entry lets it go
abbrev pub taken_by : Fixed → ℕ → List (Entry BucketNote) → BucketNote → ℕ
taken_by s a past n = if lets_go s past n a then (after s a n (row s a past)).held else 0

-- how many a run holds in the bucket
abbrev pub holds : Row → ℕ
holds w = if is_here w then w.held else 0

-- what an entry counts for, whatever the run
abbrev pub stores : BucketNote → ℕ
stores (Stored f) = 1
stores _ = 0

abbrev pub frees : BucketNote → ℕ
frees (Closed f app run freed ended) = freed
frees _ = 0

-- a history's sums of these, for one run and for all
abbrev pub times_stored : Fixed → ℕ → List (Entry BucketNote) → ℕ
times_stored s a history = times (λ past n. stored_in s a past n) history

abbrev pub times_freed : ℕ → List (Entry BucketNote) → ℕ
times_freed a history = times (λ past n. freed_from a n) history

abbrev pub times_taken : Fixed → ℕ → List (Entry BucketNote) → ℕ
times_taken s a history = times (λ past n. taken_by s a past n) history

abbrev pub all_stored : List (Entry BucketNote) → ℕ
all_stored history = times (λ past n. stores n) history

abbrev pub all_freed : List (Entry BucketNote) → ℕ
all_freed history = times (λ past n. frees n) history

abbrev pub all_taken : Fixed → List (Entry BucketNote) → ℕ
all_taken s history = times (λ past n. sum_by (λ a. taken_by s a past n) (made past)) history

-- how many nodes are in the bucket
abbrev pub all_held : Fixed → List (Entry BucketNote) → ℕ
all_held s history = sum_by (λ a. holds (row s a history)) (made history)
