-- How often histories name a run.
use Rattle.std.specs.Prelude.{ℕ, zero, suc, ◌+◌, ◌==◌, List, [], ◌∷◌, length}
use Rattle.suri_base.specs.declared.entry.Entry.{Entry}
use Rattle.suri_base.specs.declared.entry.PoolNote.{PoolNote}
use Rattle.suri_base.specs.declared.entry.PoolNote.TheVariants.{Took, Put, Turn}
use Rattle.suri_base.specs.declared.entry.SegNote.{SegNote}
use Rattle.suri_base.specs.declared.entry.SegNote.TheVariants as seg
use Rattle.bucket_laws.specs.Counts.{one_if, times_begun}
use Rattle.run_rules.specs.Histories.{Histories, bucket_at}

-- 1 where the numbers are the same
abbrev pub is : ℕ → ℕ → ℕ
is f a = one_if (f == a)

-- the sum of what the notes of a history count for
abbrev pub tally : {N : Type 0} → (N → ℕ) → List (Entry N) → ℕ
tally m [] = 0
tally m (e ∷ past) = m e.note + tally m past

-- the sum of what the numbers below n count for
abbrev pub sum_below : ℕ → (ℕ → ℕ) → ℕ
sum_below zero f = 0
sum_below (suc n) f = sum_below n f + f n

-- run a gets its object
abbrev pub gets : ℕ → PoolNote → ℕ
gets a (Took f) = is f a
gets a (Turn run f) = is f a
gets a _ = 0

-- run a gives its object back
abbrev pub gives : ℕ → PoolNote → ℕ
gives a (Put run) = is run a
gives a (Turn run f) = is run a
gives a _ = 0

-- a node is taken
abbrev pub node_took : SegNote → ℕ
node_took (seg.Took f) = 1
node_took _ = 0

-- so many nodes are given
abbrev pub nodes_given : SegNote → ℕ
nodes_given (seg.Gave n) = n
nodes_given _ = 0

-- how often the buckets begin run a: once, where a is one of the runs
abbrev pub made_in : Histories → ℕ → ℕ
made_in t a = sum_below (length t.buckets) (λ b. times_begun a (bucket_at b t.buckets))
