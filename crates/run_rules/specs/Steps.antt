-- A role's acts, looked up in the histories by their step numbers.
use Rattle.std.specs.Prelude.{ℕ, zero, suc, ◌+◌, ◌==◌, List, [], ◌∷◌, ◌++◌, filter, length, map}
use Rattle.suri_base.specs.History.{entries_of}
use Rattle.suri_base.specs.declared.entry.BucketNote.{BucketNote}
use Rattle.suri_base.specs.declared.entry.Entry.{Entry}
use Rattle.run_rules.specs.Acts.{Act, pool_acts, segment_acts, bucket_acts}
use Rattle.run_rules.specs.Histories.{Histories}
use Rattle.run_rules.specs.Setup.{Setup}

-- all acts on the buckets from the k-th on
abbrev pub all_bucket_acts : Setup → ℕ → List (List (Entry BucketNote)) → List (Entry Act)
all_bucket_acts w k [] = []
all_bucket_acts w k (h ∷ hs) = bucket_acts w k h ++ all_bucket_acts w (k + 1) hs

-- all acts of all roles
abbrev pub all_acts : Setup → Histories → List (Entry Act)
all_acts w t = pool_acts t.pool ++ (segment_acts t.segments ++ all_bucket_acts w 0 t.buckets)

-- of some entries those of one step
abbrev pub acts_at : ℕ → List (Entry Act) → List Act
acts_at step mine = map (λ e. e.note) (filter (λ e. e.step == step) mine)

-- those of the steps below n, the newest first
abbrev pub acts_below : ℕ → List (Entry Act) → List Act
acts_below zero mine = []
acts_below (suc n) mine = acts_at n mine ++ acts_below n mine

-- what a role did, found by its step numbers
abbrev pub acts_of : Setup → Histories → ℕ → List Act
acts_of w t role = let mine : List (Entry Act) = entries_of role (all_acts w t) in acts_below (length mine) mine
