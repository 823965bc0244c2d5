-- Worked trails cut short: histories that are lawful so far, and some that are not.
use Rattle.std.proofs.Common.{◌≡◌, ℕ, true, false, List, [], ◌∷◌, map, replicate, refl}
use Rattle.std.specs.Prelude.{drop}
use Rattle.reassembly.specs.Parts.{bytes_from}
use Rattle.suri_base.specs.App.{verdict_of}
use Rattle.suri_base.specs.Hash.{key_bytes}
use Rattle.suri_base.specs.History.{entry}
use Rattle.suri_base.specs.Keys.{same_key}
use Rattle.suri_base.specs.declared.entry.BucketNote.TheVariants.{Missing, Swept}
use Rattle.suri_base.specs.declared.entry.PoolNote.TheVariants.{Put}
use Rattle.tcp_session.specs.Moves.{next_state, outcomes}
use Rattle.timeout_table.specs.Table.{rows_for}
use Rattle.run_rules.specs.Histories.{Histories, bucket_at}
use Rattle.run_rules.proofs.Changes.{drop_at, in_bucket, in_pool, note_at}
use Rattle.run_rules.proofs.InUse.{in_use_setup, in_use_trail}
use Rattle.run_rules.proofs.TestedSoFar.{is_so_far}
use Rattle.run_rules.proofs.ThreeRounds.{three_rounds_setup, three_rounds_trail}

-- without the newest entries of each history
abbrev without : ℕ → ℕ → ℕ → ℕ → Histories → Histories
without pool segments first second t = record {
  pool = drop pool t.pool;
  segments = drop segments t.segments;
  buckets = drop first (bucket_at 0 t.buckets) ∷ drop second (bucket_at 1 t.buckets) ∷ [];
}

abbrev cut : List Histories
cut =
    -- nothing was done
    (without 16 2 7 15 three_rounds_trail) ∷
    -- a worker took a node in the second round, and has not stored the segment; the first round is over for all others
    (without 9 1 6 7 three_rounds_trail) ∷
    -- all but the recycler have ended the second round
    (without 7 0 5 2 three_rounds_trail) ∷
    -- the recycler serves the second round's hands, and a worker has its object in the third round
    (without 4 0 4 2 three_rounds_trail) ∷
    -- the end role drained the first bucket
    (without 2 0 0 1 three_rounds_trail) ∷
    -- all is done
    three_rounds_trail ∷
    -- each of the first three wrong ones below without its wrong entry
    (without 8 0 5 2 three_rounds_trail) ∷
    (without 3 0 1 1 three_rounds_trail) ∷
    (in_bucket 0 (λ h. note_at 3 (Missing 5 false 10 0) (note_at 0 (Swept 2 false 12 0) h)) (in_bucket 1 (λ h. note_at 0 (Swept 2 false 12 0) h)
    (in_pool (λ h. drop_at 4 h) (without 2 0 1 1 three_rounds_trail)))) ∷
    []

cut_so_far : map (λ t. is_so_far three_rounds_setup t) cut ≡ replicate 9 true
unfolding next_state outcomes bytes_from rows_for same_key key_bytes verdict_of
cut_so_far = refl

abbrev wrong : List Histories
wrong =
    -- the recycler serves a hand of a round that the manager has not ended
    (in_pool (λ h. entry 3 0 (Put 1) ∷ h) (without 8 0 5 2 three_rounds_trail)) ∷
    -- the end role drains a bucket before the manager has ended
    (without 3 0 0 1 three_rounds_trail) ∷
    -- the end role drains a bucket while the recycler has not served all
    (in_bucket 0 (λ h. note_at 4 (Missing 5 false 10 0) (note_at 1 (Swept 2 false 12 0) h)) (in_bucket 1 (λ h. note_at 0 (Swept 2 false 12 0) h)
    (in_pool (λ h. drop_at 4 h) (without 2 0 0 1 three_rounds_trail)))) ∷
    -- an act of a worker is missing
    (in_bucket 1 (λ h. drop_at 1 h) (without 4 0 4 2 three_rounds_trail)) ∷
    []

wrong_so_far : map (λ t. is_so_far three_rounds_setup t) wrong ≡ replicate 4 false
unfolding next_state outcomes bytes_from rows_for same_key key_bytes verdict_of
wrong_so_far = refl

-- the recycler serves what came with the last round
serves_last : is_so_far in_use_setup (in_pool (λ h. entry 2 0 (Put 1) ∷ drop 1 h) (in_bucket 0 (λ h. drop 1 h) in_use_trail)) ≡ false
unfolding rows_for same_key key_bytes verdict_of
serves_last = refl

-- and it is the end role that does
ends_with_last : is_so_far in_use_setup (in_bucket 0 (λ h. drop 1 h) in_use_trail) ≡ true
unfolding rows_for same_key key_bytes verdict_of
ends_with_last = refl
