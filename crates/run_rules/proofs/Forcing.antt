-- With room for one flow, two keys in turn force each other out.
use Rattle.std.proofs.Common.{◌≡◌, true, false, List, [], ◌∷◌, map, replicate, refl}
use Rattle.suri_base.specs.App.{verdict_of}
use Rattle.suri_base.specs.Hash.{key_bytes}
use Rattle.suri_base.specs.History.{entry}
use Rattle.suri_base.specs.Keys.{same_key}
use Rattle.suri_base.specs.declared.entry.BucketNote.TheVariants.{Missing, Victim, Drained}
use Rattle.suri_base.specs.declared.entry.PoolNote.TheVariants.{Took, Full, Put, Turn, Mode, Over}
use Rattle.timeout_table.specs.Table.{rows_for}
use Rattle.bucket_rules.proofs.Rows.{forcing, forcing_history}
use Rattle.run_rules.specs.Histories.{Histories}
use Rattle.run_rules.specs.Lawful.{AreLawful}
use Rattle.run_rules.specs.Setup.{Setup}
use Rattle.run_rules.proofs.Changes.{all_closed_up, drop_at, in_bucket, in_pool, note_at, role_at, setup_of, step_at}
use Rattle.run_rules.proofs.Tested.{is_lawful, lawful}

abbrev pub forcing_setup : Setup
forcing_setup = setup_of forcing

abbrev pub forcing_trail : Histories
forcing_trail = record {
  pool =
      entry 3 1 (Put 4) ∷
      entry 1 2 (Over 0 false) ∷
      entry 1 0 (Mode true) ∷
      entry 0 23 (Turn 3 4) ∷
      entry 0 21 (Full 4 1 1) ∷
      entry 0 19 (Mode true) ∷
      entry 0 16 (Turn 2 3) ∷
      entry 0 14 (Full 3 1 1) ∷
      entry 0 12 (Mode true) ∷
      entry 0 9 (Turn 1 2) ∷
      entry 0 7 (Full 2 1 1) ∷
      entry 0 5 (Mode false) ∷
      entry 0 2 (Took 1) ∷
      entry 0 0 (Mode false) ∷
      [];
  segments = [];
  buckets = forcing_history ∷ [];
}

pub forcing_lawful : AreLawful forcing_setup forcing_trail
unfolding rows_for same_key key_bytes verdict_of
forcing_lawful = lawful forcing_setup forcing_trail refl

-- one change each, none of them lawful
abbrev forcing_changed_1 : List Histories
forcing_changed_1 =
    -- the object of another run is turned
    (in_pool (λ h. note_at 6 (Turn 1 3) h) forcing_trail) ∷
    -- it is turned to another frame
    (in_pool (λ h. note_at 6 (Turn 2 4) h) forcing_trail) ∷
    -- a further object is taken
    (in_pool (λ h. note_at 6 (Took 3) h) forcing_trail) ∷
    -- a run that left is evicted
    (in_bucket 0 (λ h. note_at 8 (Victim 3 1) h) forcing_trail) ∷
    -- a run is evicted for another frame
    (in_bucket 0 (λ h. note_at 8 (Victim 4 2) h) forcing_trail) ∷
    -- a look names an older reading of the mode
    (in_bucket 0 (λ h. note_at 5 (Missing 4 true 6 0) h) forcing_trail) ∷
    []

forcing_changed_1_unlawful : map (λ t. is_lawful forcing_setup t) forcing_changed_1 ≡ replicate 6 false
unfolding rows_for same_key key_bytes verdict_of
forcing_changed_1_unlawful = refl

abbrev forcing_changed_2 : List Histories
forcing_changed_2 =
    -- a look uses the normal table in an emergency
    (in_bucket 0 (λ h. note_at 9 (Missing 3 false 6 0) h) forcing_trail) ∷
    -- none is left though none is out
    (in_pool (λ h. note_at 7 (Full 3 0 1) h) forcing_trail) ∷
    -- the mode is told to be off in an emergency
    (in_pool (λ h. note_at 8 (Mode false) h) forcing_trail) ∷
    -- a worker gives an object back in place of turning it
    (in_pool (λ h. note_at 3 (Put 3) h) forcing_trail) ∷
    -- the recycler gives back what the end role drained
    (in_pool (λ h. step_at 0 0 h) (in_pool (λ h. role_at 0 2 h) forcing_trail)) ∷
    -- the end role gives back another run
    (in_pool (λ h. note_at 0 (Put 3) h) forcing_trail) ∷
    []

forcing_changed_2_unlawful : map (λ t. is_lawful forcing_setup t) forcing_changed_2 ≡ replicate 6 false
unfolding rows_for same_key key_bytes verdict_of
forcing_changed_2_unlawful = refl

abbrev forcing_changed_3 : List Histories
forcing_changed_3 =
    -- the emergency ends though no object is free
    (in_pool (λ h. note_at 1 (Over 0 true) h) forcing_trail) ∷
    -- no run was evicted, and one is turned
    (all_closed_up 0 16 (in_bucket 0 (λ h. drop_at 8 h) forcing_trail)) ∷
    -- the mode was not read for a batch
    (all_closed_up 0 13 (in_pool (λ h. drop_at 8 h) forcing_trail)) ∷
    -- the run that is there is not drained
    (in_bucket 0 (λ h. note_at 0 (Drained 0) h) forcing_trail) ∷
    []

forcing_changed_3_unlawful : map (λ t. is_lawful forcing_setup t) forcing_changed_3 ≡ replicate 4 false
unfolding rows_for same_key key_bytes verdict_of
forcing_changed_3_unlawful = refl
