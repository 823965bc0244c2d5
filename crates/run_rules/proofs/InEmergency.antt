-- After a want of flows the table of an emergency ends a flow eleven seconds after its last packet.
use Rattle.std.proofs.Common.{◌≡◌, true, false, List, [], ◌∷◌, map, replicate, refl}
use Rattle.suri_base.specs.App.{verdict_of}
use Rattle.suri_base.specs.Hash.{key_bytes}
use Rattle.suri_base.specs.History.{entry}
use Rattle.suri_base.specs.Keys.{same_key}
use Rattle.suri_base.specs.declared.entry.BucketNote.TheVariants.{Found, Missing, Victim, Swept, Drained}
use Rattle.suri_base.specs.declared.entry.PoolNote.TheVariants.{Took, Full, Put, Turn, Mode, Over}
use Rattle.suri_base.specs.declared.stream.Offer.TheVariants as offer
use Rattle.timeout_table.specs.Table.{rows_for}
use Rattle.bucket_rules.proofs.Rows.{in_emergency, in_emergency_history}
use Rattle.run_rules.specs.Histories.{Histories}
use Rattle.run_rules.specs.Lawful.{AreLawful}
use Rattle.run_rules.specs.Setup.{Setup}
use Rattle.run_rules.proofs.Changes.{all_closed_up, double_at, drop_at, in_bucket, in_pool, note_at, setup_of, step_at}
use Rattle.run_rules.proofs.Tested.{is_lawful, lawful}

abbrev pub in_emergency_setup : Setup
in_emergency_setup = setup_of in_emergency

abbrev pub in_emergency_trail : Histories
in_emergency_trail = record {
  pool =
      entry 3 2 (Put 4) ∷
      entry 3 1 (Put 3) ∷
      entry 1 2 (Over 0 false) ∷
      entry 1 0 (Mode true) ∷
      entry 0 20 (Turn 2 4) ∷
      entry 0 19 (Full 4 2 2) ∷
      entry 0 17 (Mode true) ∷
      entry 0 14 (Turn 1 3) ∷
      entry 0 12 (Full 3 2 2) ∷
      entry 0 10 (Mode false) ∷
      entry 0 7 (Took 2) ∷
      entry 0 5 (Mode false) ∷
      entry 0 2 (Took 1) ∷
      entry 0 0 (Mode false) ∷
      [];
  segments = [];
  buckets = in_emergency_history ∷ [];
}

pub in_emergency_lawful : AreLawful in_emergency_setup in_emergency_trail
unfolding rows_for same_key key_bytes verdict_of
in_emergency_lawful = lawful in_emergency_setup in_emergency_trail refl

-- one change each, none of them lawful
abbrev in_emergency_changed_1 : List Histories
in_emergency_changed_1 =
    -- the packet joins by the normal table
    (in_bucket 0 (λ h. note_at 4 (Found 4 false 8 2 offer.Nothing) h) in_emergency_trail) ∷
    -- the drained runs come back in another order
    (in_pool (λ h. note_at 1 (Put 4) h) (in_pool (λ h. note_at 0 (Put 3) h) in_emergency_trail)) ∷
    -- the newer run is evicted
    (in_bucket 0 (λ h. note_at 7 (Victim 3 2) h) in_emergency_trail) ∷
    -- the look names an older reading of the mode
    (in_bucket 0 (λ h. note_at 4 (Missing 4 true 5 2) h) in_emergency_trail) ∷
    -- the emergency ends though no object is free
    (in_pool (λ h. note_at 2 (Over 0 true) h) in_emergency_trail) ∷
    -- more objects are out than there are
    (in_pool (λ h. note_at 7 (Took 3) h) in_emergency_trail) ∷
    []

in_emergency_changed_1_unlawful : map (λ t. is_lawful in_emergency_setup t) in_emergency_changed_1 ≡ replicate 6 false
unfolding rows_for same_key key_bytes verdict_of
in_emergency_changed_1_unlawful = refl

abbrev in_emergency_changed_2 : List Histories
in_emergency_changed_2 =
    -- none is left though one is
    (in_pool (λ h. note_at 8 (Full 3 1 2) h) in_emergency_trail) ∷
    -- the object of another run is turned
    (in_pool (λ h. note_at 7 (Turn 2 3) h) in_emergency_trail) ∷
    -- the sweep uses the normal table in an emergency
    (in_bucket 0 (λ h. note_at 1 (Swept 0 false 11 0) h) in_emergency_trail) ∷
    -- the sweep names the reading of another role
    (in_bucket 0 (λ h. note_at 1 (Swept 0 true 8 0) h) in_emergency_trail) ∷
    -- the bucket is not swept
    (all_closed_up 1 2 (in_bucket 0 (λ h. drop_at 1 h) in_emergency_trail)) ∷
    -- a drained run is not counted
    (in_bucket 0 (λ h. note_at 0 (Drained 1) h) in_emergency_trail) ∷
    []

in_emergency_changed_2_unlawful : map (λ t. is_lawful in_emergency_setup t) in_emergency_changed_2 ≡ replicate 6 false
unfolding rows_for same_key key_bytes verdict_of
in_emergency_changed_2_unlawful = refl

abbrev in_emergency_changed_3 : List Histories
in_emergency_changed_3 =
    -- the manager is told that there is no emergency
    (in_pool (λ h. note_at 3 (Mode false) h) in_emergency_trail) ∷
    -- a drained run does not come back
    (in_pool (λ h. step_at 0 1 h) (in_pool (λ h. drop_at 1 h) in_emergency_trail)) ∷
    -- two frames are made in one step of the pool
    (in_pool (λ h. double_at 10 h) in_emergency_trail) ∷
    []

in_emergency_changed_3_unlawful : map (λ t. is_lawful in_emergency_setup t) in_emergency_changed_3 ≡ replicate 3 false
unfolding rows_for same_key key_bytes verdict_of
in_emergency_changed_3_unlawful = refl
