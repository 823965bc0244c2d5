-- A flow that has expired leaves at the look of the next packet of its key, and its object is turned to that.
use Rattle.std.proofs.Common.{◌≡◌, true, false, List, [], ◌∷◌, map, replicate, refl}
use Rattle.suri_base.specs.App.{verdict_of}
use Rattle.suri_base.specs.Hash.{key_bytes}
use Rattle.suri_base.specs.History.{entry}
use Rattle.suri_base.specs.Keys.{same_key}
use Rattle.suri_base.specs.declared.app.App.TheVariants as app
use Rattle.suri_base.specs.declared.entry.BucketNote.TheVariants.{Found, Missing, Refused, Closed, Idle, AllInUse, Swept, Drained}
use Rattle.suri_base.specs.declared.entry.PoolNote.TheVariants.{Took, Full, Put, Turn, Mode, Over}
use Rattle.suri_base.specs.declared.stream.Offer.TheVariants as offer
use Rattle.timeout_table.specs.Table.{rows_for}
use Rattle.bucket_rules.proofs.Rows.{ended_first, ended_first_history}
use Rattle.run_rules.specs.Histories.{Histories}
use Rattle.run_rules.specs.Lawful.{AreLawful}
use Rattle.run_rules.specs.Setup.{Setup}
use Rattle.run_rules.proofs.Changes.{add_at, all_closed_up, all_spread, drop_at, in_bucket, in_pool, note_at, put_at, role_at, setup_of}
use Rattle.run_rules.proofs.Tested.{is_lawful, lawful}

abbrev pub ended_first_setup : Setup
ended_first_setup = setup_of ended_first

abbrev pub ended_first_trail : Histories
ended_first_trail = record {
  pool =
      entry 3 1 (Put 2) ∷
      entry 1 2 (Over 0 false) ∷
      entry 1 0 (Mode true) ∷
      entry 0 8 (Turn 1 2) ∷
      entry 0 7 (Full 2 1 1) ∷
      entry 0 5 (Mode false) ∷
      entry 0 2 (Took 1) ∷
      entry 0 0 (Mode false) ∷
      [];
  segments = [];
  buckets = ended_first_history ∷ [];
}

pub ended_first_lawful : AreLawful ended_first_setup ended_first_trail
unfolding rows_for same_key key_bytes verdict_of
ended_first_lawful = lawful ended_first_setup ended_first_trail refl

-- one change each, none of them lawful
abbrev ended_first_changed_1 : List Histories
ended_first_changed_1 =
    -- a worker gives the object back in place of turning it
    (in_pool (λ h. note_at 3 (Put 1) h) ended_first_trail) ∷
    -- the object of the run that is to be made is turned
    (in_pool (λ h. note_at 3 (Turn 2 2) h) ended_first_trail) ∷
    -- a further object is taken
    (in_pool (λ h. note_at 3 (Took 2) h) ended_first_trail) ∷
    -- the look does not name the run that left
    (in_bucket 0 (λ h. note_at 4 (Missing 2 false 3 0) h) ended_first_trail) ∷
    -- the packet joins the run that has expired
    (in_bucket 0 (λ h. note_at 4 (Found 2 false 3 1 offer.Nothing) h) ended_first_trail) ∷
    -- the look uses the table of an emergency
    (in_bucket 0 (λ h. note_at 4 (Missing 2 true 3 1) h) ended_first_trail) ∷
    []

ended_first_changed_1_unlawful : map (λ t. is_lawful ended_first_setup t) ended_first_changed_1 ≡ replicate 6 false
unfolding rows_for same_key key_bytes verdict_of
ended_first_changed_1_unlawful = refl

abbrev ended_first_changed_2 : List Histories
ended_first_changed_2 =
    -- the look names an older reading of the mode
    (in_bucket 0 (λ h. note_at 4 (Missing 2 false 1 1) h) ended_first_trail) ∷
    -- the look names a later entry
    (in_bucket 0 (λ h. note_at 4 (Missing 2 false 4 1) h) ended_first_trail) ∷
    -- a bucket is asked though a flow is in the hand
    (in_bucket 0 (λ h. add_at 4 (entry 0 8 (AllInUse 2 0)) h) (all_spread 0 8 ended_first_trail)) ∷
    -- the frame is refused though a flow is in the hand
    (in_bucket 0 (λ h. add_at 4 (entry 0 8 (AllInUse 2 0)) h) (in_bucket 0 (λ h. put_at 3 (entry 0 9 (Refused 2)) h)
    (in_bucket 0 (λ h. put_at 2 (entry 0 10 (Idle 2 app.None)) h) (in_bucket 0 (λ h. put_at 0 (entry 3 1 (Drained 0)) h) (in_pool (λ h. put_at 0 (entry 3 0 (Put 1)) h) (in_pool (λ h. drop_at 3 h) ended_first_trail)))))) ∷
    -- a verdict is not that of its packet
    (in_bucket 0 (λ h. note_at 2 (Closed 2 app.Dns 2 0 false) h) ended_first_trail) ∷
    -- another role looks
    (in_bucket 0 (λ h. role_at 7 1 h) ended_first_trail) ∷
    []

ended_first_changed_2_unlawful : map (λ t. is_lawful ended_first_setup t) ended_first_changed_2 ≡ replicate 6 false
unfolding rows_for same_key key_bytes verdict_of
ended_first_changed_2_unlawful = refl

abbrev ended_first_changed_3 : List Histories
ended_first_changed_3 =
    -- the mode was not read for a batch
    (all_closed_up 0 6 (in_pool (λ h. drop_at 5 h) ended_first_trail)) ∷
    -- the object is turned before it was asked for
    (in_pool (λ h. note_at 4 (Turn 1 2) h) (in_pool (λ h. note_at 3 (Full 2 1 1) h) ended_first_trail)) ∷
    -- an object does not come back
    (in_pool (λ h. drop_at 0 h) ended_first_trail) ∷
    -- the sweep is of another round
    (in_bucket 0 (λ h. note_at 1 (Swept 1 true 6 0) h) ended_first_trail) ∷
    []

ended_first_changed_3_unlawful : map (λ t. is_lawful ended_first_setup t) ended_first_changed_3 ≡ replicate 4 false
unfolding rows_for same_key key_bytes verdict_of
ended_first_changed_3_unlawful = refl
