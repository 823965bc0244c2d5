-- With room for one flow, which is in use, the second packet of the batch is refused.
use Rattle.std.proofs.Common.{◌≡◌, true, false, List, [], ◌∷◌, map, replicate, refl}
use Rattle.suri_base.specs.App.{verdict_of}
use Rattle.suri_base.specs.Hash.{key_bytes}
use Rattle.suri_base.specs.History.{entry}
use Rattle.suri_base.specs.Keys.{same_key}
use Rattle.suri_base.specs.declared.app.App.TheVariants as app
use Rattle.suri_base.specs.declared.entry.BucketNote.TheVariants.{Missing, Made, Idle, Swept}
use Rattle.suri_base.specs.declared.entry.PoolNote.TheVariants.{Took, Full, Put, Mode, Over}
use Rattle.suri_base.specs.declared.stream.Offer.TheVariants as offer
use Rattle.timeout_table.specs.Table.{rows_for}
use Rattle.bucket_rules.proofs.Rows.{no_room, no_room_history}
use Rattle.run_rules.specs.Histories.{Histories}
use Rattle.run_rules.specs.Lawful.{AreLawful}
use Rattle.run_rules.specs.Setup.{Setup}
use Rattle.run_rules.proofs.Changes.{add_at, all_closed_up, double_at, drop_at, in_bucket, in_pool, note_at, setup_of, step_at, swap_at}
use Rattle.run_rules.proofs.Tested.{is_lawful, lawful}

abbrev pub no_room_setup : Setup
no_room_setup = setup_of no_room

abbrev pub no_room_trail : Histories
no_room_trail = record {
  pool =
      entry 3 1 (Put 1) ∷
      entry 1 2 (Over 0 false) ∷
      entry 1 0 (Mode true) ∷
      entry 0 5 (Full 2 1 1) ∷
      entry 0 2 (Took 1) ∷
      entry 0 0 (Mode false) ∷
      [];
  segments = [];
  buckets = no_room_history ∷ [];
}

pub no_room_lawful : AreLawful no_room_setup no_room_trail
unfolding rows_for same_key key_bytes verdict_of
no_room_lawful = lawful no_room_setup no_room_trail refl

-- one change each, none of them lawful
abbrev no_room_changed_1 : List Histories
no_room_changed_1 =
    -- the object does not come back
    (in_pool (λ h. drop_at 0 h) no_room_trail) ∷
    -- it comes back twice
    (in_pool (λ h. add_at 0 (entry 3 2 (Put 1)) h) no_room_trail) ∷
    -- none is left though none is out
    (in_pool (λ h. note_at 3 (Full 2 0 1) h) no_room_trail) ∷
    -- the frame is refused and the bucket was not asked
    (all_closed_up 0 7 (in_bucket 0 (λ h. drop_at 5 h) no_room_trail)) ∷
    -- a refused frame has a verdict
    (in_bucket 0 (λ h. note_at 2 (Idle 2 app.Dns) h) no_room_trail) ∷
    -- a frame of the run is closed as a refused one
    (in_bucket 0 (λ h. note_at 3 (Idle 1 app.None) h) no_room_trail) ∷
    []

no_room_changed_1_unlawful : map (λ t. is_lawful no_room_setup t) no_room_changed_1 ≡ replicate 6 false
unfolding rows_for same_key key_bytes verdict_of
no_room_changed_1_unlawful = refl

abbrev no_room_changed_2 : List Histories
no_room_changed_2 =
    -- a look names an entry that is no reading of the mode
    (in_bucket 0 (λ h. note_at 6 (Missing 2 false 2 0) h) no_room_trail) ∷
    -- a look uses the table of an emergency before there is one
    (in_bucket 0 (λ h. note_at 6 (Missing 2 true 1 0) h) no_room_trail) ∷
    -- a step is passed over
    (in_bucket 0 (λ h. step_at 2 10 h) no_room_trail) ∷
    -- the object is given back before it was taken
    (in_bucket 0 (λ h. note_at 1 (Swept 0 true 5 0) h) (in_pool (λ h. add_at 4 (entry 3 1 (Put 1)) h) (in_pool (λ h. drop_at 0 h) no_room_trail))) ∷
    -- a role that is none has an entry
    (in_pool (λ h. add_at 0 (entry 9 0 (Took 2)) h) no_room_trail) ∷
    -- the sweep is of another round
    (in_bucket 0 (λ h. note_at 1 (Swept 1 true 4 0) h) no_room_trail) ∷
    []

no_room_changed_2_unlawful : map (λ t. is_lawful no_room_setup t) no_room_changed_2 ≡ replicate 6 false
unfolding rows_for same_key key_bytes verdict_of
no_room_changed_2_unlawful = refl

abbrev no_room_changed_3 : List Histories
no_room_changed_3 =
    -- the manager ends its round before it sweeps
    (in_pool (λ h. step_at 1 1 h) (in_bucket 0 (λ h. step_at 1 2 h) no_room_trail)) ∷
    -- an entry stands twice
    (in_bucket 0 (λ h. double_at 8 h) no_room_trail) ∷
    -- a run is made though there was no object
    (in_bucket 0 (λ h. note_at 4 (Made 2 offer.Nothing) h) no_room_trail) ∷
    -- the object is taken for another frame
    (in_pool (λ h. note_at 4 (Took 2) h) no_room_trail) ∷
    -- the first frame is closed before the second is refused
    (in_bucket 0 (λ h. step_at 4 7 h) (in_bucket 0 (λ h. step_at 3 8 h) (in_bucket 0 (λ h. swap_at 3 h) no_room_trail))) ∷
    -- the end role gives back before it drains
    (in_bucket 0 (λ h. step_at 0 1 h) (in_pool (λ h. step_at 0 0 h) no_room_trail)) ∷
    []

no_room_changed_3_unlawful : map (λ t. is_lawful no_room_setup t) no_room_changed_3 ≡ replicate 6 false
unfolding rows_for same_key key_bytes verdict_of
no_room_changed_3_unlawful = refl
