-- A flow has expired while it is in use: it is detached, the next packet of its key is refused, and it leaves at its last close.
use Rattle.std.proofs.Common.{◌≡◌, true, false, List, [], ◌∷◌, map, replicate, refl}
use Rattle.suri_base.specs.App.{verdict_of}
use Rattle.suri_base.specs.Hash.{key_bytes}
use Rattle.suri_base.specs.History.{entry}
use Rattle.suri_base.specs.Keys.{same_key}
use Rattle.suri_base.specs.declared.app.App.TheVariants as app
use Rattle.suri_base.specs.declared.entry.BucketNote.TheVariants.{Found, Missing, Closed, Victim, AllInUse, Drained}
use Rattle.suri_base.specs.declared.entry.PoolNote.TheVariants.{Took, Full, Put, Mode, Over}
use Rattle.suri_base.specs.declared.entry.SegNote.TheVariants as seg
use Rattle.suri_base.specs.declared.stream.Offer.TheVariants as offer
use Rattle.timeout_table.specs.Table.{rows_for}
use Rattle.bucket_rules.proofs.Rows.{in_use, in_use_history}
use Rattle.run_rules.specs.Histories.{Histories}
use Rattle.run_rules.specs.Lawful.{AreLawful}
use Rattle.run_rules.specs.Setup.{Setup}
use Rattle.run_rules.proofs.Changes.{add_at, drop_at, in_bucket, in_pool, in_segments, note_at, role_at, setup_of, step_at, swap_at}
use Rattle.run_rules.proofs.Tested.{is_lawful, lawful}

abbrev pub in_use_setup : Setup
in_use_setup = setup_of in_use

abbrev pub in_use_trail : Histories
in_use_trail = record {
  pool =
      entry 3 0 (Put 1) ∷
      entry 1 2 (Over 0 false) ∷
      entry 1 0 (Mode true) ∷
      entry 0 5 (Full 2 1 1) ∷
      entry 0 2 (Took 1) ∷
      entry 0 0 (Mode false) ∷
      [];
  segments = [];
  buckets = in_use_history ∷ [];
}

pub in_use_lawful : AreLawful in_use_setup in_use_trail
unfolding rows_for same_key key_bytes verdict_of
in_use_lawful = lawful in_use_setup in_use_trail refl

-- one change each, none of them lawful
abbrev in_use_changed_1 : List Histories
in_use_changed_1 =
    -- the detached run stays at its last close
    (in_bucket 0 (λ h. note_at 3 (Closed 1 app.None 1 0 false) h) in_use_trail) ∷
    -- the run in use is not counted
    (in_bucket 0 (λ h. note_at 5 (AllInUse 2 0) h) in_use_trail) ∷
    -- the look says that the run left
    (in_bucket 0 (λ h. note_at 6 (Missing 2 false 1 1) h) in_use_trail) ∷
    -- what waits at the end is dropped
    (in_bucket 0 (λ h. step_at 0 0 h) (in_pool (λ h. drop_at 0 h) in_use_trail)) ∷
    -- the end role drains before it serves what waits
    (in_bucket 0 (λ h. step_at 0 0 h) (in_pool (λ h. step_at 0 1 h) in_use_trail)) ∷
    -- the recycler serves what came with the last round
    (in_bucket 0 (λ h. step_at 0 0 h) (in_pool (λ h. role_at 0 2 h) in_use_trail)) ∷
    []

in_use_changed_1_unlawful : map (λ t. is_lawful in_use_setup t) in_use_changed_1 ≡ replicate 6 false
unfolding rows_for same_key key_bytes verdict_of
in_use_changed_1_unlawful = refl

abbrev in_use_changed_2 : List Histories
in_use_changed_2 =
    -- the run in use is evicted
    (in_bucket 0 (λ h. note_at 5 (Victim 2 1) h) in_use_trail) ∷
    -- the packet joins the run that has expired
    (in_bucket 0 (λ h. note_at 6 (Found 2 false 1 1 offer.Nothing) h) in_use_trail) ∷
    -- a run is drained that left before
    (in_bucket 0 (λ h. note_at 0 (Drained 1) h) in_use_trail) ∷
    -- a refused frame is closed as one of the run
    (in_bucket 0 (λ h. note_at 2 (Closed 2 app.None 1 0 false) h) in_use_trail) ∷
    -- none is left though one is out of two
    (in_pool (λ h. note_at 3 (Full 2 1 2) h) in_use_trail) ∷
    -- a role that is none gives nodes
    (in_segments (λ h. add_at 0 (entry 9 0 (seg.Gave 0)) h) in_use_trail) ∷
    []

in_use_changed_2_unlawful : map (λ t. is_lawful in_use_setup t) in_use_changed_2 ≡ replicate 6 false
unfolding rows_for same_key key_bytes verdict_of
in_use_changed_2_unlawful = refl

abbrev in_use_changed_3 : List Histories
in_use_changed_3 =
    -- the frame is refused before the bucket was asked
    (in_bucket 0 (λ h. step_at 5 6 h) (in_bucket 0 (λ h. step_at 4 7 h) (in_bucket 0 (λ h. swap_at 4 h) in_use_trail))) ∷
    -- a worker keeps to no order of steps
    (in_bucket 0 (λ h. step_at 3 9 h) (in_bucket 0 (λ h. step_at 2 8 h) in_use_trail)) ∷
    []

in_use_changed_3_unlawful : map (λ t. is_lawful in_use_setup t) in_use_changed_3 ≡ replicate 2 false
unfolding rows_for same_key key_bytes verdict_of
in_use_changed_3_unlawful = refl
