-- With no node the stream stops at the segment that would wait, and each later one finds it stopped.
use Rattle.std.proofs.Common.{◌≡◌, false, List, [], ◌∷◌, map, replicate, refl}
use Rattle.reassembly.specs.Parts.{bytes_from}
use Rattle.suri_base.specs.App.{verdict_of}
use Rattle.suri_base.specs.Hash.{key_bytes}
use Rattle.suri_base.specs.History.{entry}
use Rattle.suri_base.specs.Keys.{same_key}
use Rattle.suri_base.specs.declared.app.App.TheVariants as app
use Rattle.suri_base.specs.declared.entry.BucketNote.TheVariants.{Found, Missing, Stored, Stopped, Closed}
use Rattle.suri_base.specs.declared.entry.PoolNote.TheVariants.{Took, Put, Mode, Over}
use Rattle.suri_base.specs.declared.entry.SegNote.TheVariants as seg
use Rattle.suri_base.specs.declared.stream.Offer.TheVariants as offer
use Rattle.tcp_session.specs.Moves.{next_state, outcomes}
use Rattle.timeout_table.specs.Table.{rows_for}
use Rattle.bucket_rules.proofs.Rows.{no_node, no_node_history}
use Rattle.run_rules.specs.Histories.{Histories}
use Rattle.run_rules.specs.Lawful.{AreLawful}
use Rattle.run_rules.specs.Setup.{Setup}
use Rattle.run_rules.proofs.Changes.{add_at, all_closed_up, all_spread, drop_at, in_bucket, in_segments, note_at, setup_of, step_at, swap_at}
use Rattle.run_rules.proofs.Tested.{is_lawful, lawful}

abbrev pub no_node_setup : Setup
no_node_setup = setup_of no_node

abbrev pub no_node_trail : Histories
no_node_trail = record {
  pool =
      entry 3 1 (Put 1) ∷
      entry 1 2 (Over 0 false) ∷
      entry 1 0 (Mode false) ∷
      entry 0 2 (Took 1) ∷
      entry 0 0 (Mode false) ∷
      [];
  segments =
      entry 0 5 (seg.Full 2 0 0) ∷
      [];
  buckets = no_node_history ∷ [];
}

pub no_node_lawful : AreLawful no_node_setup no_node_trail
unfolding next_state outcomes bytes_from rows_for same_key key_bytes verdict_of
no_node_lawful = lawful no_node_setup no_node_trail refl

-- one change each, none of them lawful
abbrev no_node_changed_1 : List Histories
no_node_changed_1 =
    -- the segment is stored though there was no node
    (in_bucket 0 (λ h. note_at 6 (Stored 2) h) no_node_trail) ∷
    -- a node is taken beyond the limit
    (in_segments (λ h. note_at 0 (seg.Took 2) h) no_node_trail) ∷
    -- none is left though one is
    (in_segments (λ h. note_at 0 (seg.Full 2 0 1) h) no_node_trail) ∷
    -- a node is asked for another frame
    (in_segments (λ h. note_at 0 (seg.Full 3 0 0) h) no_node_trail) ∷
    -- the stream stops, and no node was asked for
    (all_closed_up 0 6 (in_segments (λ h. drop_at 0 h) no_node_trail)) ∷
    -- a segment beyond a gap is in order
    (in_bucket 0 (λ h. note_at 7 (Found 2 false 1 1 offer.InOrder) h) no_node_trail) ∷
    []

no_node_changed_1_unlawful : map (λ t. is_lawful no_node_setup t) no_node_changed_1 ≡ replicate 6 false
unfolding next_state outcomes bytes_from rows_for same_key key_bytes verdict_of
no_node_changed_1_unlawful = refl

abbrev no_node_changed_2 : List Histories
no_node_changed_2 =
    -- the stream goes on after its stop
    (in_bucket 0 (λ h. note_at 5 (Found 3 false 1 1 offer.InOrder) h) no_node_trail) ∷
    -- a node comes back that was not stored
    (in_bucket 0 (λ h. note_at 2 (Closed 3 app.None 1 1 false) h) no_node_trail) ∷
    -- a node is given that did not come back
    (in_segments (λ h. add_at 0 (entry 0 11 (seg.Gave 1)) h) no_node_trail) ∷
    -- a verdict is not that of its packet
    (in_bucket 0 (λ h. note_at 3 (Closed 2 app.Http 1 0 false) h) no_node_trail) ∷
    -- the next packet is looked up before the stop
    (in_bucket 0 (λ h. step_at 6 6 h) (in_bucket 0 (λ h. step_at 5 7 h) (in_bucket 0 (λ h. swap_at 5 h) no_node_trail))) ∷
    -- a look names the reading of the manager
    (in_bucket 0 (λ h. note_at 9 (Missing 1 false 3 0) h) no_node_trail) ∷
    []

no_node_changed_2_unlawful : map (λ t. is_lawful no_node_setup t) no_node_changed_2 ≡ replicate 6 false
unfolding next_state outcomes bytes_from rows_for same_key key_bytes verdict_of
no_node_changed_2_unlawful = refl

abbrev no_node_changed_3 : List Histories
no_node_changed_3 =
    -- the stream stops twice
    (in_bucket 0 (λ h. add_at 6 (entry 0 7 (Stopped 2)) h) (all_spread 0 7 no_node_trail)) ∷
    -- the stop is settled for another frame
    (in_bucket 0 (λ h. note_at 6 (Stopped 1) h) no_node_trail) ∷
    []

no_node_changed_3_unlawful : map (λ t. is_lawful no_node_setup t) no_node_changed_3 ≡ replicate 2 false
unfolding next_state outcomes bytes_from rows_for same_key key_bytes verdict_of
no_node_changed_3_unlawful = refl
