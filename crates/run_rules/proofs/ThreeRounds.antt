-- Two workers, two buckets and three rounds: a node is stored and comes back, and a flow that the manager let go waits for the recycler.
use Rattle.std.specs.Prelude.{codes}
use Rattle.std.proofs.Common.{◌≡◌, ◌+◌, false, List, [], ◌∷◌, map, replicate, refl}
use Rattle.reassembly.specs.Parts.{bytes_from}
use Rattle.suri_base.specs.App.{verdict_of}
use Rattle.suri_base.specs.Hash.{key_bytes}
use Rattle.suri_base.specs.History.{entry}
use Rattle.suri_base.specs.Keys.{same_key}
use Rattle.suri_base.specs.declared.app.App.TheVariants as app
use Rattle.suri_base.specs.declared.entry.BucketNote.{BucketNote}
use Rattle.suri_base.specs.declared.entry.BucketNote.TheVariants.{Found, Missing, Made, Stored, Closed, Swept, Drained}
use Rattle.suri_base.specs.declared.entry.Entry.{Entry}
use Rattle.suri_base.specs.declared.entry.PoolNote.TheVariants.{Took, Put, Mode, Over}
use Rattle.suri_base.specs.declared.entry.SegNote.TheVariants as seg
use Rattle.suri_base.specs.declared.stream.Offer.TheVariants as offer
use Rattle.tcp_session.specs.Moves.{next_state, outcomes}
use Rattle.timeout_table.specs.Table.{rows_for}
use Rattle.bucket_rules.proofs.Rows.{capture, client, datagram, host, key, seconds, segment, start}
use Rattle.run_rules.specs.Histories.{Histories}
use Rattle.run_rules.specs.Lawful.{AreLawful}
use Rattle.run_rules.specs.Setup.{Setup}
use Rattle.run_rules.proofs.Changes.{add_at, all_closed_up, drop_at, in_bucket, in_pool, in_segments, note_at, role_at, step_at}
use Rattle.run_rules.proofs.Tested.{is_lawful, lawful}

-- the first flow has expired at the second round's clock; the second is a connection of which a segment waits for the one before it
abbrev pub three_rounds_setup : Setup
three_rounds_setup = record {
  capture = capture (codes "ba") (
      datagram 1 (key 17 (host 1 1005) (host 2 2000)) start 0 ∷
      segment 2 client start 3 0x02 1000 0 0 ∷
      segment 3 client (start + seconds 40) 4 0x18 1002 0 1 ∷
      segment 4 client (start + seconds 40) 0 0x18 1001 1 1 ∷
      datagram 5 (key 17 (host 1 1001) (host 2 2000)) (start + seconds 41) 0 ∷
      []);
  layout = record { workers = 2; batch = 2; round = 2; rows = 2; memcap = 3; segments = 1; recovery = 30; depth = 1048576 };
}

-- the history of each bucket
abbrev three_rounds_first : List (Entry BucketNote)
three_rounds_first =
    entry 4 0 (Drained 1) ∷
    entry 2 9 (Swept 2 false 13 0) ∷
    entry 0 9 (Closed 5 app.None 5 0 false) ∷
    entry 0 8 (Made 5 offer.Nothing) ∷
    entry 0 6 (Missing 5 false 11 0) ∷
    entry 2 5 (Swept 1 false 8 0) ∷
    entry 2 1 (Swept 0 false 5 0) ∷
    []

abbrev three_rounds_second : List (Entry BucketNote)
three_rounds_second =
    entry 4 2 (Drained 1) ∷
    entry 2 10 (Swept 2 false 13 0) ∷
    entry 2 6 (Swept 1 false 8 1) ∷
    entry 1 12 (Closed 4 app.None 2 0 false) ∷
    entry 1 10 (Closed 3 app.None 2 1 false) ∷
    entry 1 9 (Found 4 false 7 2 offer.InOrder) ∷
    entry 1 8 (Stored 3) ∷
    entry 1 6 (Found 3 false 7 2 offer.NeedsSegment) ∷
    entry 2 2 (Swept 0 false 5 0) ∷
    entry 0 4 (Closed 1 app.None 1 0 false) ∷
    entry 1 4 (Closed 2 app.None 2 0 false) ∷
    entry 1 3 (Made 2 offer.Nothing) ∷
    entry 0 3 (Made 1 offer.Nothing) ∷
    entry 0 1 (Missing 1 false 2 0) ∷
    entry 1 1 (Missing 2 false 1 0) ∷
    []

abbrev pub three_rounds_trail : Histories
three_rounds_trail = record {
  pool =
      entry 4 3 (Put 2) ∷
      entry 4 1 (Put 5) ∷
      entry 2 11 (Over 2 false) ∷
      entry 2 8 (Mode false) ∷
      entry 0 7 (Took 5) ∷
      entry 0 5 (Mode false) ∷
      entry 3 0 (Put 1) ∷
      entry 2 7 (Over 1 false) ∷
      entry 2 4 (Mode false) ∷
      entry 1 5 (Mode false) ∷
      entry 2 3 (Over 0 false) ∷
      entry 2 0 (Mode false) ∷
      entry 1 2 (Took 2) ∷
      entry 0 2 (Took 1) ∷
      entry 0 0 (Mode false) ∷
      entry 1 0 (Mode false) ∷
      [];
  segments =
      entry 1 11 (seg.Gave 1) ∷
      entry 1 7 (seg.Took 3) ∷
      [];
  buckets = three_rounds_first ∷ three_rounds_second ∷ [];
}

pub three_rounds_lawful : AreLawful three_rounds_setup three_rounds_trail
unfolding next_state outcomes bytes_from rows_for same_key key_bytes verdict_of
three_rounds_lawful = lawful three_rounds_setup three_rounds_trail refl

-- the same where the recycler comes after all others, which is lawful too: no order between roles is asked for
abbrev late_trail : Histories
late_trail =
    in_bucket 1 (λ h. note_at 1 (Swept 2 false 12 0) h) (in_bucket 0 (λ h. note_at 1 (Swept 2 false 12 0) h) (in_bucket 0 (λ h. note_at 4 (Missing 5 false 10 0) h)
    (in_pool (λ h. add_at 0 (entry 3 0 (Put 1)) h) (in_pool (λ h. drop_at 6 h) three_rounds_trail))))

pub three_rounds_late : AreLawful three_rounds_setup late_trail
unfolding next_state outcomes bytes_from rows_for same_key key_bytes verdict_of
three_rounds_late = lawful three_rounds_setup late_trail refl

-- one change each, none of them lawful
abbrev three_rounds_changed_1 : List Histories
three_rounds_changed_1 =
    -- what waits for the recycler is dropped
    (in_bucket 1 (λ h. note_at 1 (Swept 2 false 12 0) h) (in_bucket 0 (λ h. note_at 1 (Swept 2 false 12 0) h) (in_bucket 0 (λ h. note_at 4 (Missing 5 false 10 0) h)
    (in_pool (λ h. drop_at 6 h) three_rounds_trail)))) ∷
    -- the end role gives back what waited for the recycler
    (in_bucket 1 (λ h. note_at 1 (Swept 2 false 12 0) h) (in_bucket 0 (λ h. note_at 1 (Swept 2 false 12 0) h) (in_bucket 0 (λ h. note_at 4 (Missing 5 false 10 0) h)
    (in_pool (λ h. add_at 0 (entry 4 4 (Put 1)) h) (in_pool (λ h. drop_at 6 h) three_rounds_trail))))) ∷
    -- the recycler gives back what the end role drained
    (in_bucket 1 (λ h. step_at 0 1 h) (in_pool (λ h. step_at 0 2 h) (in_pool (λ h. step_at 1 1 h) (in_pool (λ h. role_at 1 3 h) three_rounds_trail)))) ∷
    -- more nodes are given than came back
    (in_segments (λ h. note_at 0 (seg.Gave 2) h) three_rounds_trail) ∷
    -- the node that came back is not given
    (all_closed_up 1 12 (in_segments (λ h. drop_at 0 h) three_rounds_trail)) ∷
    -- a node is taken for a frame that needs none
    (in_segments (λ h. note_at 1 (seg.Took 4) h) three_rounds_trail) ∷
    []

three_rounds_changed_1_unlawful : map (λ t. is_lawful three_rounds_setup t) three_rounds_changed_1 ≡ replicate 6 false
unfolding next_state outcomes bytes_from rows_for same_key key_bytes verdict_of
three_rounds_changed_1_unlawful = refl

abbrev three_rounds_changed_2 : List Histories
three_rounds_changed_2 =
    -- the buckets are swept in another order
    (in_bucket 1 (λ h. step_at 2 5 h) (in_bucket 0 (λ h. step_at 5 6 h) three_rounds_trail)) ∷
    -- the buckets are drained in another order
    (in_pool (λ h. note_at 1 (Put 2) h) (in_pool (λ h. note_at 0 (Put 5) h) (in_bucket 1 (λ h. step_at 0 0 h) (in_bucket 0 (λ h. step_at 0 2 h) three_rounds_trail)))) ∷
    -- a sweep lets a run go and does not count it
    (in_bucket 1 (λ h. note_at 2 (Swept 1 false 8 0) h) three_rounds_trail) ∷
    -- a sweep is of an earlier round
    (in_bucket 1 (λ h. note_at 1 (Swept 1 false 13 0) h) three_rounds_trail) ∷
    -- another worker looks
    (in_bucket 0 (λ h. role_at 4 1 h) three_rounds_trail) ∷
    -- an entry stands in another bucket
    (in_bucket 1 (λ h. add_at 15 (entry 2 1 (Swept 0 false 5 0)) h) (in_bucket 0 (λ h. drop_at 6 h) three_rounds_trail)) ∷
    []

three_rounds_changed_2_unlawful : map (λ t. is_lawful three_rounds_setup t) three_rounds_changed_2 ≡ replicate 6 false
unfolding next_state outcomes bytes_from rows_for same_key key_bytes verdict_of
three_rounds_changed_2_unlawful = refl

abbrev three_rounds_changed_3 : List Histories
three_rounds_changed_3 =
    -- an object is given back while none is out
    (in_pool (λ h. add_at 15 (entry 3 0 (Put 1)) h) (in_pool (λ h. drop_at 6 h) three_rounds_trail)) ∷
    -- a bucket has no history
    (record three_rounds_trail { buckets = three_rounds_first ∷ [] }) ∷
    -- a look of one worker names a reading of the other
    (in_bucket 1 (λ h. note_at 13 (Missing 1 false 1 0) h) three_rounds_trail) ∷
    -- the recycler waits for nothing
    (in_pool (λ h. add_at 0 (entry 3 1 (Mode false)) h) three_rounds_trail) ∷
    []

three_rounds_changed_3_unlawful : map (λ t. is_lawful three_rounds_setup t) three_rounds_changed_3 ≡ replicate 4 false
unfolding next_state outcomes bytes_from rows_for same_key key_bytes verdict_of
three_rounds_changed_3_unlawful = refl
