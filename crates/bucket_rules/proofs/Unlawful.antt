-- Entries that break the rule, each in the place of a right one in a worked history.
use Rattle.std.proofs.Common.{◌≡◌, ℕ, ◌+◌, ◌≤◌, ◌==◌, eq-eqb, Bool, true, false, List, [], Option, Some, None, refl, sym, ◌∙◌, ap, arith}
use Rattle.std.specs.Prelude.{drop}
use Rattle.reassembly.specs.Parts.{bytes_from}
use Rattle.suri_base.specs.Dealing.{bucket_of, worker_of}
use Rattle.suri_base.specs.Hash.{key_bytes}
use Rattle.suri_base.specs.Keys.{same_key}
use Rattle.suri_base.specs.declared.app.App.TheVariants as app
use Rattle.suri_base.specs.declared.entry.Entry.{Entry}
use Rattle.suri_base.specs.declared.entry.BucketNote.{BucketNote}
use Rattle.suri_base.specs.declared.entry.BucketNote.TheVariants.{Found, Missing, Made, Stored, Closed, Idle, Victim, AllInUse, Swept, Drained}
use Rattle.suri_base.specs.declared.facts.Facts.{Facts}
use Rattle.suri_base.specs.declared.stream.Offer.{Offer}
use Rattle.suri_base.specs.declared.stream.Offer.TheVariants as offer
use Rattle.tcp_session.specs.Moves.{next_state, outcomes}
use Rattle.timeout_table.specs.Table.{rows_for}
use Rattle.bucket_rules.specs.declared.fixed.Fixed.{Fixed}
use Rattle.bucket_rules.specs.Packets.{bearing}
use Rattle.bucket_rules.specs.Row.{row, offer_of}
use Rattle.bucket_rules.specs.Rule.{Rule}
use Rattle.bucket_rules.proofs.Rows.{seconds, start, datagram, segment, client, first_pair, second_pair, reused, reused_closes, no_room, no_room_history, ended_first, ended_first_history, in_use, in_use_history, in_emergency, in_emergency_history, gap, gap_history, no_node, no_node_history, swept, swept_history, awaited, awaited_history, at_deadline, one_flow, older, older_history, reset, reset_history, shared, shared_history, both_ways, both_ways_history}

-- two numbers, and two frames that may be none, of which one isn't the other

unlike : (m n : ℕ) → (m == n) ≡ false → m ≡ n → ⊥
unlike m n p e = let k : (m == n) ≡ true = eq-eqb m n e in let z : true ≡ false = sym k ∙ p in cc

none_some : (f : ℕ) → None ≡ Some f → ⊥
none_some f e = cc

some_none : (f : ℕ) → Some f ≡ None → ⊥
some_none f e = cc

some_unlike : (f g : ℕ) → (f == g) ≡ false → Some f ≡ Some g → ⊥
some_unlike f g p e = unlike f g p (within e)
  where
    within : Some f ≡ Some g → f ≡ g
    within e = cc

packet_is : (o : Option Facts) (t u : Facts) → o ≡ Some t → o ≡ Some u → t ≡ u
packet_is o t u e k = cc

-- evictions: of a flow in use, of one that began later, and of one whose last packet is newer

pub evicts_used : Rule no_room (drop 6 no_room_history) 0 (Victim 2 1) → ⊥
unfolding rows_for same_key
evicts_used r = let k : false ≡ true = r.1.unused in cc

pub evicts_later : Rule in_emergency (drop 8 in_emergency_history) 0 (Victim 3 2) → ⊥
unfolding rows_for same_key
evicts_later r = let k : 2 ≤ 1 = (r.1.first 1 refl).1 refl in omega (arith, k)

pub evicts_newer : Rule older older_history 0 (Victim 4 1) → ⊥
unfolding rows_for same_key
evicts_newer r = let k : start + seconds 2 ≤ start + seconds 1 = (r.1.first 2 refl).0 in omega (arith, k)

-- no flow was said to be unused, though one is; and a flow in use was not counted, though it is detached

pub misses_unused : (count : ℕ) → Rule older older_history 0 (AllInUse 4 count) → ⊥
unfolding rows_for same_key
misses_unused count r = let k : true ≡ false = r.1 1 in cc

pub counts_linked : Rule in_use (drop 6 in_use_history) 0 (AllInUse 2 0) → ⊥
unfolding rows_for same_key
counts_linked r = unlike 0 1 refl r.2

-- closes: by the next run of the key; of a linked run that is said to leave; of a detached one that is said to stay; of a refused frame

pub closes_next : Rule reused reused_closes 0 (Closed 7 app.None 8 0 false) → ⊥
unfolding next_state outcomes rows_for same_key bytes_from
closes_next r = let k : false ≡ true = r.2 in cc

pub leaves_linked : Rule no_room (drop 4 no_room_history) 0 (Closed 1 app.None 1 0 true) → ⊥
unfolding rows_for same_key
leaves_linked r = let k : true ≡ false = r.4 in cc

pub stays_detached : Rule in_use (drop 4 in_use_history) 0 (Closed 1 app.None 1 0 false) → ⊥
unfolding rows_for same_key
stays_detached r = let k : false ≡ true = r.4 in cc

pub closes_refused : (run : ℕ) → Rule no_room (drop 4 no_room_history) 0 (Closed 2 app.None run 0 false) → ⊥
closes_refused run r = let k : true ≡ false = r.1 in cc

pub idles_answered : Rule no_room (drop 4 no_room_history) 0 (Idle 1 app.None) → ⊥
idles_answered r = let k : false ≡ true = r.1 in cc

pub closes_twice : Rule no_room (drop 3 no_room_history) 0 (Closed 1 app.None 1 0 false) → ⊥
closes_twice r = let k : false ≡ true = r.0.answered in cc

-- looks: one joins a detached run, one joins a run that has expired by the table of its entry, and one misses a run at its deadline

pub joins_detached : Rule reset reset_history 0 (Found 4 false 1 1 offer.Nothing) → ⊥
unfolding next_state outcomes rows_for same_key bytes_from
joins_detached r = let k : false ≡ true = r.1 in cc

pub joins_expired : Rule ended_first (drop 5 ended_first_history) 0 (Found 2 false 3 1 offer.Nothing) → ⊥
unfolding rows_for same_key
joins_expired r = let k : false ≡ true = r.1 in cc

pub joins_expired_in_emergency : Rule in_emergency (drop 5 in_emergency_history) 0 (Found 4 true 8 2 offer.Nothing) → ⊥
unfolding rows_for same_key
joins_expired_in_emergency r = let k : false ≡ true = r.1 in cc

pub misses_at_deadline : (ended : ℕ) → Rule (at_deadline (seconds 30)) one_flow 0 (Missing 2 false 3 ended) → ⊥
unfolding rows_for same_key
misses_at_deadline ended r = let k : true ≡ false = r.1 1 in cc

pub misses_at_deadline_in_emergency : (ended : ℕ) → Rule (at_deadline (seconds 10)) one_flow 0 (Missing 2 true 3 ended) → ⊥
unfolding rows_for same_key
misses_at_deadline_in_emergency ended r = let k : true ≡ false = r.1 1 in cc

pub joins_closed : Rule reset (drop 3 reset_history) 0 (Found 3 false 1 1 offer.Nothing) → ⊥
unfolding next_state outcomes rows_for same_key bytes_from
joins_closed r = let k : false ≡ true = r.1 in cc

-- a look that doesn't name the run that left, and one that names a run that stays
pub hides_ended : Rule ended_first (drop 5 ended_first_history) 0 (Missing 2 false 3 0) → ⊥
unfolding rows_for same_key
hides_ended r = let k : true ≡ false = r.2 1 (omega arith) in cc

pub ends_used : Rule in_use (drop 7 in_use_history) 0 (Missing 2 false 1 1) → ⊥
unfolding rows_for same_key
ends_used r = let k : false ≡ true = r.2 1 (omega arith) in cc

-- a second look at a frame, a look by another role than its worker, and a second run from one frame
pub looks_again : (run : ℕ) → Rule no_room (drop 7 no_room_history) 0 (Found 1 false 1 run offer.Nothing) → ⊥
looks_again run r = let k : false ≡ true = r.0.fresh in cc

pub looks_for_another : (ended : ℕ) → Rule no_room [] 1 (Missing 1 false 1 ended) → ⊥
unfolding key_bytes
looks_for_another ended r =
    unlike 1 0 refl (r.0.own.worker ∙ ap (λ (t : Facts). worker_of t.key 1) (packet_is (bearing no_room.capture 1) r.0.own.packet (datagram 1 first_pair start 0) r.0.own.bears refl))

pub looks_from_afar : (ended : ℕ) → Rule (shared 2) [] 2 (Missing 1 false 1 ended) → ⊥
unfolding key_bytes
looks_from_afar ended r =
    unlike 2 0 refl (r.0.own.worker ∙ ap (λ (t : Facts). worker_of t.key 3) (packet_is (bearing (shared 2).capture 1) r.0.own.packet (datagram 1 first_pair start 0) r.0.own.bears refl))

pub looks_elsewhere : (ended : ℕ) → Rule (shared 1) [] 0 (Missing 1 false 1 ended) → ⊥
unfolding key_bytes
looks_elsewhere ended r =
    unlike 2 1 refl (ap (λ (t : Facts). bucket_of t.key 3) (sym (packet_is (bearing (shared 1).capture 1) r.0.own.packet (datagram 1 first_pair start 0) r.0.own.bears refl)) ∙ r.0.own.bucket)

pub begins_for_another : Rule (shared 2) (drop 6 shared_history) 0 (Made 2 offer.Nothing) → ⊥
begins_for_another r = let k : false ≡ true = r.0 in cc

pub begins_again : Rule no_room (drop 7 no_room_history) 0 (Made 1 offer.Nothing) → ⊥
begins_again r = let k : false ≡ true = r.0 in cc

-- sweeps: of a flow with a packet due in an earlier round, and exactly at the deadline; and one by another role
pub sweeps_awaited : Rule awaited awaited_history 1 (Swept 2 false 3 1) → ⊥
unfolding rows_for same_key
sweeps_awaited r = unlike 1 0 refl r.1

pub sweeps_at_deadline : Rule swept (drop 5 swept_history) 1 (Swept 1 false 7 1) → ⊥
unfolding rows_for same_key
sweeps_at_deadline r = unlike 1 0 refl r.1

pub sweep_passes_over : Rule swept (drop 2 swept_history) 1 (Swept 2 false 10 0) → ⊥
unfolding rows_for same_key
sweep_passes_over r = unlike 0 1 refl r.1

pub sweeps_too_late : (count : ℕ) → Rule swept (drop 2 swept_history) 1 (Swept 3 false 10 count) → ⊥
sweeps_too_late count r = omega (arith, r.0.within)

pub sweeps_as_worker : (count : ℕ) → Rule swept (drop 2 swept_history) 0 (Swept 2 false 10 count) → ⊥
sweeps_as_worker count r = unlike 0 1 refl r.0.manager

-- drains: before the last close, and of fewer runs than there are
pub drains_early : (count : ℕ) → Rule no_room (drop 3 no_room_history) 3 (Drained count) → ⊥
unfolding key_bytes
drains_early count r = let k : false ≡ true = r.0.done 2 (datagram 2 second_pair start 0) refl refl in cc

pub drains_none : Rule no_room (drop 1 no_room_history) 3 (Drained 0) → ⊥
unfolding rows_for same_key
drains_none r = unlike 0 1 refl r.1

-- segments: settled by another role, settled for another frame, settled where nothing is asked; and a look before it is settled
pub settles_for_another : Rule gap (drop 6 gap_history) 1 (Stored 2) → ⊥
settles_for_another r = none_some 2 r

pub settles_other_frame : Rule gap (drop 6 gap_history) 0 (Stored 1) → ⊥
settles_other_frame r = some_unlike 2 1 refl r

pub settles_nothing : Rule gap (drop 3 gap_history) 0 (Stored 3) → ⊥
settles_nothing r = none_some 3 r

pub looks_before_it_is_settled : (run : ℕ) (said : Offer) → Rule gap (drop 6 gap_history) 0 (Found 3 false 4 run said) → ⊥
looks_before_it_is_settled run said r = some_none 2 r.0.settled

pub closes_before_it_is_settled : Rule gap (drop 6 gap_history) 0 (Closed 2 app.None 1 0 false) → ⊥
closes_before_it_is_settled r = some_none 2 r.0.settled

-- answers of the wrong kind: in order beyond a gap, in need of a node after the stop, none where bytes are new
told : (s : Fixed) (past : List (Entry BucketNote)) (role f : ℕ) (emergency : Bool) (seen run : ℕ) (said : Offer) (t : Facts)
    → bearing s.capture f ≡ Some t → Rule s past role (Found f emergency seen run said) → said ≡ offer_of s (row s run past) t
told s past role f emergency seen run said t b r = r.2 ∙ ap (λ (u : Facts). offer_of s (row s run past) u) (packet_is (bearing s.capture f) r.0.own.packet t r.0.own.bears b)

pub joins_beyond_gap : Rule gap (drop 7 gap_history) 0 (Found 2 false 3 1 offer.InOrder) → ⊥
unfolding next_state outcomes rows_for same_key bytes_from
joins_beyond_gap r = let k : offer.InOrder ≡ offer.NeedsSegment = told gap (drop 7 gap_history) 0 2 false 3 1 offer.InOrder (segment 2 client start 3 0x18 1002 0 1) refl r in cc

pub asks_in_order : Rule gap (drop 4 gap_history) 0 (Found 3 false 4 1 offer.NeedsSegment) → ⊥
unfolding next_state outcomes rows_for same_key bytes_from
asks_in_order r = let k : offer.NeedsSegment ≡ offer.InOrder = told gap (drop 4 gap_history) 0 3 false 4 1 offer.NeedsSegment (segment 3 client start 0 0x18 1001 1 1) refl r in cc

pub goes_on_after_stop : Rule no_node (drop 6 no_node_history) 0 (Found 3 false 1 1 offer.InOrder) → ⊥
unfolding next_state outcomes rows_for same_key bytes_from
goes_on_after_stop r = let k : offer.InOrder ≡ offer.Stopped = told no_node (drop 6 no_node_history) 0 3 false 1 1 offer.InOrder (segment 3 client start 0 0x18 1001 1 1) refl r in cc

-- nodes: one is freed that still waits, and one is kept that no longer does
pub frees_waiting : Rule gap (drop 5 gap_history) 0 (Closed 2 app.None 1 1 false) → ⊥
unfolding next_state outcomes rows_for same_key bytes_from
frees_waiting r = unlike 1 0 refl r.3

pub keeps_freed : Rule gap (drop 3 gap_history) 0 (Closed 3 app.None 1 0 false) → ⊥
unfolding next_state outcomes rows_for same_key bytes_from
keeps_freed r = unlike 0 1 refl r.3

pub keeps_after_stop : Rule both_ways (drop 8 both_ways_history) 0 (Closed 1 app.None 1 0 false) → ⊥
unfolding next_state outcomes rows_for same_key bytes_from
keeps_after_stop r = unlike 0 1 refl r.3
