-- The runs, the refused frames and the records of worked trails; and which of them were never short of an object or of a node.
use Rattle.std.proofs.Common.{◌≡◌, ℕ, zero, suc, Bool, true, false, not, ◌&&◌, List, [], ◌∷◌, map, Option, Some, None, refl, arith}
use Rattle.std.specs.Prelude.{All}
use Rattle.reassembly.specs.Parts.{bytes_from}
use Rattle.suri_base.specs.App.{verdict_of}
use Rattle.suri_base.specs.Hash.{key_bytes}
use Rattle.suri_base.specs.History.{entry}
use Rattle.suri_base.specs.Keys.{same_key}
use Rattle.suri_base.specs.declared.entry.Entry.{Entry}
use Rattle.suri_base.specs.declared.entry.PoolNote.{PoolNote}
use Rattle.suri_base.specs.declared.entry.PoolNote.TheVariants.{Mode}
use Rattle.suri_base.specs.declared.entry.SegNote.{SegNote}
use Rattle.suri_base.specs.declared.entry.SegNote.TheVariants as seg
use Rattle.suri_base.specs.declared.facts.Facts.{Facts}
use Rattle.suri_base.specs.declared.reason.Reason.{Reason}
use Rattle.suri_base.specs.declared.reason.Reason.TheVariants.{Timeout, Forced, Shutdown}
use Rattle.tcp_session.specs.Moves.{next_state, outcomes}
use Rattle.timeout_table.specs.Table.{rows_for}
use Rattle.flow_object.specs.declared.outcome.FlowLine.{FlowLine}
use Rattle.run_rules.specs.Histories.{Histories}
use Rattle.run_rules.specs.Quiet.{IsQuiet, is_full, is_short}
use Rattle.run_rules.specs.Runs.{line_in, members_in, refusals_in, runs_in}
use Rattle.run_rules.specs.Setup.{Setup}
use Rattle.run_rules.proofs.EndedFirst.{ended_first_setup, ended_first_trail}
use Rattle.run_rules.proofs.Forcing.{forcing_setup, forcing_trail}
use Rattle.run_rules.proofs.InEmergency.{in_emergency_setup, in_emergency_trail}
use Rattle.run_rules.proofs.InUse.{in_use_setup, in_use_trail}
use Rattle.run_rules.proofs.NoNode.{no_node_setup, no_node_trail}
use Rattle.run_rules.proofs.NoRoom.{no_room_setup, no_room_trail}
use Rattle.run_rules.proofs.Same.{both}
use Rattle.run_rules.proofs.ThreeRounds.{three_rounds_setup, three_rounds_trail}

-- the members of each run, the newest first, and the frames that were refused

abbrev numbers : Setup → Histories → List (List ℕ)
numbers w t = map (λ a. map (λ (f : Facts). f.no) (members_in w t a)) (runs_in t)

members : (numbers no_node_setup no_node_trail ≡ (3 ∷ 2 ∷ 1 ∷ []) ∷ [])
    × (numbers forcing_setup forcing_trail ≡ (1 ∷ []) ∷ (2 ∷ []) ∷ (3 ∷ []) ∷ (4 ∷ []) ∷ [])
    × (numbers no_room_setup no_room_trail ≡ (1 ∷ []) ∷ [])
    × (numbers ended_first_setup ended_first_trail ≡ (1 ∷ []) ∷ (2 ∷ []) ∷ [])
    × (numbers in_use_setup in_use_trail ≡ (1 ∷ []) ∷ [])
    × (numbers in_emergency_setup in_emergency_trail ≡ (1 ∷ []) ∷ (2 ∷ []) ∷ (3 ∷ []) ∷ (4 ∷ []) ∷ [])
    × (numbers three_rounds_setup three_rounds_trail ≡ (1 ∷ []) ∷ (4 ∷ 3 ∷ 2 ∷ []) ∷ (5 ∷ []) ∷ [])
unfolding next_state outcomes bytes_from rows_for same_key key_bytes verdict_of
members = (refl, refl, refl, refl, refl, refl, refl)

refused : map (λ t. refusals_in t) (no_node_trail ∷ forcing_trail ∷ no_room_trail ∷ ended_first_trail ∷ in_use_trail ∷ in_emergency_trail ∷ three_rounds_trail ∷ [])
    ≡ [] ∷ [] ∷ (2 ∷ []) ∷ [] ∷ (2 ∷ []) ∷ [] ∷ [] ∷ []
refused = refl

-- why each run ended, and whether by a timeout of the emergency table

abbrev why_of : Option FlowLine → List Reason
why_of None = []
why_of (Some l) = l.reason ∷ []

abbrev urgent_of : Option FlowLine → Bool
urgent_of None = false
urgent_of (Some l) = l.emergency

abbrev whys : Setup → Histories → List (List Reason)
whys w t = map (λ a. why_of (line_in w t a)) (runs_in t)

reasons : (whys no_node_setup no_node_trail ≡ (Shutdown ∷ []) ∷ [])
    × (whys forcing_setup forcing_trail ≡ (Forced ∷ []) ∷ (Forced ∷ []) ∷ (Forced ∷ []) ∷ (Shutdown ∷ []) ∷ [])
    × (whys no_room_setup no_room_trail ≡ (Shutdown ∷ []) ∷ [])
    × (whys ended_first_setup ended_first_trail ≡ (Timeout ∷ []) ∷ (Shutdown ∷ []) ∷ [])
    × (whys in_use_setup in_use_trail ≡ (Timeout ∷ []) ∷ [])
    × (whys in_emergency_setup in_emergency_trail ≡ (Forced ∷ []) ∷ (Timeout ∷ []) ∷ (Shutdown ∷ []) ∷ (Shutdown ∷ []) ∷ [])
    × (whys three_rounds_setup three_rounds_trail ≡ (Timeout ∷ []) ∷ (Shutdown ∷ []) ∷ (Shutdown ∷ []) ∷ [])
unfolding next_state outcomes bytes_from rows_for same_key key_bytes verdict_of
reasons = (refl, refl, refl, refl, refl, refl, refl)

urgent : (map (λ a. urgent_of (line_in ended_first_setup ended_first_trail a)) (runs_in ended_first_trail) ≡ false ∷ false ∷ [])
    × (map (λ a. urgent_of (line_in in_emergency_setup in_emergency_trail a)) (runs_in in_emergency_trail) ≡ false ∷ true ∷ false ∷ false ∷ [])
unfolding next_state outcomes bytes_from rows_for same_key key_bytes verdict_of
urgent = (refl, refl)

-- the stream of the first worked trail stops at its second frame
abbrev stop_of : Option FlowLine → ℕ
stop_of None = 0
stop_of (Some l) = l.ts.stop

stopped : stop_of (line_in no_node_setup no_node_trail 1) ≡ 2
unfolding next_state outcomes bytes_from rows_for same_key key_bytes verdict_of
stopped = refl

-- quiet and not quiet

abbrev none_full : List (Entry PoolNote) → Bool
none_full [] = true
none_full (e ∷ past) = not (is_full e.note) && none_full past

abbrev none_short : List (Entry SegNote) → Bool
none_short [] = true
none_short (e ∷ past) = not (is_short e.note) && none_short past

not_true : (b : Bool) → not b ≡ true → b ≡ false
not_true true h = cc
not_true false h = refl

quiet_pool : (h : List (Entry PoolNote)) → none_full h ≡ true → All (λ (e : Entry PoolNote). is_full e.note ≡ false) h
quiet_pool [] h k d l = absurd (omega (arith, l))
quiet_pool (e ∷ past) h zero d l = not_true (is_full e.note) (both (not (is_full e.note)) (none_full past) h).0
quiet_pool (e ∷ past) h (suc k) d l = quiet_pool past (both (not (is_full e.note)) (none_full past) h).1 k d (omega (arith, l))

quiet_segments : (h : List (Entry SegNote)) → none_short h ≡ true → All (λ (e : Entry SegNote). is_short e.note ≡ false) h
quiet_segments [] h k d l = absurd (omega (arith, l))
quiet_segments (e ∷ past) h zero d l = not_true (is_short e.note) (both (not (is_short e.note)) (none_short past) h).0
quiet_segments (e ∷ past) h (suc k) d l = quiet_segments past (both (not (is_short e.note)) (none_short past) h).1 k d (omega (arith, l))

three_rounds_quiet : IsQuiet three_rounds_trail
three_rounds_quiet = record { pool = quiet_pool three_rounds_trail.pool refl; segments = quiet_segments three_rounds_trail.segments refl }

no_room_not_quiet : IsQuiet no_room_trail → ⊥
no_room_not_quiet q = let k : true ≡ false = q.pool 3 (entry 0 0 (Mode false)) (omega arith) in cc

no_node_not_quiet : IsQuiet no_node_trail → ⊥
no_node_not_quiet q = let k : true ≡ false = q.segments 0 (entry 0 0 (seg.Gave 0)) (omega arith) in cc
