-- The definitions, computed on worked histories of small captures. Of a frame's bytes only its payload stands in these. A history
-- has the newest entry first, and so have all lists of runs, members and uses; the steps of the roles are those of a run.
use Rattle.std.proofs.Common.{◌≡◌, ℕ, ◌+◌, ◌*◌, ◌^◌, Bool, true, false, List, [], ◌∷◌, Some, None, refl}
use Rattle.std.specs.Prelude.{codes, drop, map}
use Rattle.reassembly.specs.Parts.{bytes_from}
use Rattle.suri_base.specs.Capture.{Captured}
use Rattle.suri_base.specs.Dealing.{bucket_of, worker_of}
use Rattle.suri_base.specs.Hash.{key_bytes}
use Rattle.suri_base.specs.History.{entry}
use Rattle.suri_base.specs.Keys.{same_key}
use Rattle.suri_base.specs.declared.app.App.TheVariants as app
use Rattle.suri_base.specs.declared.entry.Entry.{Entry}
use Rattle.suri_base.specs.declared.entry.BucketNote.{BucketNote}
use Rattle.suri_base.specs.declared.entry.BucketNote.TheVariants.{Found, Missing, Made, Refused, Stored, Stopped, Closed, Idle, Victim, AllInUse, Swept, Drained}
use Rattle.suri_base.specs.declared.facts.Facts.{Facts}
use Rattle.suri_base.specs.declared.frame.Frame.{Frame}
use Rattle.suri_base.specs.declared.key.End.{End}
use Rattle.suri_base.specs.declared.key.Key.{Key}
use Rattle.suri_base.specs.declared.key.Side.{Side}
use Rattle.suri_base.specs.declared.key.Side.TheVariants.{FromA, FromB}
use Rattle.suri_base.specs.declared.reason.Reason.TheVariants.{Timeout, TcpReuse, Forced, Shutdown}
use Rattle.suri_base.specs.declared.seen.Seen.TheVariants.{Bears}
use Rattle.suri_base.specs.declared.stream.Offer.TheVariants as offer
use Rattle.tcp_session.specs.Moves.{next_state, outcomes}
use Rattle.timeout_table.specs.Table.{rows_for}
use Rattle.flow_object.specs.Object.{no_stops}
use Rattle.bucket_rules.specs.declared.fixed.Fixed.{Fixed}
use Rattle.bucket_rules.specs.Own.{awaits, owes, is_open, is_refused}
use Rattle.bucket_rules.specs.Row.{Place, detached, linked, off, row, after, is_here, joins, lets_go, made, waiting_of}
use Rattle.bucket_rules.specs.Rule.{IsLegal, count_of}
use Rattle.bucket_rules.proofs.Tested.{legal}

-- captures

abbrev pub seconds : ℕ → ℕ
seconds n = n * 10 ^ 9

abbrev pub milliseconds : ℕ → ℕ
milliseconds n = n * 10 ^ 6

-- the second at which the captures begin, in nanoseconds
abbrev pub start : ℕ
start = seconds 1700000000

-- 10.0.0.n, with a port
abbrev pub host : ℕ → ℕ → End
host n port = record { addr = 167772160 + n; port = port }

abbrev pub key : ℕ → End → End → Key
key proto a b = record {
  vlans = record { count = 0; first = 0; second = 0; third = 0 };
  version = 4;
  proto = proto;
  one_way = false;
  a = a;
  b = b;
}

-- three pairs of ends, and a client with its server, of which the server is the lesser end
abbrev pub first_pair : Key
first_pair = key 17 (host 1 1000) (host 2 2000)

abbrev pub second_pair : Key
second_pair = key 17 (host 3 1000) (host 4 2000)

abbrev pub third_pair : Key
third_pair = key 17 (host 5 1000) (host 6 2000)

abbrev pub connection : Key
connection = key 6 (record { addr = 1109654220; port = 80 }) (record { addr = 2162716280; port = 34855 })

-- a datagram without payload: its number, its key, its time, and the number of the next of its key
abbrev pub datagram : ℕ → Key → ℕ → ℕ → Facts
datagram number k time next = record {
  no = number;
  time = time;
  clock = time;
  key = k;
  side = FromA;
  len = 42;
  ttl = 64;
  tcp = None;
  icmp = None;
  pay_at = 0;
  pay_len = 0;
  next = next;
}

-- a segment: its number, its side, its time, the number of the next of its key, its flags and sequence number, and where its payload stands
abbrev pub segment : ℕ → Side → ℕ → ℕ → ℕ → ℕ → ℕ → ℕ → Facts
segment number side time next flags sequence at size = record {
  no = number;
  time = time;
  clock = time;
  key = connection;
  side = side;
  len = 54 + size;
  ttl = 64;
  tcp = Some (record { seq = sequence; ack = 0; flags = flags });
  icmp = None;
  pay_at = at;
  pay_len = size;
  next = next;
}

abbrev pub client : Side
client = FromB

abbrev pub server : Side
server = FromA

abbrev pub frame : Facts → Frame
frame f = record { no = f.no; time = f.time; orig = f.len; at = f.pay_at; len = f.pay_len }

abbrev pub capture : List ℕ → List Facts → Captured
capture bytes packets = record { bytes = bytes; frames = map frame packets; clocks = map (λ f. f.clock) packets; seen = map (λ f. Bears f) packets; cut_bytes = 0 }

-- the one bucket of a run with one worker: its batch, its round, how many flows and nodes there may be, and the capture
abbrev pub one_bucket : ℕ → ℕ → ℕ → ℕ → List ℕ → List Facts → Fixed
one_bucket batch round memcap segments bytes packets = record {
  capture = capture bytes packets;
  layout = record { workers = 1; batch = batch; round = round; rows = 1; memcap = memcap; segments = segments; recovery = 30; depth = 1048576 };
  number = 0;
}

-- what is told of the runs of a history

abbrev pub places : Fixed → List (Entry BucketNote) → List Place
places s past = map (λ a. (row s a past).place) (made past)

abbrev pub member_numbers : Fixed → List (Entry BucketNote) → List (List ℕ)
member_numbers s past = map (λ a. map (λ (t : Facts). t.no) (row s a past).members) (made past)

abbrev pub uses_of : Fixed → List (Entry BucketNote) → List (List ℕ)
uses_of s past = map (λ a. (row s a past).uses) (made past)

abbrev pub are_here : Fixed → List (Entry BucketNote) → List Bool
are_here s past = map (λ a. is_here (row s a past)) (made past)

-- a connection is closed, and the same ends open a new one in the same batch

abbrev pub reused : Fixed
reused = one_bucket 32 4096 65536 65536 (codes "abc") (
    segment 1 client start 2 0x02 100 0 0 ∷
    segment 2 server (start + milliseconds 1) 3 0x12 500 0 0 ∷
    segment 3 client (start + milliseconds 2) 4 0x10 101 0 0 ∷
    segment 4 client (start + milliseconds 3) 5 0x18 101 0 3 ∷
    segment 5 client (start + milliseconds 4) 6 0x11 104 0 0 ∷
    segment 6 server (start + milliseconds 5) 7 0x11 501 0 0 ∷
    segment 7 client (start + milliseconds 6) 8 0x10 105 0 0 ∷
    segment 8 client (start + milliseconds 7) 0 0x02 9000 0 0 ∷
    [])

-- the looks, and the two runs
abbrev pub reused_looks : List (Entry BucketNote)
reused_looks =
    entry 0 12 (Made 8 offer.Nothing) ∷
    entry 0 10 (Missing 8 false 1 0) ∷
    entry 0 9 (Found 7 false 1 1 offer.Nothing) ∷
    entry 0 8 (Found 6 false 1 1 offer.Nothing) ∷
    entry 0 7 (Found 5 false 1 1 offer.Nothing) ∷
    entry 0 6 (Found 4 false 1 1 offer.InOrder) ∷
    entry 0 5 (Found 3 false 1 1 offer.Nothing) ∷
    entry 0 4 (Found 2 false 1 1 offer.Nothing) ∷
    entry 0 3 (Made 1 offer.Nothing) ∷
    entry 0 1 (Missing 1 false 1 0) ∷
    []

-- the closes after them, up to that of the seventh frame
abbrev pub reused_closes : List (Entry BucketNote)
reused_closes =
    entry 0 18 (Closed 6 app.None 1 0 false) ∷
    entry 0 17 (Closed 5 app.None 1 0 false) ∷
    entry 0 16 (Closed 4 app.None 1 0 false) ∷
    entry 0 15 (Closed 3 app.None 1 0 false) ∷
    entry 0 14 (Closed 2 app.None 1 0 false) ∷
    entry 0 13 (Closed 1 app.None 1 0 false) ∷
    reused_looks

-- and the rest of the run
abbrev pub reused_history : List (Entry BucketNote)
reused_history =
    entry 3 1 (Drained 1) ∷
    entry 1 1 (Swept 0 false 4 0) ∷
    entry 0 20 (Closed 8 app.None 8 0 false) ∷
    entry 0 19 (Closed 7 app.None 1 0 true) ∷
    reused_closes

-- the first run is detached at frame 8, with seven uses
reused_runs : (made reused_looks ≡ 8 ∷ 1 ∷ [])
    × (places reused reused_looks ≡ linked ∷ detached (off TcpReuse false) ∷ [])
    × (uses_of reused reused_looks ≡ (8 ∷ []) ∷ (7 ∷ 6 ∷ 5 ∷ 4 ∷ 3 ∷ 2 ∷ 1 ∷ []) ∷ [])
    × (are_here reused reused_looks ≡ true ∷ true ∷ [])
unfolding next_state outcomes rows_for same_key bytes_from
reused_runs = (refl, refl, refl, refl)

-- and leaves at the close of frame 7, its last use
reused_leaves : (uses_of reused reused_closes ≡ (8 ∷ []) ∷ (7 ∷ []) ∷ []) × (lets_go reused reused_closes (Closed 7 app.None 1 0 true) 1 ≡ true)
unfolding next_state outcomes rows_for same_key bytes_from
reused_leaves = (refl, refl)

pub reused_legal : IsLegal reused reused_history
unfolding next_state outcomes rows_for same_key key_bytes bytes_from
reused_legal = legal reused reused_history refl

-- with room for one flow, two keys in turn force each other out

abbrev pub forcing : Fixed
forcing = one_bucket 1 4096 1 65536 [] (
    datagram 1 first_pair start 3 ∷
    datagram 2 second_pair start 4 ∷
    datagram 3 first_pair start 0 ∷
    datagram 4 second_pair start 0 ∷
    [])

abbrev pub forcing_history : List (Entry BucketNote)
forcing_history =
    entry 3 0 (Drained 1) ∷
    entry 1 1 (Swept 0 true 12 0) ∷
    entry 0 25 (Closed 4 app.None 4 0 false) ∷
    entry 0 24 (Made 4 offer.Nothing) ∷
    entry 0 22 (Victim 4 3) ∷
    entry 0 20 (Missing 4 true 9 0) ∷
    entry 0 18 (Closed 3 app.None 3 0 false) ∷
    entry 0 17 (Made 3 offer.Nothing) ∷
    entry 0 15 (Victim 3 2) ∷
    entry 0 13 (Missing 3 true 6 0) ∷
    entry 0 11 (Closed 2 app.None 2 0 false) ∷
    entry 0 10 (Made 2 offer.Nothing) ∷
    entry 0 8 (Victim 2 1) ∷
    entry 0 6 (Missing 2 false 3 0) ∷
    entry 0 4 (Closed 1 app.None 1 0 false) ∷
    entry 0 3 (Made 1 offer.Nothing) ∷
    entry 0 1 (Missing 1 false 1 0) ∷
    []

forcing_runs : (made forcing_history ≡ 4 ∷ 3 ∷ 2 ∷ 1 ∷ [])
    × (places forcing forcing_history
    ≡ detached (off Shutdown false) ∷ detached (off Forced false) ∷ detached (off Forced false) ∷ detached (off Forced false) ∷ [])
    × (member_numbers forcing forcing_history ≡ (4 ∷ []) ∷ (3 ∷ []) ∷ (2 ∷ []) ∷ (1 ∷ []) ∷ [])
    × (are_here forcing forcing_history ≡ false ∷ false ∷ false ∷ false ∷ [])
unfolding rows_for same_key
forcing_runs = (refl, refl, refl, refl)

pub forcing_legal : IsLegal forcing forcing_history
unfolding rows_for same_key key_bytes
forcing_legal = legal forcing forcing_history refl

-- with room for one flow, which is in use, the second packet of the batch is refused

abbrev pub no_room : Fixed
no_room = one_bucket 2 4096 1 65536 [] (datagram 1 first_pair start 0 ∷ datagram 2 second_pair start 0 ∷ [])

abbrev pub no_room_history : List (Entry BucketNote)
no_room_history =
    entry 3 0 (Drained 1) ∷
    entry 1 1 (Swept 0 true 4 0) ∷
    entry 0 9 (Idle 2 app.None) ∷
    entry 0 8 (Closed 1 app.None 1 0 false) ∷
    entry 0 7 (Refused 2) ∷
    entry 0 6 (AllInUse 2 1) ∷
    entry 0 4 (Missing 2 false 1 0) ∷
    entry 0 3 (Made 1 offer.Nothing) ∷
    entry 0 1 (Missing 1 false 1 0) ∷
    []

-- after the refusal, which is the fifth entry from the newest
no_room_words : (is_refused 2 (drop 4 no_room_history) ≡ true) × (is_open 0 2 (drop 4 no_room_history) ≡ true)
    × (is_open 0 2 no_room_history ≡ false) × (count_of (drop 5 no_room_history) (λ a. is_here (row no_room a (drop 5 no_room_history))) ≡ 1)
    × (awaits 0 2 (drop 5 no_room_history) ≡ true) × (awaits 0 2 (drop 4 no_room_history) ≡ false)
unfolding rows_for same_key
no_room_words = (refl, refl, refl, refl, refl, refl)

no_room_runs : (made no_room_history ≡ 1 ∷ []) × (places no_room no_room_history ≡ detached (off Shutdown false) ∷ [])
unfolding rows_for same_key
no_room_runs = (refl, refl)

pub no_room_legal : IsLegal no_room no_room_history
unfolding rows_for same_key key_bytes
no_room_legal = legal no_room no_room_history refl

-- a flow that has expired leaves at the look of its key's next packet, one second after its deadline

abbrev pub ended_first : Fixed
ended_first = one_bucket 1 4096 1 65536 [] (datagram 1 first_pair start 2 ∷ datagram 2 first_pair (start + seconds 31) 0 ∷ [])

abbrev pub ended_first_history : List (Entry BucketNote)
ended_first_history =
    entry 3 0 (Drained 1) ∷
    entry 1 1 (Swept 0 true 6 0) ∷
    entry 0 10 (Closed 2 app.None 2 0 false) ∷
    entry 0 9 (Made 2 offer.Nothing) ∷
    entry 0 6 (Missing 2 false 3 1) ∷
    entry 0 4 (Closed 1 app.None 1 0 false) ∷
    entry 0 3 (Made 1 offer.Nothing) ∷
    entry 0 1 (Missing 1 false 1 0) ∷
    []

ended_first_runs : (made ended_first_history ≡ 2 ∷ 1 ∷ [])
    × (places ended_first ended_first_history ≡ detached (off Shutdown false) ∷ detached (off Timeout false) ∷ [])
    × (are_here ended_first (drop 4 ended_first_history) ≡ false ∷ [])
unfolding rows_for same_key
ended_first_runs = (refl, refl, refl)

pub ended_first_legal : IsLegal ended_first ended_first_history
unfolding rows_for same_key key_bytes
ended_first_legal = legal ended_first ended_first_history refl

-- the same in one batch: the flow is detached while it is in use, and no other can go

abbrev pub in_use : Fixed
in_use = one_bucket 2 4096 1 65536 [] (datagram 1 first_pair start 2 ∷ datagram 2 first_pair (start + seconds 31) 0 ∷ [])

abbrev pub in_use_history : List (Entry BucketNote)
in_use_history =
    entry 3 1 (Drained 0) ∷
    entry 1 1 (Swept 0 true 4 0) ∷
    entry 0 9 (Idle 2 app.None) ∷
    entry 0 8 (Closed 1 app.None 1 0 true) ∷
    entry 0 7 (Refused 2) ∷
    entry 0 6 (AllInUse 2 1) ∷
    entry 0 4 (Missing 2 false 1 0) ∷
    entry 0 3 (Made 1 offer.Nothing) ∷
    entry 0 1 (Missing 1 false 1 0) ∷
    []

in_use_runs : (places in_use in_use_history ≡ detached (off Timeout false) ∷ []) × (member_numbers in_use in_use_history ≡ (1 ∷ []) ∷ [])
    × (are_here in_use (drop 4 in_use_history) ≡ true ∷ []) × (are_here in_use (drop 3 in_use_history) ≡ false ∷ [])
unfolding rows_for same_key
in_use_runs = (refl, refl, refl, refl)

pub in_use_legal : IsLegal in_use in_use_history
unfolding rows_for same_key key_bytes
in_use_legal = legal in_use in_use_history refl

-- after a want of flows the table of an emergency ends a flow eleven seconds after its last packet

abbrev pub in_emergency : Fixed
in_emergency = one_bucket 1 4096 2 65536 [] (
    datagram 1 first_pair start 0 ∷
    datagram 2 second_pair start 4 ∷
    datagram 3 third_pair start 0 ∷
    datagram 4 second_pair (start + seconds 11) 0 ∷
    [])

abbrev pub in_emergency_history : List (Entry BucketNote)
in_emergency_history =
    entry 3 0 (Drained 2) ∷
    entry 1 1 (Swept 0 true 11 0) ∷
    entry 0 22 (Closed 4 app.None 4 0 false) ∷
    entry 0 21 (Made 4 offer.Nothing) ∷
    entry 0 18 (Missing 4 true 8 2) ∷
    entry 0 16 (Closed 3 app.None 3 0 false) ∷
    entry 0 15 (Made 3 offer.Nothing) ∷
    entry 0 13 (Victim 3 1) ∷
    entry 0 11 (Missing 3 false 5 0) ∷
    entry 0 9 (Closed 2 app.None 2 0 false) ∷
    entry 0 8 (Made 2 offer.Nothing) ∷
    entry 0 6 (Missing 2 false 3 0) ∷
    entry 0 4 (Closed 1 app.None 1 0 false) ∷
    entry 0 3 (Made 1 offer.Nothing) ∷
    entry 0 1 (Missing 1 false 1 0) ∷
    []

in_emergency_runs : (made in_emergency_history ≡ 4 ∷ 3 ∷ 2 ∷ 1 ∷ [])
    × (places in_emergency in_emergency_history
    ≡ detached (off Shutdown false) ∷ detached (off Shutdown false) ∷ detached (off Timeout true) ∷ detached (off Forced false) ∷ [])
    × (are_here in_emergency in_emergency_history ≡ false ∷ false ∷ false ∷ false ∷ [])
unfolding rows_for same_key
in_emergency_runs = (refl, refl, refl)

-- at the last look; by the normal table its run would have gone on
in_emergency_table : (joins in_emergency 4 true (row in_emergency 2 (drop 5 in_emergency_history)) ≡ false) × (joins in_emergency 4 false (row in_emergency 2 (drop 5 in_emergency_history)) ≡ true)
unfolding rows_for same_key
in_emergency_table = (refl, refl)

pub in_emergency_legal : IsLegal in_emergency in_emergency_history
unfolding rows_for same_key key_bytes
in_emergency_legal = legal in_emergency in_emergency_history refl

-- a segment is stored until the one before it comes

abbrev pub gap : Fixed
gap = one_bucket 1 4096 65536 65536 (codes "ba") (
    segment 1 client start 2 0x02 1000 0 0 ∷
    segment 2 client start 3 0x18 1002 0 1 ∷
    segment 3 client start 0 0x18 1001 1 1 ∷
    [])

abbrev pub gap_history : List (Entry BucketNote)
gap_history =
    entry 3 0 (Drained 1) ∷
    entry 1 1 (Swept 0 false 5 0) ∷
    entry 0 12 (Closed 3 app.None 1 1 false) ∷
    entry 0 11 (Found 3 false 4 1 offer.InOrder) ∷
    entry 0 9 (Closed 2 app.None 1 0 false) ∷
    entry 0 8 (Stored 2) ∷
    entry 0 6 (Found 2 false 3 1 offer.NeedsSegment) ∷
    entry 0 4 (Closed 1 app.None 1 0 false) ∷
    entry 0 3 (Made 1 offer.Nothing) ∷
    entry 0 1 (Missing 1 false 1 0) ∷
    []

-- after the second segment asks, after it is stored, after its close, after the look at the third, and after its close: what the run
-- asks, what the worker owes, how many nodes the run holds, and how many of them wait
gap_asks : (map (λ n. (row gap 1 (drop n gap_history)).asks) (6 ∷ 5 ∷ 4 ∷ 3 ∷ 2 ∷ []) ≡ true ∷ false ∷ false ∷ false ∷ false ∷ [])
    × (map (λ n. owes 0 (drop n gap_history)) (6 ∷ 5 ∷ 4 ∷ 3 ∷ 2 ∷ []) ≡ Some 2 ∷ None ∷ None ∷ None ∷ None ∷ [])
unfolding rows_for same_key bytes_from next_state outcomes
gap_asks = (refl, refl)

gap_nodes : (map (λ n. (row gap 1 (drop n gap_history)).held) (6 ∷ 5 ∷ 4 ∷ 3 ∷ 2 ∷ []) ≡ 0 ∷ 1 ∷ 1 ∷ 1 ∷ 0 ∷ [])
    × (map (λ n. waiting_of gap (row gap 1 (drop n gap_history))) (5 ∷ 4 ∷ 3 ∷ 2 ∷ []) ≡ 1 ∷ 1 ∷ 0 ∷ 0 ∷ [])
unfolding rows_for same_key bytes_from next_state outcomes
gap_nodes = (refl, refl)

pub gap_legal : IsLegal gap gap_history
unfolding next_state outcomes rows_for same_key key_bytes bytes_from
gap_legal = legal gap gap_history refl

-- with no node the stream stops at the segment that would wait, and each later one finds it stopped

abbrev pub no_node : Fixed
no_node = one_bucket 32 4096 65536 0 (codes "ba") (
    segment 1 client start 2 0x02 1000 0 0 ∷
    segment 2 client start 3 0x18 1002 0 1 ∷
    segment 3 client start 0 0x18 1001 1 1 ∷
    [])

abbrev pub no_node_history : List (Entry BucketNote)
no_node_history =
    entry 3 0 (Drained 1) ∷
    entry 1 1 (Swept 0 false 3 0) ∷
    entry 0 10 (Closed 3 app.None 1 0 false) ∷
    entry 0 9 (Closed 2 app.None 1 0 false) ∷
    entry 0 8 (Closed 1 app.None 1 0 false) ∷
    entry 0 7 (Found 3 false 1 1 offer.Stopped) ∷
    entry 0 6 (Stopped 2) ∷
    entry 0 4 (Found 2 false 1 1 offer.NeedsSegment) ∷
    entry 0 3 (Made 1 offer.Nothing) ∷
    entry 0 1 (Missing 1 false 1 0) ∷
    []

no_node_stops : (row no_node 1 (drop 7 no_node_history)).stops ≡ no_stops × (row no_node 1 (drop 6 no_node_history)).stops ≡ record { to_server = 2; to_client = 0 }
unfolding rows_for same_key bytes_from next_state outcomes
no_node_stops = (refl, refl)

pub no_node_legal : IsLegal no_node no_node_history
unfolding next_state outcomes rows_for same_key key_bytes bytes_from
no_node_legal = legal no_node no_node_history refl

-- rounds of one frame: a sweep lets a flow go whose deadline is past at the clock of the round, and not at the deadline itself

abbrev pub swept : Fixed
swept = one_bucket 1 1 65536 65536 [] (
    datagram 1 first_pair start 0 ∷
    datagram 2 second_pair (start + seconds 30) 3 ∷
    datagram 3 second_pair (start + seconds 30 + 1) 0 ∷
    [])

abbrev pub swept_history : List (Entry BucketNote)
swept_history =
    entry 3 1 (Drained 1) ∷
    entry 1 7 (Swept 2 false 10 1) ∷
    entry 0 12 (Closed 3 app.None 2 0 false) ∷
    entry 0 11 (Found 3 false 9 2 offer.Nothing) ∷
    entry 1 4 (Swept 1 false 7 0) ∷
    entry 0 9 (Closed 2 app.None 2 0 false) ∷
    entry 0 8 (Made 2 offer.Nothing) ∷
    entry 0 6 (Missing 2 false 5 0) ∷
    entry 1 1 (Swept 0 false 3 0) ∷
    entry 0 4 (Closed 1 app.None 1 0 false) ∷
    entry 0 3 (Made 1 offer.Nothing) ∷
    entry 0 1 (Missing 1 false 1 0) ∷
    []

swept_runs : (made swept_history ≡ 2 ∷ 1 ∷ [])
    × (places swept (drop 2 swept_history) ≡ linked ∷ linked ∷ [])
    × (places swept (drop 1 swept_history) ≡ linked ∷ detached (off Timeout false) ∷ [])
    × (places swept swept_history ≡ detached (off Shutdown false) ∷ detached (off Timeout false) ∷ [])
unfolding rows_for same_key
swept_runs = (refl, refl, refl, refl)

pub swept_legal : IsLegal swept swept_history
unfolding rows_for same_key key_bytes
swept_legal = legal swept swept_history refl

-- a flow with a packet in an earlier round stays, and one with a packet in the round itself goes

abbrev pub awaited : Fixed
awaited = one_bucket 1 1 65536 65536 [] (
    datagram 1 first_pair start 2 ∷
    datagram 2 first_pair (start + seconds 31) 0 ∷
    datagram 3 second_pair (start + seconds 31) 0 ∷
    [])

abbrev pub awaited_history : List (Entry BucketNote)
awaited_history =
    entry 0 4 (Closed 1 app.None 1 0 false) ∷
    entry 0 3 (Made 1 offer.Nothing) ∷
    entry 0 1 (Missing 1 false 1 0) ∷
    []

pub awaited_legal : IsLegal awaited (entry 1 1 (Swept 2 false 3 0) ∷ awaited_history) × IsLegal awaited (entry 1 1 (Swept 1 false 3 1) ∷ awaited_history)
unfolding rows_for same_key key_bytes
awaited_legal = (legal awaited (entry 1 1 (Swept 2 false 3 0) ∷ awaited_history) refl, legal awaited (entry 1 1 (Swept 1 false 3 1) ∷ awaited_history) refl)

-- the next packet comes exactly at the deadline of its flow, by the normal table and by that of an emergency, and joins

abbrev pub at_deadline : ℕ → Fixed
at_deadline after = one_bucket 1 4096 65536 65536 [] (datagram 1 first_pair start 2 ∷ datagram 2 first_pair (start + after) 0 ∷ [])

abbrev pub one_flow : List (Entry BucketNote)
one_flow =
    entry 0 4 (Closed 1 app.None 1 0 false) ∷
    entry 0 3 (Made 1 offer.Nothing) ∷
    entry 0 1 (Missing 1 false 1 0) ∷
    []

pub at_deadline_legal : IsLegal (at_deadline (seconds 30)) (entry 0 6 (Found 2 false 3 1 offer.Nothing) ∷ one_flow)
    × IsLegal (at_deadline (seconds 10)) (entry 0 6 (Found 2 true 3 1 offer.Nothing) ∷ one_flow)
unfolding rows_for same_key key_bytes
at_deadline_legal = (
  legal (at_deadline (seconds 30)) (entry 0 6 (Found 2 false 3 1 offer.Nothing) ∷ one_flow) refl,
  legal (at_deadline (seconds 10)) (entry 0 6 (Found 2 true 3 1 offer.Nothing) ∷ one_flow) refl,
)

-- of two unused flows that goes whose last packet is older, though it began later

abbrev pub older : Fixed
older = one_bucket 1 4096 2 65536 [] (
    datagram 1 first_pair start 3 ∷
    datagram 2 second_pair (start + seconds 1) 0 ∷
    datagram 3 first_pair (start + seconds 2) 0 ∷
    datagram 4 third_pair (start + seconds 3) 0 ∷
    [])

abbrev pub older_history : List (Entry BucketNote)
older_history =
    entry 0 14 (Missing 4 false 6 0) ∷
    entry 0 12 (Closed 3 app.None 1 0 false) ∷
    entry 0 11 (Found 3 false 5 1 offer.Nothing) ∷
    entry 0 9 (Closed 2 app.None 2 0 false) ∷
    entry 0 8 (Made 2 offer.Nothing) ∷
    entry 0 6 (Missing 2 false 3 0) ∷
    entry 0 4 (Closed 1 app.None 1 0 false) ∷
    entry 0 3 (Made 1 offer.Nothing) ∷
    entry 0 1 (Missing 1 false 1 0) ∷
    []

pub older_legal : IsLegal older (entry 0 16 (Victim 4 2) ∷ older_history)
unfolding rows_for same_key key_bytes
older_legal = legal older (entry 0 16 (Victim 4 2) ∷ older_history) refl

-- a connection is reset, and detached by a new one that is refused: no later packet joins it

abbrev pub reset : Fixed
reset = one_bucket 32 4096 1 65536 [] (
    segment 1 client start 2 0x02 100 0 0 ∷
    segment 2 server start 3 0x14 0 0 0 ∷
    segment 3 client start 4 0x02 9000 0 0 ∷
    segment 4 client start 0 0x10 9001 0 0 ∷
    [])

abbrev pub reset_history : List (Entry BucketNote)
reset_history =
    entry 0 8 (Refused 3) ∷
    entry 0 7 (AllInUse 3 1) ∷
    entry 0 5 (Missing 3 false 1 0) ∷
    entry 0 4 (Found 2 false 1 1 offer.Nothing) ∷
    entry 0 3 (Made 1 offer.Nothing) ∷
    entry 0 1 (Missing 1 false 1 0) ∷
    []

pub reset_legal : IsLegal reset (entry 0 9 (Missing 4 false 1 0) ∷ reset_history)
unfolding next_state outcomes rows_for same_key key_bytes bytes_from
reset_legal = legal reset (entry 0 9 (Missing 4 false 1 0) ∷ reset_history) refl

-- three workers and three buckets: two workers take turns at the last bucket, and the later packet is closed first

abbrev pub shared : ℕ → Fixed
shared number = record {
  capture = capture [] (datagram 1 first_pair start 0 ∷ datagram 2 second_pair start 0 ∷ []);
  layout = record { workers = 3; batch = 1; round = 4096; rows = 3; memcap = 65536; segments = 65536; recovery = 30; depth = 1048576 };
  number = number;
}

abbrev pub shared_history : List (Entry BucketNote)
shared_history =
    entry 5 2 (Drained 2) ∷
    entry 3 3 (Swept 0 false 5 0) ∷
    entry 0 4 (Closed 1 app.None 1 0 false) ∷
    entry 0 3 (Made 1 offer.Nothing) ∷
    entry 2 4 (Closed 2 app.None 2 0 false) ∷
    entry 2 3 (Made 2 offer.Nothing) ∷
    entry 2 1 (Missing 2 false 2 0) ∷
    entry 0 1 (Missing 1 false 1 0) ∷
    []

-- FNV-1a of the two keys is 1052931669 and 2042806229
shared_out : (worker_of first_pair 3 ≡ 0) × (worker_of second_pair 3 ≡ 2) × (bucket_of first_pair 3 ≡ 2) × (bucket_of second_pair 3 ≡ 2)
    × (bucket_of first_pair 4096 ≡ 630) × (bucket_of second_pair 4096 ≡ 703)
unfolding key_bytes
shared_out = (refl, refl, refl, refl, refl, refl)

pub shared_legal : IsLegal (shared 2) shared_history
unfolding rows_for same_key key_bytes
shared_legal = legal (shared 2) shared_history refl

-- a stop of the stream to the client leaves the other one, and one after a stored segment frees its node

abbrev pub both_ways : Fixed
both_ways = one_bucket 32 4096 65536 1 (codes "acxay") (
    segment 1 client start 2 0x02 1000 0 0 ∷
    segment 2 server start 3 0x12 5000 0 0 ∷
    segment 3 server start 4 0x18 5002 1 1 ∷
    segment 4 server start 5 0x18 5004 2 1 ∷
    segment 5 client start 6 0x18 1001 3 1 ∷
    segment 6 server start 0 0x18 5001 4 1 ∷
    [])

abbrev pub both_ways_history : List (Entry BucketNote)
both_ways_history =
    entry 3 0 (Drained 1) ∷
    entry 1 1 (Swept 0 false 3 0) ∷
    entry 0 19 (Closed 6 app.None 1 0 false) ∷
    entry 0 18 (Closed 5 app.None 1 0 false) ∷
    entry 0 17 (Closed 4 app.None 1 0 false) ∷
    entry 0 16 (Closed 3 app.None 1 0 false) ∷
    entry 0 15 (Closed 2 app.None 1 0 false) ∷
    entry 0 13 (Closed 1 app.None 1 1 false) ∷
    entry 0 12 (Found 6 false 1 1 offer.Stopped) ∷
    entry 0 11 (Found 5 false 1 1 offer.InOrder) ∷
    entry 0 10 (Stopped 4) ∷
    entry 0 8 (Found 4 false 1 1 offer.NeedsSegment) ∷
    entry 0 7 (Stored 3) ∷
    entry 0 5 (Found 3 false 1 1 offer.NeedsSegment) ∷
    entry 0 4 (Found 2 false 1 1 offer.Nothing) ∷
    entry 0 3 (Made 1 offer.Nothing) ∷
    entry 0 1 (Missing 1 false 1 0) ∷
    []

both_ways_stops : ((row both_ways 1 both_ways_history).stops ≡ record { to_server = 0; to_client = 4 })
    × (map (λ n. waiting_of both_ways (row both_ways 1 (drop n both_ways_history))) (12 ∷ 10 ∷ []) ≡ 1 ∷ 0 ∷ [])
unfolding rows_for same_key bytes_from next_state outcomes
both_ways_stops = (refl, refl)

pub both_ways_legal : IsLegal both_ways both_ways_history
unfolding next_state outcomes rows_for same_key key_bytes bytes_from
both_ways_legal = legal both_ways both_ways_history refl

-- why runs end: a closed connection that has expired ends by its timeout, also where the packet would open a new one; and so does a
-- flow at the end that had expired at the capture's last clock

abbrev pub reset_late : ℕ → Fixed
reset_late after = one_bucket 1 4096 65536 65536 [] (
    segment 1 client start 2 0x02 100 0 0 ∷
    segment 2 server start 3 0x14 0 0 0 ∷
    segment 3 client (start + after) 0 0x02 9000 0 0 ∷
    datagram 4 first_pair (start + after + seconds 31) 0 ∷
    [])

abbrev pub reset_late_history : Bool → List (Entry BucketNote)
reset_late_history urgent =
    entry 3 1 (Drained 2) ∷
    entry 1 1 (Swept 0 urgent 9 0) ∷
    entry 0 17 (Closed 4 app.None 4 0 false) ∷
    entry 0 16 (Made 4 offer.Nothing) ∷
    entry 0 14 (Missing 4 urgent 7 0) ∷
    entry 0 12 (Closed 3 app.None 3 0 false) ∷
    entry 0 11 (Made 3 offer.Nothing) ∷
    entry 0 9 (Missing 3 urgent 5 1) ∷
    entry 0 7 (Closed 2 app.None 1 0 false) ∷
    entry 0 6 (Found 2 urgent 3 1 offer.Nothing) ∷
    entry 0 4 (Closed 1 app.None 1 0 false) ∷
    entry 0 3 (Made 1 offer.Nothing) ∷
    entry 0 1 (Missing 1 urgent 1 0) ∷
    []

pub reset_late_legal : IsLegal (reset_late (seconds 120 + 1)) (reset_late_history false) × IsLegal (reset_late (seconds 20)) (reset_late_history true)
unfolding next_state outcomes rows_for same_key key_bytes bytes_from
reset_late_legal = (legal (reset_late (seconds 120 + 1)) (reset_late_history false) refl, legal (reset_late (seconds 20)) (reset_late_history true) refl)

-- 120 seconds after the last packet of a closed connection are its deadline, and 20 seconds in an emergency
reset_late_reasons : ((row (reset_late (seconds 120)) 1 (reset_late_history false)).place ≡ detached (off TcpReuse false))
    × ((row (reset_late (seconds 120 + 1)) 1 (reset_late_history false)).place ≡ detached (off Timeout false))
    × ((row (reset_late (seconds 20)) 1 (reset_late_history true)).place ≡ detached (off TcpReuse false))
    × ((row (reset_late (seconds 20 + 1)) 1 (reset_late_history true)).place ≡ detached (off Timeout true))
unfolding next_state outcomes rows_for same_key bytes_from
reset_late_reasons = (refl, refl, refl, refl)

-- the table of an emergency says nothing of the end
abbrev pub ended_late : ℕ → Fixed
ended_late after = one_bucket 32 4096 65536 65536 [] (datagram 1 first_pair start 0 ∷ datagram 2 second_pair (start + after) 0 ∷ [])

abbrev pub ended_late_history : List (Entry BucketNote)
ended_late_history =
    entry 3 0 (Drained 2) ∷
    entry 1 1 (Swept 0 true 4 0) ∷
    entry 0 8 (Closed 2 app.None 2 0 false) ∷
    entry 0 7 (Closed 1 app.None 1 0 false) ∷
    entry 0 6 (Made 2 offer.Nothing) ∷
    entry 0 4 (Missing 2 true 1 0) ∷
    entry 0 3 (Made 1 offer.Nothing) ∷
    entry 0 1 (Missing 1 true 1 0) ∷
    []

ended_late_reasons : (places (ended_late (seconds 30)) ended_late_history ≡ detached (off Shutdown false) ∷ detached (off Shutdown false) ∷ [])
    × (places (ended_late (seconds 30 + 1)) ended_late_history ≡ detached (off Shutdown false) ∷ detached (off Timeout false) ∷ [])
unfolding rows_for same_key
ended_late_reasons = (refl, refl)

pub ended_late_legal : IsLegal (ended_late (seconds 30 + 1)) ended_late_history
unfolding rows_for same_key key_bytes
ended_late_legal = legal (ended_late (seconds 30 + 1)) ended_late_history refl

-- a run is swept while its newest packet still asks for a node: it takes the node, and leaves at its last close

abbrev pub swept_asking : Fixed
swept_asking = one_bucket 1 1 65536 65536 (codes "b") (
    segment 1 client start 2 0x02 1000 0 0 ∷
    segment 2 client start 0 0x18 1002 0 1 ∷
    datagram 3 first_pair (start + seconds 3600 + 1) 0 ∷
    [])

abbrev pub swept_asking_history : List (Entry BucketNote)
swept_asking_history =
    entry 0 9 (Closed 2 app.None 1 0 true) ∷
    entry 0 8 (Stored 2) ∷
    entry 1 1 (Swept 2 false 4 0) ∷
    entry 0 6 (Found 2 false 3 1 offer.NeedsSegment) ∷
    entry 0 4 (Closed 1 app.None 1 0 false) ∷
    entry 0 3 (Made 1 offer.Nothing) ∷
    entry 0 1 (Missing 1 false 1 0) ∷
    []

swept_asking_run : ((row swept_asking 1 swept_asking_history).held ≡ 1) × (are_here swept_asking swept_asking_history ≡ false ∷ [])
    × (are_here swept_asking (drop 1 swept_asking_history) ≡ true ∷ []) × (places swept_asking (drop 2 swept_asking_history) ≡ detached (off Timeout false) ∷ [])
unfolding next_state outcomes rows_for same_key bytes_from
swept_asking_run = (refl, refl, refl, refl)

pub swept_asking_legal : IsLegal swept_asking swept_asking_history
unfolding next_state outcomes rows_for same_key key_bytes bytes_from
swept_asking_legal = legal swept_asking swept_asking_history refl
