-- What a bucket's history says of one run. A history is read with the newest entry first, and so are all lists here.
use Rattle.std.specs.Prelude.{ℕ, ◌+◌, ◌-◌, ◌==◌, Bool, true, false, not, ◌&&◌, ◌||◌, if◌then◌else◌, List, [], ◌∷◌, filter, Option, Some, None}
use Rattle.suri_base.specs.declared.app.App.{App}
use Rattle.suri_base.specs.declared.entry.Entry.{Entry}
use Rattle.suri_base.specs.declared.facts.Facts.{Facts}
use Rattle.suri_base.specs.declared.reason.Reason.{Reason}
use Rattle.suri_base.specs.declared.reason.Reason.TheVariants.{Timeout, TcpReuse, Forced, Shutdown}
use Rattle.suri_base.specs.declared.stream.Offer.{Offer}
use Rattle.flow_object.specs.Object.{Stops, no_stops}
pub use Rattle.flow_uses.specs.Uses.{has}
use Rattle.bucket_rules.specs.declared.fixed.Fixed.{Fixed}
use Rattle.suri_base.specs.declared.entry.BucketNote.{BucketNote}
use Rattle.suri_base.specs.declared.entry.BucketNote.TheVariants.{Found, Missing, Made, Refused, Stored, Stopped, Closed, Idle, Victim, AllInUse, Swept, Drained}
use Rattle.bucket_rules.specs.Own.{is_needing}
use Rattle.bucket_rules.specs.Packets.{bearing, last_clock, of_packet, is_expired, is_reused, has_key, is_due}
use Rattle.bucket_rules.specs.Streams.{offer_after, stops_after, waiting_after}

-- why a run was detached, and whether by a timeout of the emergency table
pub record Off : Type 0 where
  pub reason : Reason
  pub emergency : Bool

-- a run did not begin, or packets may join it, or none may any more
pub data Place : Type 0 where
  unbegun : Place
  linked : Place
  detached : Off → Place

-- what a history says of one run
pub record Row : Type 0 where
  pub place : Place
  -- its packets
  pub members : List Facts
  -- the members whose use is open
  pub uses : List ℕ
  -- the verdicts at the closes
  pub judged : List App
  -- whether the newest member still needs a node
  pub asks : Bool
  -- the frames at which its streams stopped
  pub stops : Stops
  -- how many nodes it holds: those that its members took, less those that came back
  pub held : ℕ

abbrev pub blank : Row
blank = record { place = unbegun; members = []; uses = []; judged = []; asks = false; stops = no_stops; held = 0 }

abbrev pub is_linked : Place → Bool
is_linked unbegun = false
is_linked linked = true
is_linked (detached o) = false

abbrev pub is_begun : Place → Bool
is_begun unbegun = false
is_begun linked = true
is_begun (detached o) = true

abbrev pub is_none_of : List ℕ → Bool
is_none_of [] = true
is_none_of (u ∷ us) = false

abbrev pub without : ℕ → List ℕ → List ℕ
without f us = filter (λ u. not (u == f)) us

-- the run is in the bucket: it is linked, or a packet still uses it
abbrev pub is_here : Row → Bool
is_here w = is_linked w.place || not (is_none_of w.uses)

abbrev pub is_unused : Row → Bool
is_unused w = is_linked w.place && is_none_of w.uses

-- what the stream of the packet's direction answers to it after the run so far
abbrev pub offer_of : Fixed → Row → Facts → Offer
offer_of s w t = offer_after s.layout.depth s.capture.bytes w.stops w.members t

-- how many of the run's nodes still wait
abbrev pub waiting_of : Fixed → Row → ℕ
waiting_of s w = waiting_after s.layout.depth s.capture.bytes w.stops w.members

abbrev pub with_packet : Option Facts → List Facts → List Facts
with_packet None ms = ms
with_packet (Some t) ms = t ∷ ms

abbrev pub off : Reason → Bool → Off
off reason emergency = record { reason = reason; emergency = emergency }

-- a linked run is detached where the test says so
abbrev pub off_if : Bool → Off → Row → Row
off_if test o w = if is_linked w.place && test then record w { place = detached o } else w

-- the linked run of the packet's key is found, and takes the packet
abbrev pub takes : Bool → Row → Facts → Bool
takes emergency w t = is_linked w.place && has_key w.members t.key && not (is_expired w.members t.clock emergency) && not (is_reused w.members t)

abbrev pub joins : Fixed → ℕ → Bool → Row → Bool
joins s f emergency w = of_packet (bearing s.capture f) (λ t. takes emergency w t)

abbrev pub bears_key : Fixed → ℕ → Row → Bool
bears_key s f w = of_packet (bearing s.capture f) (λ t. has_key w.members t.key)

abbrev pub had_expired : Fixed → ℕ → Bool → Row → Bool
had_expired s f emergency w = of_packet (bearing s.capture f) (λ t. is_expired w.members t.clock emergency)

-- why a packet of its key, or the end of the capture, detaches a linked run
abbrev pub look_off : Fixed → ℕ → Bool → Row → Off
look_off s f emergency w = if had_expired s f emergency w then off Timeout emergency else off TcpReuse false

abbrev pub end_off : Fixed → Row → Off
end_off s w = if is_expired w.members (last_clock s) false then off Timeout false else off Shutdown false

-- what an entry makes of the row of run a
abbrev pub after : Fixed → ℕ → BucketNote → Row → Row
after s a (Found f emergency seen run said) w =
    if run == a then record w { members = with_packet (bearing s.capture f) w.members; uses = f ∷ w.uses; asks = is_needing said } else w
after s a (Missing f emergency seen ended) w = off_if (bears_key s f w) (look_off s f emergency w) w
after s a (Made f said) w =
    if f == a
    then record { place = linked; members = with_packet (bearing s.capture f) []; uses = f ∷ []; judged = []; asks = is_needing said; stops = no_stops; held = 0 }
    else w
after s a (Refused f) w = w
after s a (Stored f) w = if has w.uses f then record w { asks = false; held = w.held + 1 } else w
after s a (Stopped f) w = if has w.uses f then record w { asks = false; stops = stops_after (bearing s.capture f) w.members w.stops } else w
after s a (Closed f app run freed ended) w = if run == a then record w { uses = without f w.uses; judged = app ∷ w.judged; held = w.held - freed } else w
after s a (Idle f app) w = w
after s a (Victim f run) w = off_if (run == a) (off Forced false) w
after s a (AllInUse f count) w = w
after s a (Swept round emergency seen count) w = off_if (is_due s round emergency w.members) (off Timeout emergency) w
after s a (Drained count) w = off_if true (end_off s w) w

-- what a history says of run a
abbrev pub row : Fixed → ℕ → List (Entry BucketNote) → Row
row s a [] = blank
row s a (e ∷ past) = after s a e.note (row s a past)

-- the entry lets the run go
abbrev pub lets_go : Fixed → List (Entry BucketNote) → BucketNote → ℕ → Bool
lets_go s past n a = is_here (row s a past) && not (is_here (after s a n (row s a past)))

-- the runs that began
abbrev pub made_by : BucketNote → List ℕ → List ℕ
made_by (Made f said) runs = f ∷ runs
made_by (Found f emergency seen run said) runs = runs
made_by (Missing f emergency seen ended) runs = runs
made_by (Refused f) runs = runs
made_by (Stored f) runs = runs
made_by (Stopped f) runs = runs
made_by (Closed f app run freed ended) runs = runs
made_by (Idle f app) runs = runs
made_by (Victim f run) runs = runs
made_by (AllInUse f count) runs = runs
made_by (Swept round emergency seen count) runs = runs
made_by (Drained count) runs = runs

abbrev pub made : List (Entry BucketNote) → List ℕ
made [] = []
made (e ∷ past) = made_by e.note (made past)
