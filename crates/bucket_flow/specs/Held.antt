-- What contracts see of a bucket's flow, and what one call makes of it.
use Rattle.std.specs.Prelude.{◌≡◌, ℕ, ◌+◌, ◌*◌, ◌<◌, ◌≤◌, ◌==◌, ◌^◌, Bool, true, false, not, ◌&&◌, ◌||◌, if◌then◌else◌, List, [], ◌∷◌, Option, Some, None}
use Rattle.std.specs.Option.{is_some}
use Rattle.suri_base.specs.App.{payload_of}
use Rattle.suri_base.specs.Capture.{Captured, HasFacts}
use Rattle.suri_base.specs.Keys.{same_key}
use Rattle.suri_base.specs.declared.app.App.{App}
use Rattle.suri_base.specs.declared.facts.Facts.{Facts}
use Rattle.suri_base.specs.declared.key.Key.{Key}
use Rattle.suri_base.specs.declared.reason.Reason.TheVariants.{Timeout, TcpReuse, Shutdown}
use Rattle.suri_base.specs.declared.stream.Offer.{Offer}
use Rattle.flow_sum.specs.Run.{Run, alone, with_one_more}
use Rattle.flow_object.specs.Object.{Object, no_stops, nodes_in, stops_in}
use Rattle.flow_object.specs.Standing.{AsksFor, StandsFor, stopped_at_newest}
use Rattle.flow_object.specs.Streams.{first_offer, offer_in}
use Rattle.flow_object.specs.Ending.{EndedFlow}
use Rattle.flow_expiry.specs.Expiry.{object_expired, object_reused}
use Rattle.bucket_rules.specs.Own.{is_needing}
use Rattle.bucket_rules.specs.Row.{Off, Place, unbegun, linked, detached, off, is_linked, is_none_of, has}
use Rattle.bucket_flow.specs.declared.flow.Cause.{Cause}

-- a flow: its run, how it stands, the frames that use it, for how many more there is room, and its object
pub record Held : Type 0 where
  pub run : ℕ
  pub place : Place
  pub uses : List ℕ
  pub room : ℕ
  pub obj : Object

abbrev pub place_of : Option Cause → Place
place_of None = linked
place_of (Some c) = detached (off c.reason c.emergency)

-- the facts of this frame, in range
pub record IsFine (c : Captured) (f : ℕ) (t : Facts) : Type 0 where
  pub number : t.no ≡ f
  pub facts : HasFacts c t.no t
  pub positive : 1 ≤ t.no
  pub small : t.no < 2 ^ 32
  pub clock : t.clock < 2 ^ 63
  pub len : t.len < 2 ^ 32

abbrev pub one_if : Bool → ℕ
one_if true = 1
one_if false = 0

-- how many packets are counted, and how many of them ask for a node
abbrev pub packets_in : Object → ℕ
packets_in o = o.sums.ts.pkts + o.sums.tc.pkts

abbrev pub asking_in : Object → ℕ
asking_in o = one_if (is_some o.ts.asked) + one_if (is_some o.tc.asked)

-- an object whose counts stay in range: no more packets than frames up to the last, each shorter than 2 ^ 32, and a node for each at most
pub record IsSmall (o : Object) : Type 0 where
  pub packets : packets_in o ≤ o.sums.last_no
  pub to_server : o.sums.ts.bytes ≤ o.sums.ts.pkts * 2 ^ 32
  pub to_client : o.sums.tc.bytes ≤ o.sums.tc.pkts * 2 ^ 32
  pub last : o.sums.last_no < 2 ^ 32
  pub clock : o.sums.last_clock < 2 ^ 63
  pub nodes : nodes_in o + asking_in o ≤ packets_in o

-- the object stands for a run, but for the newest packet where that still asks for a node
abbrev pub StandsIf : Bool → Object → List ℕ → Run → List App → Type 0
StandsIf true o bytes r judged = AsksFor o bytes r judged
StandsIf false o bytes r judged = StandsFor o bytes r judged

-- the flow is linked and has this key; a frame uses it; it is linked and unused
abbrev pub linked_with : Key → Held → Bool
linked_with k f = is_linked f.place && same_key f.obj.sums.key k

abbrev pub used_by : ℕ → Held → Bool
used_by f g = has g.uses f

abbrev pub is_unused_held : Held → Bool
is_unused_held f = is_linked f.place && is_none_of f.uses

abbrev pub cause : Off → Cause
cause o = record { reason = o.reason; emergency = o.emergency }

-- why a packet of its key detaches a flow, where it does
abbrev pub cut_at : Object → Facts → Bool → Option Cause
cut_at o t emergency =
    if object_expired o t.clock emergency then Some (record { reason = Timeout; emergency = emergency })
    else (if object_reused o t then Some (record { reason = TcpReuse; emergency = false }) else None)

-- the packet began the flow, in an object of that setting, and its stream gave that answer
pub record IsMade (bytes : List ℕ) (t : Facts) (setting : ℕ) (said : Offer) (g : Held) : Type 0 where
  pub run : g.run ≡ t.no
  pub place : g.place ≡ linked
  pub uses : (u : ℕ) → has g.uses u ≡ ((t.no == u) || false)
  pub depth : g.obj.depth ≡ setting
  pub stops : stops_in g.obj ≡ no_stops
  pub nodes : nodes_in g.obj ≡ 0
  pub offer : said ≡ first_offer setting t.pay_at (payload_of bytes t) t
  pub object : StandsFor g.obj bytes (alone t) []

-- the packet joined the flow f, which is g now, and its stream gave that answer
pub record Joined (bytes : List ℕ) (t : Facts) (said : Offer) (f g : Held) : Type 0 where
  pub run : g.run ≡ f.run
  pub place : g.place ≡ f.place
  pub uses : (u : ℕ) → has g.uses u ≡ ((t.no == u) || has f.uses u)
  pub depth : g.obj.depth ≡ f.obj.depth
  pub stops : stops_in g.obj ≡ stops_in f.obj
  pub nodes : nodes_in g.obj ≡ nodes_in f.obj
  pub offer : (r : Run) (judged : List App) → StandsFor f.obj bytes r judged → said ≡ offer_in f.obj bytes r t
  pub object : (r : Run) (judged : List App) → StandsFor f.obj bytes r judged → StandsIf (is_needing said) g.obj bytes (with_one_more t r) judged

-- the newest packet of the flow f was stored, or stopped its stream; the flow is g now
pub record Settled (bytes : List ℕ) (stored : Bool) (f g : Held) : Type 0 where
  pub run : g.run ≡ f.run
  pub place : g.place ≡ f.place
  pub uses : g.uses ≡ f.uses
  pub depth : g.obj.depth ≡ f.obj.depth
  pub nodes : nodes_in g.obj ≡ nodes_in f.obj + one_if stored
  pub stops : (r : Run) (judged : List App) → AsksFor f.obj bytes r judged
      → stops_in g.obj ≡ (if stored then stops_in f.obj else stopped_at_newest r (stops_in f.obj))
  pub object : (r : Run) (judged : List App) → AsksFor f.obj bytes r judged → StandsFor g.obj bytes r judged

-- the frame's use of the flow f ended with that verdict, and so many nodes were handed out, all that no longer waited; the flow is g now
pub record Closed (frame : ℕ) (app : App) (count : ℕ) (f g : Held) : Type 0 where
  pub run : g.run ≡ f.run
  pub place : g.place ≡ f.place
  pub uses : (u : ℕ) → has g.uses u ≡ (has f.uses u && not (u == frame))
  pub depth : g.obj.depth ≡ f.obj.depth
  pub stops : stops_in g.obj ≡ stops_in f.obj
  pub nodes : nodes_in g.obj + count ≡ nodes_in f.obj
  pub freed : count ≡ f.obj.ts.freed + f.obj.tc.freed
  pub object : (bytes : List ℕ) (r : Run) (judged : List App) → StandsFor f.obj bytes r judged → StandsFor g.obj bytes r (app ∷ judged)

-- the flow is detached
abbrev pub off_by : Cause → Held → Held
off_by c f = record f { place = detached (off c.reason c.emergency) }

abbrev pub is_detached : Place → Bool
is_detached unbegun = false
is_detached linked = false
is_detached (detached o) = true

-- nothing keeps the flow in the bucket
abbrev pub leaves : Held → Bool
leaves f = is_detached f.place && is_none_of f.uses

-- what a flow leaves as
abbrev pub ended_by : Off → Held → EndedFlow
ended_by o f = record { run = f.run; reason = o.reason; emergency = o.emergency; obj = f.obj }

abbrev pub off_of : Place → Off
off_of unbegun = off Shutdown false
off_of linked = off Shutdown false
off_of (detached o) = o

abbrev pub ended_of : Held → EndedFlow
ended_of f = ended_by (off_of f.place) f

abbrev pub gone_place : Place → Option Cause
gone_place unbegun = None
gone_place linked = None
gone_place (detached o) = Some (cause o)

-- why it was detached, where nothing uses it any more
abbrev pub gone_by : Held → Option Cause
gone_by f = if is_none_of f.uses then gone_place f.place else None
