-- A flow object, and what it keeps of a run of packets beside the streams: session and class.
use Rattle.std.specs.Prelude.{ℕ, ◌+◌, ◌==◌, ◌||◌, Bool, if◌then◌else◌, List, [], ◌∷◌, length, Option, Some, None}
use Rattle.reassembly.specs.Kept.{KeptStream, held}
use Rattle.suri_base.specs.Keys.{other_side}
use Rattle.suri_base.specs.Protocols.{is_tcp}
use Rattle.suri_base.specs.declared.app.App.{App}
use Rattle.suri_base.specs.declared.facts.Facts.{Facts}
use Rattle.suri_base.specs.declared.facts.TcpFacts.{TcpFacts}
use Rattle.suri_base.specs.declared.facts.Way.{Way}
use Rattle.suri_base.specs.declared.key.Side.{Side}
use Rattle.flow_sum.specs.Run.{Run, first_of, members}
use Rattle.flow_sum.specs.Sums.{client_of, sent_by, way_of}
use Rattle.flow_sum.specs.declared.sums.Sums.{Sums}
use Rattle.tcp_session.specs.Event.{event_of}
use Rattle.tcp_session.specs.Moves.{next_state}
use Rattle.tcp_session.specs.Session.{Member, class_of, member, state_of}
use Rattle.tcp_session.specs.declared.classes.Class.{Class}
use Rattle.tcp_session.specs.declared.classes.Class.TheVariants as class
use Rattle.tcp_session.specs.declared.state.State.{State}

-- what contracts see of an object: its setting, which is the depth of its streams, and what it keeps
pub record Object : Type 0 where
  pub depth : ℕ
  pub sums : Sums
  pub state : State
  pub app : App
  pub ts : KeptStream
  pub tc : KeptStream

-- the frames at which its streams were stopped, 0 where one wasn't
pub record Stops : Type 0 where
  pub to_server : ℕ
  pub to_client : ℕ

abbrev pub no_stops : Stops
no_stops = record { to_server = 0; to_client = 0 }

abbrev pub stops_in : Object → Stops
stops_in o = record { to_server = o.ts.stop; to_client = o.tc.stop }

-- how many nodes it holds
abbrev pub nodes_in : Object → ℕ
nodes_in o = held o.ts + held o.tc

-- what a session sees of a packet: a segment for TCP, else nothing
abbrev pub with_segment : Option TcpFacts → Way → List Member → List Member
with_segment None way older = older
with_segment (Some tcp) way older = member tcp.flags way ∷ older

-- the state of a session after a packet
abbrev pub state_after : Option TcpFacts → Way → State → State
state_after None way state = state
state_after (Some tcp) way state = next_state state (event_of tcp.flags) way

-- the segments among some packets, where this side is the client
abbrev pub segments_of : Side → List Facts → List Member
segments_of client [] = []
segments_of client (f ∷ older) = with_segment f.tcp (way_of client f.side) (segments_of client older)

-- the state of the session of a run
abbrev pub session_of : Run → State
session_of r = state_of (segments_of (client_of (first_of r)) (members r))

-- a run in which only one of the sides sent
abbrev pub is_one_sided : Run → Bool
is_one_sided r =
    (length (sent_by (client_of (first_of r)) (members r)) == 0) || (length (sent_by (other_side (client_of (first_of r))) (members r)) == 0)

-- the class of a run: that of its session for TCP; for other protocols it is new until both sides have sent
abbrev pub class_of_run : Run → Class
class_of_run r = if is_tcp (first_of r).key.proto then class_of (session_of r) else (if is_one_sided r then class.New else class.Established)

-- the class that an object tells
abbrev pub class_in : Object → Class
class_in o =
    if is_tcp o.sums.key.proto then class_of o.state
    else (if (o.sums.ts.pkts == 0) || (o.sums.tc.pkts == 0) then class.New else class.Established)
