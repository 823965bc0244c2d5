-- When a run of packets is over for the next packet of its key: it has expired, or the packet reuses the key.
use Rattle.std.specs.Prelude.{ℕ, ◌&&◌, Bool, true, false, Option, Some, None}
use Rattle.suri_base.specs.Flags.{asks_syn}
use Rattle.suri_base.specs.declared.facts.Facts.{Facts}
use Rattle.suri_base.specs.declared.facts.TcpFacts.{TcpFacts}
use Rattle.flow_object.specs.Object.{Object, class_in, class_of_run}
use Rattle.flow_sum.specs.Run.{Run, first_of}
use Rattle.tcp_session.specs.declared.classes.Class.{Class}
use Rattle.tcp_session.specs.declared.classes.Class.TheVariants as class
use Rattle.timeout_table.specs.Expiry.{has_expired}
use Rattle.timeout_table.specs.Table.{timeout_of}

-- the clock has passed the run's last packet by more than the timeout of its protocol and class, from the emergency table or the normal one
abbrev pub expired : Run → ℕ → Bool → Bool
expired r clock emergency = has_expired r.newest.clock clock (timeout_of (first_of r).key.proto (class_of_run r) emergency)

-- a packet opens a connection: TCP that asks for one (RFC 9293, section 3.5)
abbrev pub opens : Option TcpFacts → Bool
opens None = false
opens (Some tcp) = asks_syn tcp.flags

abbrev pub is_closed : Class → Bool
is_closed class.New = false
is_closed class.Established = false
is_closed class.Closed = true

-- a packet opens a connection by the key of a run that is closed
abbrev pub reuses : Run → Facts → Bool
reuses r f = opens f.tcp && is_closed (class_of_run r)

-- what an object tells of both
abbrev pub object_expired : Object → ℕ → Bool → Bool
object_expired o clock emergency = has_expired o.sums.last_clock clock (timeout_of o.sums.key.proto (class_in o) emergency)

abbrev pub object_reused : Object → Facts → Bool
object_reused o f = opens f.tcp && is_closed (class_in o)
