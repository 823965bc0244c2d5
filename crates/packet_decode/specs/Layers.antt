-- A whole frame: down to its IP payload, then its transport header.
use Rattle.std.specs.Prelude.{ℕ, ◌+◌, List, take, drop, Result, Ok}
use Rattle.suri_base.specs.declared.counter.Counter.{Counter}
use Rattle.ip_decode.specs.Extensions.{and_then}
use Rattle.l4_decode.specs.declared.view.L4View.{L4View}
use Rattle.l4_decode.specs.Transport.{l4_of}
use Rattle.packet_decode.specs.declared.laws.Inner.{Inner}
use Rattle.packet_decode.specs.declared.whole.View.{View}
use Rattle.packet_decode.specs.Frame.{to_ip_of}

-- the captured bytes of the IP payload of a frame
abbrev pub payload_of : List ℕ → Inner → List ℕ
payload_of frame inner = take inner.ip.pay_len (drop inner.ip.pay_at frame)

-- the view with this transport header, whose places are counted from the frame's start
abbrev pub with_transport : Inner → L4View → View
with_transport inner l4 = record { vlans = inner.vlans; ip = inner.ip; l4 = record l4 { pay_at = inner.ip.pay_at + l4.pay_at } }

-- the transport header in the IP payload of a frame
abbrev pub transport_of : List ℕ → Inner → Result View Counter
transport_of frame inner = and_then (λ l4. Ok (with_transport inner l4)) (l4_of inner.ip.version inner.ip.proto inner.ip.stated (payload_of frame inner))

-- a frame of this link type, or the first counter that applies, in layer order
unfoldable pub view_of : ℕ → List ℕ → Result View Counter
view_of link frame = and_then (transport_of frame) (to_ip_of link frame)
