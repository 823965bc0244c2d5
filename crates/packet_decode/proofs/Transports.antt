-- From the IP header of a frame to its transport header.
use Rattle.std.proofs.Common.{◌≡◌, ℕ, List, Result, Ok, Err, sym, ap, ◌∙◌}
use Rattle.suri_base.specs.declared.counter.Counter.{Counter}
use Rattle.ip_decode.specs.Extensions.{and_then}
use Rattle.l4_decode.specs.declared.view.L4View.{L4View}
use Rattle.l4_decode.specs.Transport.{l4_of}
use Rattle.packet_decode.specs.declared.laws.Inner.{Inner}
use Rattle.packet_decode.specs.Frame.{to_ip_of}
use Rattle.packet_decode.specs.Layers.{payload_of, transport_of, view_of, with_transport}

-- a frame whose way ends before the IP payload
pub view_of-refused : (link : ℕ) (frame : List ℕ) (counter : Counter) → Err counter ≡ to_ip_of link frame → view_of link frame ≡ Err counter
unfolding view_of
view_of-refused link frame counter is = ap (and_then (transport_of frame)) (sym is)

-- a frame with an IP payload
pub view_of-inner : (link : ℕ) (frame : List ℕ) (inner : Inner) (l4 : Result L4View Counter) → Ok inner ≡ to_ip_of link frame
    → l4 ≡ l4_of inner.ip.version inner.ip.proto inner.ip.stated (payload_of frame inner) → view_of link frame ≡ and_then (λ v. Ok (with_transport inner v)) l4
unfolding view_of
view_of-inner link frame inner l4 is read = ap (and_then (transport_of frame)) (sym is) ∙ ap (and_then (λ v. Ok (with_transport inner v))) (sym read)
