-- From what a frame carries to its IP header.
use Rattle.std.proofs.Common.{◌≡◌, ℕ, ◌+◌, ◌-◌, List, length, drop, Result, Ok, Err, refl, sym, ap, ◌∙◌, subst}
use Rattle.suri_base.specs.declared.counter.Counter.{Counter}
use Rattle.ip_decode.specs.declared.view.IpView.{IpView}
use Rattle.ip_decode.specs.Extensions.{and_then}
use Rattle.ip_decode.specs.Ip.{ip_of}
use Rattle.packet_decode.specs.declared.laws.Inner.{Inner}
use Rattle.packet_decode.specs.declared.tags.Network.{Network}
use Rattle.packet_decode.specs.Frame.{carried_by, in_frame, inner_of, to_ip_of}
use Rattle.packet_decode.specs.Tags.{Carried, network_of, vlans_of}
use Rattle.packet_decode.proofs.Ends.{EndsIn, carried_by-end, ends_in-drop}

-- the answer for a frame that carries this packet, made of what the IP header says
abbrev pub answer_of : List ℕ → Network → Result IpView Counter → Result Inner Counter
answer_of frame n view = and_then (λ (v : IpView). Ok (record { vlans = n.vlans; ip = record v { pay_at = length frame - n.len + v.pay_at } })) view

with_packet : (frame : List ℕ) (c : Carried) (view : Result IpView Counter) → EndsIn frame c.packet
    → view ≡ ip_of c.version (drop (length frame - length c.packet) frame)
    → inner_of frame c ≡ answer_of frame (record { vlans = vlans_of c.ids; version = c.version; len = length c.packet }) view
with_packet frame c view ends is =
    let same : ip_of c.version c.packet ≡ view = ap (ip_of c.version) (ends_in-drop frame c.packet ends) ∙ sym is in
    ap (and_then (λ (v : IpView). Ok (record { vlans = vlans_of c.ids; ip = in_frame frame c.packet v }))) same

walked : (frame : List ℕ) (carried : Result Carried Counter) (n : Network) (view : Result IpView Counter) → Ok n ≡ network_of carried
    → ((c : Carried) → carried ≡ Ok c → EndsIn frame c.packet) → view ≡ ip_of n.version (drop (length frame - n.len) frame)
    → and_then (inner_of frame) carried ≡ answer_of frame n view
walked frame (Err counter) n view is ends read = absurd (cc)
walked frame (Ok c) n view is ends read =
    let same : n ≡ record { vlans = vlans_of c.ids; version = c.version; len = length c.packet } = cc in
    let Goal : Network → Type 0 = λ m. view ≡ ip_of m.version (drop (length frame - m.len) frame) → inner_of frame c ≡ answer_of frame m view in
    subst Goal (sym same) (λ here. with_packet frame c view (ends c refl) here) read

-- a frame that carries an IP packet
pub to_ip_of-network : (link : ℕ) (frame : List ℕ) (n : Network) (view : Result IpView Counter) → Ok n ≡ network_of (carried_by link frame)
    → view ≡ ip_of n.version (drop (length frame - n.len) frame) → to_ip_of link frame ≡ answer_of frame n view
unfolding to_ip_of
to_ip_of-network link frame n view is read = walked frame (carried_by link frame) n view is (carried_by-end link frame) read

refused : (frame : List ℕ) (carried : Result Carried Counter) (counter : Counter) → Err counter ≡ network_of carried → and_then (inner_of frame) carried ≡ Err counter
refused frame (Ok c) counter is = absurd (cc)
refused frame (Err other) counter is = cc

-- a frame that carries none
pub to_ip_of-fault : (link : ℕ) (frame : List ℕ) (counter : Counter) → Err counter ≡ network_of (carried_by link frame) → to_ip_of link frame ≡ Err counter
unfolding to_ip_of
to_ip_of-fault link frame counter is = refused frame (carried_by link frame) counter is
