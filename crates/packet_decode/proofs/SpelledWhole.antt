-- A frame whose headers are all spelled from fields is read as just those fields.
use Rattle.std.proofs.Common.{◌≡◌, ℕ, ◌+◌, List, length, take, drop, Result, Ok, refl, sym, ap, ◌∙◌, inl, inr}
use Rattle.std.proofs.lemmas.List.{drop_at, drop-drop}
use Rattle.suri_base.specs.declared.counter.Counter.{Counter}
use Rattle.ip_decode.specs.declared.view.IpView.{IpView}
use Rattle.ip_decode.specs.Extensions.{and_then}
use Rattle.ip_decode.specs.Ip.{ip_of, ipv4_of, ipv6_of}
use Rattle.ip_decode.specs.Spelled4.{ipv4_answer, ipv4_fields_view}
use Rattle.ip_decode.specs.Spelled6.{ipv6_fields_view}
use Rattle.ip_decode.proofs.Spelled4.{ipv4-spelled, payload-spelled4}
use Rattle.ip_decode.proofs.Spelled6.{ipv6-spelled, payload-spelled6}
use Rattle.l4_decode.specs.declared.view.L4View.{L4View}
use Rattle.l4_decode.specs.Transport.{icmp_of, l4_of, tcp_of, udp_of}
use Rattle.l4_decode.proofs.Spelled.{icmp-spelled, l4_of-icmp, l4_of-tcp, l4_of-udp, tcp-spelled, udp-spelled}
use Rattle.packet_decode.specs.declared.whole.View.{View}
use Rattle.packet_decode.specs.Frame.{to_ip_of}
use Rattle.packet_decode.specs.Layers.{payload_of, transport_of, view_of, with_transport}
use Rattle.packet_decode.specs.Spelled.{FrameFields, IsFrame, ReadsWhole, SpellsIp, SpellsTransport, frame, packet_at, tagged, whole_view}
use Rattle.packet_decode.proofs.SpelledFrame.{frame-spelled, header_bytes, length-header}

-- what the packet is read as
ip_is : (version : ℕ) (packet : List ℕ) (view : IpView) (payload : List ℕ) → SpellsIp version packet view payload → ip_of version packet ≡ Ok view
ip_is version packet view payload (inl four) =
    let v : version ≡ 4 = four.0 in
    let s = four.1 in
    let chosen : ip_of version packet ≡ ipv4_of packet = rw v refl in
    let answer : ipv4_answer s.fields ≡ Ok (ipv4_fields_view s.fields) = rw (s.last, s.first) refl in
    chosen ∙ ap ipv4_of s.packet_is ∙ ipv4-spelled s.fields s.are ∙ answer ∙ ap (λ (w : IpView). Ok w) (sym s.view_is)
ip_is version packet view payload (inr six) =
    let v : version ≡ 6 = six.0 in
    let s = six.1 in
    let chosen : ip_of version packet ≡ ipv6_of packet = rw v refl in
    chosen ∙ ap ipv6_of s.packet_is ∙ ipv6-spelled s.fields s.are ∙ ap (λ (w : IpView). Ok w) (sym s.view_is)

-- where its payload stands
payload_is : (version : ℕ) (packet : List ℕ) (view : IpView) (payload : List ℕ) → SpellsIp version packet view payload → take view.pay_len (drop view.pay_at packet) ≡ payload
payload_is version packet view payload (inl four) =
    let s = four.1 in
    ap (λ (w : IpView). take w.pay_len (drop w.pay_at packet)) s.view_is
    ∙ ap (λ (p : List ℕ). take (length s.fields.payload) (drop (20 + length s.fields.options) p)) s.packet_is ∙ payload-spelled4 s.fields ∙ sym s.payload_is
payload_is version packet view payload (inr six) =
    let s = six.1 in
    ap (λ (w : IpView). take w.pay_len (drop w.pay_at packet)) s.view_is
    ∙ ap (λ (p : List ℕ). take (ipv6_fields_view s.fields).pay_len (drop (ipv6_fields_view s.fields).pay_at p)) s.packet_is ∙ payload-spelled6 s.fields ∙ sym s.payload_is

-- what the payload is read as
l4_is : (ip : IpView) (payload : List ℕ) (view : L4View) → SpellsTransport ip payload view → l4_of ip.version ip.proto ip.stated payload ≡ Ok view
l4_is ip payload view (inl tcp) =
    let s = tcp.1 in
    l4_of-tcp ip.version ip.proto ip.stated payload tcp.0 ∙ ap (tcp_of ip.stated) s.payload_is ∙ tcp-spelled ip.stated s.fields s.are s.stated_whole ∙ ap (λ (w : L4View). Ok w) (sym s.view_is)
l4_is ip payload view (inr (inl udp)) =
    let s = udp.1 in
    l4_of-udp ip.version ip.proto ip.stated payload udp.0 ∙ ap udp_of s.payload_is ∙ udp-spelled s.fields s.are ∙ ap (λ (w : L4View). Ok w) (sym s.view_is)
l4_is ip payload view (inr (inr icmp)) =
    let s = icmp.1 in
    l4_of-icmp ip.version ip.proto ip.stated payload icmp.0 ∙ ap icmp_of s.payload_is ∙ icmp-spelled s.fields ∙ ap (λ (w : L4View). Ok w) (sym s.view_is)

whole-spelled : (link : ℕ) (f : FrameFields) (ip : IpView) (payload : List ℕ) (l4 : L4View) → IsFrame link f → SpellsIp f.version f.packet ip payload → SpellsTransport ip payload l4
    → view_of link (frame f) ≡ Ok (whole_view f ip l4)
unfolding view_of
whole-spelled link f ip payload l4 is packet transport =
    let inner : to_ip_of link (frame f) ≡ Ok (tagged f ip) = frame-spelled link f is ∙ ap (and_then (λ view. Ok (tagged f view))) (ip_is f.version f.packet ip payload packet) in
    let behind : drop (packet_at f) (frame f) ≡ f.packet = drop_at (header_bytes f) f.packet (packet_at f) (length-header f) in
    let here : payload_of (frame f) (tagged f ip) ≡ payload =
    ap (take ip.pay_len) (sym (drop-drop ip.pay_at (packet_at f) (frame f)) ∙ ap (drop ip.pay_at) behind) ∙ payload_is f.version f.packet ip payload packet in
    ap (and_then (transport_of (frame f))) inner
    ∙ ap (λ (p : List ℕ). and_then (λ (v : L4View). Ok (with_transport (tagged f ip) v)) (l4_of ip.version ip.proto ip.stated p)) here
    ∙ ap (and_then (λ (v : L4View). Ok (with_transport (tagged f ip) v))) (l4_is ip payload l4 transport)

pub reads_whole : (link : ℕ) (bytes : List ℕ) (result : Result View Counter) → result ≡ view_of link bytes → ReadsWhole link bytes result
reads_whole link bytes result read f ip payload l4 is packet transport spelled =
    read ∙ ap (view_of link) spelled ∙ whole-spelled link f ip payload l4 is packet transport
