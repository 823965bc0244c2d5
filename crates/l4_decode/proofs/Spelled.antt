-- Transport headers that are spelled from fields are read as those fields.
use Rattle.std.proofs.Common.{◌≡◌, ℕ, ◌+◌, ◌-◌, ◌≤◌, List, length, min, Some, None, Result, Ok, refl, ap, ◌∙◌, arith, inl, inr, length-append}
use Rattle.std.specs.Prelude.{IsTrue}
use Rattle.std.proofs.lemmas.Bool.Decides.{nat_tests}
use Rattle.suri_base.specs.declared.counter.Counter.{Counter}
use Rattle.suri_base.specs.Protocols.{is_icmp}
use Rattle.header_fields.specs.Fields.{number_at}
use Rattle.header_fields.proofs.Spelled.{half-spelled, word-spelled}
use Rattle.l4_decode.specs.declared.view.L4View.{L4View}
use Rattle.l4_decode.specs.Spelled.{IcmpFields, IsTcp, IsUdp, ReadsIcmp, ReadsTcp, ReadsUdp, TcpFields, UdpFields, icmp_fields_view, icmp_message, tcp_fields_view, tcp_header_len, tcp_segment, udp_datagram, udp_fields_view, udp_len}
use Rattle.l4_decode.specs.Transport.{data_offset, datagram_len, icmp_of, l4_of, tcp_of, tcp_view, udp_of}

tcp_of-whole : (stated : ℕ) (bytes : List ℕ) → 20 ≤ length bytes → 20 ≤ data_offset bytes → data_offset bytes ≤ stated → tcp_of stated bytes ≡ Ok (tcp_view bytes)
unfolding tcp_of
tcp_of-whole stated bytes long least fits = grind (arith, nat_tests)

-- the view of these numbers
tcp_made_of : (sport dport seq ack offset size : ℕ) (f : TcpFields) → sport ≡ f.source_port → dport ≡ f.destination_port → seq ≡ f.sequence → ack ≡ f.acknowledgement
    → offset ≡ 20 + length f.options → size ≡ 20 + length f.options + length f.payload
    → record {
      sport = sport;
      dport = dport;
      tcp = Some (record { seq = seq; ack = ack; flags = f.flags });
      icmp = None;
      pay_at = min offset size;
      pay_len = size - offset;
    } ≡ tcp_fields_view f
tcp_made_of sport dport seq ack offset size f e1 e2 e3 e4 e5 e6 =
    let at : min offset size ≡ 20 + length f.options = omega (arith, e5, e6) in
    let pay : size - offset ≡ length f.payload = omega (arith, e5, e6) in
    rw (at, pay, e1, e2, e3, e4) refl

length-segment : (f : TcpFields) → length (tcp_segment f) ≡ 20 + length f.options + length f.payload
length-segment f = let all = length-append f.options f.payload in omega (arith, all)

pub tcp-spelled : (stated : ℕ) (f : TcpFields) → IsTcp f → tcp_header_len f ≤ stated → tcp_of stated (tcp_segment f) ≡ Ok (tcp_fields_view f)
tcp-spelled stated f is fits =
    let sport : number_at 2 0 (tcp_segment f) ≡ f.source_port = half-spelled 0 f.source_port (tcp_segment f) _ is.source_port refl in
    let dport : number_at 2 2 (tcp_segment f) ≡ f.destination_port = half-spelled 2 f.destination_port (tcp_segment f) _ is.destination_port refl in
    let seq : number_at 4 4 (tcp_segment f) ≡ f.sequence = word-spelled 4 f.sequence (tcp_segment f) _ is.sequence refl in
    let ack : number_at 4 8 (tcp_segment f) ≡ f.acknowledgement = word-spelled 8 f.acknowledgement (tcp_segment f) _ is.acknowledgement refl in
    let offset : data_offset (tcp_segment f) ≡ 20 + length f.options = omega (arith, is.reserved, is.words, is.few) in
    let size = length-segment f in
    let view = tcp_made_of (number_at 2 0 (tcp_segment f)) (number_at 2 2 (tcp_segment f)) (number_at 4 4 (tcp_segment f)) (number_at 4 8 (tcp_segment f))
    (data_offset (tcp_segment f)) (length (tcp_segment f)) f sport dport seq ack offset size in
    tcp_of-whole stated (tcp_segment f) (omega (arith, size)) (omega (arith, offset)) (omega (arith, offset, fits)) ∙ ap (λ (v : L4View). Ok v) view

-- a view of ports alone
abbrev ports_view : ℕ → ℕ → ℕ → L4View
ports_view sport dport len = record { sport = sport; dport = dport; tcp = None; icmp = None; pay_at = 8; pay_len = len }

udp_of-whole : (bytes : List ℕ) → 8 ≤ length bytes → udp_of bytes ≡ Ok (ports_view (number_at 2 0 bytes) (number_at 2 2 bytes) (min (datagram_len bytes) (length bytes) - 8))
unfolding udp_of
udp_of-whole bytes long = grind (arith, nat_tests)

udp_payload : (f : UdpFields) → IsUdp f → min (datagram_len (udp_datagram f)) (length (udp_datagram f)) - 8 ≡ length f.payload
udp_payload f is =
    let stated : number_at 2 4 (udp_datagram f) ≡ udp_len f = half-spelled 4 (udp_len f) (udp_datagram f) _ is.total refl in
    let whole : datagram_len (udp_datagram f) ≡ udp_len f = grind (arith, nat_tests, stated) in
    let size = length-append f.payload f.padding in
    elim (is.end) [
      | inl all ↦ omega (arith, whole, size, all)
      | inr none ↦ let empty : length f.padding ≡ 0 = ap length none in omega (arith, whole, size, empty)
    ]

pub udp-spelled : (f : UdpFields) → IsUdp f → udp_of (udp_datagram f) ≡ Ok (udp_fields_view f)
udp-spelled f is =
    let sport : number_at 2 0 (udp_datagram f) ≡ f.source_port = half-spelled 0 f.source_port (udp_datagram f) _ is.source_port refl in
    let dport : number_at 2 2 (udp_datagram f) ≡ f.destination_port = half-spelled 2 f.destination_port (udp_datagram f) _ is.destination_port refl in
    udp_of-whole (udp_datagram f) (omega arith)
    ∙ ap (λ n. Ok (ports_view n (number_at 2 2 (udp_datagram f)) (min (datagram_len (udp_datagram f)) (length (udp_datagram f)) - 8))) sport
    ∙ ap (λ n. Ok (ports_view f.source_port n (min (datagram_len (udp_datagram f)) (length (udp_datagram f)) - 8))) dport
    ∙ ap (λ n. Ok (ports_view f.source_port f.destination_port n)) (udp_payload f is)

pub icmp-spelled : (f : IcmpFields) → icmp_of (icmp_message f) ≡ Ok (icmp_fields_view f)
unfolding icmp_of
icmp-spelled f = grind (arith, nat_tests)

-- so whatever is read by the definition is read so
pub reads_tcp : (stated : ℕ) (bytes : List ℕ) (result : Result L4View Counter) → result ≡ tcp_of stated bytes → ReadsTcp stated bytes result
reads_tcp stated bytes result read f is fits spelled = read ∙ ap (tcp_of stated) spelled ∙ tcp-spelled stated f is fits

pub reads_udp : (bytes : List ℕ) (result : Result L4View Counter) → result ≡ udp_of bytes → ReadsUdp bytes result
reads_udp bytes result read f is spelled = read ∙ ap udp_of spelled ∙ udp-spelled f is

pub reads_icmp : (bytes : List ℕ) (result : Result L4View Counter) → result ≡ icmp_of bytes → ReadsIcmp bytes result
reads_icmp bytes result read f spelled = read ∙ ap icmp_of spelled ∙ icmp-spelled f

-- the definition for each protocol
pub l4_of-tcp : (version proto stated : ℕ) (bytes : List ℕ) → proto ≡ 6 → l4_of version proto stated bytes ≡ tcp_of stated bytes
unfolding l4_of
l4_of-tcp version proto stated bytes six = rw six refl

pub l4_of-udp : (version proto stated : ℕ) (bytes : List ℕ) → proto ≡ 17 → l4_of version proto stated bytes ≡ udp_of bytes
unfolding l4_of
l4_of-udp version proto stated bytes seventeen = rw seventeen refl

pub l4_of-icmp : (version proto stated : ℕ) (bytes : List ℕ) → IsTrue (is_icmp version proto) → l4_of version proto stated bytes ≡ icmp_of bytes
unfolding l4_of
l4_of-icmp version proto stated bytes icmp = grind (arith, nat_tests, icmp)
