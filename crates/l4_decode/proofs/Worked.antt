-- The definitions on headers in which every field differs from every other.
use Rattle.std.proofs.Common.{◌≡◌, [], ◌∷◌, Some, None, Ok, refl}
use Rattle.header_fields.specs.Fields.{number_at}
use Rattle.l4_decode.specs.Transport.{icmp_of, l4_of, tcp_of, udp_of}

-- one word of options and three bytes of payload
tcp_segment_is :
    l4_of 4 6 27 (0x03 ∷ 0xe8 ∷ 0x07 ∷ 0xd0 ∷ 0x11 ∷ 0x12 ∷ 0x13 ∷ 0x14 ∷ 0x21 ∷ 0x22 ∷ 0x23 ∷ 0x24 ∷ 0x6f ∷ 0xd9 ∷ 0x31 ∷ 0x32 ∷ 0x33 ∷ 0x34 ∷ 0x35 ∷ 0x36
    ∷ 0x02 ∷ 0x04 ∷ 0x05 ∷ 0xb4 ∷ 0x71 ∷ 0x72 ∷ 0x73 ∷ [])
    ≡ Ok (record { sport = 1000; dport = 2000; tcp = Some (record { seq = 0x11121314; ack = 0x21222324; flags = 0xd9 }); icmp = None; pay_at = 24; pay_len = 3 })
unfolding l4_of tcp_of number_at
tcp_segment_is = refl

-- three bytes of payload and two of padding
udp_datagram_is :
    l4_of 6 17 13 (0x03 ∷ 0xe8 ∷ 0x07 ∷ 0xd0 ∷ 0x00 ∷ 0x0b ∷ 0x31 ∷ 0x32 ∷ 0x71 ∷ 0x72 ∷ 0x73 ∷ 0x91 ∷ 0x92 ∷ [])
    ≡ Ok (record { sport = 1000; dport = 2000; tcp = None; icmp = None; pay_at = 8; pay_len = 3 })
unfolding l4_of udp_of number_at
udp_datagram_is = refl

-- host unreachable, with four bytes behind the header
icmp_message_is :
    l4_of 4 1 8 (0x03 ∷ 0x01 ∷ 0x31 ∷ 0x32 ∷ 0x41 ∷ 0x42 ∷ 0x43 ∷ 0x44 ∷ [])
    ≡ Ok (record { sport = 0; dport = 0; tcp = None; icmp = Some (record { kind = 3; code = 1 }); pay_at = 8; pay_len = 0 })
unfolding l4_of icmp_of
icmp_message_is = refl
