-- The definition on a frame in which every field differs from every other.
use Rattle.std.proofs.Common.{◌≡◌, [], ◌∷◌, ◌++◌, None, Ok, refl}
use Rattle.header_fields.specs.Fields.{number_at}
use Rattle.ip_decode.specs.Ip.{ipv4_of}
use Rattle.l4_decode.specs.Transport.{l4_of, udp_of}
use Rattle.packet_decode.specs.Frame.{carried_by, to_ip_of}
use Rattle.packet_decode.specs.Layers.{view_of}
use Rattle.packet_decode.specs.Tags.{behind_type}

-- a provider's tag and a customer's, IPv4 without options, UDP with two bytes of payload, three bytes of padding
frame_is :
    view_of 1 ((0x02 ∷ 0x01 ∷ 0x03 ∷ 0x04 ∷ 0x05 ∷ 0x06 ∷ 0x12 ∷ 0x11 ∷ 0x13 ∷ 0x14 ∷ 0x15 ∷ 0x16 ∷ 0x88 ∷ 0xa8 ∷ 0xea ∷ 0xbc ∷ 0x81 ∷ 0x00 ∷ 0x5f ∷ 0x0f ∷ 0x08 ∷ 0x00 ∷ [])
    ++ (0x45 ∷ 0x21 ∷ 0x00 ∷ 0x1e ∷ 0x43 ∷ 0x65 ∷ 0x40 ∷ 0x00 ∷ 0x37 ∷ 0x11 ∷ 0xa9 ∷ 0xcb ∷ 0x0a ∷ 0x0b ∷ 0x0c ∷ 0x0d ∷ 0xc0 ∷ 0xa8 ∷ 0x01 ∷ 0xfe ∷ [])
    ++ (0x03 ∷ 0xe8 ∷ 0x07 ∷ 0xd0 ∷ 0x00 ∷ 0x0a ∷ 0x31 ∷ 0x32 ∷ 0x71 ∷ 0x72 ∷ 0x91 ∷ 0x92 ∷ 0x93 ∷ []))
    ≡ Ok (record {
      vlans = record { count = 2; first = 0xabc; second = 0xf0f; third = 0 };
      ip = record { version = 4; src = 0x0a0b0c0d; dst = 0xc0a801fe; ttl = 0x37; proto = 0x11; pay_at = 42; pay_len = 10; stated = 10 };
      l4 = record { sport = 1000; dport = 2000; tcp = None; icmp = None; pay_at = 50; pay_len = 2 };
    })
unfolding view_of to_ip_of carried_by behind_type ipv4_of l4_of udp_of number_at
frame_is = refl
