-- The way from a frame down to its IP payload, or the first counter that applies.
use Rattle.std.specs.Prelude.{ℕ, ◌+◌, ◌-◌, ◌/◌, ◌||◌, ◌==◌, nat_lt, if◌then◌else◌, List, [], length, drop, slice_index, Result, Ok, Err}
use Rattle.suri_base.specs.declared.counter.Counter.{Counter}
use Rattle.suri_base.specs.declared.counter.Counter.TheVariants.{IpSmall, IpVersion, LinkSmall}
use Rattle.ip_decode.specs.declared.view.IpView.{IpView}
use Rattle.ip_decode.specs.Extensions.{and_then}
use Rattle.header_fields.specs.Fields.{number_at}
use Rattle.ip_decode.specs.Ip.{ip_of}
use Rattle.packet_decode.specs.declared.laws.Inner.{Inner}
use Rattle.packet_decode.specs.Tags.{Carried, behind_type, vlans_of}

-- without a link header: the first four bits are the version
abbrev pub raw_packet_of : List ℕ → Result Carried Counter
raw_packet_of frame =
    if length frame == 0 then Err IpSmall
    else (if (slice_index frame 0 / 16 == 4) || (slice_index frame 0 / 16 == 6) then Ok (record { ids = []; version = slice_index frame 0 / 16; packet = frame })
    else Err IpVersion)

-- behind a link header of this length, whose EtherType stands at this place; at most three tags, this project's own limit
abbrev pub headed_packet_of : ℕ → ℕ → List ℕ → Result Carried Counter
headed_packet_of size at frame =
    if nat_lt (length frame) size then Err LinkSmall else behind_type 3 (number_at 2 at frame) (drop size frame)

-- what a frame of this link type carries: Ethernet (1) has a header of 14 bytes with the EtherType at byte 12 (IEEE 802.3, clause 3.2),
-- Linux cooked capture (113) one of 16 bytes with the EtherType at byte 14 (tcpdump.org, 'LINKTYPE_LINUX_SLL'), raw IP none
unfoldable pub carried_by : ℕ → List ℕ → Result Carried Counter
carried_by link frame =
    if link == 1 then headed_packet_of 14 12 frame
    else (if link == 113 then headed_packet_of 16 14 frame
    else raw_packet_of frame)

-- the view of a packet that ends where the frame does, with places counted from the frame's start
abbrev pub in_frame : List ℕ → List ℕ → IpView → IpView
in_frame frame packet view = record view { pay_at = length frame - length packet + view.pay_at }

-- the tags and the IP header of what a frame carries
abbrev pub inner_of : List ℕ → Carried → Result Inner Counter
inner_of frame c = and_then (λ view. Ok (record { vlans = vlans_of c.ids; ip = in_frame frame c.packet view })) (ip_of c.version c.packet)

-- a frame of this link type down to its IP payload
unfoldable pub to_ip_of : ℕ → List ℕ → Result Inner Counter
to_ip_of link frame = and_then (inner_of frame) (carried_by link frame)
