-- EtherTypes and VLAN tags (IEEE 802.1Q, section 9.5).
use Rattle.std.specs.Prelude.{ℕ, zero, suc, ◌+◌, ◌^◌, ◌%◌, ◌<◌, ◌||◌, ◌==◌, nat_lt, Bool, if◌then◌else◌, List, [], ◌∷◌, ◌++◌, length, drop, slice_index, Result, Ok, Err}
use Rattle.suri_base.specs.declared.counter.Counter.{Counter}
use Rattle.suri_base.specs.declared.counter.Counter.TheVariants.{VlanDeep, VlanSmall, Ethertype}
use Rattle.suri_base.specs.declared.key.Vlans.{Vlans}
use Rattle.suri_base.specs.Vlans.{AreVlans}
use Rattle.ip_decode.specs.Extensions.{and_then}
use Rattle.header_fields.specs.Fields.{number_at}
use Rattle.packet_decode.specs.declared.tags.Network.{Network}

-- what a frame carries: the ids of its VLAN tags, the outermost first, the IP version, and the bytes of the packet
pub record Carried : Type 0 where
  pub ids : List ℕ
  pub version : ℕ
  pub packet : List ℕ

-- whether an EtherType is that of a tag: of a customer (0x8100) or of a provider (0x88a8) (IEEE 802.1Q, table 9-1)
abbrev pub is_tag : ℕ → Bool
is_tag ethertype = (ethertype == 0x8100) || (ethertype == 0x88a8)

-- the packet behind an EtherType that is no tag's: IPv4 (0x0800, RFC 894) or IPv6 (0x86dd, RFC 2464, section 3)
abbrev pub packet_of : ℕ → List ℕ → Result Carried Counter
packet_of ethertype bytes =
    if ethertype == 0x0800 then Ok (record { ids = []; version = 4; packet = bytes })
    else (if ethertype == 0x86dd then Ok (record { ids = []; version = 6; packet = bytes })
    else Err Ethertype)

-- the same packet inside tags with these ids
abbrev pub inside : List ℕ → Result Carried Counter → Result Carried Counter
inside ids carried = and_then (λ c. Ok (record { ids = ids ++ c.ids; version = c.version; packet = c.packet })) carried

-- what stands behind an EtherType, where so many tags may come; a tag has 4 bytes: the id in the low 12 bits of the first two (IEEE 802.1Q, section 9.6), and the next EtherType
unfoldable pub behind_type : ℕ → ℕ → List ℕ → Result Carried Counter
behind_type zero ethertype bytes = if is_tag ethertype then Err VlanDeep else packet_of ethertype bytes
behind_type (suc room) ethertype bytes =
    if is_tag ethertype then
    (if nat_lt (length bytes) 4 then Err VlanSmall
    else inside (number_at 2 0 bytes % 4096 ∷ []) (behind_type room (number_at 2 2 bytes) (drop 4 bytes)))
    else packet_of ethertype bytes

-- a list of at most three ids, with 0 in the places that are not used
abbrev pub vlans_of : List ℕ → Vlans
vlans_of ids = record { count = length ids; first = slice_index ids 0; second = slice_index ids 1; third = slice_index ids 2 }

-- these tags with one more inside them
abbrev pub with_id : Vlans → ℕ → Vlans
with_id v id =
    if v.count == 0 then record v { count = v.count + 1; first = id }
    else (if v.count == 1 then record v { count = v.count + 1; second = id }
    else record v { count = v.count + 1; third = id })

-- at most three ids, with 0 in the places that are not used, and each of twelve bits (IEEE 802.1Q, section 9.6)
pub record AreTags (v : Vlans) : Type 0 where
  pub listed : AreVlans v
  pub first_small : v.first < 2 ^ 12
  pub second_small : v.second < 2 ^ 12
  pub third_small : v.third < 2 ^ 12

-- what the code keeps of it: the tags, the version, and the length of the packet, which is the frame's end
abbrev pub network_of : Result Carried Counter → Result Network Counter
network_of carried = and_then (λ c. Ok (record { vlans = vlans_of c.ids; version = c.version; len = length c.packet })) carried
