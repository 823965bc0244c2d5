-- When two packets are of one flow.
use Rattle.std.specs.Prelude.{◌≡◌, ◌⊎◌, ◌↔◌, ◌||◌, true, false, IsSome, IsTrue}
use Rattle.suri_base.specs.Protocols.{has_ports, is_icmp}
use Rattle.suri_base.specs.Vlans.{AreVlans, vlan_list}
use Rattle.packet_decode.specs.declared.whole.View.{View}
use Rattle.flow_key.specs.Ends.{destination_end, is_one_way, source_end}

-- a view of a packet that bears a flow: a protocol that is read, the facts of ICMP exactly for ICMP, and VLAN ids as they are kept
pub record IsKeyable (v : View) : Type 0 where
  pub protocol : IsTrue (has_ports v.ip.proto || is_icmp v.ip.version v.ip.proto)
  pub icmp : IsSome v.l4.icmp ↔ IsTrue (is_icmp v.ip.version v.ip.proto)
  pub vlans : AreVlans v.vlans

-- the same source and the same destination
abbrev pub SameOrdered : View → View → Type 0
SameOrdered v w = (source_end v ≡ source_end w) × (destination_end v ≡ destination_end w)

-- the source of each is the destination of the other
abbrev pub Answers : View → View → Type 0
Answers v w = (source_end v ≡ destination_end w) × (destination_end v ≡ source_end w)

-- the same tags, version and protocol, and the same two ends: in this order for one-way ICMP, in any order else
pub record SameFlow (v w : View) : Type 0 where
  pub vlans : vlan_list v.vlans ≡ vlan_list w.vlans
  pub version : v.ip.version ≡ w.ip.version
  pub protocol : v.ip.proto ≡ w.ip.proto
  pub one_way : is_one_way v ≡ true → SameOrdered v w
  pub paired : is_one_way v ≡ false → SameOrdered v w ⊎ Answers v w
