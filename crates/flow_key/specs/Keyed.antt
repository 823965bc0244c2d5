-- The key of a packet, and which end of it sent the packet.
use Rattle.std.specs.Prelude.{◌||◌, Bool, if◌then◌else◌}
use Rattle.suri_base.specs.Keys.{is_at_most}
use Rattle.suri_base.specs.declared.key.Side.TheVariants.{FromA, FromB}
use Rattle.packet_decode.specs.declared.whole.View.{View}
use Rattle.flow_key.specs.declared.keyed.Keyed.{Keyed}
use Rattle.flow_key.specs.Ends.{destination_end, is_one_way, source_end}

-- whether the source is the first end: in a one-way key always, else where it is at most the destination
abbrev pub source_first : View → Bool
source_first v = is_one_way v || is_at_most (source_end v) (destination_end v)

unfoldable pub keyed_of : View → Keyed
keyed_of v = record {
  key = record {
    vlans = v.vlans;
    version = v.ip.version;
    proto = v.ip.proto;
    one_way = is_one_way v;
    a = if source_first v then source_end v else destination_end v;
    b = if source_first v then destination_end v else source_end v;
  };
  side = if source_first v then FromA else FromB;
}
