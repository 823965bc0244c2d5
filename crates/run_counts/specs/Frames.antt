-- What is counted of the frames of a capture, by decoder counter.
use Rattle.std.specs.Prelude.{ℕ, ◌+◌, List}
use Rattle.suri_base.specs.Counters.{counted_under}
use Rattle.suri_base.specs.declared.counter.Counter.{Counter}
use Rattle.suri_base.specs.declared.counter.Counter.TheVariants.{LinkSmall, VlanSmall, VlanDeep, Ethertype, IpSmall, IpVersion, IpHeader, IpExtensions, Fragment, TcpSmall, TcpHeader, UdpSmall, IcmpSmall, OtherProto}
use Rattle.suri_base.specs.declared.seen.Seen.{Seen}
use Rattle.suri_base.specs.declared.seen.Seen.TheVariants.{Bears, Counted}
use Rattle.run_counts.specs.declared.counts.Counts.{Counts}

-- how many fall under each counter
unfoldable pub counts_of : List Seen → Counts
counts_of seen = record {
  link_small = counted_under LinkSmall seen;
  vlan_small = counted_under VlanSmall seen;
  vlan_deep = counted_under VlanDeep seen;
  ethertype = counted_under Ethertype seen;
  ip_small = counted_under IpSmall seen;
  ip_version = counted_under IpVersion seen;
  ip_header = counted_under IpHeader seen;
  ip_extensions = counted_under IpExtensions seen;
  fragment = counted_under Fragment seen;
  tcp_small = counted_under TcpSmall seen;
  tcp_header = counted_under TcpHeader seen;
  udp_small = counted_under UdpSmall seen;
  icmp_small = counted_under IcmpSmall seen;
  other_proto = counted_under OtherProto seen;
}

-- how many fall under a counter at all
abbrev pub all_counted : Counts → ℕ
all_counted c =
    c.link_small + c.vlan_small + c.vlan_deep + c.ethertype + c.ip_small + c.ip_version + c.ip_header + c.ip_extensions + c.fragment + c.tcp_small + c.tcp_header + c.udp_small
    + c.icmp_small + c.other_proto

-- one frame more under a counter
abbrev pub with_one_under : Counter → Counts → Counts
with_one_under LinkSmall c = record c { link_small = c.link_small + 1 }
with_one_under VlanSmall c = record c { vlan_small = c.vlan_small + 1 }
with_one_under VlanDeep c = record c { vlan_deep = c.vlan_deep + 1 }
with_one_under Ethertype c = record c { ethertype = c.ethertype + 1 }
with_one_under IpSmall c = record c { ip_small = c.ip_small + 1 }
with_one_under IpVersion c = record c { ip_version = c.ip_version + 1 }
with_one_under IpHeader c = record c { ip_header = c.ip_header + 1 }
with_one_under IpExtensions c = record c { ip_extensions = c.ip_extensions + 1 }
with_one_under Fragment c = record c { fragment = c.fragment + 1 }
with_one_under TcpSmall c = record c { tcp_small = c.tcp_small + 1 }
with_one_under TcpHeader c = record c { tcp_header = c.tcp_header + 1 }
with_one_under UdpSmall c = record c { udp_small = c.udp_small + 1 }
with_one_under IcmpSmall c = record c { icmp_small = c.icmp_small + 1 }
with_one_under OtherProto c = record c { other_proto = c.other_proto + 1 }

-- one frame more: one that bears a flow falls under no counter
abbrev pub with_frame : Seen → Counts → Counts
with_frame (Bears f) c = c
with_frame (Counted d) c = with_one_under d c
