-- Counts that are told one by one are the counts of a run.
use Rattle.std.proofs.Common.{◌≡◌, List, length, ap, sym, ◌∙◌}
use Rattle.std.specs.Prelude.{count_by, sum_by}
use Rattle.suri_base.specs.Capture.{Captured}
use Rattle.suri_base.specs.Clock.{clock_of}
use Rattle.suri_base.specs.Counters.{counted_under}
use Rattle.suri_base.specs.Trail.{Trailed}
use Rattle.suri_base.specs.declared.counter.Counter.{Counter}
use Rattle.suri_base.specs.declared.counter.Counter.TheVariants.{LinkSmall, VlanSmall, VlanDeep, Ethertype, IpSmall, IpVersion, IpHeader, IpExtensions, Fragment, TcpSmall, TcpHeader, UdpSmall, IcmpSmall, OtherProto}
use Rattle.flow_object.specs.declared.outcome.FlowLine.{FlowLine}
use Rattle.run_stats.specs.Counting.{AreFrameCounts, AreRecordCounts, field_of}
use Rattle.run_stats.specs.declared.stats.Stats.{Stats}
use Rattle.run_counts.specs.declared.counts.Counts.{Counts}
use Rattle.run_counts.specs.declared.records.RecordCounts.{RecordCounts}
use Rattle.run_counts.specs.Counting.{AreHistoryCounts, all_refusals, emergencies_begun}
use Rattle.run_counts.specs.Frames.{counts_of}
use Rattle.run_counts.specs.Records.{records_of}
use Rattle.run_rules.specs.Histories.{histories_of}
use Rattle.run_rules.specs.Quiet.{is_full, is_short}
use Rattle.run_counts.proofs.Summing.{count_reversed, refusals_reversed}

-- the decoder counters among the counts
abbrev pub counters_in : Stats → Counts
counters_in s = record {
  link_small = s.link_small;
  vlan_small = s.vlan_small;
  vlan_deep = s.vlan_deep;
  ethertype = s.ethertype;
  ip_small = s.ip_small;
  ip_version = s.ip_version;
  ip_header = s.ip_header;
  ip_extensions = s.ip_extensions;
  fragment = s.fragment;
  tcp_small = s.tcp_small;
  tcp_header = s.tcp_header;
  udp_small = s.udp_small;
  icmp_small = s.icmp_small;
  other_proto = s.other_proto;
}

pub frame_counts : (capture : Captured) (s : Stats) → counters_in s ≡ counts_of capture.seen → s.clock ≡ clock_of capture.frames → s.capture_bytes ≡ sum_by (λ f. f.len) capture.frames
    → s.cut_bytes ≡ capture.cut_bytes → s.frames ≡ length capture.frames → AreFrameCounts capture s
unfolding counts_of
frame_counts capture s counters clock bytes cut frames = record { clock = clock; capture_bytes = bytes; cut_bytes = cut; frames = frames; decoder = λ k. each k }
  where
    each : (k : Counter) → field_of k s ≡ counted_under k capture.seen
    each LinkSmall = ap (λ (c : Counts). c.link_small) counters
    each VlanSmall = ap (λ (c : Counts). c.vlan_small) counters
    each VlanDeep = ap (λ (c : Counts). c.vlan_deep) counters
    each Ethertype = ap (λ (c : Counts). c.ethertype) counters
    each IpSmall = ap (λ (c : Counts). c.ip_small) counters
    each IpVersion = ap (λ (c : Counts). c.ip_version) counters
    each IpHeader = ap (λ (c : Counts). c.ip_header) counters
    each IpExtensions = ap (λ (c : Counts). c.ip_extensions) counters
    each Fragment = ap (λ (c : Counts). c.fragment) counters
    each TcpSmall = ap (λ (c : Counts). c.tcp_small) counters
    each TcpHeader = ap (λ (c : Counts). c.tcp_header) counters
    each UdpSmall = ap (λ (c : Counts). c.udp_small) counters
    each IcmpSmall = ap (λ (c : Counts). c.icmp_small) counters
    each OtherProto = ap (λ (c : Counts). c.other_proto) counters

-- the counts of records among the counts
abbrev pub records_in : Stats → RecordCounts
records_in s = record {
  packets = s.packets;
  bytes = s.flow_bytes;
  timeout = s.timeout;
  tcp_reuse = s.tcp_reuse;
  forced = s.forced;
  shutdown = s.shutdown;
  emergency = s.emergency;
}

pub record_counts : (lines : List FlowLine) (s : Stats) → records_in s ≡ records_of lines → s.records ≡ length lines → AreRecordCounts lines s
unfolding records_of
record_counts lines s counts records = record {
  records = records;
  packets = ap (λ (c : RecordCounts). c.packets) counts;
  bytes = ap (λ (c : RecordCounts). c.bytes) counts;
  timeout = ap (λ (c : RecordCounts). c.timeout) counts;
  tcp_reuse = ap (λ (c : RecordCounts). c.tcp_reuse) counts;
  forced = ap (λ (c : RecordCounts). c.forced) counts;
  shutdown = ap (λ (c : RecordCounts). c.shutdown) counts;
  emergency = ap (λ (c : RecordCounts). c.emergency) counts;
}

pub history_counts : (t : Trailed) (s : Stats) → s.no_flow ≡ all_refusals t.buckets → s.memcap_full ≡ count_by (λ e. is_full e.note) t.pool
    → s.segment_full ≡ count_by (λ e. is_short e.note) t.segments → s.emergency_entered ≡ emergencies_begun (histories_of t).pool → AreHistoryCounts (histories_of t) s
history_counts t s refused full short begun = record {
  no_flow = refused ∙ sym (refusals_reversed t.buckets);
  memcap_full = full ∙ sym (count_reversed _ t.pool);
  segment_full = short ∙ sym (count_reversed _ t.segments);
  emergency_entered = begun;
}

-- the decoder counters, from the counts of frames
pub counters_told : (capture : Captured) (s : Stats) → AreFrameCounts capture s → counters_in s ≡ counts_of capture.seen
unfolding counts_of
counters_told capture s c = λ i. record {
  link_small = c.decoder LinkSmall i;
  vlan_small = c.decoder VlanSmall i;
  vlan_deep = c.decoder VlanDeep i;
  ethertype = c.decoder Ethertype i;
  ip_small = c.decoder IpSmall i;
  ip_version = c.decoder IpVersion i;
  ip_header = c.decoder IpHeader i;
  ip_extensions = c.decoder IpExtensions i;
  fragment = c.decoder Fragment i;
  tcp_small = c.decoder TcpSmall i;
  tcp_header = c.decoder TcpHeader i;
  udp_small = c.decoder UdpSmall i;
  icmp_small = c.decoder IcmpSmall i;
  other_proto = c.decoder OtherProto i;
}
