-- What is counted of a capture and of the flow records made of it.
use Rattle.std.specs.Prelude.{◌≡◌, ℕ, ◌+◌, Bool, true, false, List, length, count_by, sum_by}
use Rattle.suri_base.specs.Capture.{Captured}
use Rattle.suri_base.specs.Clock.{clock_of}
use Rattle.suri_base.specs.Counters.{counted_under}
use Rattle.suri_base.specs.declared.counter.Counter.{Counter}
use Rattle.suri_base.specs.declared.counter.Counter.TheVariants.{LinkSmall, VlanSmall, VlanDeep, Ethertype, IpSmall, IpVersion, IpHeader, IpExtensions, Fragment, TcpSmall, TcpHeader, UdpSmall, IcmpSmall, OtherProto}
use Rattle.suri_base.specs.declared.reason.Reason.{Reason}
use Rattle.suri_base.specs.declared.reason.Reason.TheVariants.{Timeout, TcpReuse, Forced, Shutdown}
use Rattle.flow_object.specs.declared.outcome.FlowLine.{FlowLine}
use Rattle.run_stats.specs.declared.stats.Stats.{Stats}

-- the number of a decoder counter among the counts
abbrev pub field_of : Counter → Stats → ℕ
field_of LinkSmall s = s.link_small
field_of VlanSmall s = s.vlan_small
field_of VlanDeep s = s.vlan_deep
field_of Ethertype s = s.ethertype
field_of IpSmall s = s.ip_small
field_of IpVersion s = s.ip_version
field_of IpHeader s = s.ip_header
field_of IpExtensions s = s.ip_extensions
field_of Fragment s = s.fragment
field_of TcpSmall s = s.tcp_small
field_of TcpHeader s = s.tcp_header
field_of UdpSmall s = s.udp_small
field_of IcmpSmall s = s.icmp_small
field_of OtherProto s = s.other_proto

abbrev pub same_reason : Reason → Reason → Bool
same_reason Timeout Timeout = true
same_reason TcpReuse TcpReuse = true
same_reason Forced Forced = true
same_reason Shutdown Shutdown = true
same_reason _ _ = false

-- how many records have a reason
abbrev pub ended_by : Reason → List FlowLine → ℕ
ended_by reason lines = count_by (λ l. same_reason reason l.reason) lines

-- what is counted of the capture's frames: each that bears no flow stands under one decoder counter
pub record AreFrameCounts (capture : Captured) (s : Stats) : Type 0 where
  pub clock : s.clock ≡ clock_of capture.frames
  pub capture_bytes : s.capture_bytes ≡ sum_by (λ f. f.len) capture.frames
  pub cut_bytes : s.cut_bytes ≡ capture.cut_bytes
  pub frames : s.frames ≡ length capture.frames
  pub decoder : (c : Counter) → field_of c s ≡ counted_under c capture.seen

-- what is counted of the records: both directions of each
pub record AreRecordCounts (lines : List FlowLine) (s : Stats) : Type 0 where
  pub records : s.records ≡ length lines
  pub packets : s.packets ≡ sum_by (λ l. l.sums.ts.pkts + l.sums.tc.pkts) lines
  pub bytes : s.flow_bytes ≡ sum_by (λ l. l.sums.ts.bytes + l.sums.tc.bytes) lines
  pub timeout : s.timeout ≡ ended_by Timeout lines
  pub tcp_reuse : s.tcp_reuse ≡ ended_by TcpReuse lines
  pub forced : s.forced ≡ ended_by Forced lines
  pub shutdown : s.shutdown ≡ ended_by Shutdown lines
  pub emergency : s.emergency ≡ count_by (λ l. l.emergency) lines

-- the counts of a capture and of its records. What the pools refused is counted of their histories, and not of these.
pub record IsCounted (capture : Captured) (lines : List FlowLine) (s : Stats) : Type 0 where
  pub of_frames : AreFrameCounts capture s
  pub of_records : AreRecordCounts lines s
