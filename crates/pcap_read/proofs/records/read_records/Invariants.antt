use Rattle.std.proofs.Common.{◌≤◌, ◌-◌, length}
use Rattle.pcap_read.proofs.SoFar.{SoFar}
use Rattle.pcap_read.proofs.records.read_records.Given as goal

abbrev pub invariant-loop-rest : goal.invariant-loop-rest
invariant-loop-rest l = record {
  within : l.at ≤ length l.bytes;
  so_far : SoFar l.header l.bytes l.at l.list.items;
}

abbrev pub decreases-loop-rest : goal.decreases-loop-rest
decreases-loop-rest l = length l.bytes - l.at
