use Rattle.std.proofs.Common.{◌≤◌, length}
use Rattle.packet_decode.proofs.SoFar.{SoFar}
use Rattle.packet_decode.specs.Tags.{AreTags}
use Rattle.packet_decode.proofs.tags.read_tags.Given as goal

abbrev pub invariant-loop-rest : goal.invariant-loop-rest
invariant-loop-rest l = record {
  so_far : SoFar l.first l.bytes l.vlans l.ethertype l.rest;
  tags : AreTags l.vlans;
  shorter : length l.rest ≤ length l.bytes;
}

abbrev pub decreases-loop-rest : goal.decreases-loop-rest
decreases-loop-rest l = length l.rest
