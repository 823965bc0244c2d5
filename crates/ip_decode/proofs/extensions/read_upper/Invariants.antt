use Rattle.std.proofs.Common.{◌≡◌, ◌≤◌, length}
use Rattle.ip_decode.specs.Extensions.{upper_of}
use Rattle.ip_decode.proofs.extensions.read_upper.Given as goal

-- what is left leads to the answer for all
abbrev pub invariant-loop-rest : goal.invariant-loop-rest
invariant-loop-rest l = record {
  same : upper_of l.room l.next l.rest ≡ upper_of 16 l.first l.bytes;
  shorter : length l.rest ≤ length l.bytes;
}

abbrev pub decreases-loop-rest : goal.decreases-loop-rest
decreases-loop-rest l = l.room
