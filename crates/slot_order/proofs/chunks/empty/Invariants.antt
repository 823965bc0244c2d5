use Rattle.std.proofs.Common.{◌≤◌, vec_len, vec_capacity}
use Rattle.slot_order.specs.Rows.{IsRow}
use Rattle.slot_order.proofs.chunks.empty.Given as goal

abbrev pub invariant-loop-chunk : goal.invariant-loop-chunk
invariant-loop-chunk g l = record {
  row : IsRow l.chunks l.spares;
  kept : vec_len l.initial.spares ≤ vec_len l.spares;
  capacity : vec_capacity l.initial.chunks ≤ vec_capacity l.chunks;
}

abbrev pub decreases-loop-chunk : goal.decreases-loop-chunk
decreases-loop-chunk g l = vec_len l.chunks
