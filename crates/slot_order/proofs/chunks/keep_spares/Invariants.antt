use Rattle.std.proofs.Common.{◌≤◌, ◌-◌, vec_len}
use Rattle.std.specs.List.{All}
use Rattle.slot_order.specs.Rows.{IsSpare}
use Rattle.slot_order.proofs.chunks.keep_spares.Given as goal

abbrev pub invariant-loop-alloc : goal.invariant-loop-alloc
invariant-loop-alloc g l = record {
  spares : All IsSpare l.spares.items;
  kept : vec_len l.initial.spares ≤ vec_len l.spares;
}

abbrev pub decreases-loop-alloc : goal.decreases-loop-alloc
decreases-loop-alloc g l = l.count - vec_len l.spares
