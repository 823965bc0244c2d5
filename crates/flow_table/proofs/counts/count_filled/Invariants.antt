use Rattle.std.proofs.Common.{◌≡◌}
use Rattle.flow_table.specs.Slots.{rank}
use Rattle.flow_table.proofs.counts.count_filled.Given as goal

abbrev pub invariant-loop-at : goal.invariant-loop-at
invariant-loop-at l = l.count ≡ rank l.slots l.at
