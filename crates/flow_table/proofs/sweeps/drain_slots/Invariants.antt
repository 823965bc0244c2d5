use Rattle.std.proofs.Common.{◌+◌, ◌≤◌, drop, length, vec_len, vec_capacity}
use Rattle.std.specs.Ordering.{nat_cmp}
use Rattle.bucket_flow.specs.Flows.{drained_held}
use Rattle.slot_order.specs.Index.{IsIndex}
use Rattle.flow_orders.specs.Keys.{bears_use}
use Rattle.flow_table.specs.Slots.{AreSound, filled}
use Rattle.flow_table.proofs.Sweeping.{IsWalked}
use Rattle.flow_table.proofs.sweeps.drain_slots.Given as goal

abbrev pub invariant-loop-at : goal.invariant-loop-at
invariant-loop-at l = record {
  walked : IsWalked (drained_held l.clock) l.at l.initial.slots.items l.slots.items l.initial.gone.items l.gone.items;
  room : vec_len l.gone + length (filled (drop l.at l.slots.items)) ≤ vec_capacity l.gone;
  sound : AreSound l.slots.items;
  uses : IsIndex nat_cmp bears_use l.slots.items l.initial.orders.by_use.pairs;
}
