use Rattle.std.proofs.Common.{◌+◌, ◌≤◌, length, vec_len, vec_capacity}
use Rattle.bucket_flow.specs.Flows.{is_due_held, swept_held}
use Rattle.flow_orders.specs.Orders.{AreOrders}
use Rattle.flow_table.specs.Slots.{AreSound, filled}
use Rattle.flow_table.proofs.Walking.{IsSwept, later}
use Rattle.flow_table.proofs.sweeps.sweep_slots.Given as goal

abbrev pub invariant-loop-age : goal.invariant-loop-age
invariant-loop-age l = record {
  swept : IsSwept (swept_held l.capture l.start l.clock l.emergency) (is_due_held l.capture l.start l.clock l.emergency) l.emergency l.after l.initial.slots.items l.slots.items l.initial.gone.items l.gone.items;
  room : vec_len l.gone + length (filled l.slots.items) ≤ vec_capacity l.gone;
  sound : AreSound l.slots.items;
  orders : AreOrders l.slots.items l.orders;
}

-- the linked flows whose deadlines are above the last one
abbrev pub decreases-loop-age : goal.decreases-loop-age
decreases-loop-age l = later l.emergency l.after l.slots.items
