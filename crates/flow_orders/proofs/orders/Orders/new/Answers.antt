use Rattle.std.proofs.Common.{true, false}
use Rattle.std.specs.Ordering.{nat_cmp}
use Rattle.key_order.specs.Ages.{age_cmp}
use Rattle.key_order.specs.KeyPlaces.{place_cmp}
use Rattle.slot_order.proofs.Index.{index_of_none}
use Rattle.flow_orders.specs.Keys.{bears_deadline, bears_key, bears_unused, bears_use}
use Rattle.flow_orders.proofs.orders.Orders.new.Goals as goal

pub returns-clause-slots : goal.returns-clause-slots
returns-clause-slots c = record {
  marks = record {
    by_key = index_of_none place_cmp bears_key _ c.new.ensures;
    due = index_of_none age_cmp (bears_deadline false) _ c.new-2.ensures;
    due_in_emergency = index_of_none age_cmp (bears_deadline true) _ c.new-3.ensures;
    unused = index_of_none age_cmp bears_unused _ c.new-4.ensures;
  };
  uses = index_of_none nat_cmp bears_use _ c.new-5.ensures;
}
