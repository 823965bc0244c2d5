use Rattle.std.proofs.Common.{subst, sym, ◌∙◌}
use Rattle.std.specs.Ordering.{nat_cmp}
use Rattle.slot_order.specs.Index.{IsIndex}
use Rattle.flow_orders.specs.Keys.{bears_use}
use Rattle.flow_orders.proofs.Mending.{use_ended}
use Rattle.flow_orders.proofs.orders.Orders.end_use.Goals as goal

pub returns-then-is_some-clause-uses : goal.returns-then-is_some-clause-uses
returns-then-is_some-clause-uses c = λ slots i o n h at r b. use_ended slots _ _ i o n (subst (λ s. IsIndex nat_cmp bears_use slots s.by_use.pairs) (sym c.self.view_is) h) at c.args.no (sym c.remove-slot.ensures.was ∙ r) c.remove-slot.ensures.rest b
