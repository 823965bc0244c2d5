use Rattle.std.proofs.Common.{ap, subst, sym, ◌∙◌}
use Rattle.std.specs.Ordering.{nat_cmp}
use Rattle.slot_order.specs.Index.{IsIndex}
use Rattle.slot_order.specs.Order.{slot_of}
use Rattle.flow_orders.specs.Keys.{bears_use}
use Rattle.flow_orders.proofs.Mending.{use_begun}
use Rattle.flow_orders.proofs.orders.Orders.begin_use.Goals as goal

pub returns-then-self-room-clause-uses : goal.returns-then-self-room-clause-uses
returns-then-self-room-clause-uses c = λ slots o n h at b. use_begun slots _ _ c.args.slot o n (subst (λ s. IsIndex nat_cmp bears_use slots s.by_use.pairs) (sym c.self.view_is) h) at c.args.no (ap (λ s. slot_of nat_cmp s.by_use.pairs c.args.no) c.self.view_is ∙ c.requires.new) c.insert.ensures.slots b
