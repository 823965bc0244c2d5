use Rattle.std.proofs.Common.{subst, sym}
use Rattle.flow_orders.specs.Orders.{AreMarks}
use Rattle.flow_orders.proofs.Finding.{linked_found}
use Rattle.flow_orders.proofs.orders.Orders.linked_at.Goals as goal

pub returns : goal.returns
returns c = λ slots h. linked_found slots _ c.args.key.now _ _ (subst (AreMarks slots) (sym c.self.view_is) h).by_key c.place.ensures c.find.ensures
