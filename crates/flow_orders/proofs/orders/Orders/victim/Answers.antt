use Rattle.std.proofs.Common.{subst, sym}
use Rattle.flow_orders.specs.Orders.{AreMarks}
use Rattle.flow_orders.proofs.Finding.{least_unused, none_unused}
use Rattle.flow_orders.proofs.orders.Orders.victim.Goals as goal

pub returns-in-None : goal.returns-in-None
returns-in-None c = λ slots h. none_unused slots _ (subst (AreMarks slots) (sym c.self.view_is) h).unused c.in-None.ensures

pub returns-in-Some : goal.returns-in-Some
returns-in-Some c = λ slots h. least_unused slots _ _ (subst (AreMarks slots) (sym c.self.view_is) h).unused c.in-Some.ensures
