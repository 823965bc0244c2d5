use Rattle.flow_orders.proofs.Finding.{first_stepped, next_stepped}
use Rattle.flow_orders.proofs.walks.step.Goals as goal

pub returns-in-None : goal.returns-in-None
returns-in-None c = first_stepped _ _ _ c.in-None.is c.first.ensures

pub returns-in-Some : goal.returns-in-Some
returns-in-Some c = next_stepped _ _ _ _ c.in-Some.is c.next_after.ensures
