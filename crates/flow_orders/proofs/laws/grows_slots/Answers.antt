use Rattle.flow_orders.proofs.Mending.{grows}
use Rattle.flow_orders.proofs.laws.grows_slots.Goals as goal

pub returns : goal.returns
returns c = grows
