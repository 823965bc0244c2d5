use Rattle.flow_orders.proofs.Mending.{can_mend}
use Rattle.flow_orders.proofs.laws.may_mend.Goals as goal

pub returns : goal.returns
returns c = can_mend
