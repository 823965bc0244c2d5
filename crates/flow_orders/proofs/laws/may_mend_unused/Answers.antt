use Rattle.flow_orders.proofs.Mending.{can_mend_unused}
use Rattle.flow_orders.proofs.laws.may_mend_unused.Goals as goal

pub returns : goal.returns
returns c = can_mend_unused
