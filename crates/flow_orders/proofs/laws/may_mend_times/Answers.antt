use Rattle.flow_orders.proofs.Mending.{can_mend_times}
use Rattle.flow_orders.proofs.laws.may_mend_times.Goals as goal

pub returns : goal.returns
returns c = can_mend_times
