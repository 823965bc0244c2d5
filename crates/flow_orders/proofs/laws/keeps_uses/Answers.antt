use Rattle.flow_orders.proofs.Mending.{uses_kept}
use Rattle.flow_orders.proofs.laws.keeps_uses.Goals as goal

pub returns : goal.returns
returns c = uses_kept
