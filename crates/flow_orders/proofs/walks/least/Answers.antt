use Rattle.flow_orders.proofs.Finding.{first_due}
use Rattle.flow_orders.proofs.walks.least.Goals as goal

pub returns : goal.returns
returns c = λ slots emergency h. first_due slots emergency _ h _ c.first.ensures
