use Rattle.std.proofs.Common.{ap}
use Rattle.flow_table.specs.Slots.{Table}
use Rattle.flow_table.proofs.Finding.{least_in}
use Rattle.flow_table.proofs.table.FlowTable.victim.Goals as goal

pub returns : goal.returns
returns c = least_in c.self.inside.slots.items c.args.self.now.slots c.victim.result (ap (λ (t : Table). t.slots) c.self.view_is) (c.victim.ensures c.self.inside.slots.items c.self.invariant.orders.marks)
