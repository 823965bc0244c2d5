use Rattle.std.proofs.Common.{ap}
use Rattle.flow_orders.specs.Keys.{bears_use}
use Rattle.flow_table.specs.Slots.{Table}
use Rattle.flow_table.proofs.Finding.{found_in}
use Rattle.flow_table.proofs.table.FlowTable.used.Goals as goal

pub returns : goal.returns
returns c = found_in bears_use c.args.no c.self.inside.slots.items c.args.self.now.slots c.used_at.result (ap (λ (t : Table). t.slots) c.self.view_is)
    (c.used_at.ensures c.self.inside.slots.items c.self.invariant.orders.uses)
