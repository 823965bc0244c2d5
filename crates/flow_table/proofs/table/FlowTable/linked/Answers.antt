use Rattle.std.proofs.Common.{ap}
use Rattle.suri_base.specs.declared.key.Key.{Key}
use Rattle.bucket_flow.specs.Held.{Held, linked_with}
use Rattle.flow_table.specs.Slots.{Table}
use Rattle.flow_table.proofs.Finding.{found_in}
use Rattle.flow_table.proofs.table.FlowTable.linked.Goals as goal

pub returns : goal.returns
returns c = found_in (λ (f : Held) (k : Key). linked_with k f) c.args.key.now c.self.inside.slots.items c.args.self.now.slots c.linked_at.result (ap (λ (t : Table). t.slots) c.self.view_is)
    (c.linked_at.ensures c.self.inside.slots.items c.self.invariant.orders.marks)
