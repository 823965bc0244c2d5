use Rattle.std.proofs.Common.{ap}
use Rattle.flow_table.specs.Slots.{Table}
use Rattle.flow_table.proofs.Finding.{none_due, some_due}
use Rattle.flow_table.proofs.table.FlowTable.due.Goals as goal

pub returns-in-None : goal.returns-in-None
returns-in-None c = none_due c.args.emergency c.self.inside.slots.items c.args.self.now.slots (ap (λ (t : Table). t.slots) c.self.view_is) (c.in-None.ensures c.self.inside.slots.items c.self.invariant.orders.marks)

pub returns-in-Some : goal.returns-in-Some
returns-in-Some c = some_due c.args.emergency c.self.inside.slots.items c.args.self.now.slots _ _ (ap (λ (t : Table). t.slots) c.self.view_is) (c.in-Some.ensures c.self.inside.slots.items c.self.invariant.orders.marks) c.clock.ensures
