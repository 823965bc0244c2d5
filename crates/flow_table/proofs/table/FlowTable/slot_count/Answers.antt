use Rattle.std.proofs.Common.{◌≤◌, length, arith, subst}
use Rattle.flow_table.specs.Slots.{Table, filled}
use Rattle.flow_table.proofs.Slots.{filled_few}
use Rattle.flow_table.proofs.table.FlowTable.slot_count.Goals as goal

pub returns : goal.returns
returns c = let few = filled_few c.self.inside.slots.items in
    subst (λ (t : Table). length (filled t.slots) ≤ c.len.result) c.self.view_is (omega (arith, few, c.len.ensures, c.self.inside.slots.ok))
