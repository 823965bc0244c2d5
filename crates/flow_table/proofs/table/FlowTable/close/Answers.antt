use Rattle.std.proofs.Common.{◌≡◌, Some, length, slice_get, ap}
use Rattle.flow_sum.specs.declared.sums.Sums.{Sums}
use Rattle.flow_table.specs.Slots.{Table}
use Rattle.flow_table.proofs.Keeping.{closed_kin, closed_less}
use Rattle.flow_table.proofs.Sound.{sound_set}
use Rattle.flow_table.proofs.Slots.{slot_now}
use Rattle.flow_table.proofs.table.FlowTable.close.Goals.{In-Some}
use Rattle.flow_table.proofs.table.FlowTable.close.Goals as goal

-- the flow that was read stands in the slot
there : (c : In-Some) → slice_get c.self.inside.slots.items c.args.slot ≡ Some (Some c.in-Some.flow)
there c = slot_now c.self.inside.slots.items c.args.self.now.slots c.args.slot c.index_mut.result.now c.in-Some.flow c.requires.0 (ap (λ (t : Table). t.slots) c.self.view_is) c.requires.1 c.index_mut.ensures.value c.in-Some.is

pub end_use-requires : goal.end_use-requires
end_use-requires c =
    let at = (goal.at.end_use-requires c).In-Some in
    (c.self.inside.slots.items, c.in-Some.flow, c.close-freed.new.self, record { here = record { sound = c.self.invariant.sound; orders = c.self.invariant.orders; there = there at }; kin = closed_kin c.args.no c.args.app (length c.close-freed.result) c.in-Some.flow c.close-freed.new.self c.close-freed.ensures.closed c.close-freed.ensures.sums c.close-freed.ensures.state; uses = c.close-freed.ensures.closed.uses; was = c.unused_of-old.ensures; now = c.unused_of-new.ensures })

pub invariant_of-self : goal.invariant_of-self
invariant_of-self c =
    let at = (goal.at.invariant_of-self c).In-Some in
    let slots = c.self.inside.slots.items in
    let f = c.in-Some.flow in
    let g = c.close-freed.new.self in
    record {
      small = c.self.invariant.small;
      sound = sound_set slots c.self.invariant.sound c.args.slot f g (there at) (closed_less c.args.no c.args.app (length c.close-freed.result) f g c.close-freed.ensures.closed (ap (λ (s : Sums). s.key) c.close-freed.ensures.sums));
      orders = c.end_use.ensures slots f g (record { here = record { sound = c.self.invariant.sound; orders = c.self.invariant.orders; there = there at }; kin = closed_kin c.args.no c.args.app (length c.close-freed.result) c.in-Some.flow c.close-freed.new.self c.close-freed.ensures.closed c.close-freed.ensures.sums c.close-freed.ensures.state; uses = c.close-freed.ensures.closed.uses; was = c.unused_of-old.ensures; now = c.unused_of-new.ensures });
    }
