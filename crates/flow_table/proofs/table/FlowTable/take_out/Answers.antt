use Rattle.std.proofs.Common.{◌≡◌, Option, Some, None, true, slice_get, slice_set, refl, sym, ◌∙◌, ap, subst}
use Rattle.bucket_rules.specs.Row.{is_none_of}
use Rattle.bucket_flow.specs.Held.{Held}
use Rattle.flow_orders.specs.Keys.{marks_of}
use Rattle.flow_orders.specs.Orders.{AreOrders}
use Rattle.flow_table.specs.Slots.{AreSound, Table}
use Rattle.flow_table.proofs.Marked.{none_has, room_to_leave}
use Rattle.flow_table.proofs.Ordered.{may_mend, mended_orders, own_none}
use Rattle.flow_table.proofs.Slots.{slot_now, slot_read}
use Rattle.flow_table.proofs.Sound.{sound_cut}
use Rattle.flow_table.proofs.table.FlowTable.take_out.Goals.{In-Some}
use Rattle.flow_table.proofs.table.FlowTable.take_out.Goals as goal

-- the flow that was read stands in the slot
there : (c : In-Some) → slice_get c.self.inside.slots.items c.args.slot ≡ Some (Some c.in-Some.flow)
there c = slot_now c.self.inside.slots.items c.args.self.now.slots c.args.slot c.index_mut.result.now c.in-Some.flow c.requires.flow (ap (λ (t : Table). t.slots) c.self.view_is) c.requires.there c.index_mut.ensures.value (sym c.replace.ensures.value ∙ c.in-Some.is)

-- and no frame uses it
free : (c : In-Some) → is_none_of c.in-Some.flow.uses ≡ true
free c = ap (λ (x : Held). is_none_of x.uses) (slot_read c.self.inside.slots.items c.args.self.now.slots c.args.slot c.index_mut.result.now c.in-Some.flow c.requires.flow (ap (λ (t : Table). t.slots) c.self.view_is) c.requires.there c.index_mut.ensures.value (sym c.replace.ensures.value ∙ c.in-Some.is))
    ∙ c.requires.holds

pub mend-requires : goal.mend-requires
mend-requires c =
    let at = (goal.at.mend-requires c).In-Some in
    may_mend c.self.inside.slots.items c.self.inside.orders c.args.slot (Some c.in-Some.flow) None _ _ c.self.invariant.orders.marks (there at) c.of.ensures c.none.ensures.empty (own_none c.self.inside.slots.items c.args.slot)
    (room_to_leave c.self.inside.orders (marks_of (Some c.in-Some.flow)) (marks_of None) refl)

pub invariant_of-self : goal.invariant_of-self
invariant_of-self c =
    let at = (goal.at.invariant_of-self c).In-Some in
    let slots = c.self.inside.slots.items in
    record {
      small = c.self.invariant.small;
      sound = subst (λ (o : Option Held). AreSound (slice_set slots c.args.slot o)) (sym c.replace.ensures.after) (sound_cut slots c.self.invariant.sound c.args.slot);
      orders = subst (λ (o : Option Held). AreOrders (slice_set slots c.args.slot o) c.mend.new.self) (sym c.replace.ensures.after)
          (mended_orders slots c.self.inside.orders c.mend.new.self c.args.slot (Some c.in-Some.flow) None c.self.invariant.orders (there at) (λ u. sym (none_has c.in-Some.flow.uses u (free at)))
          (c.mend.ensures.marks slots (Some c.in-Some.flow) None c.self.invariant.orders.marks (there at) c.of.ensures c.none.ensures.empty (own_none slots c.args.slot)) c.mend.ensures.uses);
    }
