use Rattle.std.proofs.Common.{◌≡◌, Some, slice_get, sym, ap, subst}
use Rattle.bucket_rules.specs.Row.{has, is_linked}
use Rattle.bucket_flow.specs.Held.{Held}
use Rattle.flow_orders.specs.Keys.{marks_of}
use Rattle.flow_table.specs.Slots.{Table}
use Rattle.flow_table.proofs.Keeping.{off_less}
use Rattle.flow_table.proofs.Marked.{room_to_leave}
use Rattle.flow_table.proofs.Ordered.{may_mend, mended_orders, own_less}
use Rattle.flow_table.proofs.Slots.{slot_now}
use Rattle.flow_table.proofs.Sound.{IsLess, sound_set}
use Rattle.flow_table.proofs.table.FlowTable.detach.Goals.{In-Some}
use Rattle.flow_table.proofs.table.FlowTable.detach.Goals as goal

-- the flow that was read stands in the slot
there : (c : In-Some) → slice_get c.self.inside.slots.items c.args.slot ≡ Some (Some c.in-Some.flow)
there c = slot_now c.self.inside.slots.items c.args.self.now.slots c.args.slot c.index_mut.result.now c.in-Some.flow c.requires.0 (ap (λ (t : Table). t.slots) c.self.view_is) c.requires.1 c.index_mut.ensures.value c.in-Some.is

pub mend-requires : goal.mend-requires
mend-requires c =
    let at = (goal.at.mend-requires c).In-Some in
    let f = c.in-Some.flow in
    let h = c.detach.new.self in
    let less = subst (IsLess f) (sym c.detach.ensures) (off_less c.args.cause f) in
    let none = ap (λ (x : Held). is_linked x.place) c.detach.ensures in
    may_mend c.self.inside.slots.items c.self.inside.orders c.args.slot (Some f) (Some h) _ _ c.self.invariant.orders.marks (there at) c.of-marks.ensures (c.none.ensures.detached h none)
    (own_less c.self.inside.slots.items c.args.slot f h c.self.invariant.sound (there at) less) (room_to_leave c.self.inside.orders (marks_of (Some f)) (marks_of (Some h)) (ap (λ (x : Held). marks_of (Some x)) c.detach.ensures))

pub invariant_of-self : goal.invariant_of-self
invariant_of-self c =
    let at = (goal.at.invariant_of-self c).In-Some in
    let slots = c.self.inside.slots.items in
    let f = c.in-Some.flow in
    let h = c.detach.new.self in
    let less = subst (IsLess f) (sym c.detach.ensures) (off_less c.args.cause f) in
    let none = ap (λ (x : Held). is_linked x.place) c.detach.ensures in
    record {
      small = c.self.invariant.small;
      sound = sound_set slots c.self.invariant.sound c.args.slot f h (there at) less;
      orders = mended_orders slots c.self.inside.orders c.mend.new.self c.args.slot (Some f) (Some h) c.self.invariant.orders (there at) (λ u. ap (λ (x : Held). has x.uses u) c.detach.ensures)
          (c.mend.ensures.marks slots (Some f) (Some h) c.self.invariant.orders.marks (there at) c.of-marks.ensures (c.none.ensures.detached h none) (own_less slots c.args.slot f h c.self.invariant.sound (there at) less))
          c.mend.ensures.uses;
    }
