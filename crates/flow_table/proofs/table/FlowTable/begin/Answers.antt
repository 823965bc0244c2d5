use Rattle.std.proofs.Common.{◌≡◌, ◌<◌, ℕ, List, Option, Some, None, slice_set, sym, ◌∙◌, ap, subst, arith}
use Rattle.std.specs.Ordering.{nat_cmp}
use Rattle.slot_order.specs.Order.{Pairs, slot_of}
use Rattle.bucket_flow.specs.Held.{Held, IsMade}
use Rattle.flow_orders.specs.Orders.{AreOrders, HasRoomToBegin}
use Rattle.flow_orders.specs.declared.marks.Marks.{Marks}
use Rattle.flow_table.specs.Slots.{AreSound, HasBegun, IsNewRun, IsOwn, Table, filled}
use Rattle.flow_table.proofs.Keeping.{made_key}
use Rattle.flow_table.proofs.Marked.{begins_room, first_use, room_to_begin, use_room}
use Rattle.flow_table.proofs.Ordered.{grown_orders, may_mend, moved, own_come, unused_frame, uses_moved}
use Rattle.flow_table.proofs.Slots.{grown_filled, has_come}
use Rattle.flow_table.proofs.Sound.{own_new, sound_fill, sound_grown}
use Rattle.flow_table.proofs.table.FlowTable.begin.Goals.{After-empty_slot-slot}
use Rattle.flow_table.proofs.table.FlowTable.begin.Goals as goal

-- the slots with an empty one for the flow
sound : (c : After-empty_slot-slot) → AreSound c.empty_slot-slot.new.slots.items
sound c = sound_grown c.self.inside.slots.items c.self.invariant.sound c.empty_slot-slot.new.slots.items c.empty_slot-slot.ensures.slots

ordered : (c : After-empty_slot-slot) → AreOrders c.empty_slot-slot.new.slots.items c.self.inside.orders
ordered c = grown_orders c.self.inside.slots.items c.empty_slot-slot.new.slots.items c.self.inside.orders c.empty_slot-slot.ensures.slots c.self.invariant.orders

is_new : (c : After-empty_slot-slot) → IsNewRun c.args.facts.now (filled c.empty_slot-slot.new.slots.items)
is_new c = subst (λ (l : List Held). IsNewRun c.args.facts.now l) (sym (grown_filled c.self.inside.slots.items c.empty_slot-slot.new.slots.items c.empty_slot-slot.ensures.slots ∙ ap (λ (t : Table). filled t.slots) c.self.view_is)) c.requires.new

own : (c : After-empty_slot-slot) → IsOwn c.begin-flow.result.0 c.empty_slot-slot.new.slots.items
own c =
    let m = c.begin-flow.ensures in
    own_new c.empty_slot-slot.new.slots.items c.args.facts.now c.begin-flow.result.0 (is_new c) m.run (made_key c.args.capture.now.bytes c.args.facts.now c.args.obj.value.depth c.begin-flow.result.1 c.begin-flow.result.0 m) m.uses

room : (c : After-empty_slot-slot) → HasRoomToBegin c.self.inside.orders
room c = begins_room c.self.inside.orders _ (subst (λ (t : Table). 0 < t.begins) (sym c.self.view_is) c.requires.room)

pub mend-requires : goal.mend-requires
mend-requires c =
    let at = (goal.at.mend-requires c).After-empty_slot-slot in
    let next = c.empty_slot-slot.new.slots.items in
    let g = c.begin-flow.result.0 in
    may_mend next c.self.inside.orders c.empty_slot-slot.result None (Some g) _ _ (ordered at).marks c.empty_slot-slot.ensures.empty c.none.ensures.empty c.of-marks.ensures (own_come next c.empty_slot-slot.result g (own at))
    (room_to_begin c.self.inside.orders g (room at) (first_use g.uses c.args.facts.now.no _ (c.begin-flow.ensures.uses c.args.facts.now.no)))

pub begin_use-requires-clause-new : goal.begin_use-requires-clause-new
begin_use-requires-clause-new c =
    let at = (goal.at.begin_use-requires-clause-new c).After-empty_slot-slot in
    subst (λ (u : Pairs ℕ). slot_of nat_cmp u.pairs c.args.facts.now.no ≡ None) (sym c.mend.ensures.uses) (unused_frame c.empty_slot-slot.new.slots.items c.self.inside.orders.by_use.pairs c.args.facts.now.no (ordered at).uses (is_new at).unused)

pub begin_use-requires-clause-room : goal.begin_use-requires-clause-room
begin_use-requires-clause-room c =
    let at = (goal.at.begin_use-requires-clause-room c).After-empty_slot-slot in
    (use_room c.self.inside.orders c.mend.new.self _ _ c.begin-flow.result.0 (room at).join c.mend.ensures.room.unused c.mend.ensures.uses (ap (λ (m : Marks). m.unused) c.of-marks.ensures) (first_use c.begin-flow.result.0.uses c.args.facts.now.no _ (c.begin-flow.ensures.uses c.args.facts.now.no))).0

pub begin_use-requires-clause-unused : goal.begin_use-requires-clause-unused
begin_use-requires-clause-unused c =
    let at = (goal.at.begin_use-requires-clause-unused c).After-empty_slot-slot in
    (use_room c.self.inside.orders c.mend.new.self _ _ c.begin-flow.result.0 (room at).join c.mend.ensures.room.unused c.mend.ensures.uses (ap (λ (m : Marks). m.unused) c.of-marks.ensures) (first_use c.begin-flow.result.0.uses c.args.facts.now.no _ (c.begin-flow.ensures.uses c.args.facts.now.no))).1

pub returns : goal.returns
returns c =
    let made = (λ (g : Held). IsMade c.args.capture.now.bytes c.args.facts.now c.args.obj.value.depth c.begin-flow.result.1 g) in
    let next = c.empty_slot-slot.new.slots.items in
    subst (λ (l : List (Option Held)). HasBegun made l (slice_set next c.empty_slot-slot.result (Some c.begin-flow.result.0))) (ap (λ (t : Table). t.slots) c.self.view_is)
    (has_come made c.self.inside.slots.items next c.empty_slot-slot.result c.begin-flow.result.0 c.empty_slot-slot.ensures.slots c.empty_slot-slot.ensures.empty c.begin-flow.ensures)

pub invariant_of-self : goal.invariant_of-self
invariant_of-self c =
    let at = (goal.at.invariant_of-self c).After-empty_slot-slot in
    let next = c.empty_slot-slot.new.slots.items in
    let g = c.begin-flow.result.0 in
    let slot = c.empty_slot-slot.result in
    let some = subst (λ (t : Table). 0 < t.begins) (sym c.self.view_is) c.requires.room in
    record {
      small = omega (arith, some, c.empty_slot-slot.ensures.len);
      sound = sound_fill next (sound at) g (own at) slot;
      orders = record {
        marks = moved (slice_set next slot (Some g)) c.mend.new.self c.begin_use.new.self c.begin_use.ensures.marks
            (c.mend.ensures.marks next None (Some g) (ordered at).marks c.empty_slot-slot.ensures.empty c.none.ensures.empty c.of-marks.ensures (own_come next slot g (own at)));
        uses = c.begin_use.ensures.uses next None (Some g) (uses_moved next c.self.inside.orders.by_use c.mend.new.self.by_use c.mend.ensures.uses (ordered at).uses) c.empty_slot-slot.ensures.empty c.begin-flow.ensures.uses;
      };
    }
