use Rattle.std.proofs.Common.{◌≡◌, ◌<◌, ℕ, List, Option, Some, None, slice_get, slice_set, sym, ◌∙◌, ap, subst}
use Rattle.suri_base.specs.declared.app.App.{App}
use Rattle.flow_object.specs.Standing.{StandsFor}
use Rattle.flow_sum.specs.Run.{Run}
use Rattle.std.specs.Ordering.{nat_cmp}
use Rattle.slot_order.specs.Order.{Pairs, slot_of}
use Rattle.bucket_rules.specs.Row.{is_linked}
use Rattle.bucket_flow.specs.Flows.{NonePasses}
use Rattle.bucket_flow.specs.Held.{Held, Joined, used_by}
use Rattle.flow_orders.specs.Orders.{HasRoomToJoin}
use Rattle.flow_orders.specs.declared.marks.Times.{Times}
use Rattle.flow_table.specs.Slots.{Table, filled, rank}
use Rattle.flow_table.proofs.Keeping.{joined_key}
use Rattle.flow_table.proofs.Marked.{first_use, joins_room, room_to_join, same_key_mark, use_room}
use Rattle.flow_table.proofs.Ordered.{may_mend_times, moved, own_kept, unused_frame, uses_moved}
use Rattle.flow_table.proofs.Slots.{get_rank, slot_now, slot_read}
use Rattle.flow_table.proofs.Sound.{sound_join}
use Rattle.flow_table.proofs.table.FlowTable.join.Goals.{In-Some}
use Rattle.flow_table.proofs.table.FlowTable.join.Goals as goal

-- the flow that is read is the one that is known
read : (c : In-Some) → c.in-Some.flow ≡ c.requires.flow.flow
read c = slot_read c.self.inside.slots.items c.args.self.now.slots c.args.slot c.index_mut.result.now c.in-Some.flow c.requires.flow.flow (ap (λ (t : Table). t.slots) c.self.view_is) c.requires.flow.there c.index_mut.ensures.value c.in-Some.is

-- the flow that was read stands in the slot
there : (c : In-Some) → slice_get c.self.inside.slots.items c.args.slot ≡ Some (Some c.in-Some.flow)
there c = slot_now c.self.inside.slots.items c.args.self.now.slots c.args.slot c.index_mut.result.now c.in-Some.flow c.requires.flow.flow (ap (λ (t : Table). t.slots) c.self.view_is) c.requires.flow.there c.index_mut.ensures.value c.in-Some.is

known : (c : In-Some) → (r : Run) × (judged : List App) × StandsFor c.in-Some.flow.obj c.args.capture.now.bytes r judged
known c = subst (λ (f : Held). (r : Run) × (judged : List App) × StandsFor f.obj c.args.capture.now.bytes r judged) (sym (read c)) c.requires.flow.holds.known

unused : (c : In-Some) → NonePasses (used_by c.args.facts.now.no) (filled c.self.inside.slots.items)
unused c = subst (λ (l : List (Option Held)). NonePasses (used_by c.args.facts.now.no) (filled l)) (sym (ap (λ (t : Table). t.slots) c.self.view_is)) c.requires.unused

room : (c : In-Some) → HasRoomToJoin c.self.inside.orders
room c = joins_room c.self.inside.orders (subst (λ (t : Table). 0 < t.joins) (sym c.self.view_is) c.requires.room)

pub join-offer-requires-clause-new : goal.join-offer-requires-clause-new
join-offer-requires-clause-new c =
    let at = (goal.at.join-offer-requires-clause-new c).In-Some in
    unused at (rank c.self.inside.slots.items c.args.slot) c.in-Some.flow (get_rank c.self.inside.slots.items c.args.slot c.in-Some.flow (there at))

pub join-offer-requires-clause-known : goal.join-offer-requires-clause-known
join-offer-requires-clause-known c =
    let at = (goal.at.join-offer-requires-clause-known c).In-Some in
    known at

pub mend_times-requires : goal.mend_times-requires
mend_times-requires c =
    let at = (goal.at.mend_times-requires c).In-Some in
    let slots = c.self.inside.slots.items in
    let f = c.in-Some.flow in
    let h = c.join-offer.new.self in
    let j = c.join-offer.ensures in
    let k = known at in
    let key = joined_key c.args.capture.now.bytes c.args.facts.now c.join-offer.result f h k.0 k.1 j k.2 in
    may_mend_times slots c.self.inside.orders c.args.slot (Some f) (Some h) _ _ c.self.invariant.orders.marks (there at) c.of-old.ensures c.of-new.ensures
    (own_kept slots c.args.slot f h c.self.invariant.sound (there at) j.run key (λ e. ap is_linked (sym j.place) ∙ e))
    (room_to_join c.self.inside.orders f h (room at) (first_use h.uses c.args.facts.now.no _ (j.uses c.args.facts.now.no)))

pub begin_use-requires-clause-new : goal.begin_use-requires-clause-new
begin_use-requires-clause-new c =
    let at = (goal.at.begin_use-requires-clause-new c).In-Some in
    subst (λ (u : Pairs ℕ). slot_of nat_cmp u.pairs c.args.facts.now.no ≡ None) (sym c.mend_times.ensures.uses) (unused_frame c.self.inside.slots.items c.self.inside.orders.by_use.pairs c.args.facts.now.no c.self.invariant.orders.uses (unused at))

pub begin_use-requires-clause-room : goal.begin_use-requires-clause-room
begin_use-requires-clause-room c =
    let at = (goal.at.begin_use-requires-clause-room c).In-Some in
    (use_room c.self.inside.orders c.mend_times.new.self _ _ c.join-offer.new.self (room at) c.mend_times.ensures.room.unused c.mend_times.ensures.uses (ap (λ (t : Times). t.unused) c.of-new.ensures) (first_use c.join-offer.new.self.uses c.args.facts.now.no _ (c.join-offer.ensures.uses c.args.facts.now.no))).0

pub begin_use-requires-clause-unused : goal.begin_use-requires-clause-unused
begin_use-requires-clause-unused c =
    let at = (goal.at.begin_use-requires-clause-unused c).In-Some in
    (use_room c.self.inside.orders c.mend_times.new.self _ _ c.join-offer.new.self (room at) c.mend_times.ensures.room.unused c.mend_times.ensures.uses (ap (λ (t : Times). t.unused) c.of-new.ensures) (first_use c.join-offer.new.self.uses c.args.facts.now.no _ (c.join-offer.ensures.uses c.args.facts.now.no))).1

pub returns : goal.returns
returns c =
    let at = (goal.at.returns c).In-Some in
    record {
      flow = c.requires.flow.flow;
      there = c.requires.flow.there;
      now = c.join-offer.new.self;
      did = subst (λ (f : Held). Joined c.args.capture.now.bytes c.args.facts.now c.join-offer.result f c.join-offer.new.self) (read at) c.join-offer.ensures;
      set = ap (λ (l : List (Option Held)). slice_set l c.args.slot (Some c.join-offer.new.self)) (ap (λ (t : Table). t.slots) c.self.view_is);
    }

pub invariant_of-self : goal.invariant_of-self
invariant_of-self c =
    let at = (goal.at.invariant_of-self c).In-Some in
    let slots = c.self.inside.slots.items in
    let f = c.in-Some.flow in
    let h = c.join-offer.new.self in
    let j = c.join-offer.ensures in
    let k = known at in
    let key = joined_key c.args.capture.now.bytes c.args.facts.now c.join-offer.result f h k.0 k.1 j k.2 in
    record {
      small = c.self.invariant.small;
      sound = sound_join slots c.self.invariant.sound c.args.slot f h c.args.facts.now.no (there at) j.run key j.place j.uses (unused at);
      orders = record {
        marks = moved (slice_set slots c.args.slot (Some h)) c.mend_times.new.self c.begin_use.new.self c.begin_use.ensures.marks
            (c.mend_times.ensures.marks slots (Some f) (Some h) c.self.invariant.orders.marks (there at) (same_key_mark f h j.place key) c.of-old.ensures c.of-new.ensures (own_kept slots c.args.slot f h c.self.invariant.sound (there at) j.run key (λ e. ap is_linked (sym j.place) ∙ e)));
        uses = c.begin_use.ensures.uses slots (Some f) (Some h) (uses_moved slots c.self.inside.orders.by_use c.mend_times.new.self.by_use c.mend_times.ensures.uses c.self.invariant.orders.uses) (there at) j.uses;
      };
    }
