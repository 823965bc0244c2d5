use Rattle.std.proofs.Common.{◌≡◌, ◌≤◌, List, Option, Some, slice_get, slice_set, ap, subst}
use Rattle.std.proofs.lemmas.Result.{on_ok_weaker}
use Rattle.bucket_flow.specs.Held.{Held}
use Rattle.bucket_rules.specs.Row.{has}
use Rattle.flow_table.specs.Slots.{HasRoomier, Table, spare_joins}
use Rattle.flow_table.proofs.Places.{get_set}
use Rattle.flow_table.proofs.Slots.{slot_read, slot_now}
use Rattle.flow_table.proofs.Keeping.{roomier_kin, roomier_less}
use Rattle.flow_table.proofs.Marked.{joins_kept, room_joins}
use Rattle.flow_table.proofs.Ordered.{kept_orders, same_pairs}
use Rattle.flow_table.proofs.Sound.{sound_set}
use Rattle.flow_table.proofs.table.FlowTable.reserve_join.Goals.{In-Some}
use Rattle.flow_table.proofs.table.FlowTable.reserve_join.Goals as goal

-- the flow that was read is the one that is known, and stands in the slot
read : (c : In-Some) → c.in-Some.flow ≡ c.requires.0
read c = slot_read c.self.inside.slots.items c.args.self.now.slots c.args.slot c.index_mut.result.now c.in-Some.flow c.requires.0 (ap (λ (t : Table). t.slots) c.self.view_is) c.requires.1 c.index_mut.ensures.value c.in-Some.is

there : (c : In-Some) → slice_get c.self.inside.slots.items c.args.slot ≡ Some (Some c.in-Some.flow)
there c = slot_now c.self.inside.slots.items c.args.self.now.slots c.args.slot c.index_mut.result.now c.in-Some.flow c.requires.0 (ap (λ (t : Table). t.slots) c.self.view_is) c.requires.1 c.index_mut.ensures.value c.in-Some.is

pub returns-in_err-reserve-in-Some-clause-flow : goal.returns-in_err-reserve-in-Some-clause-flow
returns-in_err-reserve-in-Some-clause-flow c =
    let at = (goal.at.returns-in_err-reserve-in-Some-clause-flow c).In-Some in
    record {
      flow = c.requires.0;
      there = c.requires.1;
      now = c.reserve.new.self;
      did = subst (λ (f : Held). HasRoomier f c.reserve.new.self) (read at) (record { kept = c.reserve.ensures.kept; same = c.reserve.ensures.same });
      set = ap (λ (l : List (Option Held)). slice_set l c.args.slot (Some c.reserve.new.self)) (ap (λ (t : Table). t.slots) c.self.view_is);
    }

pub returns-clause-flow : goal.returns-clause-flow
returns-clause-flow c =
    let at = (goal.at.returns-clause-flow c).In-Some in
    record {
      flow = c.requires.0;
      there = c.requires.1;
      now = c.reserve.new.self;
      did = subst (λ (f : Held). HasRoomier f c.reserve.new.self) (read at) (record { kept = c.reserve.ensures.kept; same = c.reserve.ensures.same });
      set = ap (λ (l : List (Option Held)). slice_set l c.args.slot (Some c.reserve.new.self)) (ap (λ (t : Table). t.slots) c.self.view_is);
    }

pub returns-clause-room : goal.returns-clause-room
returns-clause-room c =
    let at = (goal.at.returns-clause-room c).In-Some in
    on_ok_weaker c.reserve_join.result
    (λ r. (room_joins c.reserve_join.new.self r, record { flow = c.reserve.new.self; there = get_set c.self.inside.slots.items c.args.slot (Some c.in-Some.flow) (Some c.reserve.new.self) (there at); holds = c.in_ok-reserve-in-Some.ensures.room }))
    c.reserve_join.ensures.room

pub returns-clause-joins : goal.returns-clause-joins
returns-clause-joins c = subst (λ (t : Table). t.joins ≤ spare_joins c.reserve_join.new.self) c.self.view_is (joins_kept c.self.inside.orders c.reserve_join.new.self c.reserve_join.ensures.pairs c.reserve_join.ensures.kept)

pub invariant_of-self : goal.invariant_of-self
invariant_of-self c =
    let at = (goal.at.invariant_of-self c).In-Some in
    record {
      small = c.self.invariant.small;
      sound = sound_set c.self.inside.slots.items c.self.invariant.sound c.args.slot c.in-Some.flow c.reserve.new.self (there at) (roomier_less c.in-Some.flow c.reserve.new.self (record { kept = c.reserve.ensures.kept; same = c.reserve.ensures.same }));
      orders = kept_orders c.self.inside.slots.items c.self.inside.orders c.args.slot c.in-Some.flow c.reserve.new.self c.self.invariant.orders (there at) (roomier_kin c.in-Some.flow c.reserve.new.self (record { kept = c.reserve.ensures.kept; same = c.reserve.ensures.same })) (λ u. ap (λ (x : Held). has x.uses u) c.reserve.ensures.same);
    }

pub invariant_of-self-2 : goal.invariant_of-self-2
invariant_of-self-2 c =
    let at = (goal.at.invariant_of-self-2 c).In-Some in
    record {
      small = c.self.invariant.small;
      sound = sound_set c.self.inside.slots.items c.self.invariant.sound c.args.slot c.in-Some.flow c.reserve.new.self (there at) (roomier_less c.in-Some.flow c.reserve.new.self (record { kept = c.reserve.ensures.kept; same = c.reserve.ensures.same }));
      orders = same_pairs (slice_set c.self.inside.slots.items c.args.slot (Some c.reserve.new.self)) c.self.inside.orders c.reserve_join.new.self c.reserve_join.ensures.pairs
          (kept_orders c.self.inside.slots.items c.self.inside.orders c.args.slot c.in-Some.flow c.reserve.new.self c.self.invariant.orders (there at) (roomier_kin c.in-Some.flow c.reserve.new.self (record { kept = c.reserve.ensures.kept; same = c.reserve.ensures.same })) (λ u. ap (λ (x : Held). has x.uses u) c.reserve.ensures.same));
    }
