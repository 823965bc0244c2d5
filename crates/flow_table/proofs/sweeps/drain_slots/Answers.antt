use Rattle.std.proofs.Common.{◌≡◌, ◌<◌, length, map, slice_get, Some, refl, sym, subst, arith}
use Rattle.std.proofs.lemmas.Option.{slice_get_read}
use Rattle.bucket_flow.specs.Flows.{drained_held, stays}
use Rattle.flow_orders.specs.Orders.{NoneLinked}
use Rattle.flow_table.specs.Slots.{parted}
use Rattle.flow_table.proofs.Draining.{none_linked_drained}
use Rattle.flow_table.proofs.Keeping.{detached_less}
use Rattle.flow_table.proofs.Ordered.{detached_is, parted_sound, parted_uses, uses_moved}
use Rattle.flow_table.proofs.Sweeping.{room_next, walk_end, walk_next, walk_start}
use Rattle.flow_table.proofs.sweeps.drain_slots.Goals as goal

pub loop-at-init : goal.loop-at-init
loop-at-init c = record { walked = walk_start (drained_held c.args.clock) c.args.slots.now.items c.args.gone.now.items; room = c.requires.room; sound = c.requires.sound; uses = c.requires.orders.uses }

pub loop-at-preserved : goal.loop-at-preserved
loop-at-preserved c =
    let h = drained_held c.args.clock in
    let now = c.loop-at.slots.items in
    let within : c.loop-at.at < length now = omega (arith, c.loop-at-test.true, c.len-at-end.ensures, c.args.slots.now.ok.0, c.loop-at.invariant.walked.count) in
    let there : slice_get now c.loop-at.at ≡ Some c.index_mut.result.now = slice_get_read now (length now) c.loop-at.at c.index_mut.result.now refl within c.index_mut.ensures.value in
    record {
      walked = walk_next h c.loop-at.at now c.index_mut.result.now c.drain_slot.new.slot c.loop-at.gone.items c.drain_slot.new.gone.items within c.index_mut.ensures.value c.drain_slot.ensures.slot c.drain_slot.ensures.gone
          c.args.slots.now.items c.args.gone.now.items c.loop-at.invariant.walked;
      room = room_next h c.loop-at.at now c.index_mut.result.now c.drain_slot.new.slot c.loop-at.gone.items c.drain_slot.new.gone.items within c.index_mut.ensures.value c.drain_slot.ensures.slot c.drain_slot.ensures.gone
          _ _ _ _ c.loop-at.gone.ok.0 c.drain_slot.new.gone.ok.0 c.loop-at.invariant.room c.drain_slot.ensures.capacity;
      sound = parted_sound h (λ f. detached_is _ _ f) (λ f. detached_less _ _ f) now c.loop-at.at c.index_mut.result.now c.drain_slot.new.slot c.loop-at.invariant.sound there c.drain_slot.ensures.slot;
      uses = parted_uses h (λ f. detached_is _ _ f) (λ f. detached_less _ _ f) now c.loop-at.at c.index_mut.result.now c.drain_slot.new.slot c.loop-at.invariant.sound there c.drain_slot.ensures.slot c.args.orders.now c.loop-at.invariant.uses;
    }

pub returns-clause-orders : goal.returns-clause-orders
returns-clause-orders c =
    let now = c.loop-at.slots.items in
    let is : now ≡ map (parted (drained_held c.args.clock) stays) c.args.slots.now.items
    = walk_end (drained_held c.args.clock) c.loop-at.at c.args.slots.now.items now c.args.gone.now.items c.loop-at.gone.items
    (omega (arith, c.loop-at-test.false, c.len-at-end.ensures, c.args.slots.now.ok.0, c.loop-at.invariant.walked.count)) c.loop-at.invariant.walked in
    record {
      marks = c.clear_marks.ensures.marks now (subst NoneLinked (sym is) (none_linked_drained c.args.clock c.args.slots.now.items));
      uses = uses_moved now c.args.orders.now.by_use c.clear_marks.new.self.by_use c.clear_marks.ensures.uses c.loop-at.invariant.uses;
    }
