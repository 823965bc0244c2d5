use Rattle.std.proofs.Common.{◌≡◌, ◌&&◌, ℕ, Bool, false, nat_lt, length, Some, refl, ap, arith}
use Rattle.std.proofs.lemmas.Option.{slice_get_read, slice_get_within}
use Rattle.suri_base.specs.declared.reason.Reason.TheVariants.{Timeout}
use Rattle.bucket_rules.specs.Packets.{bearing, is_quiet, of_packet}
use Rattle.bucket_rules.specs.Row.{off}
use Rattle.bucket_flow.specs.Dues.{deadline_of}
use Rattle.bucket_flow.specs.Flows.{is_due_held, swept_held}
use Rattle.bucket_flow.specs.Held.{Held}
use Rattle.flow_table.specs.Slots.{IsOrderedSlot}
use Rattle.flow_table.proofs.Keeping.{detached_less}
use Rattle.flow_table.proofs.Ordered.{detached_is, parted_sound}
use Rattle.flow_table.proofs.Walking.{some_filled, turn, turn_room, turn_shrinks, walk_from, walked}
use Rattle.flow_table.proofs.sweeps.sweep_slots.Goals as goal

pub loop-age-init : goal.loop-age-init
loop-age-init c = record {
  swept = walk_from (swept_held c.args.capture.now c.args.start c.args.clock c.args.emergency) (is_due_held c.args.capture.now c.args.start c.args.clock c.args.emergency) (off Timeout c.args.emergency) (λ f. refl)
      c.args.emergency c.args.slots.now.items c.args.gone.now.items c.requires.stay;
  room = c.requires.room;
  sound = c.requires.sound;
  orders = c.requires.orders;
}

pub index_mut-requires : goal.index_mut-requires
index_mut-requires c =
    let d = (c.in-Some.ensures c.loop-age.slots.items c.loop-age.invariant.orders.marks).0 in
    let within = slice_get_within c.loop-age.slots.items c.in-Some.slot (Some d.flow) d.there in
    omega (arith, within, c.loop-age.slots.ok.0)

pub sweep_slot-requires-clause-gone : goal.sweep_slot-requires-clause-gone
sweep_slot-requires-clause-gone c = λ s.
    let d = (c.in-Some.ensures c.loop-age.slots.items c.loop-age.invariant.orders.marks).0 in
    let one = some_filled c.loop-age.slots.items c.in-Some.slot d.flow d.there in
    omega (arith, one, c.loop-age.invariant.room)

pub sweep_slot-requires-clause-orders : goal.sweep_slot-requires-clause-orders
sweep_slot-requires-clause-orders c =
    let now = c.loop-age.slots.items in
    let d = (c.in-Some.ensures now c.loop-age.invariant.orders.marks).0 in (
      now,
      record {
        sound = c.loop-age.invariant.sound;
        orders = c.loop-age.invariant.orders;
        there = slice_get_read now (length now) c.in-Some.slot c.index_mut.result.now refl (slice_get_within now c.in-Some.slot (Some d.flow) d.there) c.index_mut.ensures.value;
      },
    )

pub loop-age-preserved : goal.loop-age-preserved
loop-age-preserved c =
    let h = swept_held c.args.capture.now c.args.start c.args.clock c.args.emergency in
    let due = is_due_held c.args.capture.now c.args.start c.args.clock c.args.emergency in
    let o = off Timeout c.args.emergency in
    let now = c.loop-age.slots.items in
    let e : _ × ℕ = (c.in-Some.age, c.in-Some.slot) in
    let d = (c.in-Some.ensures now c.loop-age.invariant.orders.marks).0 in
    let there = slice_get_read now (length now) c.in-Some.slot c.index_mut.result.now refl (slice_get_within now c.in-Some.slot (Some d.flow) d.there) c.index_mut.ensures.value in
    let here : IsOrderedSlot now c.loop-age.orders c.in-Some.slot c.index_mut.result.now = record { sound = c.loop-age.invariant.sound; orders = c.loop-age.invariant.orders; there = there } in
    record {
      swept = turn h due o (λ f. refl) c.args.emergency c.loop-age.after now e d c.index_mut.result.now there c.loop-age.invariant.sound c.args.slots.now.items c.args.gone.now.items c.loop-age.gone.items
          c.loop-age.invariant.swept c.sweep_slot.new.slot c.sweep_slot.new.gone.items c.sweep_slot.ensures.slot c.sweep_slot.ensures.gone;
      room = turn_room h due o (λ f. refl) c.args.emergency c.loop-age.after now e d c.index_mut.result.now there c.sweep_slot.new.slot c.loop-age.gone.items c.sweep_slot.new.gone.items c.sweep_slot.ensures.slot c.sweep_slot.ensures.gone
          _ _ _ _ c.loop-age.gone.ok.0 c.sweep_slot.new.gone.ok.0 c.loop-age.invariant.room c.sweep_slot.ensures.capacity;
      sound = parted_sound h (λ f. detached_is _ _ f) (λ f. detached_less _ _ f) now c.in-Some.slot c.index_mut.result.now c.sweep_slot.new.slot here.sound here.there c.sweep_slot.ensures.slot;
      orders = c.sweep_slot.ensures.orders now here;
    }

pub loop-age-smaller : goal.loop-age-smaller
loop-age-smaller c =
    let now = c.loop-age.slots.items in
    let d = (c.in-Some.ensures now c.loop-age.invariant.orders.marks).0 in
    turn_shrinks (swept_held c.args.capture.now c.args.start c.args.clock c.args.emergency) (is_due_held c.args.capture.now c.args.start c.args.clock c.args.emergency) (off Timeout c.args.emergency) (λ f. refl)
    c.args.emergency c.loop-age.after now (c.in-Some.age, c.in-Some.slot) d c.index_mut.result.now
    (slice_get_read now (length now) c.in-Some.slot c.index_mut.result.now refl (slice_get_within now c.in-Some.slot (Some d.flow) d.there) c.index_mut.ensures.value) c.sweep_slot.new.slot c.sweep_slot.ensures.slot

pub returns : goal.returns
returns c =
    let s = c.loop-age.invariant.swept in
    let w = walked (swept_held c.args.capture.now c.args.start c.args.clock c.args.emergency) (is_due_held c.args.capture.now c.args.start c.args.clock c.args.emergency) (off Timeout c.args.emergency) (λ f. refl)
    c.args.emergency c.args.clock (λ g e. unexpired g e) c.loop-age.after c.args.slots.now.items c.loop-age.slots.items c.args.gone.now.items c.loop-age.gone.items s (c.in_default.ensures c.loop-age.slots.items c.loop-age.invariant.orders.marks) in
    record { sound = c.loop-age.invariant.sound; orders = c.loop-age.invariant.orders; slots = w.0; len = omega (arith, s.count, c.loop-age.slots.ok.0, c.args.slots.now.ok.0); gone = w.1 }
  where
    unexpired : (g : Held) → nat_lt (deadline_of c.args.emergency g) c.args.clock ≡ false → is_due_held c.args.capture.now c.args.start c.args.clock c.args.emergency g ≡ false
    unexpired g e = ap (λ (b : Bool). b && of_packet (bearing c.args.capture.now g.obj.sums.last_no) (λ m. is_quiet c.args.start m)) e
