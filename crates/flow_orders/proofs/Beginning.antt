-- In orders of no flow, any flow may begin in any slot.
use Rattle.std.proofs.Common.{◌≡◌, ℕ, ◌<◌, ◌≤◌, List, [], length, Option, Some, None, subst, sym, arith}
use Rattle.std.specs.declared.cmp.Ordering.{Ordering}
use Rattle.key_order.specs.Ages.{age_cmp}
use Rattle.key_order.specs.KeyPlaces.{place_cmp}
use Rattle.slot_order.specs.Order.{added, CanReplace}
use Rattle.flow_orders.specs.Keys.{marks_of, times_in}
use Rattle.flow_orders.specs.Orders.{CanMend, CanMendTimes, CanMendUnused, FlowOrders, HasRoomToBegin}
use Rattle.key_order.specs.declared.ages.Age.{Age}
use Rattle.flow_orders.specs.declared.marks.Marks.{Marks}
use Rattle.flow_orders.specs.declared.marks.Times.{Times}

-- a key comes where there is no pair, and none leaves
comes : {K : Type 0} (cmp : K → K → Ordering) (es : List (K × ℕ)) (spare : ℕ) (new : Option K) (s : ℕ) → es ≡ [] → 1 ≤ spare → CanReplace cmp es spare None new s
comes {K} cmp es spare new s none room = subst (λ (ps : List (K × ℕ)). CanReplace cmp ps spare None new s) (sym none) record {
  was = λ k e. cc;
  free = λ k r e h. cc;
  room = fits new;
}
  where
    fits : (n : Option K) → added cmp None n ≤ spare
    fits None = omega arith
    fits (Some k) = room

pub may_begin : (o : FlowOrders) (slot : ℕ) (new : Marks) → o.by_key.pairs ≡ [] → o.due.pairs ≡ [] → o.due_in_emergency.pairs ≡ [] → o.unused.pairs ≡ [] → o.by_use.pairs ≡ []
    → HasRoomToBegin o → CanMend o slot (marks_of None) new
may_begin o slot new by_key due due_in_emergency unused by_use room =
    let use_room : length o.by_use.pairs < o.unused.room = let r = room.join.unused in omega arith in
    let some : 1 ≤ o.unused.room = omega arith in
    record {
      by_key = comes place_cmp o.by_key.pairs o.by_key.room new.key slot by_key room.by_key;
      due = comes age_cmp o.due.pairs o.due.room new.due slot due room.join.due;
      due_in_emergency = comes age_cmp o.due_in_emergency.pairs o.due_in_emergency.room new.due_in_emergency slot due_in_emergency room.join.due_in_emergency;
      unused = comes age_cmp o.unused.pairs o.unused.room new.unused slot unused some;
      kept = λ h. use_room;
    }

-- and so with some of its marks alone
pub may_begin_times : (o : FlowOrders) (slot : ℕ) (to : Times) → o.by_key.pairs ≡ [] → o.due.pairs ≡ [] → o.due_in_emergency.pairs ≡ [] → o.unused.pairs ≡ [] → o.by_use.pairs ≡ []
    → HasRoomToBegin o → CanMendTimes o slot (times_in (marks_of None)) to
may_begin_times o slot to by_key due due_in_emergency unused by_use room =
    let m = may_begin o slot (record { key = None; due = to.due; due_in_emergency = to.due_in_emergency; unused = to.unused }) by_key due due_in_emergency unused by_use room in
    record { due = m.due; due_in_emergency = m.due_in_emergency; unused = m.unused; kept = m.kept }

pub may_begin_unused : (o : FlowOrders) (slot : ℕ) (new : Option Age) → o.by_key.pairs ≡ [] → o.due.pairs ≡ [] → o.due_in_emergency.pairs ≡ [] → o.unused.pairs ≡ [] → o.by_use.pairs ≡ []
    → HasRoomToBegin o → CanMendUnused o slot None new
may_begin_unused o slot new by_key due due_in_emergency unused by_use room =
    let m = may_begin o slot (record { key = None; due = None; due_in_emergency = None; unused = new }) by_key due due_in_emergency unused by_use room in
    record { unused = m.unused; kept = m.kept }
