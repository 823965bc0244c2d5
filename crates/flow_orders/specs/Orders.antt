-- Five orders beside slots of flows.
use Rattle.std.specs.Prelude.{◌≡◌, ℕ, ◌+◌, ◌<◌, ◌≤◌, true, false, List, length, Option, Some, slice_get}
use Rattle.std.specs.Ordering.{nat_cmp}
use Rattle.key_order.specs.declared.ages.Age.{Age}
use Rattle.key_order.specs.declared.places.KeyPlace.{KeyPlace}
use Rattle.key_order.specs.Ages.{age_cmp}
use Rattle.key_order.specs.KeyPlaces.{place_cmp}
use Rattle.slot_order.specs.Index.{IsIndex}
use Rattle.slot_order.specs.Order.{added, CanReplace, Pairs}
use Rattle.flow_orders.specs.Flow.{Held, is_linked, linked_with}
use Rattle.flow_orders.specs.Keys.{bears_deadline, bears_key, bears_unused, bears_use}
use Rattle.flow_orders.specs.declared.marks.Marks.{Marks}
use Rattle.flow_orders.specs.declared.marks.Times.{Times}

pub record FlowOrders : Type 0 where
  pub by_key : Pairs KeyPlace
  pub due : Pairs Age
  pub due_in_emergency : Pairs Age
  pub unused : Pairs Age
  pub by_use : Pairs ℕ

-- four hold just what the marks of the slots' flows say
pub record AreMarks (slots : List (Option Held)) (o : FlowOrders) : Type 0 where
  pub by_key : IsIndex place_cmp bears_key slots o.by_key.pairs
  pub due : IsIndex age_cmp (bears_deadline false) slots o.due.pairs
  pub due_in_emergency : IsIndex age_cmp (bears_deadline true) slots o.due_in_emergency.pairs
  pub unused : IsIndex age_cmp bears_unused slots o.unused.pairs

-- no flow is linked
abbrev pub NoneLinked : List (Option Held) → Type 0
NoneLinked slots = (i : ℕ) (f : Held) → slice_get slots i ≡ Some (Some f) → is_linked f.place ≡ false

-- all five are the orders of these slots
pub record AreOrders (slots : List (Option Held)) (o : FlowOrders) : Type 0 where
  pub marks : AreMarks slots o
  pub uses : IsIndex nat_cmp bears_use slots o.by_use.pairs

-- what would stand in a slot shares its run with no flow of another slot, and its key with no linked one
pub record IsOwn (slots : List (Option Held)) (i : ℕ) (new : Option Held) : Type 0 where
  pub run : (f g : Held) (j : ℕ) → new ≡ Some f → slice_get slots j ≡ Some (Some g) → g.run ≡ f.run → j ≡ i
  pub key : (f g : Held) (j : ℕ) → new ≡ Some f → is_linked f.place ≡ true → slice_get slots j ≡ Some (Some g) → linked_with f.obj.sums.key g ≡ true → j ≡ i

-- the marks of a slot may change: they are those of the slot and no other's, there is room, and so there is for each open use to end
pub record CanMend (o : FlowOrders) (slot : ℕ) (old new : Marks) : Type 0 where
  pub by_key : CanReplace place_cmp o.by_key.pairs o.by_key.room old.key new.key slot
  pub due : CanReplace age_cmp o.due.pairs o.due.room old.due new.due slot
  pub due_in_emergency : CanReplace age_cmp o.due_in_emergency.pairs o.due_in_emergency.room old.due_in_emergency new.due_in_emergency slot
  pub unused : CanReplace age_cmp o.unused.pairs o.unused.room old.unused new.unused slot
  pub kept : 0 < added age_cmp old.unused new.unused → length o.by_use.pairs < o.unused.room

-- only those may change that packets change
pub record CanMendTimes (o : FlowOrders) (slot : ℕ) (from to : Times) : Type 0 where
  pub due : CanReplace age_cmp o.due.pairs o.due.room from.due to.due slot
  pub due_in_emergency : CanReplace age_cmp o.due_in_emergency.pairs o.due_in_emergency.room from.due_in_emergency to.due_in_emergency slot
  pub unused : CanReplace age_cmp o.unused.pairs o.unused.room from.unused to.unused slot
  pub kept : 0 < added age_cmp from.unused to.unused → length o.by_use.pairs < o.unused.room

-- only the place among the unused may change
pub record CanMendUnused (o : FlowOrders) (slot : ℕ) (old new : Option Age) : Type 0 where
  pub unused : CanReplace age_cmp o.unused.pairs o.unused.room old new slot
  pub kept : 0 < added age_cmp old new → length o.by_use.pairs < o.unused.room

-- room for a change of marks
pub record HasRoomToMend (o : FlowOrders) (old new : Marks) : Type 0 where
  pub by_key : added place_cmp old.key new.key ≤ o.by_key.room
  pub due : added age_cmp old.due new.due ≤ o.due.room
  pub due_in_emergency : added age_cmp old.due_in_emergency new.due_in_emergency ≤ o.due_in_emergency.room
  pub unused : added age_cmp old.unused new.unused ≤ o.unused.room
  pub kept : 0 < added age_cmp old.unused new.unused → length o.by_use.pairs < o.unused.room

-- and for a change of those that packets change
pub record HasRoomForTimes (o : FlowOrders) (from to : Times) : Type 0 where
  pub due : added age_cmp from.due to.due ≤ o.due.room
  pub due_in_emergency : added age_cmp from.due_in_emergency to.due_in_emergency ≤ o.due_in_emergency.room
  pub unused : added age_cmp from.unused to.unused ≤ o.unused.room
  pub kept : 0 < added age_cmp from.unused to.unused → length o.by_use.pairs < o.unused.room

pub record SamePairs (o p : FlowOrders) : Type 0 where
  pub by_key : p.by_key.pairs ≡ o.by_key.pairs
  pub due : p.due.pairs ≡ o.due.pairs
  pub due_in_emergency : p.due_in_emergency.pairs ≡ o.due_in_emergency.pairs
  pub unused : p.unused.pairs ≡ o.unused.pairs
  pub by_use : p.by_use.pairs ≡ o.by_use.pairs

pub record SameMarks (o p : FlowOrders) : Type 0 where
  pub by_key : p.by_key ≡ o.by_key
  pub due : p.due ≡ o.due
  pub due_in_emergency : p.due_in_emergency ≡ o.due_in_emergency
  pub unused : p.unused ≡ o.unused

pub record SameButUnused (o p : FlowOrders) : Type 0 where
  pub by_key : p.by_key ≡ o.by_key
  pub due : p.due ≡ o.due
  pub due_in_emergency : p.due_in_emergency ≡ o.due_in_emergency

-- there is room as before
pub record IsRoomy (o p : FlowOrders) : Type 0 where
  pub by_key : o.by_key.room ≤ p.by_key.room
  pub due : o.due.room ≤ p.due.room
  pub due_in_emergency : o.due_in_emergency.room ≤ p.due_in_emergency.room
  pub unused : o.unused.room ≤ p.unused.room
  pub by_use : o.by_use.room ≤ p.by_use.room

-- and after a change of marks, but for the new ones
pub record IsRoomKept (old new : Marks) (o p : FlowOrders) : Type 0 where
  pub by_key : o.by_key.room ≤ p.by_key.room + added place_cmp old.key new.key
  pub due : o.due.room ≤ p.due.room + added age_cmp old.due new.due
  pub due_in_emergency : o.due_in_emergency.room ≤ p.due_in_emergency.room + added age_cmp old.due_in_emergency new.due_in_emergency
  pub unused : o.unused.room ≤ p.unused.room + added age_cmp old.unused new.unused

-- and after a change of those that packets change
pub record AreTimesRoomy (from to : Times) (o p : FlowOrders) : Type 0 where
  pub due : o.due.room ≤ p.due.room + added age_cmp from.due to.due
  pub due_in_emergency : o.due_in_emergency.room ≤ p.due_in_emergency.room + added age_cmp from.due_in_emergency to.due_in_emergency
  pub unused : o.unused.room ≤ p.unused.room + added age_cmp from.unused to.unused

-- room for a use more, and for new deadlines
pub record HasRoomToJoin (o : FlowOrders) : Type 0 where
  pub due : 1 ≤ o.due.room
  pub due_in_emergency : 1 ≤ o.due_in_emergency.room
  pub by_use : 1 ≤ o.by_use.room
  pub unused : length o.by_use.pairs + 1 ≤ o.unused.room

-- and for a flow more
pub record HasRoomToBegin (o : FlowOrders) : Type 0 where
  pub by_key : 1 ≤ o.by_key.room
  pub join : HasRoomToJoin o
