-- The laws of orders beside slots.
use Rattle.std.specs.Prelude.{◌≡◌, ℕ, ◌<◌, List, [], ◌∷◌, ◌++◌, length, Option, Some, None, slice_get, slice_set}
use Rattle.std.specs.Ordering.{nat_cmp}
use Rattle.slot_order.specs.Index.{borne, IsIndex}
use Rattle.flow_orders.specs.Flow.{Held}
use Rattle.flow_orders.specs.Keys.{bears_use, marks_of, times_in}
use Rattle.flow_orders.specs.Orders.{AreMarks, AreOrders, CanMend, CanMendTimes, CanMendUnused, FlowOrders, HasRoomForTimes, HasRoomToMend, IsOwn}

-- the marks of a slot may change to those of what shares no run and no key with another slot
abbrev pub MayMend : Type 0
MayMend = (slots : List (Option Held)) (o : FlowOrders) (i : ℕ) (old new : Option Held) → AreMarks slots o → slice_get slots i ≡ Some old → IsOwn slots i new
    → HasRoomToMend o (marks_of old) (marks_of new) → CanMend o i (marks_of old) (marks_of new)

-- so may only those that packets change
abbrev pub MayMendTimes : Type 0
MayMendTimes = (slots : List (Option Held)) (o : FlowOrders) (i : ℕ) (old new : Option Held) → AreMarks slots o → slice_get slots i ≡ Some old → IsOwn slots i new
    → HasRoomForTimes o (times_in (marks_of old)) (times_in (marks_of new)) → CanMendTimes o i (times_in (marks_of old)) (times_in (marks_of new))

-- so may only the place among the unused, where there is room for one more there than uses are open
abbrev pub MayMendUnused : Type 0
MayMendUnused = (slots : List (Option Held)) (o : FlowOrders) (i : ℕ) (old new : Option Held) → AreMarks slots o → slice_get slots i ≡ Some old → IsOwn slots i new
    → length o.by_use.pairs < o.unused.room → CanMendUnused o i (marks_of old).unused (marks_of new).unused

abbrev pub GrowsSlots : Type 0
GrowsSlots = (slots : List (Option Held)) (o : FlowOrders) → AreOrders slots o → AreOrders (slots ++ None ∷ []) o

abbrev pub KeepsUses : Type 0
KeepsUses = (slots : List (Option Held)) (o : FlowOrders) (i : ℕ) (old new : Option Held) → IsIndex nat_cmp bears_use slots o.by_use.pairs → slice_get slots i ≡ Some old
    → ((u : ℕ) → borne bears_use new u ≡ borne bears_use old u) → IsIndex nat_cmp bears_use (slice_set slots i new) o.by_use.pairs
