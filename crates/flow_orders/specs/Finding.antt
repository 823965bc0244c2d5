-- What is looked up in the orders.
use Rattle.std.specs.Prelude.{◌≡◌, ℕ, nat_lt, Bool, true, false, List, Option, Some, None, slice_get}
use Rattle.std.specs.Ordering.{is_gt}
use Rattle.key_order.specs.declared.ages.Age.{Age}
use Rattle.key_order.specs.Ages.{age_cmp}
use Rattle.slot_order.specs.Order.{slot_of}
use Rattle.flow_orders.specs.Flow.{Before, Held, deadline_of, is_linked, is_unused_held}
use Rattle.flow_orders.specs.Keys.{deadline}

-- the age is above the other, where there is another
abbrev pub comes_after : Option Age → Age → Bool
comes_after None k = true
comes_after (Some a) k = is_gt (age_cmp k a)

-- the pair is that of the least age above one
pub record IsStep (pairs : List (Age × ℕ)) (after : Option Age) (e : Age × ℕ) : Type 0 where
  pub there : slot_of age_cmp pairs e.0 ≡ Some e.1
  pub above : comes_after after e.0 ≡ true
  pub least : (q : Age) (s : ℕ) → slot_of age_cmp pairs q ≡ Some s → comes_after after q ≡ true → is_gt (age_cmp e.0 q) ≡ false

-- the slot is that of a flow that may be evicted, and no other such comes before it
pub record IsLeast (slots : List (Option Held)) (i : ℕ) : Type 0 where
  pub flow : Held
  pub there : slice_get slots i ≡ Some (Some flow)
  pub unused : is_unused_held flow ≡ true
  pub first : (j : ℕ) (g : Held) → slice_get slots j ≡ Some (Some g) → is_unused_held g ≡ true → Before flow g

abbrev pub IsLeastUnused : List (Option Held) → Option ℕ → Type 0
IsLeastUnused slots None = (j : ℕ) (g : Held) → slice_get slots j ≡ Some (Some g) → is_unused_held g ≡ false
IsLeastUnused slots (Some i) = IsLeast slots i

-- the age is the deadline of a linked flow in the slot, and of those above an age it is the least
pub record IsDueAt (emergency : Bool) (after : Option Age) (slots : List (Option Held)) (e : Age × ℕ) : Type 0 where
  pub flow : Held
  pub there : slice_get slots e.1 ≡ Some (Some flow)
  pub linked : is_linked flow.place ≡ true
  pub age : e.0 ≡ deadline emergency flow
  pub above : comes_after after e.0 ≡ true
  pub least : (j : ℕ) (g : Held) → slice_get slots j ≡ Some (Some g) → is_linked g.place ≡ true → comes_after after (deadline emergency g) ≡ true → is_gt (age_cmp e.0 (deadline emergency g)) ≡ false

abbrev pub IsFirstDue : Bool → List (Option Held) → Option (Age × ℕ) → Type 0
IsFirstDue emergency slots None = (j : ℕ) (g : Held) → slice_get slots j ≡ Some (Some g) → is_linked g.place ≡ false
IsFirstDue emergency slots (Some e) = IsDueAt emergency None slots e

-- no linked flow whose deadline is above the age has expired at the clock; or the first that has
abbrev pub IsNextDue : Bool → Option Age → ℕ → List (Option Held) → Option (Age × ℕ) → Type 0
IsNextDue emergency after clock slots None = (j : ℕ) (g : Held) → slice_get slots j ≡ Some (Some g) → is_linked g.place ≡ true → comes_after after (deadline emergency g) ≡ true → nat_lt (deadline_of emergency g) clock ≡ false
IsNextDue emergency after clock slots (Some e) = IsDueAt emergency after slots e × ((f : Held) → slice_get slots e.1 ≡ Some (Some f) → nat_lt (deadline_of emergency f) clock ≡ true)
