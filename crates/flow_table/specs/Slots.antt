-- Flows in slots: as a list of what stands in the slots, and what a call makes of one of them.
use Rattle.std.specs.Prelude.{◌≡◌, ℕ, zero, suc, ◌-◌, ◌⊎◌, ◌++◌, ◌==◌, ◌&&◌, not, ◌<◌, ◌≤◌, min, Bool, true, if◌then◌else◌, List, [], ◌∷◌, Option, Some, None, filter, insert, length, map, slice_get, slice_set}
use Rattle.flow_object.specs.Ending.{EndedFlow}
use Rattle.flow_object.specs.Standing.{StandsFor}
use Rattle.flow_sum.specs.Run.{Run}
use Rattle.suri_base.specs.Capture.{Captured}
use Rattle.suri_base.specs.declared.app.App.{App}
use Rattle.suri_base.specs.declared.facts.Facts.{Facts}
use Rattle.bucket_rules.specs.Row.{Off, has, is_linked}
use Rattle.flow_orders.specs.Keys.{marks_of}
use Rattle.flow_orders.specs.Orders.{AreOrders, FlowOrders}
use Rattle.key_order.specs.declared.ages.Age.{Age}
use Rattle.bucket_flow.specs.Held.{Held, ended_by, ended_of, leaves, linked_with, used_by}
use Rattle.bucket_flow.specs.Flows.{AreUsed, IsVictim, NonePasses, find_in, stays}

-- what contracts see of a table: its slots, and for how many more flows and uses it has room itself. The room of a flow is its own
pub record Table : Type 0 where
  pub slots : List (Option Held)
  pub begins : ℕ
  pub joins : ℕ

-- what stands in the slots, in their order
abbrev pub filled : {X : Type 0} → List (Option X) → List X
filled [] = []
filled (None ∷ os) = filled os
filled (Some x ∷ os) = x ∷ filled os

-- the place there of a slot: how many before it are filled
abbrev pub rank : {X : Type 0} → List (Option X) → ℕ → ℕ
rank [] i = 0
rank (o ∷ os) zero = 0
rank (None ∷ os) (suc i) = rank os i
rank (Some x ∷ os) (suc i) = suc (rank os i)

-- a slot's flow changes, and leaves its slot or stays
abbrev pub parted : {X : Type 0} → (X → X) → (X → Bool) → Option X → Option X
parted h stays None = None
parted h stays (Some x) = if stays (h x) then Some (h x) else None

-- those that left, where each flow changed by h
abbrev pub left_by : (Held → Held) → List (Option Held) → List EndedFlow
left_by h slots = map ended_of (filter leaves (map h (filled slots)))

-- of the slots below 2 ^ 32, how many more a vector takes without memory
abbrev pub spare_slots : ℕ → ℕ → ℕ
spare_slots capacity len = min capacity 4294967295 - len

-- for how many more uses the orders have room
abbrev pub spare_joins : FlowOrders → ℕ
spare_joins o = min (min o.due.room o.due_in_emergency.room) (min o.by_use.room (o.unused.room - length o.by_use.pairs))

-- one empty slot more, or as it was
abbrev pub IsGrown : List (Option Held) → List (Option Held) → Type 0
IsGrown slots next = (next ≡ slots) ⊎ (next ≡ slots ++ None ∷ [])

abbrev pub IsFilled : List (Option Held) → ℕ → Type 0
IsFilled slots at = (g : Held) × (slice_get slots at ≡ Some (Some g))

-- in this slot stands a flow of which that holds
pub record SlotHolds (P : Held → Type 0) (slots : List (Option Held)) (at : ℕ) : Type 0 where
  pub flow : Held
  pub there : slice_get slots at ≡ Some (Some flow)
  pub holds : P flow

-- each flow stays: it is linked, or a frame uses it
abbrev pub NoneLeaves : List (Option Held) → Type 0
NoneLeaves slots = (i : ℕ) (f : Held) → slice_get slots i ≡ Some (Some f) → stays f ≡ true

-- in this slot stands a flow that passes the test
pub record SlotPasses (test : Held → Bool) (slots : List (Option Held)) (at : ℕ) : Type 0 where
  pub flow : Held
  pub there : slice_get slots at ≡ Some (Some flow)
  pub passes : test flow ≡ true

-- the slot of a flow that passes the test, or none where there is none
abbrev pub IsSomeSlot : (Held → Bool) → List (Option Held) → Option ℕ → Type 0
IsSomeSlot test slots None = NonePasses test (filled slots)
IsSomeSlot test slots (Some at) = SlotPasses test slots at

-- the slot of the flow that is evicted first, or none where no flow is linked and unused
abbrev pub IsVictimSlot : List (Option Held) → Option ℕ → Type 0
IsVictimSlot slots None = AreUsed (filled slots) (length (filled slots))
IsVictimSlot slots (Some at) = IsFilled slots at × IsVictim (filled slots) (length (filled slots)) (rank slots at)

-- the flow in this slot changed so, and no other
pub record IsChanged (how : Held → Held → Type 0) (slots : List (Option Held)) (at : ℕ) (next : List (Option Held)) : Type 0 where
  pub flow : Held
  pub there : slice_get slots at ≡ Some (Some flow)
  pub now : Held
  pub did : how flow now
  pub set : next ≡ slice_set slots at (Some now)

-- the flow in this slot left it, for that reason
pub record HasLeft (why : Off) (slots : List (Option Held)) (at : ℕ) (next : List (Option Held)) (e : EndedFlow) : Type 0 where
  pub flow : Held
  pub there : slice_get slots at ≡ Some (Some flow)
  pub ended : e ≡ ended_by why flow
  pub cut : next ≡ slice_set slots at None

-- a flow of which that holds came into a slot that was empty, or new
pub record HasBegun (P : Held → Type 0) (slots next : List (Option Held)) : Type 0 where
  pub flow : Held
  pub holds : P flow
  pub place : ℕ
  pub within : place ≤ length (filled slots)
  pub comes : filled next ≡ insert (filled slots) place flow

-- a run that begins with this packet is a new one: no linked flow has its key, none its number, and none is used by it
pub record IsNewRun (t : Facts) (flows : List Held) : Type 0 where
  pub key : NonePasses (linked_with t.key) flows
  pub run : find_in flows t.no ≡ None
  pub unused : NonePasses (used_by t.no) flows

-- the packet may join the flow
pub record MayJoin (c : Captured) (t : Facts) (f : Held) : Type 0 where
  pub key : t.key ≡ f.obj.sums.key
  pub later : f.obj.sums.last_no < t.no
  pub room : 0 < f.room
  pub known : (r : Run) × (judged : List App) × StandsFor f.obj c.bytes r judged

-- the same flow, but for its room, of which there is as much or more
pub record HasRoomier (f g : Held) : Type 0 where
  pub kept : f.room ≤ g.room
  pub same : record g { room = 0 } ≡ record f { room = 0 }

-- the flow in this slot has room for one more use, and the table for that of it
abbrev pub HasJoinRoom : Table → ℕ → Type 0
HasJoinRoom t at = (0 < t.joins) × SlotHolds (λ (g : Held). 0 < g.room) t.slots at

-- where two slots have flows of which that holds, they are one
abbrev pub AreApart : (Held → Held → Type 0) → List (Option Held) → Type 0
AreApart C slots = (i j : ℕ) (f g : Held) → slice_get slots i ≡ Some (Some f) → slice_get slots j ≡ Some (Some g) → C f g → i ≡ j

-- both are of one run; both are linked, and have one key; some frame uses both
abbrev pub SharesRun : Held → Held → Type 0
SharesRun f g = f.run ≡ g.run

abbrev pub SharesKey : Held → Held → Type 0
SharesKey f g = (is_linked f.place ≡ true) × (is_linked g.place ≡ true) × (f.obj.sums.key ≡ g.obj.sums.key)

abbrev pub SharesFrame : Held → Held → Type 0
SharesFrame f g = (u : ℕ) × (has f.uses u ≡ true) × (has g.uses u ≡ true)

-- each flow has a run of its own, a key at most one linked flow, and a frame uses at most one flow
pub record AreSound (slots : List (Option Held)) : Type 0 where
  pub runs : AreApart SharesRun slots
  pub keys : AreApart SharesKey slots
  pub frames : AreApart SharesFrame slots

-- a flow that shares nothing with those in the slots
pub record IsOwn (h : Held) (slots : List (Option Held)) : Type 0 where
  pub run : (j : ℕ) (g : Held) → slice_get slots j ≡ Some (Some g) → SharesRun h g → ⊥
  pub key : (j : ℕ) (g : Held) → slice_get slots j ≡ Some (Some g) → SharesKey h g → ⊥
  pub frames : (j : ℕ) (g : Held) → slice_get slots j ≡ Some (Some g) → SharesFrame h g → ⊥

-- the orders are those of sound slots, in one of which that stands
pub record IsOrderedSlot (slots : List (Option Held)) (o : FlowOrders) (at : ℕ) (here : Option Held) : Type 0 where
  pub sound : AreSound slots
  pub orders : AreOrders slots o
  pub there : slice_get slots at ≡ Some here

-- two flows, or one at two times, that differ in nothing that marks are made of, but for the uses
pub record AreKin (f g : Held) : Type 0 where
  pub run : g.run ≡ f.run
  pub place : g.place ≡ f.place
  pub sums : g.obj.sums ≡ f.obj.sums
  pub state : g.obj.state ≡ f.obj.state

-- the orders are those of sound slots, in one of which stands f; it becomes g when the use of a frame ends, and these are their places among the unused
pub record IsUseEnded (slots : List (Option Held)) (o : FlowOrders) (at no : ℕ) (f g : Held) (old new : Option Age) : Type 0 where
  pub here : IsOrderedSlot slots o at (Some f)
  pub kin : AreKin f g
  pub uses : (u : ℕ) → has g.uses u ≡ (has f.uses u && not (u == no))
  pub was : old ≡ (marks_of (Some f)).unused
  pub now : new ≡ (marks_of (Some g)).unused

-- what holds of every table
pub record IsTable (len : ℕ) (slots : List (Option Held)) (o : FlowOrders) : Type 0 where
  pub small : len < 4294967296
  pub sound : AreSound slots
  pub orders : AreOrders slots o
