-- The orders of slots stay theirs, whatever a call makes of one of them.
use Rattle.std.proofs.Common.{◌≡◌, ℕ, ◌<◌, ◌==◌, ◌&&◌, not, Bool, true, false, cond, List, length, slice_get, slice_set, Option, Some, None, ◌⊎◌, inl, inr, ⊎_elim, refl, sym, ap, subst, ◌∙◌, arith}
use Rattle.std.proofs.lemmas.Bool.Decides.{nat_tests}
use Rattle.std.proofs.lemmas.Option.{none-some, same_Some}
use Rattle.std.specs.Ordering.{nat_cmp}
use Rattle.suri_base.specs.Keys.{same_key}
use Rattle.suri_base.proofs.SameKeys.{same_key-is}
use Rattle.key_order.specs.Ages.{age_cmp}
use Rattle.key_order.specs.KeyPlaces.{place_cmp}
use Rattle.key_order.specs.declared.ages.Age.{Age}
use Rattle.key_order.specs.declared.places.KeyPlace.{KeyPlace}
use Rattle.slot_order.specs.Index.{IsFound, IsIndex, bears_by, borne}
use Rattle.slot_order.specs.Order.{Pairs, slot_of}
use Rattle.slot_order.proofs.Index.{kept}
use Rattle.bucket_rules.specs.Row.{Off, detached, has, is_linked, is_none_of}
use Rattle.bucket_flow.specs.Held.{Held, is_detached, is_unused_held, leaves, used_by}
use Rattle.bucket_flow.specs.Flows.{NonePasses, detached_for, stays}
use Rattle.flow_orders.specs.Keys.{bears_use, deadline, is_linked_held, key_of, last_seen, marks_of, times_in}
use Rattle.flow_orders.specs.Orders.{AreMarks, AreOrders, CanMend, CanMendTimes, CanMendUnused, FlowOrders, HasRoomForTimes, HasRoomToMend, SameMarks, SamePairs}
use Rattle.flow_orders.specs.Orders as orders
use Rattle.flow_orders.specs.declared.marks.Marks.{Marks}
use Rattle.flow_orders.specs.declared.marks.Times.{Times}
use Rattle.flow_orders.proofs.Finding.{both}
use Rattle.flow_orders.proofs.Mending.{can_mend, can_mend_times, can_mend_unused, grows, kept_in}
use Rattle.flow_table.specs.Slots.{AreKin, AreSound, IsGrown, IsOrderedSlot, IsOwn, filled, parted, rank}
use Rattle.flow_table.proofs.Marked.{kin_marks, none_has, none_same, room_to_leave, room_to_stay}
use Rattle.flow_table.proofs.Slots.{get_rank}
use Rattle.flow_table.proofs.Sound.{IsLess, sound_cut, sound_set}

-- what stands in a slot has the same marks afterwards
module _ (slots : List (Option Held)) (i : ℕ) (old new : Option Held) (at : slice_get slots i ≡ Some old) where
  pub kept_marks : (o : FlowOrders) → AreMarks slots o → marks_of new ≡ marks_of old → AreMarks (slice_set slots i new) o
  kept_marks o h e = record {
    by_key = kept_in slots i old new at place_cmp is_linked_held key_of o.by_key.pairs h.by_key (ap (λ (m : Marks). m.key) e);
    due = kept_in slots i old new at age_cmp is_linked_held (deadline false) o.due.pairs h.due (ap (λ (m : Marks). m.due) e);
    due_in_emergency = kept_in slots i old new at age_cmp is_linked_held (deadline true) o.due_in_emergency.pairs h.due_in_emergency (ap (λ (m : Marks). m.due_in_emergency) e);
    unused = kept_in slots i old new at age_cmp is_unused_held last_seen o.unused.pairs h.unused (ap (λ (m : Marks). m.unused) e);
  }

  pub kept_uses : (o : FlowOrders) → IsIndex nat_cmp bears_use slots o.by_use.pairs → ((u : ℕ) → borne bears_use new u ≡ borne bears_use old u) → IsIndex nat_cmp bears_use (slice_set slots i new) o.by_use.pairs
  kept_uses o h e = kept nat_cmp bears_use slots o.by_use.pairs i old new h at e

pub kept_orders : (slots : List (Option Held)) (o : FlowOrders) (i : ℕ) (f g : Held) → AreOrders slots o → slice_get slots i ≡ Some (Some f) → AreKin f g → ((u : ℕ) → has g.uses u ≡ has f.uses u) → AreOrders (slice_set slots i (Some g)) o
kept_orders slots o i f g h at k uses = record {
  marks = kept_marks slots i (Some f) (Some g) at o h.marks (kin_marks f g k (none_same f.uses g.uses uses));
  uses = kept_uses slots i (Some f) (Some g) at o h.uses uses;
}

pub grown_orders : (slots next : List (Option Held)) (o : FlowOrders) → IsGrown slots next → AreOrders slots o → AreOrders next o
grown_orders slots next o (inl e) h = subst (λ (l : List (Option Held)). AreOrders l o) (sym e) h
grown_orders slots next o (inr e) h = subst (λ (l : List (Option Held)). AreOrders l o) (sym e) (grows slots o h)

-- orders that hold the same marks
pub moved : (slots : List (Option Held)) (o p : FlowOrders) → SameMarks o p → AreMarks slots o → AreMarks slots p
moved slots o p s h = record {
  by_key = subst (λ (x : Pairs KeyPlace). IsIndex place_cmp (bears_by place_cmp is_linked_held key_of) slots x.pairs) (sym s.by_key) h.by_key;
  due = subst (λ (x : Pairs Age). IsIndex age_cmp (bears_by age_cmp is_linked_held (deadline false)) slots x.pairs) (sym s.due) h.due;
  due_in_emergency = subst (λ (x : Pairs Age). IsIndex age_cmp (bears_by age_cmp is_linked_held (deadline true)) slots x.pairs) (sym s.due_in_emergency) h.due_in_emergency;
  unused = subst (λ (x : Pairs Age). IsIndex age_cmp (bears_by age_cmp is_unused_held last_seen) slots x.pairs) (sym s.unused) h.unused;
}

-- orders of the same pairs, with other room
pub same_pairs : (slots : List (Option Held)) (o p : FlowOrders) → SamePairs o p → AreOrders slots o → AreOrders slots p
same_pairs slots o p s h = record {
  marks = record {
    by_key = subst (λ (x : List (KeyPlace × ℕ)). IsIndex place_cmp (bears_by place_cmp is_linked_held key_of) slots x) (sym s.by_key) h.marks.by_key;
    due = subst (λ (x : List (Age × ℕ)). IsIndex age_cmp (bears_by age_cmp is_linked_held (deadline false)) slots x) (sym s.due) h.marks.due;
    due_in_emergency = subst (λ (x : List (Age × ℕ)). IsIndex age_cmp (bears_by age_cmp is_linked_held (deadline true)) slots x) (sym s.due_in_emergency) h.marks.due_in_emergency;
    unused = subst (λ (x : List (Age × ℕ)). IsIndex age_cmp (bears_by age_cmp is_unused_held last_seen) slots x) (sym s.unused) h.marks.unused;
  };
  uses = subst (λ (x : List (ℕ × ℕ)). IsIndex nat_cmp bears_use slots x) (sym s.by_use) h.uses;
}

pub uses_moved : (slots : List (Option Held)) (x y : Pairs ℕ) → y ≡ x → IsIndex nat_cmp bears_use slots x.pairs → IsIndex nat_cmp bears_use slots y.pairs
uses_moved slots x y e h = subst (λ (z : Pairs ℕ). IsIndex nat_cmp bears_use slots z.pairs) (sym e) h

-- the marks of a slot may be mended
pub may_mend : (slots : List (Option Held)) (o : FlowOrders) (i : ℕ) (old new : Option Held) (a b : Marks) → AreMarks slots o → slice_get slots i ≡ Some old → a ≡ marks_of old → b ≡ marks_of new → orders.IsOwn slots i new
    → HasRoomToMend o (marks_of old) (marks_of new) → CanMend o i a b
may_mend slots o i old new a b h at d e w r =
    subst (λ (m : Marks). CanMend o i m b) (sym d) (subst (λ (m : Marks). CanMend o i (marks_of old) m) (sym e) (can_mend slots o i old new h at w r))

-- or only those that packets change
pub may_mend_times : (slots : List (Option Held)) (o : FlowOrders) (i : ℕ) (old new : Option Held) (a b : Times) → AreMarks slots o → slice_get slots i ≡ Some old → a ≡ times_in (marks_of old) → b ≡ times_in (marks_of new) → orders.IsOwn slots i new
    → HasRoomForTimes o (times_in (marks_of old)) (times_in (marks_of new)) → CanMendTimes o i a b
may_mend_times slots o i old new a b h at d e w r =
    subst (λ (m : Times). CanMendTimes o i m b) (sym d) (subst (λ (m : Times). CanMendTimes o i (times_in (marks_of old)) m) (sym e) (can_mend_times slots o i old new h at w r))

-- or only the place among the unused
pub may_mend_unused : (slots : List (Option Held)) (o : FlowOrders) (i : ℕ) (old new : Option Held) (a b : Option Age) → AreMarks slots o → slice_get slots i ≡ Some old → a ≡ (marks_of old).unused → b ≡ (marks_of new).unused → orders.IsOwn slots i new
    → length o.by_use.pairs < o.unused.room → CanMendUnused o i a b
may_mend_unused slots o i old new a b h at d e w r =
    subst (λ (m : Option Age). CanMendUnused o i m b) (sym d) (subst (λ (m : Option Age). CanMendUnused o i (marks_of old).unused m) (sym e) (can_mend_unused slots o i old new h at w r))

-- the uses of a slot stay, and its marks were mended
pub mended_orders : (slots : List (Option Held)) (o p : FlowOrders) (i : ℕ) (old new : Option Held) → AreOrders slots o → slice_get slots i ≡ Some old → ((u : ℕ) → borne bears_use new u ≡ borne bears_use old u)
    → AreMarks (slice_set slots i new) p → p.by_use ≡ o.by_use → AreOrders (slice_set slots i new) p
mended_orders slots o p i old new h at uses marks e = record { marks = marks; uses = uses_moved (slice_set slots i new) o.by_use p.by_use e (kept_uses slots i old new at o h.uses uses) }

-- a frame that uses no flow has no slot
pub unused_frame : (slots : List (Option Held)) (ps : List (ℕ × ℕ)) (frame : ℕ) → IsIndex nat_cmp bears_use slots ps → NonePasses (used_by frame) (filled slots) → slot_of nat_cmp ps frame ≡ None
unused_frame slots ps frame h none = by (slot_of nat_cmp ps frame) refl
  where
    by : (o : Option ℕ) → slot_of nat_cmp ps frame ≡ o → o ≡ None
    by None e = refl
    by (Some j) e = let u = h.sound frame j e in let k : has u.0.uses frame ≡ false = none (rank slots j) u.0 (get_rank slots j u.0 u.1) in let m = u.2 in cc

-- what stands in a slot afterwards shares nothing with another slot
pub own_none : (slots : List (Option Held)) (i : ℕ) → orders.IsOwn slots i None
own_none slots i = record { run = λ f g j e s r. absurd (none-some f e); key = λ f g j e l s m. absurd (none-some f e) }

pub own_kept : (slots : List (Option Held)) (i : ℕ) (f h : Held) → AreSound slots → slice_get slots i ≡ Some (Some f) → h.run ≡ f.run → h.obj.sums.key ≡ f.obj.sums.key → (is_linked h.place ≡ true → is_linked f.place ≡ true)
    → orders.IsOwn slots i (Some h)
own_kept slots i f h s at run key less = record {
  run = λ k g j e t r. s.runs j i g f t at (r ∙ ap (λ (x : Held). x.run) (sym (same_Some h k e)) ∙ run);
  key = λ k g j e l t m.
      let b = both (is_linked g.place) (same_key g.obj.sums.key k.obj.sums.key) m in
      let n = same_Some h k e in
      s.keys j i g f t at (b.0, less (ap (λ (x : Held). is_linked x.place) n ∙ l), same_key-is g.obj.sums.key k.obj.sums.key b.1 ∙ ap (λ (x : Held). x.obj.sums.key) (sym n) ∙ key);
}

pub own_less : (slots : List (Option Held)) (i : ℕ) (f h : Held) → AreSound slots → slice_get slots i ≡ Some (Some f) → IsLess f h → orders.IsOwn slots i (Some h)
own_less slots i f h s at l = own_kept slots i f h s at l.run l.key l.linked

pub own_come : (slots : List (Option Held)) (i : ℕ) (h : Held) → IsOwn h slots → orders.IsOwn slots i (Some h)
own_come slots i h o = record {
  run = λ k g j e t r. absurd (o.run j g t (ap (λ (x : Held). x.run) (same_Some h k e) ∙ sym r));
  key = λ k g j e l t m.
      let b = both (is_linked g.place) (same_key g.obj.sums.key k.obj.sums.key) m in
      let n = same_Some h k e in
      absurd (o.key j g t (ap (λ (x : Held). is_linked x.place) n ∙ l, b.0, ap (λ (x : Held). x.obj.sums.key) n ∙ sym (same_key-is g.obj.sums.key k.obj.sums.key b.1)));
}

-- a frame that uses no flow of another slot doesn't use this one's, where the orders don't lead it here
pub not_used : (slots : List (Option Held)) (o : FlowOrders) (i frame : ℕ) (f : Held) (r : Option ℕ) → AreSound slots → slice_get slots i ≡ Some (Some f) → IsFound bears_use slots frame r → (r ≡ Some i → ⊥) → has f.uses frame ≡ false
not_used slots o i frame f None s at h n = h i f at
not_used slots o i frame f (Some j) s at h n = off (has f.uses frame) (λ u. n (ap Some (s.frames j i h.0 f h.1 at (frame, h.2, u))))
  where
    off : (b : Bool) → (b ≡ true → ⊥) → b ≡ false
    off true m = absurd (m refl)
    off false m = refl

-- and where they do, it is the one
pub is_used : (slots : List (Option Held)) (ps : List (ℕ × ℕ)) (i frame : ℕ) → IsIndex nat_cmp bears_use slots ps → IsFound bears_use slots frame (Some i) → slot_of nat_cmp ps frame ≡ Some i
is_used slots ps i frame h f = h.whole frame i f.0 f.1 f.2

-- a use ended that there was not
pub uses_same : (f g : Held) (frame : ℕ) → has f.uses frame ≡ false → ((u : ℕ) → has g.uses u ≡ (has f.uses u && not (u == frame))) → (u : ℕ) → has g.uses u ≡ has f.uses u
uses_same f g frame n h u = h u ∙ step (u == frame) (has f.uses u) (λ e. ap (λ (v : ℕ). has f.uses v) (equal u frame e) ∙ n)
  where
    equal : (m n : ℕ) → (m == n) ≡ true → m ≡ n
    equal m n h = grind (arith, nat_tests)

    step : (c b : Bool) → (c ≡ true → b ≡ false) → (b && not c) ≡ b
    step true true k = sym (k refl)
    step true false k = refl
    step false true k = refl
    step false false k = refl

-- what a sweep makes of a slot
pub record IsParted (slots : List (Option Held)) (i : ℕ) (old new : Option Held) : Type 0 where
  pub marks : (marks_of new ≡ marks_of old) ⊎ (marks_of new ≡ marks_of None)
  pub uses : (u : ℕ) → borne bears_use new u ≡ borne bears_use old u
  pub own : orders.IsOwn slots i new

-- a flow that is the same, or detached
abbrev pub IsDetached : Held → Held → Type 0
IsDetached f h = (h ≡ f) ⊎ ((o : Off) × (h ≡ record f { place = detached o }))

pub detached_is : (o : Off) (test : Bool) (f : Held) → IsDetached f (detached_for o test f)
detached_is o test f = by (is_linked f.place && test)
  where
    by : (b : Bool) → IsDetached f (cond b (record f { place = detached o }) f)
    by true = inr (o, refl)
    by false = inl refl

pub is_parted : (slots : List (Option Held)) (i : ℕ) (p : Held → Held) (old : Option Held) → AreSound slots → slice_get slots i ≡ Some old → ((f : Held) → IsDetached f (p f)) → ((f : Held) → IsLess f (p f))
    → IsParted slots i old (parted p stays old)
is_parted slots i p None s at d l = record { marks = inl refl; uses = λ u. refl; own = own_none slots i }
is_parted slots i p (Some f) s at d l = by (leaves (p f)) refl
  where
    same : (h : Held) → IsDetached f h → (marks_of (Some h) ≡ marks_of (Some f)) ⊎ (marks_of (Some h) ≡ marks_of None)
    same h (inl e) = inl (ap (λ (x : Held). marks_of (Some x)) e)
    same h (inr e) = inr (ap (λ (x : Held). marks_of (Some x)) e.1)

    uses : (h : Held) → IsDetached f h → h.uses ≡ f.uses
    uses h (inl e) = ap (λ (x : Held). x.uses) e
    uses h (inr e) = ap (λ (x : Held). x.uses) e.1

    gone : (u : ℕ) → is_none_of (p f).uses ≡ true → false ≡ has f.uses u
    gone u e = sym (none_has f.uses u (ap is_none_of (sym (uses (p f) (d f))) ∙ e))

    rest : (h : Held) → leaves h ≡ true → is_none_of h.uses ≡ true
    rest h e = (both (is_detached h.place) (is_none_of h.uses) e).1

    by : (b : Bool) → leaves (p f) ≡ b → IsParted slots i (Some f) (cond (not b) (Some (p f)) None)
    by true e = record { marks = inr refl; uses = λ u. gone u (rest (p f) e); own = own_none slots i }
    by false e = record { marks = same (p f) (d f); uses = λ u. ap (λ (us : List ℕ). has us u) (uses (p f) (d f)); own = own_less slots i f (p f) s at (l f) }

module _ (p : Held → Held) (d : (f : Held) → IsDetached f (p f)) (l : (f : Held) → IsLess f (p f)) (slots : List (Option Held)) (i : ℕ) (old new : Option Held) (s : AreSound slots) (at : slice_get slots i ≡ Some old) (e : new ≡ parted p stays old) where
  parted_slot : IsParted slots i old new
  parted_slot = subst (λ (n : Option Held). IsParted slots i old n) (sym e) (is_parted slots i p old s at d l)

  pub parted_uses : (o : FlowOrders) → IsIndex nat_cmp bears_use slots o.by_use.pairs → IsIndex nat_cmp bears_use (slice_set slots i new) o.by_use.pairs
  parted_uses o h = kept_uses slots i old new at o h parted_slot.uses

  pub parted_sound : AreSound (slice_set slots i new)
  parted_sound = subst (λ (n : Option Held). AreSound (slice_set slots i n)) (sym e) (by old at)
    where
      by : (o : Option Held) → slice_get slots i ≡ Some o → AreSound (slice_set slots i (parted p stays o))
      by None t = sound_cut slots s i
      by (Some f) t = step (stays (p f))
        where
          step : (b : Bool) → AreSound (slice_set slots i (cond b (Some (p f)) None))
          step true = sound_set slots s i f (p f) t (l f)
          step false = sound_cut slots s i

module _ (p : Held → Held) (d : (f : Held) → IsDetached f (p f)) (l : (f : Held) → IsLess f (p f)) (slots : List (Option Held)) (o : FlowOrders) (i : ℕ) (old new : Option Held) (h : IsOrderedSlot slots o i old) (e : new ≡ parted p stays old) where
  parted_here : IsParted slots i old new
  parted_here = parted_slot p d l slots i old new h.sound h.there e

  pub parted_mend : (a b : Marks) → a ≡ marks_of old → b ≡ marks_of new → CanMend o i a b
  parted_mend a b x y = may_mend slots o i old new a b h.orders.marks h.there x y parted_here.own
      (⊎_elim (λ m. room_to_stay o (marks_of old) (marks_of new) m) (λ m. room_to_leave o (marks_of old) (marks_of new) m) parted_here.marks)

  pub parted_own : orders.IsOwn slots i new
  parted_own = parted_here.own

  pub parted_orders : (q : FlowOrders) → AreMarks (slice_set slots i new) q → q.by_use ≡ o.by_use → AreOrders (slice_set slots i new) q
  parted_orders q m u = mended_orders slots o q i old new h.orders h.there parted_here.uses m u
