-- The orders stay those of the slots when what stands in one of them changes.
use Rattle.std.proofs.Common.{◌≡◌, ℕ, ◌<◌, ◌≤◌, ◌==◌, ◌&&◌, ◌||◌, not, Bool, true, false, cond, List, [], ◌∷◌, ◌++◌, length, slice_get, slice_set, Option, Some, None, refl, sym, ap, subst, ◌∙◌, arith}
use Rattle.std.proofs.lemmas.Bool.Decides.{nat_tests}
use Rattle.std.specs.Ordering.{is_eq, nat_cmp, ordering_reverse}
use Rattle.std.specs.declared.cmp.Ordering.{Ordering}
use Rattle.std.specs.declared.cmp.Ordering.TheVariants.{Less, Equal, Greater}
use Rattle.key_order.proofs.Aging.{ages, equal_ages}
use Rattle.key_order.proofs.Telling.{places, tells}
use Rattle.key_order.specs.Ages.{age_cmp}
use Rattle.key_order.specs.KeyPlaces.{place_cmp}
use Rattle.key_order.specs.declared.ages.Age.{Age}
use Rattle.key_order.specs.declared.places.KeyPlace.{KeyPlace}
use Rattle.slot_order.proofs.Index.{can_replace, grown, kept, mended, no_some, replaced_in, some_same}
use Rattle.slot_order.specs.Index.{bears_by, borne, IsIndex, key_in}
use Rattle.slot_order.specs.Order.{Pairs, added, is_key, slot_of}
use Rattle.flow_orders.specs.Flow.{Held, is_linked, is_unused_held}
use Rattle.flow_orders.specs.Keys.{bears_deadline, bears_key, bears_unused, bears_use, but_unused, deadline, is_linked_held, key_of, last_seen, marks_of, times_in}
use Rattle.flow_orders.specs.Orders.{AreMarks, AreOrders, CanMend, CanMendTimes, CanMendUnused, FlowOrders, HasRoomForTimes, HasRoomToMend, IsOwn, NoneLinked, SameButUnused}
use Rattle.flow_orders.specs.declared.marks.Marks.{Marks}
use Rattle.flow_orders.specs.declared.marks.Times.{Times}
use Rattle.flow_orders.proofs.Finding.{both, self}

equal_is : (o : Ordering) → is_eq o ≡ true → o ≡ Equal
equal_is Equal h = refl
equal_is Less h = cc
equal_is Greater h = cc

-- keys of one place are in one place
one_place : (a b k : KeyPlace) → is_eq (place_cmp a k) ≡ true → is_eq (place_cmp b k) ≡ true → is_eq (place_cmp a b) ≡ true
one_place a b k h m = ap is_eq (places.congr a k b (equal_is (place_cmp a k) h) ∙ places.antisymm k b ∙ ap ordering_reverse (equal_is (place_cmp b k) m))

module _ (slots : List (Option Held)) (i : ℕ) (new : Option Held) (w : IsOwn slots i new) where
  pub own_key : (ps : List (KeyPlace × ℕ)) → IsIndex place_cmp bears_key slots ps → (k : KeyPlace) (j : ℕ) → borne bears_key new k ≡ true → slot_of place_cmp ps k ≡ Some j → j ≡ i
  own_key ps h k j b s = by new refl b
    where
      by : (n : Option Held) → new ≡ n → borne bears_key n k ≡ true → j ≡ i
      by None e b = cc
      by (Some f) e b =
          let u = h.sound k j s in
          let l = both (is_linked u.0.place) (is_eq (place_cmp (key_of u.0) k)) u.2 in
          let m = both (is_linked f.place) (is_eq (place_cmp (key_of f) k)) b in
          let t = sym (tells u.0.obj.sums.key f.obj.sums.key) ∙ one_place (key_of u.0) (key_of f) k l.1 m.1 in
          w.key f u.0 j e m.0 u.1 (rw l.0 t)

  pub own_age : (test : Held → Bool) (age : Held → Age) → ((f : Held) → (age f).run ≡ f.run) → (ps : List (Age × ℕ)) → IsIndex age_cmp (bears_by age_cmp test age) slots ps
      → (k : Age) (j : ℕ) → borne (bears_by age_cmp test age) new k ≡ true → slot_of age_cmp ps k ≡ Some j → j ≡ i
  own_age test age runs ps h k j b s = by new refl b
    where
      by : (n : Option Held) → new ≡ n → borne (bears_by age_cmp test age) n k ≡ true → j ≡ i
      by None e b = cc
      by (Some f) e b =
          let u = h.sound k j s in
          let l = equal_ages (age u.0) k (both (test u.0) (is_eq (age_cmp (age u.0) k)) u.2).1 in
          let m = equal_ages (age f) k (both (test f) (is_eq (age_cmp (age f) k)) b).1 in
          w.run f u.0 j e u.1 (sym (runs u.0) ∙ ap (λ (a : Age). a.run) (l ∙ sym m) ∙ runs f)

-- what `mend` asks, from the slots
pub can_mend : (slots : List (Option Held)) (o : FlowOrders) (i : ℕ) (old new : Option Held) → AreMarks slots o → slice_get slots i ≡ Some old → IsOwn slots i new
    → HasRoomToMend o (marks_of old) (marks_of new) → CanMend o i (marks_of old) (marks_of new)
can_mend slots o i old new h at w r = record {
  by_key = can_replace place_cmp (self places) is_linked_held key_of slots o.by_key.pairs o.by_key.room i old new h.by_key at (own_key slots i new w o.by_key.pairs h.by_key) r.by_key;
  due = can_replace age_cmp (self ages) is_linked_held (deadline false) slots o.due.pairs o.due.room i old new h.due at (own_age slots i new w is_linked_held (deadline false) (λ f. refl) o.due.pairs h.due) r.due;
  due_in_emergency = can_replace age_cmp (self ages) is_linked_held (deadline true) slots o.due_in_emergency.pairs o.due_in_emergency.room i old new h.due_in_emergency at
      (own_age slots i new w is_linked_held (deadline true) (λ f. refl) o.due_in_emergency.pairs h.due_in_emergency) r.due_in_emergency;
  unused = can_replace age_cmp (self ages) is_unused_held last_seen slots o.unused.pairs o.unused.room i old new h.unused at (own_age slots i new w is_unused_held last_seen (λ f. refl) o.unused.pairs h.unused) r.unused;
  kept = r.kept;
}

-- what `mend_times` asks
pub can_mend_times : (slots : List (Option Held)) (o : FlowOrders) (i : ℕ) (old new : Option Held) → AreMarks slots o → slice_get slots i ≡ Some old → IsOwn slots i new
    → HasRoomForTimes o (times_in (marks_of old)) (times_in (marks_of new)) → CanMendTimes o i (times_in (marks_of old)) (times_in (marks_of new))
can_mend_times slots o i old new h at w r = record {
  due = can_replace age_cmp (self ages) is_linked_held (deadline false) slots o.due.pairs o.due.room i old new h.due at (own_age slots i new w is_linked_held (deadline false) (λ f. refl) o.due.pairs h.due) r.due;
  due_in_emergency = can_replace age_cmp (self ages) is_linked_held (deadline true) slots o.due_in_emergency.pairs o.due_in_emergency.room i old new h.due_in_emergency at
      (own_age slots i new w is_linked_held (deadline true) (λ f. refl) o.due_in_emergency.pairs h.due_in_emergency) r.due_in_emergency;
  unused = can_replace age_cmp (self ages) is_unused_held last_seen slots o.unused.pairs o.unused.room i old new h.unused at (own_age slots i new w is_unused_held last_seen (λ f. refl) o.unused.pairs h.unused) r.unused;
  kept = r.kept;
}

-- for a new key there has to be room for one
pub added_one : {K : Type 0} (cmp : K → K → Ordering) (old new : Option K) → added cmp old new ≤ 1
added_one cmp old None = omega arith
added_one cmp old (Some k) = by (is_key cmp old k)
  where
    by : (b : Bool) → cond b 0 1 ≤ 1
    by true = omega arith
    by false = omega arith

-- and what `mend_unused` asks
pub can_mend_unused : (slots : List (Option Held)) (o : FlowOrders) (i : ℕ) (old new : Option Held) → AreMarks slots o → slice_get slots i ≡ Some old → IsOwn slots i new
    → length o.by_use.pairs < o.unused.room → CanMendUnused o i (marks_of old).unused (marks_of new).unused
can_mend_unused slots o i old new h at w room = record {
  unused = can_replace age_cmp (self ages) is_unused_held last_seen slots o.unused.pairs o.unused.room i old new h.unused at (own_age slots i new w is_unused_held last_seen (λ f. refl) o.unused.pairs h.unused)
      (let one = added_one age_cmp (marks_of old).unused (marks_of new).unused in omega (arith, one, room));
  kept = λ a. room;
}

-- an order stays that of the slots where what stands in one of them has the same key afterwards
key_borne : {K : Type 0} (cmp : K → K → Ordering) (test : Held → Bool) (key : Held → K) (o : Option Held) (q : K) → borne (bears_by cmp test key) o q ≡ is_key cmp (key_in test key o) q
key_borne cmp test key None q = refl
key_borne {K} cmp test key (Some x) q = by (test x)
  where
    by : (b : Bool) → (b && is_eq (cmp (key x) q)) ≡ is_key cmp (cond b (Some (key x)) None) q
    by true = refl
    by false = refl

pub kept_in : (slots : List (Option Held)) (i : ℕ) (old new : Option Held) → slice_get slots i ≡ Some old → {K : Type 0} (cmp : K → K → Ordering) (test : Held → Bool) (key : Held → K) (ps : List (K × ℕ))
    → IsIndex cmp (bears_by cmp test key) slots ps → key_in test key new ≡ key_in test key old → IsIndex cmp (bears_by cmp test key) (slice_set slots i new) ps
kept_in slots i old new at {K} cmp test key ps h e = kept cmp (bears_by cmp test key) slots ps i old new h at
    (λ k. key_borne cmp test key new k ∙ ap (λ (m : Option K). is_key cmp m k) e ∙ sym (key_borne cmp test key old k))

abbrev Replaced : {K : Type 0} → (K → K → Ordering) → ℕ → Option K → Option K → List (K × ℕ) → List (K × ℕ) → Type 0
Replaced {K} cmp i old new ps qs = (q : K) → slot_of cmp qs q ≡ cond (is_key cmp new q) (Some i) (cond (is_key cmp old q) None (slot_of cmp ps q))

-- and what it makes of the orders
pub marks_mended : (slots : List (Option Held)) (o p : FlowOrders) (i : ℕ) (old new : Option Held) (a b : Marks) → AreMarks slots o → slice_get slots i ≡ Some old → a ≡ marks_of old → b ≡ marks_of new → IsOwn slots i new
    → Replaced place_cmp i a.key b.key o.by_key.pairs p.by_key.pairs → Replaced age_cmp i a.due b.due o.due.pairs p.due.pairs
    → Replaced age_cmp i a.due_in_emergency b.due_in_emergency o.due_in_emergency.pairs p.due_in_emergency.pairs → Replaced age_cmp i a.unused b.unused o.unused.pairs p.unused.pairs
    → AreMarks (slice_set slots i new) p
marks_mended slots o p i old new a b h at d e w k u v x = record {
  by_key = replaced_in place_cmp (self places) is_linked_held key_of slots o.by_key.pairs p.by_key.pairs i old new h.by_key at (own_key slots i new w o.by_key.pairs h.by_key)
      (subst (λ (m : Marks). Replaced place_cmp i m.key (marks_of new).key o.by_key.pairs p.by_key.pairs) d (subst (λ (m : Marks). Replaced place_cmp i a.key m.key o.by_key.pairs p.by_key.pairs) e k));
  due = replaced_in age_cmp (self ages) is_linked_held (deadline false) slots o.due.pairs p.due.pairs i old new h.due at (own_age slots i new w is_linked_held (deadline false) (λ f. refl) o.due.pairs h.due)
      (subst (λ (m : Marks). Replaced age_cmp i m.due (marks_of new).due o.due.pairs p.due.pairs) d (subst (λ (m : Marks). Replaced age_cmp i a.due m.due o.due.pairs p.due.pairs) e u));
  due_in_emergency = replaced_in age_cmp (self ages) is_linked_held (deadline true) slots o.due_in_emergency.pairs p.due_in_emergency.pairs i old new h.due_in_emergency at
      (own_age slots i new w is_linked_held (deadline true) (λ f. refl) o.due_in_emergency.pairs h.due_in_emergency)
      (subst (λ (m : Marks). Replaced age_cmp i m.due_in_emergency (marks_of new).due_in_emergency o.due_in_emergency.pairs p.due_in_emergency.pairs) d
      (subst (λ (m : Marks). Replaced age_cmp i a.due_in_emergency m.due_in_emergency o.due_in_emergency.pairs p.due_in_emergency.pairs) e v));
  unused = replaced_in age_cmp (self ages) is_unused_held last_seen slots o.unused.pairs p.unused.pairs i old new h.unused at (own_age slots i new w is_unused_held last_seen (λ f. refl) o.unused.pairs h.unused)
      (subst (λ (m : Marks). Replaced age_cmp i m.unused (marks_of new).unused o.unused.pairs p.unused.pairs) d (subst (λ (m : Marks). Replaced age_cmp i a.unused m.unused o.unused.pairs p.unused.pairs) e x));
}

-- so where the place of the key stays
pub times_mended : (slots : List (Option Held)) (o p : FlowOrders) (i : ℕ) (old new : Option Held) (a b : Times) → AreMarks slots o → slice_get slots i ≡ Some old → (marks_of new).key ≡ (marks_of old).key
    → a ≡ times_in (marks_of old) → b ≡ times_in (marks_of new) → IsOwn slots i new → p.by_key ≡ o.by_key → Replaced age_cmp i a.due b.due o.due.pairs p.due.pairs
    → Replaced age_cmp i a.due_in_emergency b.due_in_emergency o.due_in_emergency.pairs p.due_in_emergency.pairs → Replaced age_cmp i a.unused b.unused o.unused.pairs p.unused.pairs
    → AreMarks (slice_set slots i new) p
times_mended slots o p i old new a b h at key d e w same u v x = record {
  by_key = subst (λ (s : Pairs KeyPlace). IsIndex place_cmp bears_key (slice_set slots i new) s.pairs) (sym same) (kept_in slots i old new at place_cmp is_linked_held key_of o.by_key.pairs h.by_key key);
  due = replaced_in age_cmp (self ages) is_linked_held (deadline false) slots o.due.pairs p.due.pairs i old new h.due at (own_age slots i new w is_linked_held (deadline false) (λ f. refl) o.due.pairs h.due)
      (told (λ (m n : Times). Replaced age_cmp i m.due n.due o.due.pairs p.due.pairs) u);
  due_in_emergency = replaced_in age_cmp (self ages) is_linked_held (deadline true) slots o.due_in_emergency.pairs p.due_in_emergency.pairs i old new h.due_in_emergency at
      (own_age slots i new w is_linked_held (deadline true) (λ f. refl) o.due_in_emergency.pairs h.due_in_emergency)
      (told (λ (m n : Times). Replaced age_cmp i m.due_in_emergency n.due_in_emergency o.due_in_emergency.pairs p.due_in_emergency.pairs) v);
  unused = replaced_in age_cmp (self ages) is_unused_held last_seen slots o.unused.pairs p.unused.pairs i old new h.unused at (own_age slots i new w is_unused_held last_seen (λ f. refl) o.unused.pairs h.unused)
      (told (λ (m n : Times). Replaced age_cmp i m.unused n.unused o.unused.pairs p.unused.pairs) x);
}
  where
    told : (P : Times → Times → Type 0) → P a b → P (times_in (marks_of old)) (times_in (marks_of new))
    told P k = subst (λ (m : Times). P m (times_in (marks_of new))) d (subst (λ (n : Times). P a n) e k)

-- and where all stay but the place among the unused
pub unused_mended : (slots : List (Option Held)) (o p : FlowOrders) (i : ℕ) (old new : Option Held) (a b : Option Age) → AreMarks slots o → slice_get slots i ≡ Some old → but_unused (marks_of new) ≡ but_unused (marks_of old)
    → a ≡ (marks_of old).unused → b ≡ (marks_of new).unused → IsOwn slots i new → SameButUnused o p → Replaced age_cmp i a b o.unused.pairs p.unused.pairs → AreMarks (slice_set slots i new) p
unused_mended slots o p i old new a b h at alike d e w same x = record {
  by_key = subst (λ (s : Pairs KeyPlace). IsIndex place_cmp bears_key (slice_set slots i new) s.pairs) (sym same.by_key)
      (kept_in slots i old new at place_cmp is_linked_held key_of o.by_key.pairs h.by_key (ap (λ (m : Marks). m.key) alike));
  due = subst (λ (s : Pairs Age). IsIndex age_cmp (bears_deadline false) (slice_set slots i new) s.pairs) (sym same.due)
      (kept_in slots i old new at age_cmp is_linked_held (deadline false) o.due.pairs h.due (ap (λ (m : Marks). m.due) alike));
  due_in_emergency = subst (λ (s : Pairs Age). IsIndex age_cmp (bears_deadline true) (slice_set slots i new) s.pairs) (sym same.due_in_emergency)
      (kept_in slots i old new at age_cmp is_linked_held (deadline true) o.due_in_emergency.pairs h.due_in_emergency (ap (λ (m : Marks). m.due_in_emergency) alike));
  unused = replaced_in age_cmp (self ages) is_unused_held last_seen slots o.unused.pairs p.unused.pairs i old new h.unused at (own_age slots i new w is_unused_held last_seen (λ f. refl) o.unused.pairs h.unused)
      (subst (λ (m : Option Age). Replaced age_cmp i m (marks_of new).unused o.unused.pairs p.unused.pairs) d (subst (λ (m : Option Age). Replaced age_cmp i a m o.unused.pairs p.unused.pairs) e x));
}

-- the uses
module _ (slots : List (Option Held)) (ps qs : List (ℕ × ℕ)) (i : ℕ) (old new : Option Held) (h : IsIndex nat_cmp bears_use slots ps) (at : slice_get slots i ≡ Some old) where
  held : (u : ℕ) → borne bears_use old u ≡ true → slot_of nat_cmp ps u ≡ Some i
  held u b = by old b at
    where
      by : (o : Option Held) → borne bears_use o u ≡ true → slice_get slots i ≡ Some o → slot_of nat_cmp ps u ≡ Some i
      by None b e = cc
      by (Some f) b e = h.whole u i f e b

  pub use_begun : (frame : ℕ) → slot_of nat_cmp ps frame ≡ None → ((q : ℕ) → slot_of nat_cmp qs q ≡ cond (is_eq (nat_cmp frame q)) (Some i) (slot_of nat_cmp ps q))
      → ((u : ℕ) → borne bears_use new u ≡ ((frame == u) || borne bears_use old u)) → IsIndex nat_cmp bears_use (slice_set slots i new) qs
  use_begun frame none m b = mended nat_cmp bears_use slots ps qs i old new h at own (λ k. m k ∙ tells frame k ∙ step (frame == k) (borne bears_use new k) (borne bears_use old k) k (b k) (held k))
    where
      tells : (n k : ℕ) → cond (is_eq (nat_cmp n k)) (Some i) (slot_of nat_cmp ps k) ≡ cond (n == k) (Some i) (slot_of nat_cmp ps k)
      tells n k = ap (λ (c : Bool). cond c (Some i) (slot_of nat_cmp ps k)) (same n k)
        where
          same : (n k : ℕ) → is_eq (nat_cmp n k) ≡ (n == k)
          same n k = grind (arith, nat_tests)

      step : (c n o : Bool) (k : ℕ) → n ≡ (c || o) → (o ≡ true → slot_of nat_cmp ps k ≡ Some i) → cond c (Some i) (slot_of nat_cmp ps k) ≡ cond n (Some i) (cond o None (slot_of nat_cmp ps k))
      step true true o k e f = refl
      step true false o k e f = cc
      step false true true k e f = f refl
      step false true false k e f = cc
      step false false true k e f = cc
      step false false false k e f = refl

      own : (k j : ℕ) → borne bears_use new k ≡ true → slot_of nat_cmp ps k ≡ Some j → j ≡ i
      own k j n s = by (frame == k) (borne bears_use old k) refl refl (sym (b k) ∙ n)
        where
          equal : (m n : ℕ) → (m == n) ≡ true → m ≡ n
          equal m n h = grind (arith, nat_tests)

          by : (c o : Bool) → (frame == k) ≡ c → borne bears_use old k ≡ o → (c || o) ≡ true → j ≡ i
          by true o e f t = no_some (slot_of nat_cmp ps frame) j none (ap (slot_of nat_cmp ps) (equal frame k e) ∙ s)
          by false true e f t = some_same (slot_of nat_cmp ps k) j i s (held k f)
          by false false e f t = cc

  pub use_ended : (frame : ℕ) → slot_of nat_cmp ps frame ≡ Some i → ((q : ℕ) → slot_of nat_cmp qs q ≡ cond (is_eq (nat_cmp frame q)) None (slot_of nat_cmp ps q))
      → ((u : ℕ) → borne bears_use new u ≡ (borne bears_use old u && not (u == frame))) → IsIndex nat_cmp bears_use (slice_set slots i new) qs
  use_ended frame there m b = mended nat_cmp bears_use slots ps qs i old new h at own (λ k. m k ∙ step (k == frame) (is_eq (nat_cmp frame k)) (borne bears_use new k) (borne bears_use old k) k (same frame k) (b k) (held k) (λ e. uses k e))
    where
      same : (n k : ℕ) → is_eq (nat_cmp n k) ≡ (k == n)
      same n k = grind (arith, nat_tests)

      equal : (m n : ℕ) → (m == n) ≡ true → m ≡ n
      equal m n h = grind (arith, nat_tests)

      -- the old flow has the use
      uses : (k : ℕ) → (k == frame) ≡ true → borne bears_use old k ≡ true
      uses k e =
          let u = h.sound frame i there in
          let s : old ≡ Some u.0 = some_same (slice_get slots i) old (Some u.0) at u.1 in
          subst (λ (n : ℕ). borne bears_use old n ≡ true) (sym (equal k frame e)) (subst (λ (v : Option Held). borne bears_use v frame ≡ true) (sym s) u.2)

      step : (c r n o : Bool) (k : ℕ) → r ≡ c → n ≡ (o && not c) → (o ≡ true → slot_of nat_cmp ps k ≡ Some i) → (c ≡ true → o ≡ true)
          → cond r None (slot_of nat_cmp ps k) ≡ cond n (Some i) (cond o None (slot_of nat_cmp ps k))
      step true true true true k e f g u = cc
      step true true false true k e f g u = refl
      step true true n false k e f g u = let v = u refl in cc
      step true false n o k e f g u = cc
      step false true n o k e f g u = cc
      step false false true true k e f g u = g refl
      step false false false true k e f g u = cc
      step false false true false k e f g u = cc
      step false false false false k e f g u = refl

      own : (k j : ℕ) → borne bears_use new k ≡ true → slot_of nat_cmp ps k ≡ Some j → j ≡ i
      own k j n s = some_same (slot_of nat_cmp ps k) j i s (held k (both (borne bears_use old k) (not (k == frame)) (sym (b k) ∙ n)).0)

pub grows : (slots : List (Option Held)) (o : FlowOrders) → AreOrders slots o → AreOrders (slots ++ None ∷ []) o
grows slots o h = record {
  marks = record {
    by_key = grown place_cmp bears_key slots o.by_key.pairs h.marks.by_key;
    due = grown age_cmp (bears_deadline false) slots o.due.pairs h.marks.due;
    due_in_emergency = grown age_cmp (bears_deadline true) slots o.due_in_emergency.pairs h.marks.due_in_emergency;
    unused = grown age_cmp bears_unused slots o.unused.pairs h.marks.unused;
  };
  uses = grown nat_cmp bears_use slots o.by_use.pairs h.uses;
}

pub uses_kept : (slots : List (Option Held)) (o : FlowOrders) (i : ℕ) (old new : Option Held) → IsIndex nat_cmp bears_use slots o.by_use.pairs → slice_get slots i ≡ Some old
    → ((u : ℕ) → borne bears_use new u ≡ borne bears_use old u) → IsIndex nat_cmp bears_use (slice_set slots i new) o.by_use.pairs
uses_kept slots o i old new h at same = kept nat_cmp bears_use slots o.by_use.pairs i old new h at same

-- an order of nothing is that of slots of which nothing passes the test
none_borne : {K : Type 0} (cmp : K → K → Ordering) (test : Held → Bool) (key : Held → K) (slots : List (Option Held)) → ((i : ℕ) (f : Held) → slice_get slots i ≡ Some (Some f) → test f ≡ false)
    → IsIndex cmp (bears_by cmp test key) slots []
none_borne cmp test key slots n = record {
  sound = λ k i e. no_some None i refl e;
  whole = λ k i x e b. off (test x) (is_eq (cmp (key x) k)) (n i x e) b;
}
  where
    off : {T : Type 0} (a b : Bool) → a ≡ false → (a && b) ≡ true → T
    off true b e h = cc
    off false b e h = cc

-- where no flow is linked, four orders of nothing are theirs
pub none_linked : (slots : List (Option Held)) (o : FlowOrders) → NoneLinked slots → o.by_key.pairs ≡ [] → o.due.pairs ≡ [] → o.due_in_emergency.pairs ≡ [] → o.unused.pairs ≡ [] → AreMarks slots o
none_linked slots o n k d e u = record {
  by_key = subst (λ (ps : List (KeyPlace × ℕ)). IsIndex place_cmp bears_key slots ps) (sym k) (none_borne place_cmp is_linked_held key_of slots n);
  due = subst (λ (ps : List (Age × ℕ)). IsIndex age_cmp (bears_deadline false) slots ps) (sym d) (none_borne age_cmp is_linked_held (deadline false) slots n);
  due_in_emergency = subst (λ (ps : List (Age × ℕ)). IsIndex age_cmp (bears_deadline true) slots ps) (sym e) (none_borne age_cmp is_linked_held (deadline true) slots n);
  unused = subst (λ (ps : List (Age × ℕ)). IsIndex age_cmp bears_unused slots ps) (sym u) (none_borne age_cmp is_unused_held last_seen slots (λ i f h. idle (is_linked f.place) _ (n i f h)));
}
  where
    idle : (a b : Bool) → a ≡ false → (a && b) ≡ false
    idle true b e = cc
    idle false b e = refl
