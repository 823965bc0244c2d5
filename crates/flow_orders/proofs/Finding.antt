-- What the orders find among the flows of slots.
use Rattle.std.proofs.Common.{◌≡◌, ℕ, ◌<◌, ◌≤◌, ◌&&◌, Bool, true, false, List, slice_get, nat_lt, Option, Some, None, refl, sym, ap, subst, ◌∙◌, arith}
use Rattle.std.proofs.lemmas.Bool.Decides.{nat_tests}
use Rattle.std.specs.Cmp.{IsTotalOrder}
use Rattle.std.specs.Option.{MatchOption}
use Rattle.std.specs.Ordering.{is_eq, is_gt, ordering_reverse}
use Rattle.std.specs.declared.cmp.Ordering.{Ordering}
use Rattle.std.specs.declared.cmp.Ordering.TheVariants.{Less, Equal, Greater}
use Rattle.suri_base.specs.declared.key.Key.{Key}
use Rattle.key_order.proofs.Aging.{ages, clock_back, equal_ages, not_above}
use Rattle.key_order.proofs.Telling.{tells}
use Rattle.key_order.specs.Ages.{age_cmp, clock_of}
use Rattle.key_order.specs.KeyPlaces.{place_cmp, place_of}
use Rattle.key_order.specs.declared.ages.Age.{Age}
use Rattle.key_order.specs.declared.places.KeyPlace.{KeyPlace}
use Rattle.slot_order.proofs.Index.{first_found, found, no_some}
use Rattle.slot_order.specs.Index.{IsFound, IsIndex}
use Rattle.slot_order.specs.Next.{IsNext}
use Rattle.slot_order.specs.Order.{IsFirst, slot_of}
use Rattle.flow_orders.specs.Flow.{Held, deadline_of, is_linked, is_unused_held, linked_with}
use Rattle.flow_orders.specs.Keys.{bears_deadline, bears_key, bears_unused, deadline, last_seen}
use Rattle.flow_orders.specs.Finding.{comes_after, IsDueAt, IsFirstDue, IsLeastUnused, IsNextDue, IsStep}

pub self : {K : Type 0} {cmp : K → K → Ordering} (t : IsTotalOrder cmp) (k : K) → is_eq (cmp k k) ≡ true
self {K} {cmp} t k = by (cmp k k) (t.antisymm k k)
  where
    by : (o : Ordering) → o ≡ ordering_reverse o → is_eq o ≡ true
    by Equal e = refl
    by Less e = cc
    by Greater e = cc

pub both : (p q : Bool) → (p && q) ≡ true → (p ≡ true) × (q ≡ true)
both true q h = (refl, h)
both false q h = cc

off : (b : Bool) → (b ≡ true → ⊥) → b ≡ false
off true n = absurd (n refl)
off false n = refl

-- the linked flow of a key
pub linked_found : (slots : List (Option Held)) (pairs : List (KeyPlace × ℕ)) (key : Key) (k : KeyPlace) (r : Option ℕ) → IsIndex place_cmp bears_key slots pairs
    → k ≡ place_of key → r ≡ slot_of place_cmp pairs k → IsFound (λ f k. linked_with k f) slots key r
linked_found slots pairs key k r h p e = by r (subst (λ (o : Option ℕ). IsFound bears_key slots (place_of key) o) (ap (slot_of place_cmp pairs) (sym p) ∙ sym e) (found place_cmp bears_key slots pairs (place_of key) h))
  where
    same : (f : Held) → bears_key f (place_of key) ≡ linked_with key f
    same f = ap (λ (b : Bool). is_linked f.place && b) (tells f.obj.sums.key key)

    by : (o : Option ℕ) → IsFound bears_key slots (place_of key) o → IsFound (λ f k. linked_with k f) slots key o
    by None n = λ i f s. sym (same f) ∙ n i f s
    by (Some i) f = (f.0, f.1, sym (same f.0) ∙ f.2)

-- the first in the order of eviction
pub least_unused : (slots : List (Option Held)) (pairs : List (Age × ℕ)) (e : Age × ℕ) → IsIndex age_cmp bears_unused slots pairs → IsFirst age_cmp pairs e → IsLeastUnused slots (Some e.1)
least_unused slots pairs e h f =
    let k = first_found age_cmp bears_unused slots pairs e h f in
    let x = k.there.0 in
    let b = both (is_unused_held x) (is_eq (age_cmp (last_seen x) e.0)) k.there.2 in
    let s : e.0 ≡ last_seen x = sym (equal_ages (last_seen x) e.0 b.1) in
    record {
      flow = x;
      there = k.there.1;
      unused = b.0;
      first = λ j g at u.
          let m = k.least j g (last_seen g) at (rw u (self ages (last_seen g))) in
          not_above x.obj.sums.last_clock x.run g.obj.sums.last_clock g.run (subst (λ (a : Age). is_gt (age_cmp a (last_seen g)) ≡ false) s m);
    }

pub none_unused : (slots : List (Option Held)) (pairs : List (Age × ℕ)) → IsIndex age_cmp bears_unused slots pairs → ((k : Age) → slot_of age_cmp pairs k ≡ None) → IsLeastUnused slots None
none_unused slots pairs h none j g s =
    off (is_unused_held g) (λ u. no_some (slot_of age_cmp pairs (last_seen g)) j (none (last_seen g)) (h.whole (last_seen g) j g s (rw u (self ages (last_seen g)))))

module _ (slots : List (Option Held)) (emergency : Bool) (pairs : List (Age × ℕ)) (h : IsIndex age_cmp (bears_deadline emergency) slots pairs) where
  has_slot : (j : ℕ) (g : Held) → slice_get slots j ≡ Some (Some g) → is_linked g.place ≡ true → slot_of age_cmp pairs (deadline emergency g) ≡ Some j
  has_slot j g s l = h.whole (deadline emergency g) j g s (rw l (self ages (deadline emergency g)))

  -- a step along the deadlines comes to that of a flow
  due_at : (after : Option Age) (e : Age × ℕ) → IsStep pairs after e → IsDueAt emergency after slots e
  due_at after e f =
      let u = h.sound e.0 e.1 f.there in
      let b = both (is_linked u.0.place) (is_eq (age_cmp (deadline emergency u.0) e.0)) u.2 in
      record { flow = u.0; there = u.1; linked = b.0; age = sym (equal_ages (deadline emergency u.0) e.0 b.1); above = f.above; least = λ j g s l a. f.least (deadline emergency g) j (has_slot j g s l) a }

  none_due : (after : Option Age) → ((q : Age) → comes_after after q ≡ true → slot_of age_cmp pairs q ≡ None) → (j : ℕ) (g : Held) → slice_get slots j ≡ Some (Some g) → is_linked g.place ≡ true → comes_after after (deadline emergency g) ≡ true → ⊥
  none_due after none j g s l a = no_some (slot_of age_cmp pairs (deadline emergency g)) j (none (deadline emergency g) a) (has_slot j g s l)

  pub first_due : (r : Option (Age × ℕ)) → MatchOption r ((q : Age) → slot_of age_cmp pairs q ≡ None) (IsFirst age_cmp pairs) → IsFirstDue emergency slots r
  first_due None n = λ j g s. off (is_linked g.place) (λ l. none_due None (λ q a. n q) j g s l refl)
  first_due (Some e) f = due_at None e (record { there = f.there; above = refl; least = λ q s m a. f.least q s m })

  pub none_before : (after : Option Age) (clock : ℕ) → ((q : Age) → comes_after after q ≡ true → slot_of age_cmp pairs q ≡ None) → IsNextDue emergency after clock slots None
  none_before after clock none j g s l a = absurd (none_due after none j g s l a)

  clock_at : (e : Age × ℕ) (f : Held) → e.0 ≡ deadline emergency f → clock_of e.0 ≡ deadline_of emergency f
  clock_at e f a = ap clock_of a ∙ clock_back (deadline_of emergency f) f.run

  pub due_before : (after : Option Age) (clock : ℕ) (e : Age × ℕ) → IsStep pairs after e → clock_of e.0 < clock → IsNextDue emergency after clock slots (Some e)
  due_before after clock e f b = let d = due_at after e f in (d, λ g s. same d g s)
    where
      one : (f g : Held) → slice_get slots e.1 ≡ Some (Some f) → slice_get slots e.1 ≡ Some (Some g) → f ≡ g
      one f g s t = cc

      sooner : (c d : ℕ) → c ≡ d → c < clock → nat_lt d clock ≡ true
      sooner c d e l = grind (arith, nat_tests)

      same : (d : IsDueAt emergency after slots e) (g : Held) → slice_get slots e.1 ≡ Some (Some g) → nat_lt (deadline_of emergency g) clock ≡ true
      same d g s = subst (λ (f : Held). nat_lt (deadline_of emergency f) clock ≡ true) (one d.flow g d.there s) (sooner (clock_of e.0) (deadline_of emergency d.flow) (clock_at e d.flow d.age) b)

  pub due_later : (after : Option Age) (clock : ℕ) (e : Age × ℕ) → IsStep pairs after e → clock ≤ clock_of e.0 → IsNextDue emergency after clock slots None
  due_later after clock e f b j g s l a =
      let d = due_at after e f in
      let m = not_above (deadline_of emergency d.flow) d.flow.run (deadline_of emergency g) g.run (subst (λ (x : Age). is_gt (age_cmp x (deadline emergency g)) ≡ false) d.age (d.least j g s l a)) in
      later (clock_of e.0) (deadline_of emergency d.flow) (deadline_of emergency g) (clock_at e d.flow d.age) m.0 b
    where
      later : (c d g : ℕ) → c ≡ d → d ≤ g → clock ≤ c → nat_lt g clock ≡ false
      later c d g e l n = grind (arith, nat_tests)

-- the least pair of all, and above an age, are steps
pub first_step : (pairs : List (Age × ℕ)) (e : Age × ℕ) → IsFirst age_cmp pairs e → IsStep pairs None e
first_step pairs e f = record { there = f.there; above = refl; least = λ q s m a. f.least q s m }

pub next_step : (pairs : List (Age × ℕ)) (a : Age) (e : Age × ℕ) → IsNext age_cmp pairs a e → IsStep pairs (Some a) e
next_step pairs a e f = record { there = f.there; above = f.above; least = f.least }

-- both, as the orders answer them
abbrev pub IsStepped : List (Age × ℕ) → Option Age → Option (Age × ℕ) → Type 0
IsStepped pairs after r = MatchOption r ((q : Age) → comes_after after q ≡ true → slot_of age_cmp pairs q ≡ None) (IsStep pairs after)

pub first_stepped : (pairs : List (Age × ℕ)) (after : Option Age) (r : Option (Age × ℕ)) → after ≡ None → MatchOption r ((q : Age) → slot_of age_cmp pairs q ≡ None) (IsFirst age_cmp pairs) → IsStepped pairs after r
first_stepped pairs after r e h = subst (λ (a : Option Age). IsStepped pairs a r) (sym e) (by r h)
  where
    by : (r : Option (Age × ℕ)) → MatchOption r ((q : Age) → slot_of age_cmp pairs q ≡ None) (IsFirst age_cmp pairs) → IsStepped pairs None r
    by None n = λ q a. n q
    by (Some e) f = first_step pairs e f

pub next_stepped : (pairs : List (Age × ℕ)) (after : Option Age) (a : Age) (r : Option (Age × ℕ)) → after ≡ Some a
    → MatchOption r ((q : Age) → is_gt (age_cmp q a) ≡ true → slot_of age_cmp pairs q ≡ None) (IsNext age_cmp pairs a) → IsStepped pairs after r
next_stepped pairs after a r e h = subst (λ (b : Option Age). IsStepped pairs b r) (sym e) (by r h)
  where
    by : (r : Option (Age × ℕ)) → MatchOption r ((q : Age) → is_gt (age_cmp q a) ≡ true → slot_of age_cmp pairs q ≡ None) (IsNext age_cmp pairs a) → IsStepped pairs (Some a) r
    by None n = n
    by (Some e) f = next_step pairs a e f
