-- What the orders find, in the words of the list of what stands in the slots.
use Rattle.std.proofs.Common.{◌≡◌, ℕ, ◌<◌, ◌≤◌, Bool, false, List, length, slice_get, get_or, Option, Some, None, refl, sym, ◌∙◌, ap, subst}
use Rattle.std.proofs.lemmas.Option.{slice_get_read}
use Rattle.std.specs.Ordering.{is_gt}
use Rattle.key_order.proofs.Aging.{clock_back, not_above}
use Rattle.key_order.specs.Ages.{age_cmp, clock_of}
use Rattle.key_order.specs.declared.ages.Age.{Age}
use Rattle.slot_order.specs.Index.{IsFound}
use Rattle.bucket_flow.specs.Held.{Held}
use Rattle.bucket_flow.specs.Dues.{deadline_of}
use Rattle.flow_orders.specs.Keys.{deadline}
use Rattle.flow_orders.specs.Finding.{IsDueAt, IsLeastUnused}
use Rattle.flow_orders.specs.Finding as orders
use Rattle.flow_table.specs.Dues.{IsDue, IsFirstDue}
use Rattle.flow_table.specs.Slots.{IsSomeSlot, IsVictimSlot, filled, rank}
use Rattle.flow_table.proofs.Slots.{get_rank, slot_at_rank}

-- what was read at a place
pub read_at : {X : Type 0} (xs : List X) (i : ℕ) (x y : X) → i < length xs → x ≡ get_or xs i x → x ≡ y → slice_get xs i ≡ Some y
read_at xs i x y w r e = slice_get_read xs (length xs) i x refl w r ∙ ap Some e

pub found_in : {K : Type 0} (bears : Held → K → Bool) (k : K) (shown slots : List (Option Held)) (r : Option ℕ) → shown ≡ slots → IsFound bears shown k r → IsSomeSlot (λ f. bears f k) slots r
found_in {K} bears k shown slots r e h = subst (λ (l : List (Option Held)). IsSomeSlot (λ f. bears f k) l r) e (by r h)
  where
    by : (r : Option ℕ) → IsFound bears shown k r → IsSomeSlot (λ f. bears f k) shown r
    by None n = λ j g s. let u = slot_at_rank shown j g s in n u.0 g u.1
    by (Some i) f = record { flow = f.0; there = f.1; passes = f.2 }

pub least_in : (shown slots : List (Option Held)) (r : Option ℕ) → shown ≡ slots → IsLeastUnused shown r → IsVictimSlot slots r
least_in shown slots r e h = subst (λ (l : List (Option Held)). IsVictimSlot l r) e (by r h)
  where
    by : (r : Option ℕ) → IsLeastUnused shown r → IsVictimSlot shown r
    by None n = λ j g w s. let u = slot_at_rank shown j g s in n u.0 g u.1
    by (Some i) f = (
      (f.flow, f.there),
      record { flow = f.flow; there = get_rank shown i f.flow f.there; unused = f.unused; first = λ j g w s t. let u = slot_at_rank shown j g s in f.first u.0 g u.1 t },
    )

pub none_due : (emergency : Bool) (shown slots : List (Option Held)) → shown ≡ slots → orders.IsFirstDue emergency shown None → IsDue emergency (filled slots) None
none_due emergency shown slots e n = subst (λ (l : List (Option Held)). IsDue emergency (filled l) None) e (λ j g s. let u = slot_at_rank shown j g s in n u.0 g u.1)

pub some_due : (emergency : Bool) (shown slots : List (Option Held)) (e : Age × ℕ) (clock : ℕ) → shown ≡ slots → IsDueAt emergency None shown e → clock ≡ clock_of e.0
    → IsFirstDue emergency (filled slots) (record { deadline = clock; run = e.0.run })
some_due emergency shown slots e clock same h c = subst (λ (l : List (Option Held)). IsFirstDue emergency (filled l) (record { deadline = clock; run = e.0.run })) same (record {
  place = rank shown e.1;
  flow = h.flow;
  there = get_rank shown e.1 h.flow h.there;
  linked = h.linked;
  deadline = at;
  run = run;
  first = λ j g s l.
      let u = slot_at_rank shown j g s in
      let m = not_above (deadline_of emergency h.flow) h.flow.run (deadline_of emergency g) g.run (subst (λ (a : Age). is_gt (age_cmp a (deadline emergency g)) ≡ false) h.age (h.least u.0 g u.1 l refl)) in
      (subst (λ (n : ℕ). n ≤ deadline_of emergency g) (sym at) m.0, λ q. subst (λ (n : ℕ). n ≤ g.run) (sym run) (m.1 (sym at ∙ q)));
})
  where
    at : clock ≡ deadline_of emergency h.flow
    at = c ∙ ap clock_of h.age ∙ clock_back (deadline_of emergency h.flow) h.flow.run

    run : e.0.run ≡ h.flow.run
    run = ap (λ (a : Age). a.run) h.age
