-- An edit of a slot is an edit of the list of what stands in the slots, at the slot's rank.
use Rattle.std.proofs.Common.{◌≡◌, ℕ, zero, suc, ◌+◌, ◌<◌, ◌≤◌, Bool, true, false, cond, List, [], ◌∷◌, ◌++◌, length, map, filter, get_or, slice_get, slice_set, insert, remove, Option, Some, None, inl, inr, refl, sym, ap, subst, ◌∙◌, arith}
use Rattle.bucket_flow.specs.Held.{Held}
use Rattle.std.proofs.lemmas.Option.{get_or_from_slice_get, none-some, same_Some, slice_get_within}
use Rattle.flow_object.specs.Ending.{EndedFlow}
use Rattle.bucket_rules.specs.Row.{Off}
use Rattle.flow_table.specs.Slots.{HasBegun, HasLeft, IsChanged, IsGrown, filled, parted, rank}
use Rattle.flow_table.proofs.Places.{get_set}

module _ {X : Type 0} where
  pub get_rank : (os : List (Option X)) (i : ℕ) (x : X) → slice_get os i ≡ Some (Some x) → slice_get (filled os) (rank os i) ≡ Some x
  get_rank [] i x e = cc
  get_rank (None ∷ os) zero x e = cc
  get_rank (Some y ∷ os) zero x e = cc
  get_rank (None ∷ os) (suc i) x e = get_rank os i x e
  get_rank (Some y ∷ os) (suc i) x e = get_rank os i x e

  pub set_rank : (os : List (Option X)) (i : ℕ) (x y : X) → slice_get os i ≡ Some (Some x) → filled (slice_set os i (Some y)) ≡ slice_set (filled os) (rank os i) y
  set_rank [] i x y e = cc
  set_rank (None ∷ os) zero x y e = cc
  set_rank (Some z ∷ os) zero x y e = refl
  set_rank (None ∷ os) (suc i) x y e = set_rank os i x y e
  set_rank (Some z ∷ os) (suc i) x y e = ap (λ (l : List X). z ∷ l) (set_rank os i x y e)

  pub cut_rank : (os : List (Option X)) (i : ℕ) (x : X) → slice_get os i ≡ Some (Some x) → filled (slice_set os i None) ≡ remove (filled os) (rank os i)
  cut_rank [] i x e = cc
  cut_rank (None ∷ os) zero x e = cc
  cut_rank (Some z ∷ os) zero x e = refl
  cut_rank (None ∷ os) (suc i) x e = cut_rank os i x e
  cut_rank (Some z ∷ os) (suc i) x e = ap (λ (l : List X). z ∷ l) (cut_rank os i x e)

  pub fill_rank : (os : List (Option X)) (i : ℕ) (y : X) → slice_get os i ≡ Some None → filled (slice_set os i (Some y)) ≡ insert (filled os) (rank os i) y
  fill_rank [] i y e = cc
  fill_rank (None ∷ os) zero y e = refl
  fill_rank (Some z ∷ os) zero y e = cc
  fill_rank (None ∷ os) (suc i) y e = fill_rank os i y e
  fill_rank (Some z ∷ os) (suc i) y e = ap (λ (l : List X). z ∷ l) (fill_rank os i y e)

  pub none_pushed : (os : List (Option X)) → filled (os ++ None ∷ []) ≡ filled os
  none_pushed [] = refl
  none_pushed (None ∷ os) = none_pushed os
  none_pushed (Some z ∷ os) = ap (λ (l : List X). z ∷ l) (none_pushed os)

  pub rank_within : (os : List (Option X)) (i : ℕ) → rank os i ≤ length (filled os)
  rank_within [] i = omega arith
  rank_within (None ∷ os) zero = omega arith
  rank_within (Some x ∷ os) zero = omega arith
  rank_within (None ∷ os) (suc i) = rank_within os i
  rank_within (Some x ∷ os) (suc i) = let h = rank_within os i in omega (arith, h)

  -- the walk that counts
  pub rank_start : (os : List (Option X)) → rank os 0 ≡ 0
  rank_start [] = refl
  rank_start (None ∷ os) = refl
  rank_start (Some x ∷ os) = refl

  pub rank_some : (os : List (Option X)) (i : ℕ) (x : X) → slice_get os i ≡ Some (Some x) → rank os (suc i) ≡ suc (rank os i)
  rank_some [] i x e = cc
  rank_some (None ∷ os) zero x e = cc
  rank_some (Some y ∷ os) zero x e = ap suc (rank_start os)
  rank_some (None ∷ os) (suc i) x e = rank_some os i x e
  rank_some (Some y ∷ os) (suc i) x e = ap suc (rank_some os i x e)

  pub rank_none : (os : List (Option X)) (i : ℕ) → slice_get os i ≡ Some None → rank os (suc i) ≡ rank os i
  rank_none [] i e = cc
  rank_none (None ∷ os) zero e = rank_start os
  rank_none (Some y ∷ os) zero e = cc
  rank_none (None ∷ os) (suc i) e = rank_none os i e
  rank_none (Some y ∷ os) (suc i) e = ap suc (rank_none os i e)

  pub count_some : (os : List (Option X)) (i : ℕ) (x : X) → slice_get os i ≡ Some (Some x) → rank os i + 1 ≡ rank os (i + 1)
  count_some os i x e = let n : i + 1 ≡ suc i = omega arith in let k = rank_some os i x e in let m = ap (rank os) n in omega (arith, k, m)

  pub count_none : (os : List (Option X)) (i : ℕ) → slice_get os i ≡ Some None → rank os i ≡ rank os (i + 1)
  count_none os i e = let n : i + 1 ≡ suc i = omega arith in sym (rank_none os i e) ∙ sym (ap (rank os) n)

  pub rank_most : (os : List (Option X)) (i : ℕ) → rank os i ≤ i
  rank_most [] i = omega arith
  rank_most (None ∷ os) zero = omega arith
  rank_most (Some x ∷ os) zero = omega arith
  rank_most (None ∷ os) (suc i) = let h = rank_most os i in omega (arith, h)
  rank_most (Some x ∷ os) (suc i) = let h = rank_most os i in omega (arith, h)

  pub rank_all : (os : List (Option X)) → rank os (length os) ≡ length (filled os)
  rank_all [] = refl
  rank_all (None ∷ os) = rank_all os
  rank_all (Some x ∷ os) = ap suc (rank_all os)

  -- no more stand in the slots than there are slots
  pub filled_few : (os : List (Option X)) → length (filled os) ≤ length os
  filled_few [] = omega arith
  filled_few (None ∷ os) = let h = filled_few os in omega (arith, h)
  filled_few (Some x ∷ os) = let h = filled_few os in omega (arith, h)

  -- each place is the rank of a slot
  pub slot_at_rank : (os : List (Option X)) (j : ℕ) (x : X) → slice_get (filled os) j ≡ Some x → (i : ℕ) × (slice_get os i ≡ Some (Some x)) × (rank os i ≡ j)
  slot_at_rank [] j x e = cc
  slot_at_rank (None ∷ os) j x e = let h = slot_at_rank os j x e in (suc h.0, h.1, h.2)
  slot_at_rank (Some y ∷ os) zero x e = (0, ap (λ (o : Option X). Some o) e, refl)
  slot_at_rank (Some y ∷ os) (suc j) x e = let h = slot_at_rank os j x e in (suc h.0, h.1, ap suc h.2)

  -- all slots at once, as a sweep changes them
  pub filled_parted : (h : X → X) (stays : X → Bool) (os : List (Option X)) → filled (map (parted h stays) os) ≡ filter stays (map h (filled os))
  filled_parted h stays [] = refl
  filled_parted h stays (None ∷ os) = filled_parted h stays os
  filled_parted h stays (Some x ∷ os) = step (stays (h x)) (filled_parted h stays os)
    where
      step : (b : Bool) → filled (map (parted h stays) os) ≡ filter stays (map h (filled os))
          → filled (cond b (Some (h x)) None ∷ map (parted h stays) os) ≡ cond b (h x ∷ filter stays (map h (filled os))) (filter stays (map h (filled os)))
      step true e = ap (λ (l : List X). h x ∷ l) e
      step false e = e

-- the flow that was read in a slot is the one that is known there
pub slot_read : (inside now : List (Option Held)) (i : ℕ) (o : Option Held) (f was : Held) → inside ≡ now → slice_get now i ≡ Some (Some was) → o ≡ get_or inside i o → o ≡ Some f → f ≡ was
slot_read inside now i o f was e there read is = same_Some f was (sym is ∙ read ∙ ap (λ (l : List (Option Held)). get_or l i o) e ∙ get_or_from_slice_get now i (Some was) o there)

pub slot_in : (inside now : List (Option Held)) (i : ℕ) (was : Held) → inside ≡ now → slice_get now i ≡ Some (Some was) → slice_get inside i ≡ Some (Some was)
slot_in inside now i was e there = ap (λ (l : List (Option Held)). slice_get l i) e ∙ there

-- it is no empty one, and there is such a slot
pub slot_not_none : (inside now : List (Option Held)) (i : ℕ) (o : Option Held) (was : Held) → inside ≡ now → slice_get now i ≡ Some (Some was) → o ≡ get_or inside i o → o ≡ None → ⊥
slot_not_none inside now i o was e there read is = none-some was (sym is ∙ read ∙ ap (λ (l : List (Option Held)). get_or l i o) e ∙ get_or_from_slice_get now i (Some was) o there)

pub slot_within : (inside now : List (Option Held)) (i : ℕ) (was : Held) → inside ≡ now → slice_get now i ≡ Some (Some was) → i < length inside
slot_within inside now i was e there = slice_get_within inside i (Some was) (slot_in inside now i was e there)

-- it stands there
pub slot_now : (shown slots : List (Option Held)) (i : ℕ) (o : Option Held) (f was : Held) → shown ≡ slots → slice_get slots i ≡ Some (Some was) → o ≡ get_or shown i o → o ≡ Some f → slice_get shown i ≡ Some (Some f)
slot_now shown slots i o f was e there read is = slot_in shown slots i was e there ∙ ap (λ (x : Held). Some (Some x)) (sym (slot_read shown slots i o f was e there read is))

-- a flow that comes into an empty slot, which was made or was there
pub grown_filled : (slots next : List (Option Held)) → IsGrown slots next → filled next ≡ filled slots
grown_filled slots next (inl e) = ap (λ (l : List (Option Held)). filled l) e
grown_filled slots next (inr e) = ap (λ (l : List (Option Held)). filled l) e ∙ none_pushed slots

pub has_come : (P : Held → Type 0) (slots next : List (Option Held)) (i : ℕ) (f : Held) → IsGrown slots next → slice_get next i ≡ Some None → P f → HasBegun P slots (slice_set next i (Some f))
has_come P slots next i f g e p =
    let same = grown_filled slots next g in
    record {
      flow = f;
      holds = p;
      place = rank next i;
      within = subst (λ (l : List Held). rank next i ≤ length l) same (rank_within next i);
      comes = fill_rank next i f e ∙ ap (λ (l : List Held). insert l (rank next i) f) same;
    }

-- two reads of one slot
pub one_in : (slots : List (Option Held)) (i : ℕ) (f g : Held) → slice_get slots i ≡ Some (Some f) → slice_get slots i ≡ Some (Some g) → f ≡ g
one_in slots i f g e h = same_Some f g (same_Some (Some f) (Some g) (sym e ∙ h))

-- what a change of one slot is to the list of flows
pub set_is : {how : Held → Held → Type 0} (slots : List (Option Held)) (i : ℕ) (next : List (Option Held)) → (k : IsChanged how slots i next) → filled next ≡ slice_set (filled slots) (rank slots i) k.now
set_is slots i next k = ap (λ (l : List (Option Held)). filled l) k.set ∙ set_rank slots i k.flow k.now k.there

pub cut_is : {why : Off} (slots : List (Option Held)) (i : ℕ) (next : List (Option Held)) (e : EndedFlow) → (k : HasLeft why slots i next e) → filled next ≡ remove (filled slots) (rank slots i)
cut_is slots i next e k = ap (λ (l : List (Option Held)). filled l) k.cut ∙ cut_rank slots i k.flow k.there

-- what stands in a slot that was changed
pub changed_there : {how : Held → Held → Type 0} (slots : List (Option Held)) (i : ℕ) (next : List (Option Held)) → (k : IsChanged how slots i next) → slice_get next i ≡ Some (Some k.now)
changed_there slots i next k = ap (λ (l : List (Option Held)). slice_get l i) k.set ∙ get_set slots i (Some k.flow) (Some k.now) k.there
