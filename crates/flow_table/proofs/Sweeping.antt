-- A walk over slots that changes each of them: what is done, and what is left to do.
use Rattle.std.proofs.Common.{◌≡◌, ℕ, zero, suc, ◌+◌, ◌<◌, ◌≤◌, Bool, true, false, cond, List, [], ◌∷◌, ◌++◌, length, map, filter, take, drop, get_or, slice_get, slice_set, Option, Some, None, refl, sym, ap, ◌∙◌, subst, arith, length-append}
use Rattle.std.proofs.lemmas.List.{append-nil, append_assoc, drop_all, take_all}
use Rattle.std.proofs.lemmas.Option.{slice_get_read}
use Rattle.flow_object.specs.Ending.{EndedFlow}
use Rattle.bucket_flow.specs.Held.{Held, ended_of, leaves}
use Rattle.bucket_flow.specs.Flows.{stays}
use Rattle.flow_table.specs.Slots.{filled, left_by, parted}
use Rattle.flow_table.proofs.Places.{set_length}

module _ {X : Type 0} where
  take_set : (xs : List X) (i : ℕ) (x y : X) → slice_get xs i ≡ Some x → take (suc i) (slice_set xs i y) ≡ take i xs ++ y ∷ []
  take_set [] i x y e = cc
  take_set (z ∷ xs) zero x y e = refl
  take_set (z ∷ xs) (suc i) x y e = ap (λ (l : List X). z ∷ l) (take_set xs i x y e)

  drop_set : (xs : List X) (i : ℕ) (x y : X) → slice_get xs i ≡ Some x → drop (suc i) (slice_set xs i y) ≡ drop (suc i) xs
  drop_set [] i x y e = cc
  drop_set (z ∷ xs) zero x y e = refl
  drop_set (z ∷ xs) (suc i) x y e = drop_set xs i x y e

  drop_get : (xs : List X) (i : ℕ) (x : X) → slice_get xs i ≡ Some x → drop i xs ≡ x ∷ drop (suc i) xs
  drop_get [] i x e = cc
  drop_get (z ∷ xs) zero x e = let m : z ≡ x = cc in ap (λ (y : X). y ∷ xs) m
  drop_get (z ∷ xs) (suc i) x e = drop_get xs i x e

-- slot by slot, what left is what left of each
pub left_first : (h : Held → Held) (o : Option Held) (os : List (Option Held)) → left_by h (o ∷ os) ≡ left_by h (o ∷ []) ++ left_by h os
left_first h None os = refl
left_first h (Some f) os = step (leaves (h f))
  where
    step : (b : Bool) → map ended_of (cond b (h f ∷ filter leaves (map h (filled os))) (filter leaves (map h (filled os)))) ≡ map ended_of (cond b (h f ∷ []) []) ++ left_by h os
    step true = refl
    step false = refl

-- the slots before this one are done, and those from it on are as they were
pub record IsWalked (h : Held → Held) (at : ℕ) (before now : List (Option Held)) (was gone : List EndedFlow) : Type 0 where
  pub done : take at now ++ map (parted h stays) (drop at now) ≡ map (parted h stays) before
  pub left : gone ++ left_by h (drop at now) ≡ was ++ left_by h before
  pub count : length now ≡ length before

pub walk_start : (h : Held → Held) (slots : List (Option Held)) (was : List EndedFlow) → IsWalked h 0 slots slots was was
walk_start h slots was = record { done = refl; left = refl; count = refl }

pub walk_step : (h : Held → Held) (at : ℕ) (before now : List (Option Held)) (was gone : List EndedFlow) (o : Option Held) → slice_get now at ≡ Some o
    → IsWalked h at before now was gone → IsWalked h (suc at) before (slice_set now at (parted h stays o)) was (gone ++ left_by h (o ∷ []))
walk_step h at before now was gone o e w =
    let p = parted h stays o in
    let rest = drop (suc at) now in
    record {
      done = ap (λ (l : List (Option Held)). l ++ map (parted h stays) (drop (suc at) (slice_set now at p))) (take_set now at o p e)
          ∙ ap (λ (l : List (Option Held)). (take at now ++ p ∷ []) ++ map (parted h stays) l) (drop_set now at o p e)
          ∙ append_assoc (take at now) (p ∷ []) (map (parted h stays) rest)
          ∙ ap (λ (l : List (Option Held)). take at now ++ map (parted h stays) l) (sym (drop_get now at o e))
          ∙ w.done;
      left = ap (λ (l : List (Option Held)). (gone ++ left_by h (o ∷ [])) ++ left_by h l) (drop_set now at o p e)
          ∙ append_assoc gone (left_by h (o ∷ [])) (left_by h rest)
          ∙ ap (λ (l : List EndedFlow). gone ++ l) (sym (left_first h o rest))
          ∙ ap (λ (l : List (Option Held)). gone ++ left_by h l) (sym (drop_get now at o e))
          ∙ w.left;
      count = set_length now at p ∙ w.count;
    }

-- all slots are done
pub walk_end : (h : Held → Held) (at : ℕ) (before now : List (Option Held)) (was gone : List EndedFlow) → length now ≤ at → IsWalked h at before now was gone → now ≡ map (parted h stays) before
walk_end h at before now was gone n w =
    sym (ap (λ (l : List (Option Held)). l ++ map (parted h stays) (drop at now)) (take_all at now n) ∙ ap (λ (l : List (Option Held)). now ++ map (parted h stays) l) (drop_all at now n) ∙ append-nil now)
    ∙ w.done

-- for those that may yet leave there is room
pub left_few : (h : Held → Held) (slots : List (Option Held)) (at : ℕ) (o : Option Held) → slice_get slots at ≡ Some o
    → length (left_by h (o ∷ [])) + length (filled (drop (suc at) (slice_set slots at (parted h stays o)))) ≤ length (filled (drop at slots))
left_few h slots at o e =
    rw (drop_set slots at o (parted h stays o) e) (rw (drop_get slots at o e) (by o))
  where
    one : (b : Bool) (f : Held) → length (map ended_of (cond b (f ∷ []) [])) ≤ 1
    one true f = omega arith
    one false f = omega arith

    by : (o : Option Held) → length (left_by h (o ∷ [])) + length (filled (drop (suc at) slots)) ≤ length (filled (o ∷ drop (suc at) slots))
    by None = omega arith
    by (Some f) = let k = one (leaves (h f)) (h f) in omega (arith, k)

-- one turn, in the words of the loop
module _ (h : Held → Held) (at : ℕ) (now : List (Option Held)) (o s : Option Held) (gone left : List EndedFlow) (w : at < length now) (read : o ≡ get_or now at o) (slot : s ≡ parted h stays o) (ended : left ≡ gone ++ left_by h (o ∷ [])) where
  there : slice_get now at ≡ Some o
  there = slice_get_read now (length now) at o refl w read

  next : at + 1 ≡ suc at
  next = omega arith

  pub walk_next : (before : List (Option Held)) (was : List EndedFlow) → IsWalked h at before now was gone → IsWalked h (at + 1) before (slice_set now at s) was left
  walk_next before was k =
      subst (λ (i : ℕ). IsWalked h i before (slice_set now at s) was left) (sym next)
      (subst (λ (l : List EndedFlow). IsWalked h (suc at) before (slice_set now at s) was l) (sym ended)
      (subst (λ (x : Option Held). IsWalked h (suc at) before (slice_set now at x) was (gone ++ left_by h (o ∷ []))) (sym slot) (walk_step h at before now was gone o there k)))

  pub room_next : (n m cap more : ℕ) → n ≡ length gone → m ≡ length left → n + length (filled (drop at now)) ≤ cap → cap ≤ more → m + length (filled (drop (at + 1) (slice_set now at s))) ≤ more
  room_next n m cap more a b c d =
      let few = left_few h now at o there in
      let size = ap (λ (l : List EndedFlow). length l) ended ∙ length-append gone (left_by h (o ∷ [])) in
      let rest : length (filled (drop (at + 1) (slice_set now at s))) ≡ length (filled (drop (suc at) (slice_set now at (parted h stays o))))
      = ap (λ (i : ℕ). length (filled (drop i (slice_set now at s)))) next ∙ ap (λ (x : Option Held). length (filled (drop (suc at) (slice_set now at x)))) slot in
      omega (arith, a, b, c, d, few, size, rest)
