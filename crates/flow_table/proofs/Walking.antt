-- A walk along the deadlines of flows, which sweeps each slot that it comes to.
use Rattle.std.proofs.Common.{◌≡◌, ℕ, zero, suc, ◌+◌, ◌<◌, ◌≤◌, nat_lt, ◌&&◌, not, Bool, true, false, cond, List, [], ◌∷◌, ◌++◌, length, map, slice_get, slice_set, Option, Some, None, ◌⊎◌, inl, inr, ⊎_elim, refl, sym, ap, ◌∙◌, subst, arith, length-append}
use Rattle.std.proofs.lemmas.List.{append_assoc, append-nil}
use Rattle.std.proofs.lemmas.List.Sorted.{IsPermutation-append_comm, IsPermutation-append_left, IsPermutation-append_right, IsPermutation-refl, IsPermutation-trans}
use Rattle.std.proofs.lemmas.Option.{none-some, same_Some}
use Rattle.std.specs.List.Sorted.{IsPermutation}
use Rattle.std.specs.Ordering.{is_eq, is_gt, ordering_reverse}
use Rattle.std.specs.declared.cmp.Ordering.{Ordering}
use Rattle.std.specs.declared.cmp.Ordering.TheVariants.{Less, Equal, Greater}
use Rattle.key_order.proofs.Aging.{ages, equal_ages}
use Rattle.key_order.specs.Ages.{age_cmp}
use Rattle.key_order.specs.declared.ages.Age.{Age}
use Rattle.flow_object.specs.Ending.{EndedFlow}
use Rattle.bucket_rules.specs.Row.{Off, detached, is_linked}
use Rattle.bucket_flow.specs.Dues.{deadline_of}
use Rattle.bucket_flow.specs.Held.{Held, ended_of, leaves, one_if}
use Rattle.bucket_flow.specs.Flows.{detached_for, stays}
use Rattle.flow_orders.specs.Keys.{deadline}
use Rattle.flow_orders.specs.Finding.{IsDueAt, IsNextDue, comes_after}
use Rattle.flow_table.specs.Slots.{AreSound, NoneLeaves, filled, left_by, parted}
use Rattle.flow_table.proofs.Places.{set_length}
use Rattle.flow_table.proofs.Sweeping.{left_first}

-- ages above one another
greater_is : (o : Ordering) → is_gt o ≡ true → o ≡ Greater
greater_is Greater h = refl
greater_is Less h = cc
greater_is Equal h = cc

above_both : (a b k : Age) → is_gt (age_cmp b a) ≡ true → is_gt (age_cmp k b) ≡ true → is_gt (age_cmp k a) ≡ true
above_both a b k h m =
    let x : age_cmp a b ≡ Less = ages.antisymm a b ∙ ap ordering_reverse (greater_is (age_cmp b a) h) in
    let y : age_cmp b k ≡ Less = ages.antisymm b k ∙ ap ordering_reverse (greater_is (age_cmp k b) m) in
    ap is_gt (ages.antisymm k a ∙ ap ordering_reverse (ages.trans a b k x y))

after_both : (after : Option Age) (a k : Age) → comes_after after a ≡ true → comes_after (Some a) k ≡ true → comes_after after k ≡ true
after_both None a k h m = refl
after_both (Some b) a k h m = above_both b a k h m

not_itself : (a : Age) → comes_after (Some a) a ≡ false
not_itself a = by (age_cmp a a) (ages.antisymm a a)
  where
    by : (o : Ordering) → o ≡ ordering_reverse o → is_gt o ≡ false
    by Equal e = refl
    by Less e = refl
    by Greater e = cc

one_age : (a k : Age) → is_gt (age_cmp k a) ≡ false → is_gt (age_cmp a k) ≡ false → k ≡ a
one_age a k h m = equal_ages k a (by (age_cmp k a) (age_cmp a k) (ages.antisymm a k) h m)
  where
    by : (o p : Ordering) → p ≡ ordering_reverse o → is_gt o ≡ false → is_gt p ≡ false → is_eq o ≡ true
    by Equal p e h m = refl
    by Greater p e h m = cc
    by Less p e h m = let q : true ≡ false = sym (ap is_gt e) ∙ m in cc

-- what stands in a slot of slots of which one was written
set_apart : {X : Type 0} (xs : List X) (i j : ℕ) (h x : X) → slice_get (slice_set xs i h) j ≡ Some x → ((i ≡ j) × (h ≡ x)) ⊎ ((i ≡ j → ⊥) × (slice_get xs j ≡ Some x))
set_apart [] i j h x e = cc
set_apart (y ∷ ys) zero zero h x e = inl (refl, cc)
set_apart (y ∷ ys) zero (suc j) h x e = inr (λ m. omega (arith, m), e)
set_apart (y ∷ ys) (suc i) zero h x e = inr (λ m. omega (arith, m), e)
set_apart (y ∷ ys) (suc i) (suc j) h x e = ⊎_elim (λ m. inl (ap suc m.0, m.1)) (λ m. inr (λ n. m.0 (omega (arith, n)), m.1)) (set_apart ys i j h x e)

map_set : {X : Type 0} (p : X → X) (xs : List X) (i : ℕ) (x y : X) → slice_get xs i ≡ Some x → p y ≡ p x → map p (slice_set xs i y) ≡ map p xs
map_set p [] i x y e s = cc
map_set {X} p (z ∷ zs) zero x y e s = let m : z ≡ x = cc in ap (λ (w : X). w ∷ map p zs) (s ∙ ap p (sym m))
map_set {X} p (z ∷ zs) (suc i) x y e s = ap (λ (l : List X). p z ∷ l) (map_set p zs i x y e s)

pub some_filled : (slots : List (Option Held)) (i : ℕ) (f : Held) → slice_get slots i ≡ Some (Some f) → 1 ≤ length (filled slots)
some_filled [] i f e = cc
some_filled (None ∷ os) zero f e = cc
some_filled (Some g ∷ os) zero f e = omega arith
some_filled (None ∷ os) (suc i) f e = some_filled os i f e
some_filled (Some g ∷ os) (suc i) f e = omega arith

-- for those that may yet leave there is room
room_left : (h : Held → Held) (slots : List (Option Held)) (i : ℕ) (o : Option Held) → slice_get slots i ≡ Some o
    → length (left_by h (o ∷ [])) + length (filled (slice_set slots i (parted h stays o))) ≤ length (filled slots)
room_left h [] i o e = cc
room_left h (z ∷ zs) zero o e =
    let m : z ≡ o = cc in
    subst (λ (x : Option Held). length (left_by h (o ∷ [])) + length (filled (parted h stays o ∷ zs)) ≤ length (filled (x ∷ zs))) (sym m) (by o)
  where
    step : (b : Bool) (f : Held) → length (map ended_of (cond b (f ∷ []) [])) + length (filled (cond (not b) (Some f) None ∷ zs)) ≤ suc (length (filled zs))
    step true f = omega arith
    step false f = omega arith

    by : (o : Option Held) → length (left_by h (o ∷ [])) + length (filled (parted h stays o ∷ zs)) ≤ length (filled (o ∷ zs))
    by None = omega arith
    by (Some f) = step (leaves (h f)) (h f)
room_left h (None ∷ zs) (suc i) o e = room_left h zs i o e
room_left h (Some x ∷ zs) (suc i) o e = let k = room_left h zs i o e in omega (arith, k)

-- how many linked flows have deadlines above an age
abbrev is_later : Bool → Option Age → Option Held → Bool
is_later emergency after None = false
is_later emergency after (Some g) = is_linked g.place && comes_after after (deadline emergency g)

abbrev pub later : Bool → Option Age → List (Option Held) → ℕ
later emergency after [] = 0
later emergency after (o ∷ os) = one_if (is_later emergency after o) + later emergency after os

module _ (emergency : Bool) (after next : Option Age) (less : (k : Age) → comes_after next k ≡ true → comes_after after k ≡ true) where
  one_less : (o : Option Held) → one_if (is_later emergency next o) ≤ one_if (is_later emergency after o)
  one_less None = omega arith
  one_less (Some g) = by (is_linked g.place) (comes_after next (deadline emergency g)) (comes_after after (deadline emergency g)) (less (deadline emergency g))
    where
      by : (l n a : Bool) → (n ≡ true → a ≡ true) → one_if (l && n) ≤ one_if (l && a)
      by false n a s = omega arith
      by true false a s = omega arith
      by true true true s = omega arith
      by true true false s = let q = s refl in cc

  later_less : (os : List (Option Held)) → later emergency next os ≤ later emergency after os
  later_less [] = omega arith
  later_less (o ∷ os) = let a = one_less o in let b = later_less os in omega (arith, a, b)

  later_fewer : (os : List (Option Held)) (i : ℕ) (o p : Option Held) → slice_get os i ≡ Some o → is_later emergency after o ≡ true → is_later emergency next p ≡ false
      → later emergency next (slice_set os i p) < later emergency after os
  later_fewer [] i o p e t u = cc
  later_fewer (z ∷ zs) zero o p e t u =
      let m : z ≡ o = cc in
      let b = later_less zs in
      let x : one_if (is_later emergency after z) ≡ 1 = ap (λ (y : Option Held). one_if (is_later emergency after y)) m ∙ ap (λ (c : Bool). one_if c) t in
      let y : one_if (is_later emergency next p) ≡ 0 = ap (λ (c : Bool). one_if c) u in
      omega (arith, b, x, y)
  later_fewer (z ∷ zs) (suc i) o p e t u = let a = one_less z in let b = later_fewer zs i o p e t u in omega (arith, a, b)

-- the flows up to an age were swept, and the others are as they were
pub record IsSwept (h : Held → Held) (due : Held → Bool) (emergency : Bool) (after : Option Age) (before now : List (Option Held)) (was gone : List EndedFlow) : Type 0 where
  pub same : map (parted h stays) now ≡ map (parted h stays) before
  pub left : IsPermutation (was ++ left_by h before) (gone ++ left_by h now)
  pub count : length now ≡ length before
  pub stay : NoneLeaves now
  pub past : (j : ℕ) (g : Held) → slice_get now j ≡ Some (Some g) → is_linked g.place ≡ true → comes_after after (deadline emergency g) ≡ false → due g ≡ false

-- a flow is detached where it is due, and stays due no longer
module _ (h : Held → Held) (due : Held → Bool) (o : Off) (is : (f : Held) → h f ≡ detached_for o (due f) f) where
  swept_is : (f : Held) → ((h f ≡ f) × ((is_linked f.place && due f) ≡ false)) ⊎ (h f ≡ record f { place = detached o })
  swept_is f = by (is_linked f.place && due f) refl (is f)
    where
      by : (b : Bool) → (is_linked f.place && due f) ≡ b → h f ≡ cond b (record f { place = detached o }) f → ((h f ≡ f) × ((is_linked f.place && due f) ≡ false)) ⊎ (h f ≡ record f { place = detached o })
      by true e s = inr s
      by false e s = inl (s, e)

  twice : (f : Held) → h (h f) ≡ h f
  twice f = ⊎_elim (λ e. ap h e.0) (λ e. ap h e ∙ is (record f { place = detached o }) ∙ sym e) (swept_is f)

  off_right : (p q : Bool) → p ≡ true → (p && q) ≡ false → q ≡ false
  off_right true q e s = s
  off_right false q e s = cc

  not_due : (f g : Held) → g ≡ h f → is_linked g.place ≡ true → due g ≡ false
  not_due f g e l = ⊎_elim
      (λ m. let n : g ≡ f = e ∙ m.0 in ap due n ∙ off_right (is_linked f.place) (due f) (ap (λ (x : Held). is_linked x.place) (sym n) ∙ l) m.1)
      (λ m. let q : false ≡ true = ap (λ (x : Held). is_linked x.place) (sym (e ∙ m)) ∙ l in cc)
      (swept_is f)

  parted_some : (f g : Held) → parted h stays (Some f) ≡ Some g → (g ≡ h f) × (stays g ≡ true)
  parted_some f g = by (stays (h f)) refl
    where
      by : (b : Bool) → stays (h f) ≡ b → cond b (Some (h f)) None ≡ Some g → (g ≡ h f) × (stays g ≡ true)
      by true e s = let m = same_Some (h f) g s in (sym m, ap stays (sym m) ∙ e)
      by false e s = absurd (none-some g s)

  parted_twice : (x : Option Held) → parted h stays (parted h stays x) ≡ parted h stays x
  parted_twice None = refl
  parted_twice (Some f) = by (stays (h f)) refl
    where
      by : (b : Bool) → stays (h f) ≡ b → parted h stays (cond b (Some (h f)) None) ≡ cond b (Some (h f)) None
      by true e = ap (λ (x : Held). cond (stays x) (Some x) None) (twice f) ∙ ap (λ (b : Bool). cond b (Some (h f)) None) e
      by false e = refl

  left_none : (x : Option Held) → left_by h (parted h stays x ∷ []) ≡ []
  left_none None = refl
  left_none (Some f) = by (leaves (h f)) refl
    where
      by : (b : Bool) → leaves (h f) ≡ b → left_by h (cond (not b) (Some (h f)) None ∷ []) ≡ []
      by true e = refl
      by false e = ap (λ (x : Held). map ended_of (cond (leaves x) (x ∷ []) [])) (twice f) ∙ ap (λ (b : Bool). map ended_of (cond b (h f ∷ []) [])) e

  -- what left of one slot, and what is yet to leave, is what was to leave
  left_step : (slots : List (Option Held)) (i : ℕ) (x : Option Held) → slice_get slots i ≡ Some x → IsPermutation (left_by h slots) (left_by h (x ∷ []) ++ left_by h (slice_set slots i (parted h stays x)))
  left_step [] i x e = cc
  left_step (z ∷ zs) zero x e =
      let m : z ≡ x = cc in
      let p = parted h stays x in
      let rest : left_by h (p ∷ zs) ≡ left_by h zs = left_first h p zs ∙ ap (λ (l : List EndedFlow). l ++ left_by h zs) (left_none x) in
      let all : left_by h (z ∷ zs) ≡ left_by h (x ∷ []) ++ left_by h (p ∷ zs)
      = ap (λ (y : Option Held). left_by h (y ∷ zs)) m ∙ left_first h x zs ∙ ap (λ (l : List EndedFlow). left_by h (x ∷ []) ++ l) (sym rest) in
      subst (λ (l : List EndedFlow). IsPermutation (left_by h (z ∷ zs)) l) all (IsPermutation-refl (left_by h (z ∷ zs)))
  left_step (z ∷ zs) (suc i) x e =
      let a = left_by h (z ∷ []) in
      let b = left_by h (x ∷ []) in
      let c = left_by h (slice_set zs i (parted h stays x)) in
      let all : IsPermutation (a ++ left_by h zs) ((a ++ b) ++ c) = subst (λ (l : List EndedFlow). IsPermutation (a ++ left_by h zs) l) (sym (append_assoc a b c)) (IsPermutation-append_right a (left_by h zs) (b ++ c) (left_step zs i x e)) in
      let swap : IsPermutation ((a ++ b) ++ c) (b ++ (a ++ c)) = subst (λ (l : List EndedFlow). IsPermutation ((a ++ b) ++ c) l) (append_assoc b a c) (IsPermutation-append_left c (a ++ b) (b ++ a) (IsPermutation-append_comm a b)) in
      subst (λ (l : List EndedFlow). IsPermutation l (b ++ left_by h (z ∷ slice_set zs i (parted h stays x)))) (sym (left_first h z zs))
      (subst (λ (l : List EndedFlow). IsPermutation (a ++ left_by h zs) (b ++ l)) (sym (left_first h z (slice_set zs i (parted h stays x))))
      (IsPermutation-trans (a ++ left_by h zs) ((a ++ b) ++ c) (b ++ (a ++ c)) all swap))

  -- one turn
  module _ (emergency : Bool) (after : Option Age) (now : List (Option Held)) (e : Age × ℕ) (d : IsDueAt emergency after now e) (x : Option Held) (there : slice_get now e.1 ≡ Some x) where
    flow_is : x ≡ Some d.flow
    flow_is = same_Some x (Some d.flow) (sym there ∙ d.there)

    part_is : parted h stays x ≡ parted h stays (Some d.flow)
    part_is = ap (λ (y : Option Held). parted h stays y) flow_is

    pub step_shrinks : later emergency (Some e.0) (slice_set now e.1 (parted h stays x)) < later emergency after now
    step_shrinks = later_fewer emergency after (Some e.0) (λ k m. after_both after e.0 k d.above m) now e.1 x (parted h stays x) there
        (ap (λ (y : Option Held). is_later emergency after y) flow_is ∙ both (is_linked d.flow.place) (comes_after after (deadline emergency d.flow)) d.linked (ap (λ (a : Age). comes_after after a) (sym d.age) ∙ d.above))
        (ap (λ (y : Option Held). is_later emergency (Some e.0) y) part_is ∙ by (stays (h d.flow)))
      where
        both : (p q : Bool) → p ≡ true → q ≡ true → (p && q) ≡ true
        both true q a b = b
        both false q a b = cc

        neither : (p q : Bool) → q ≡ false → (p && q) ≡ false
        neither true q a = a
        neither false q a = refl

        swept : is_later emergency (Some e.0) (Some (h d.flow)) ≡ false
        swept = ⊎_elim
            (λ m. ap (λ (y : Held). is_later emergency (Some e.0) (Some y)) m.0
            ∙ neither (is_linked d.flow.place) (comes_after (Some e.0) (deadline emergency d.flow)) (ap (λ (a : Age). comes_after (Some e.0) a) (sym d.age) ∙ not_itself e.0))
            (λ m. ap (λ (y : Held). is_later emergency (Some e.0) (Some y)) m)
            (swept_is d.flow)

        by : (b : Bool) → is_later emergency (Some e.0) (cond b (Some (h d.flow)) None) ≡ false
        by true = swept
        by false = refl

    module _ (sound : AreSound now) (before : List (Option Held)) (was gone : List EndedFlow) (w : IsSwept h due emergency after before now was gone) where
      stay_next : NoneLeaves (slice_set now e.1 (parted h stays x))
      stay_next j g s = ⊎_elim (λ m. (parted_some d.flow g (sym part_is ∙ m.1)).1) (λ m. w.stay j g m.1) (set_apart now e.1 j (parted h stays x) (Some g) s)

      past_next : (j : ℕ) (g : Held) → slice_get (slice_set now e.1 (parted h stays x)) j ≡ Some (Some g) → is_linked g.place ≡ true → comes_after (Some e.0) (deadline emergency g) ≡ false → due g ≡ false
      past_next j g s l a = ⊎_elim
          (λ m. not_due d.flow g (parted_some d.flow g (sym part_is ∙ m.1)).0 l)
          (λ m. by (comes_after after (deadline emergency g)) refl m.0 m.1)
          (set_apart now e.1 j (parted h stays x) (Some g) s)
        where
          -- of two flows of one age there is but one
          by : (b : Bool) → comes_after after (deadline emergency g) ≡ b → (e.1 ≡ j → ⊥) → slice_get now j ≡ Some (Some g) → due g ≡ false
          by false q n t = w.past j g t l q
          by true q n t =
              let k : deadline emergency g ≡ e.0 = one_age e.0 (deadline emergency g) a (d.least j g t l q) in
              let r : d.flow.run ≡ g.run = ap (λ (y : Age). y.run) (sym (k ∙ d.age)) in
              absurd (n (sound.runs e.1 j d.flow g d.there t r))

      swept_next : IsSwept h due emergency (Some e.0) before (slice_set now e.1 (parted h stays x)) was (gone ++ left_by h (x ∷ []))
      swept_next = record {
        same = map_set (parted h stays) now e.1 x (parted h stays x) there (parted_twice x) ∙ w.same;
        left = IsPermutation-trans (was ++ left_by h before) (gone ++ left_by h now) ((gone ++ left_by h (x ∷ [])) ++ left_by h (slice_set now e.1 (parted h stays x))) w.left
            (subst (λ (l : List EndedFlow). IsPermutation (gone ++ left_by h now) l) (sym (append_assoc gone (left_by h (x ∷ [])) (left_by h (slice_set now e.1 (parted h stays x)))))
            (IsPermutation-append_right gone (left_by h now) (left_by h (x ∷ []) ++ left_by h (slice_set now e.1 (parted h stays x))) (left_step now e.1 x there)));
        count = set_length now e.1 (parted h stays x) ∙ w.count;
        stay = stay_next;
        past = past_next;
      }

      -- in the words of the loop
      pub turn : (s : Option Held) (ended : List EndedFlow) → s ≡ parted h stays x → ended ≡ gone ++ left_by h (x ∷ []) → IsSwept h due emergency (Some e.0) before (slice_set now e.1 s) was ended
      turn s ended a b =
          subst (λ (y : Option Held). IsSwept h due emergency (Some e.0) before (slice_set now e.1 y) was ended) (sym a)
          (subst (λ (l : List EndedFlow). IsSwept h due emergency (Some e.0) before (slice_set now e.1 (parted h stays x)) was l) (sym b) swept_next)

    pub turn_shrinks : (s : Option Held) → s ≡ parted h stays x → later emergency (Some e.0) (slice_set now e.1 s) < later emergency after now
    turn_shrinks s a = subst (λ (y : Option Held). later emergency (Some e.0) (slice_set now e.1 y) < later emergency after now) (sym a) step_shrinks

    pub turn_room : (s : Option Held) (gone ended : List EndedFlow) → s ≡ parted h stays x → ended ≡ gone ++ left_by h (x ∷ [])
        → (n m cap more : ℕ) → n ≡ length gone → m ≡ length ended → n + length (filled now) ≤ cap → cap ≤ more → m + length (filled (slice_set now e.1 s)) ≤ more
    turn_room s gone ended a b n m cap more p q r t =
        let few = room_left h now e.1 x there in
        let size = ap (λ (l : List EndedFlow). length l) b ∙ length-append gone (left_by h (x ∷ [])) in
        let rest : length (filled (slice_set now e.1 s)) ≡ length (filled (slice_set now e.1 (parted h stays x))) = ap (λ (y : Option Held). length (filled (slice_set now e.1 y))) a in
        omega (arith, p, q, r, t, few, size, rest)

  -- where no flow is due, nothing changes
  none_changes : (os : List (Option Held)) → ((j : ℕ) (g : Held) → slice_get os j ≡ Some (Some g) → h g ≡ g) → NoneLeaves os → (map (parted h stays) os ≡ os) × (left_by h os ≡ [])
  none_changes [] k n = (refl, refl)
  none_changes (None ∷ os) k n =
      let r = none_changes os (λ j g s. k (suc j) g s) (λ j g s. n (suc j) g s) in
      (ap (λ (l : List (Option Held)). None ∷ l) r.0, r.1)
  none_changes (Some f ∷ os) k n =
      let r = none_changes os (λ j g s. k (suc j) g s) (λ j g s. n (suc j) g s) in
      let e = k 0 f refl in
      let s = n 0 f refl in
      let a : cond (stays (h f)) (Some (h f)) None ≡ Some f = ap (λ (x : Held). cond (stays x) (Some x) None) e ∙ ap (λ (b : Bool). cond b (Some f) None) s in
      let b : left_by h (Some f ∷ []) ≡ [] = ap (λ (x : Held). map ended_of (cond (leaves x) (x ∷ []) [])) e ∙ ap (λ (b : Bool). map ended_of (cond b (f ∷ []) [])) (off (leaves f) s) in (
        ap (λ (x : Option Held). x ∷ map (parted h stays) os) a ∙ ap (λ (l : List (Option Held)). Some f ∷ l) r.0,
        left_first h (Some f) os ∙ ap (λ (l : List EndedFlow). l ++ left_by h os) b ∙ r.1,
      )
    where
      off : (b : Bool) → not b ≡ true → b ≡ false
      off true e = cc
      off false e = refl

  -- the walk has come to its end
  pub walked : (emergency : Bool) (clock : ℕ) → ((g : Held) → nat_lt (deadline_of emergency g) clock ≡ false → due g ≡ false) → (after : Option Age) (before now : List (Option Held)) (was gone : List EndedFlow)
      → IsSwept h due emergency after before now was gone → IsNextDue emergency after clock now None → (now ≡ map (parted h stays) before) × IsPermutation (was ++ left_by h before) gone
  walked emergency clock expired after before now was gone w none =
      let r = none_changes now kept w.stay in (
        sym r.0 ∙ w.same,
        subst (λ (l : List EndedFlow). IsPermutation (was ++ left_by h before) l) (ap (λ (l : List EndedFlow). gone ++ l) r.1 ∙ append-nil gone) w.left,
      )
    where
      unchanged : (g : Held) → (is_linked g.place ≡ true → due g ≡ false) → h g ≡ g
      unchanged g n = is g ∙ by (is_linked g.place) (due g) n
        where
          by : (p q : Bool) → (p ≡ true → q ≡ false) → cond (p && q) (record g { place = detached o }) g ≡ g
          by false q n = refl
          by true false n = refl
          by true true n = let m = n refl in cc

      kept : (j : ℕ) (g : Held) → slice_get now j ≡ Some (Some g) → h g ≡ g
      kept j g s = unchanged g (λ l. by (comes_after after (deadline emergency g)) refl l)
        where
          by : (b : Bool) → comes_after after (deadline emergency g) ≡ b → is_linked g.place ≡ true → due g ≡ false
          by false q l = w.past j g s l q
          by true q l = expired g (none j g s l q)

  -- and at its start nothing was done
  pub walk_from : (emergency : Bool) (slots : List (Option Held)) (was : List EndedFlow) → NoneLeaves slots → IsSwept h due emergency None slots slots was was
  walk_from emergency slots was n = record { same = refl; left = IsPermutation-refl (was ++ left_by h slots); count = refl; stay = n; past = λ j g s l a. cc }
