-- Sets of numbers, as lists in which none stands twice.
use Rattle.std.proofs.Common.{◌≡◌, ℕ, zero, suc, ◌==◌, ◌<◌, ◌≤◌, ◌-◌, Bool, true, false, not, cond, if◌then◌else◌, ◌+◌, ◌&&◌, ◌||◌, List, [], ◌∷◌, length, filter, ⊎_elim, refl, sym, ◌∙◌, ap, subst, arith}
use Rattle.std.proofs.lemmas.Bool.Decides.{nat_tests, eqb_tells}
use Rattle.flow_uses.specs.Uses.{has, IsNumberSet}

abbrev pub without : ℕ → List ℕ → List ℕ
without f us = filter (λ u. not (u == f)) us

pub has-without : (x a : ℕ) (ys : List ℕ) → has (without x ys) a ≡ (has ys a && not (a == x))
has-without x a [] = refl
has-without x a (y ∷ ys) = step (y == x) (y == a) (a == x) refl refl refl (has-without x a ys)
  where
    step : (p q r : Bool) → (y == x) ≡ p → (y == a) ≡ q → (a == x) ≡ r → has (without x ys) a ≡ (has ys a && not r)
        → has (cond (not p) (y ∷ without x ys) (without x ys)) a ≡ ((q || has ys a) && not r)
    step true true true i j k h = h ∙ off (has ys a)
      where
        off : (b : Bool) → (b && false) ≡ false
        off true = refl
        off false = refl
    step true true false i j k h = absurd (tie y x a i j k)
      where
        tie : (y x a : ℕ) → (y == x) ≡ true → (y == a) ≡ true → (a == x) ≡ false → ⊥
        tie y x a i j k = grind (arith, nat_tests)
    step true false r i j k h = h
    step false true true i j k h = absurd (tie y x a i j k)
      where
        tie : (y x a : ℕ) → (y == x) ≡ false → (y == a) ≡ true → (a == x) ≡ true → ⊥
        tie y x a i j k = grind (arith, nat_tests)
    step false true false i j k h = rw j refl
    step false false r i j k h = rw j h

pub set-without : (x : ℕ) (ys : List ℕ) → IsNumberSet ys → IsNumberSet (without x ys)
set-without x [] s = tt
set-without x (y ∷ ys) s = step (y == x) (set-without x ys s.1)
  where
    step : (b : Bool) → IsNumberSet (without x ys) → IsNumberSet (cond (not b) (y ∷ without x ys) (without x ys))
    step true k = k
    step false k = (has-without x y ys ∙ ap (λ (v : Bool). v && not (y == x)) s.0, k)

pub length-without_absent : (x : ℕ) (ys : List ℕ) → has ys x ≡ false → without x ys ≡ ys
length-without_absent x [] h = refl
length-without_absent x (y ∷ ys) h = step (y == x) h (length-without_absent x ys)
  where
    step : (b : Bool) → (b || has ys x) ≡ false → (has ys x ≡ false → without x ys ≡ ys) → cond (not b) (y ∷ without x ys) (without x ys) ≡ y ∷ ys
    step true h k = cc
    step false h k = ap (λ zs. y ∷ zs) (k h)

pub length-without : (x : ℕ) (ys : List ℕ) → IsNumberSet ys → has ys x ≡ true → length ys ≡ suc (length (without x ys))
length-without x [] s h = cc
length-without x (y ∷ ys) s h = ⊎_elim
    (λ e. rw (e.0) (ap suc (ap length (sym (length-without_absent x ys (subst (λ (v : ℕ). has ys v ≡ false) e.1 s.0))))))
    (λ e. rw (e.0) (ap suc (length-without x ys s.1 (other (y == x) e.0 h))))
    (eqb_tells y x)
  where
    other : (b : Bool) → b ≡ false → (b || has ys x) ≡ true → has ys x ≡ true
    other b e h = subst (λ (v : Bool). (v || has ys x) ≡ true) e h

-- a set without a number is one shorter where it was there, and else as long
pub length-ended : (x : ℕ) (ys : List ℕ) → IsNumberSet ys → length ys ≡ (if has ys x then length (without x ys) + 1 else length (without x ys))
length-ended x ys s = by (has ys x) refl
  where
    by : (b : Bool) → has ys x ≡ b → length ys ≡ (if b then length (without x ys) + 1 else length (without x ys))
    by true e = let k = length-without x ys s e in omega (arith, k)
    by false e = ap length (sym (length-without_absent x ys e))

-- lists with the same numbers are empty together
pub nobody_in : (vs : List ℕ) → ((u : ℕ) → has vs u ≡ false) → length vs ≡ 0
nobody_in [] h = refl
nobody_in (v ∷ vs) h = let k = h v in absurd (first_there v (has vs v) k)
  where
    first_there : (v : ℕ) (b : Bool) → ((v == v) || b) ≡ false → ⊥
    first_there v b h = grind (arith, nat_tests)

same_rest : (x a : ℕ) (p q : Bool) → ((x == a) || p) ≡ q → (x ≡ a → p ≡ false) → (q && not (a == x)) ≡ p
same_rest x a p q h k = ⊎_elim (λ e. let m = k e.1 in rw (m, flip x a e.1) (and_false q)) (λ e. rw (flop x a e.1) (and_true q ∙ sym h ∙ rw e.0 refl)) (eqb_tells x a)
  where
    flip : (x a : ℕ) → x ≡ a → (a == x) ≡ true
    flip x a e = grind (arith, nat_tests)

    flop : (x a : ℕ) → (x ≡ a → ⊥) → (a == x) ≡ false
    flop x a n = grind (arith, nat_tests)

    and_false : (q : Bool) → (q && not true) ≡ false
    and_false true = refl
    and_false false = refl

    and_true : (q : Bool) → (q && not false) ≡ q
    and_true true = refl
    and_true false = refl

-- two sets with the same numbers have the same length
pub same_length : (xs ys : List ℕ) → IsNumberSet xs → IsNumberSet ys → ((a : ℕ) → has xs a ≡ has ys a) → length xs ≡ length ys
same_length [] ys s t h = sym (nobody_in ys (λ a. sym (h a)))
same_length (x ∷ xs) ys s t h =
    let there : has ys x ≡ true = sym (h x) ∙ self x (has xs x) in
    ap suc (same_length xs (without x ys) s.1 (set-without x ys t)
    (λ a. sym (has-without x a ys ∙ same_rest x a (has xs a) (has ys a) (h a) (λ e. subst (λ (v : ℕ). has xs v ≡ false) e s.0))))
    ∙ sym (length-without x ys t there)
  where
    self : (x : ℕ) (b : Bool) → ((x == x) || b) ≡ true
    self x b = grind (arith, nat_tests)

-- a set of numbers below n has at most n
pub few_below : (n : ℕ) (xs : List ℕ) → IsNumberSet xs → ((u : ℕ) → has xs u ≡ true → u < n) → length xs ≤ n
few_below zero xs s low = omega (arith, nobody_in xs (λ u. by u (has xs u) refl))
  where
    by : (u : ℕ) (b : Bool) → has xs u ≡ b → has xs u ≡ false
    by u true e = absurd (let k = low u e in omega (arith, k))
    by u false e = e
few_below (suc n) xs s low = step (has xs n) refl (λ e. few_below n (without n xs) (set-without n xs s) rest) (λ l. few_below n xs s l)
  where
    rest : (u : ℕ) → has (without n xs) u ≡ true → u < n
    rest u h = parts (has xs u) (u == n) refl refl (sym (has-without n u xs) ∙ h)
      where
        parts : (p q : Bool) → has xs u ≡ p → (u == n) ≡ q → (p && not q) ≡ true → u < n
        parts true true i j h = cc
        parts true false i j h = let k = low u i in let m = other u n j in omega (arith, k, m)
          where
            other : (u n : ℕ) → (u == n) ≡ false → (u ≡ n → ⊥)
            other u n j e = grind (arith, nat_tests)
        parts false q i j h = cc

    step : (b : Bool) → has xs n ≡ b → (has xs n ≡ true → length (without n xs) ≤ n) → (((u : ℕ) → has xs u ≡ true → u < n) → length xs ≤ n) → length xs ≤ suc n
    step true e with_out whole = let k = length-without n xs s e in let m = with_out e in omega (arith, k, m)
    step false e with_out whole = let m = whole (λ u h. let k = low u h in let d : u ≡ n → ⊥ = λ i. clash u i h in omega (arith, k, d)) in omega (arith, m)
      where
        clash : (u : ℕ) → u ≡ n → has xs u ≡ true → ⊥
        clash u i h = let m : has xs n ≡ true = subst (λ (v : ℕ). has xs v ≡ true) i h in cc

-- however many of the places are taken, those taken and those left are no fewer than in a list with as many places
pub places_kept : (frames room taken left cap l m : ℕ) → l ≡ frames → (cap - l) ≡ room → l ≤ cap → m ≡ taken → (cap - m) ≡ left → frames + room ≤ taken + left
places_kept frames room taken left cap l m f r le t e = omega (arith, f, r, le, t, e)
