-- Those that left, by rising run.
use Rattle.std.proofs.Common.{◌≡◌, ℕ, suc, ◌==◌, ◌+◌, ◌<◌, ◌≤◌, Bool, true, false, cond, ◌||◌, List, [], ◌∷◌, ◌⊎◌, ⊎_elim, inl, inr, refl, sym, ◌∙◌, ap, subst, arith}
use Rattle.std.specs.Prelude.{sum_by}
use Rattle.std.proofs.lemmas.Bool.Decides.{nat_tests, eqb_tells}
use Rattle.std.proofs.lemmas.List.Sums.{sum_by-cons}
use Rattle.std.proofs.lemmas.List.Sorted.{sum_by-IsPermutation}
use Rattle.std.specs.List.Sorted.{IsPermutation, IsNonDecreasingBy}
use Rattle.flow_object.specs.Ending.{EndedFlow}
use Rattle.bucket_rules.specs.Row.{has}
use Rattle.bucket_rules.specs.Sound.{IsNumberSet}
use Rattle.flow_bucket.specs.LetGo.{runs, AreRising, Below}

-- one for each time that a number stands there
abbrev one : ℕ → ℕ → ℕ
one a x = cond (x == a) 1 0

abbrev times : ℕ → List ℕ → ℕ
times a [] = 0
times a (x ∷ xs) = one a x + times a xs

times_of : (a : ℕ) (es : List EndedFlow) → sum_by (λ (e : EndedFlow). one a e.run) es ≡ times a (runs es)
times_of a [] = refl
times_of a (e ∷ es) = sum_by-cons (λ (x : EndedFlow). one a x.run) e es ∙ ap (λ n. one a e.run + n) (times_of a es)

times_same : (a : ℕ) (xs ys : List EndedFlow) → IsPermutation xs ys → times a (runs ys) ≡ times a (runs xs)
times_same a xs ys p = sym (times_of a ys) ∙ sum_by-IsPermutation (λ (e : EndedFlow). one a e.run) xs ys p ∙ times_of a xs

has_times : (a : ℕ) (xs : List ℕ) → ((has xs a ≡ true) × (1 ≤ times a xs)) ⊎ ((has xs a ≡ false) × (times a xs ≡ 0))
has_times a [] = inr (refl, refl)
has_times a (x ∷ xs) = step (x == a) (has_times a xs)
  where
    step : (b : Bool) → ((has xs a ≡ true) × (1 ≤ times a xs)) ⊎ ((has xs a ≡ false) × (times a xs ≡ 0))
        → (((b || has xs a) ≡ true) × (1 ≤ cond b 1 0 + times a xs)) ⊎ (((b || has xs a) ≡ false) × (cond b 1 0 + times a xs ≡ 0))
    step true h = inl (refl, omega arith)
    step false (inl h) = inl (h.0, let k = h.1 in omega (arith, k))
    step false (inr h) = inr (h.0, let k = h.1 in omega (arith, k))

pub has_same : (a : ℕ) (xs ys : List EndedFlow) → IsPermutation xs ys → has (runs ys) a ≡ has (runs xs) a
has_same a xs ys p = both (has_times a (runs xs)) (has_times a (runs ys))
  where
    same : times a (runs ys) ≡ times a (runs xs)
    same = times_same a xs ys p

    both : ((has (runs xs) a ≡ true) × (1 ≤ times a (runs xs))) ⊎ ((has (runs xs) a ≡ false) × (times a (runs xs) ≡ 0))
        → ((has (runs ys) a ≡ true) × (1 ≤ times a (runs ys))) ⊎ ((has (runs ys) a ≡ false) × (times a (runs ys) ≡ 0))
        → has (runs ys) a ≡ has (runs xs) a
    both (inl h) (inl k) = k.0 ∙ sym h.0
    both (inr h) (inr k) = k.0 ∙ sym h.0
    both (inl h) (inr k) = let m = h.1 in let n = k.1 in let e = same in absurd (omega (arith, m, n, e))
    both (inr h) (inl k) = let m = h.1 in let n = k.1 in let e = same in absurd (omega (arith, m, n, e))

set_times : (a : ℕ) (xs : List ℕ) → IsNumberSet xs → times a xs ≤ 1
set_times a [] s = omega arith
set_times a (x ∷ xs) s = ⊎_elim
    (λ e. rw (e.0) (by e.1 (has_times a xs)))
    (λ e. rw (e.0) (let k = set_times a xs s.1 in omega (arith, k)))
    (eqb_tells x a)
  where
    by : x ≡ a → ((has xs a ≡ true) × (1 ≤ times a xs)) ⊎ ((has xs a ≡ false) × (times a xs ≡ 0)) → 1 + times a xs ≤ 1
    by e (inl h) = let m : has xs a ≡ false = subst (λ (v : ℕ). has xs v ≡ false) e s.0 in let k = h.0 in cc
    by e (inr h) = let k = h.1 in omega (arith, k)

times_set : (xs : List ℕ) → ((a : ℕ) → times a xs ≤ 1) → IsNumberSet xs
times_set [] h = tt
times_set (x ∷ xs) h = (by (has_times x xs) (h x), times_set xs (λ a. let k = h a in let m = more a (x == a) in omega (arith, k, m)))
  where
    more : (a : ℕ) (b : Bool) → times a xs ≤ cond b 1 0 + times a xs
    more a true = omega arith
    more a false = omega arith

    by : ((has xs x ≡ true) × (1 ≤ times x xs)) ⊎ ((has xs x ≡ false) × (times x xs ≡ 0)) → one x x + times x xs ≤ 1 → has xs x ≡ false
    by (inl h) k = absurd (twice (h.1) k)
      where
        twice : 1 ≤ times x xs → one x x + times x xs ≤ 1 → ⊥
        twice m k = let e : one x x ≡ 1 = self x in omega (arith, m, k, e)
          where
            self : (x : ℕ) → one x x ≡ 1
            self x = grind (arith, nat_tests)
    by (inr h) k = h.0

pub set_same : (xs ys : List EndedFlow) → IsPermutation xs ys → IsNumberSet (runs xs) → IsNumberSet (runs ys)
set_same xs ys p s = times_set (runs ys) (λ a. let e = times_same a xs ys p in let k = set_times a (runs xs) s in omega (arith, e, k))

-- sorted and apart is rising
pub rising_from : (es : List EndedFlow) → IsNonDecreasingBy (λ (e : EndedFlow). e.run) es → IsNumberSet (runs es) → AreRising (runs es)
rising_from [] h s = tt
rising_from (e ∷ []) h s = (tt, tt)
rising_from (e ∷ f ∷ es) h s =
    (strict e.run f.run (has (runs es) e.run) (h 0 1 e (omega arith) (omega arith)) s.0, rising_from (f ∷ es) (λ i j d l m. h (suc i) (suc j) d (omega (arith, l)) (omega (arith, m))) s.1)
  where
    strict : (x y : ℕ) (b : Bool) → x ≤ y → ((y == x) || b) ≡ false → x < y
    strict x y b l n = grind (arith, nat_tests)

pub set_from : (xs : List ℕ) → AreRising xs → IsNumberSet xs
set_from [] h = tt
set_from (x ∷ xs) h = (above x xs h.0 h.1, set_from xs h.1)
  where
    above : (x : ℕ) (xs : List ℕ) → Below x xs → AreRising xs → has xs x ≡ false
    above x [] h k = refl
    above x (y ∷ ys) h k = apart (y == x) refl (above x ys (further ys h k.0) k.1)
      where
        further : (ys : List ℕ) → x < y → Below y ys → Below x ys
        further [] h k = tt
        further (z ∷ zs) h k = omega (arith, h, k)

        apart : (b : Bool) → (y == x) ≡ b → has ys x ≡ false → (b || has ys x) ≡ false
        apart true e n = absurd (clash y x e h)
          where
            clash : (y x : ℕ) → (y == x) ≡ true → x < y → ⊥
            clash y x e h = grind (arith, nat_tests)
        apart false e n = n
