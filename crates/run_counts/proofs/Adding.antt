-- Sums over lists of numbers, and over the lists that stand at the places of a list.
use Rattle.std.proofs.Common.{◌≡◌, ℕ, zero, suc, ◌==◌, ◌+◌, ◌≤◌, nat_lt, Bool, true, false, cond, List, [], ◌∷◌, ◌++◌, get_or, length, map, ⊎_elim, refl, sym, ap, subst, arith, eqb-true}
use Rattle.std.specs.List.{concat}
use Rattle.std.specs.Prelude.{sum_by}
use Rattle.std.proofs.lemmas.List.Sums.{sum_by-cons}
use Rattle.bucket_laws.proofs.Tests.{either, or_left, or_right, other, same}
use Rattle.bucket_laws.specs.Leaving.{put, rising}
use Rattle.bucket_rules.proofs.Words.{true_false}
use Rattle.flow_uses.specs.Uses.{IsNumberSet, has}
use Rattle.run_laws.proofs.Counting.{count_in, drop_count, drop_one, is_own}
use Rattle.run_laws.specs.Counts.{is, sum_below}

abbrev pub sum_over : (ℕ → ℕ) → List ℕ → ℕ
sum_over g [] = 0
sum_over g (x ∷ xs) = g x + sum_over g xs

pub over_same : (f g : ℕ → ℕ) (xs : List ℕ) → ((a : ℕ) → has xs a ≡ true → f a ≡ g a) → sum_over f xs ≡ sum_over g xs
over_same f g [] h = refl
over_same f g (x ∷ xs) h =
    let here : f x ≡ g x = h x (or_left (x == x) (has xs x) (same x x refl)) in
    omega (arith, here, over_same f g xs (λ a k. h a (or_right (x == a) (has xs a) k)))

-- a change at a number that isn't there
pub untouched : (f g : ℕ → ℕ) (run : ℕ) (xs : List ℕ) → has xs run ≡ false → sum_over (λ a. cond (run == a) (f a) (g a)) xs ≡ sum_over g xs
untouched f g run xs h = over_same (λ a. cond (run == a) (f a) (g a)) g xs
    (λ a k. ap (λ (b : Bool). cond b (f a) (g a)) (other run a (λ e. true_false (subst (λ (y : ℕ). has xs y ≡ true) (sym e) k) h)))

-- a number that is there once counts for so much more
pub one_grown : (more : ℕ) (g : ℕ → ℕ) (run : ℕ) (xs : List ℕ) → IsNumberSet xs → has xs run ≡ true → sum_over (λ a. cond (run == a) (g a + more) (g a)) xs ≡ sum_over g xs + more
one_grown more g run [] s h = cc
one_grown more g run (x ∷ xs) s h = ⊎_elim
    (λ k.
    let e : x ≡ run = eqb-true x run k in
    let rest = untouched (λ a. g a + more) g run xs (subst (λ (y : ℕ). has xs y ≡ false) e s.0) in
    let here : cond (run == x) (g x + more) (g x) ≡ g x + more = ap (λ (b : Bool). cond b (g x + more) (g x)) (same run x (sym e)) in
    omega (arith, rest, here))
    (λ k.
    let away : (run == x) ≡ false = other run x (λ e. true_false (subst (λ (y : ℕ). has xs y ≡ true) e k) s.0) in
    let here : cond (run == x) (g x + more) (g x) ≡ g x = ap (λ (b : Bool). cond b (g x + more) (g x)) away in
    omega (arith, here, one_grown more g run xs s.1 k))
    (either (x == run) (has xs run) h)

over_append : (g : ℕ → ℕ) (xs ys : List ℕ) → sum_over g (xs ++ ys) ≡ sum_over g xs + sum_over g ys
over_append g [] ys = omega arith
over_append g (x ∷ xs) ys = omega (arith, over_append g xs ys)

-- in order
over_put : (g : ℕ → ℕ) (x : ℕ) (xs : List ℕ) → sum_over g (put x xs) ≡ g x + sum_over g xs
over_put g x [] = refl
over_put g x (y ∷ ys) = by (nat_lt y x) (over_put g x ys)
  where
    by : (t : Bool) → sum_over g (put x ys) ≡ g x + sum_over g ys → sum_over g (cond t (y ∷ put x ys) (x ∷ y ∷ ys)) ≡ g x + (g y + sum_over g ys)
    by true h = omega (arith, h)
    by false h = refl

pub over_rising : (g : ℕ → ℕ) (xs : List ℕ) → sum_over g (rising xs) ≡ sum_over g xs
over_rising g [] = refl
over_rising g (x ∷ xs) = omega (arith, over_put g x (rising xs), over_rising g xs)

-- over lists joined
pub over_joined : {X : Type 0} (g : ℕ → ℕ) (f : X → List ℕ) (hs : List X) → sum_over g (concat (map f hs)) ≡ sum_by (λ h. sum_over g (f h)) hs
over_joined g f [] = refl
over_joined g f (h ∷ hs) = omega (arith, over_append g (f h) (concat (map f hs)), over_joined g f hs, sum_by-cons (λ x. sum_over g (f x)) h hs)

-- by places

below_front : (n : ℕ) (f : ℕ → ℕ) → sum_below (suc n) f ≡ f 0 + sum_below n (λ b. f (suc b))
below_front zero f = omega arith
below_front (suc n) f = omega (arith, below_front n f)

pub sum_by_place : {X : Type 0} (g : X → ℕ) (d : X) (hs : List X) → sum_by g hs ≡ sum_below (length hs) (λ b. g (get_or hs b d))
sum_by_place g d [] = refl
sum_by_place g d (h ∷ hs) = omega (arith, sum_by-cons g h hs, below_front (length hs) (λ b. g (get_or (h ∷ hs) b d)), sum_by_place g d hs)

-- the lists of numbers at some places, joined
abbrev pub joined_below : ℕ → (ℕ → List ℕ) → List ℕ
joined_below zero f = []
joined_below (suc n) f = joined_below n f ++ f n

count_append : (a : ℕ) (xs ys : List ℕ) → count_in a (xs ++ ys) ≡ count_in a xs + count_in a ys
count_append a [] ys = omega arith
count_append a (x ∷ xs) ys = omega (arith, count_append a xs ys)

pub count_joined : (a n : ℕ) (f : ℕ → List ℕ) → count_in a (joined_below n f) ≡ sum_below n (λ b. count_in a (f b))
count_joined a zero f = refl
count_joined a (suc n) f = omega (arith, count_append a (joined_below n f) (f n), count_joined a n f)

pub over_places : (g : ℕ → ℕ) (n : ℕ) (f : ℕ → List ℕ) → sum_over g (joined_below n f) ≡ sum_below n (λ b. sum_over g (f b))
over_places g zero f = refl
over_places g (suc n) f = omega (arith, over_append g (joined_below n f) (f n), over_places g n f)

-- lists that have each number as often have one sum

drop_over : (g : ℕ → ℕ) (a : ℕ) (xs : List ℕ) → 1 ≤ count_in a xs → sum_over g xs ≡ g a + sum_over g (drop_one a xs)
drop_over g a [] h = absurd (omega (arith, h))
drop_over g a (x ∷ xs) h = by (x == a) refl h (λ k. drop_over g a xs k)
  where
    by : (t : Bool) → (x == a) ≡ t → 1 ≤ cond t 1 0 + count_in a xs → (1 ≤ count_in a xs → sum_over g xs ≡ g a + sum_over g (drop_one a xs))
        → g x + sum_over g xs ≡ g a + sum_over g (cond t xs (x ∷ drop_one a xs))
    by true e k more = ap (λ (y : ℕ). g y + sum_over g xs) (eqb-true x a e)
    by false e k more = omega (arith, more (omega (arith, k)))

pub over_alike : (g : ℕ → ℕ) (xs ys : List ℕ) → ((a : ℕ) → count_in a xs ≡ count_in a ys) → sum_over g xs ≡ sum_over g ys
over_alike g [] [] h = refl
over_alike g [] (y ∷ ys) h = absurd (let z : is y y ≡ 1 = is_own y in omega (arith, h y, z))
over_alike g (x ∷ xs) ys h =
    let z : is x x ≡ 1 = is_own x in
    let k : 1 ≤ count_in x ys = omega (arith, h x, z) in
    omega (arith, drop_over g x ys k, over_alike g xs (drop_one x ys) (λ c. omega (arith, h c, drop_count x c ys k)))
