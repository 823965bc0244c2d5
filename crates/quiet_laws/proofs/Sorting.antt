-- Numbers that rise are those of a list put in order, where both have the same.
use Rattle.std.proofs.Common.{◌≡◌, ℕ, ◌==◌, ◌<◌, nat_lt, ◌&&◌, ◌||◌, not, Bool, true, false, cond, List, [], ◌∷◌, refl, sym, ◌∙◌, ap, subst, eqb-true, arith, ⊎_elim, ◌⊎◌}
use Rattle.std.proofs.lemmas.Bool.Decides.{nat_tests}
use Rattle.bucket_laws.proofs.Tests.{either, or_left, same}
use Rattle.bucket_laws.specs.Leaving.{put, rising}
use Rattle.bucket_rules.proofs.Words.{has-without, true_false}
use Rattle.bucket_rules.specs.Row.{has, without}
use Rattle.bucket_rules.specs.Sound.{IsNumberSet}

-- the numbers rise, from above this one
abbrev pub RiseAbove : ℕ → List ℕ → Type 0
RiseAbove above [] = Unit {0}
RiseAbove above (x ∷ xs) = (above < x) × RiseAbove x xs

has_above : (above a : ℕ) (xs : List ℕ) → RiseAbove above xs → has xs a ≡ true → above < a
has_above above a [] r h = absurd (true_false h refl)
has_above above a (x ∷ xs) r h = ⊎_elim
    (λ e. let q = eqb-true x a e in omega (arith, q, r.0))
    (λ k. omega (arith, r.0, has_above x a xs r.1 k))
    (either (x == a) (has xs a) h)

lower : (low above : ℕ) (xs : List ℕ) → low < above → RiseAbove above xs → RiseAbove low xs
lower low above [] l r = tt
lower low above (x ∷ xs) l r = (omega (arith, l, r.0), r.1)

-- without one of them they rise
still_rise : (above x : ℕ) (xs : List ℕ) → RiseAbove above xs → RiseAbove above (without x xs)
still_rise above x [] r = tt
still_rise above x (y ∷ xs) r = by (y == x) (still_rise y x xs r.1)
  where
    by : (b : Bool) → RiseAbove y (without x xs) → RiseAbove above (cond (not b) (y ∷ without x xs) (without x xs))
    by true k = lower above y (without x xs) r.0 k
    by false k = (r.0, k)

-- a number that is not there is not left out
all_left : (above x : ℕ) (xs : List ℕ) → x < above → RiseAbove above xs → without x xs ≡ xs
all_left above x [] l r = refl
all_left above x (y ∷ xs) l r =
    ap (λ (b : Bool). cond (not b) (y ∷ without x xs) (without x xs)) (other y x (omega (arith, l, r.0)))
    ∙ ap (λ (l : List ℕ). y ∷ l) (all_left y x xs (omega (arith, l, r.0)) r.1)
  where
    other : (y x : ℕ) → x < y → (y == x) ≡ false
    other y x l = grind (arith, nat_tests)

put_first : (above x : ℕ) (xs : List ℕ) → above ≡ x → RiseAbove above xs → put x xs ≡ x ∷ xs
put_first above x [] e r = refl
put_first above x (y ∷ xs) e r = ap (λ (b : Bool). cond b (y ∷ put x xs) (x ∷ y ∷ xs)) (not_less y x (omega (arith, e, r.0)))
  where
    not_less : (y x : ℕ) → x < y → nat_lt y x ≡ false
    not_less y x l = grind (arith, nat_tests)

-- one of them that was left out is put back into its place
put_back : (above x : ℕ) (xs : List ℕ) → RiseAbove above xs → has xs x ≡ true → put x (without x xs) ≡ xs
put_back above x [] r h = absurd (true_false h refl)
put_back above x (y ∷ xs) r h = by (y == x) refl (either (y == x) (has xs x) h) (λ k. put_back y x xs r.1 k)
  where
    less : (y x : ℕ) → y < x → nat_lt y x ≡ true
    less y x l = grind (arith, nat_tests)

    by : (b : Bool) → (y == x) ≡ b → ((y == x) ≡ true) ⊎ (has xs x ≡ true) → (has xs x ≡ true → put x (without x xs) ≡ xs)
        → put x (cond (not b) (y ∷ without x xs) (without x xs)) ≡ y ∷ xs
    by true e k more =
        let q : y ≡ x = eqb-true y x e in
        ap (put x) (subst (λ (z : ℕ). without z xs ≡ xs) q (own y xs r.1)) ∙ (put_first y x xs q r.1 ∙ ap (λ (z : ℕ). z ∷ xs) (sym q))
      where
        own : (y : ℕ) (xs : List ℕ) → RiseAbove y xs → without y xs ≡ xs
        own y [] r = refl
        own y (z ∷ xs) r =
            ap (λ (b : Bool). cond (not b) (z ∷ without y xs) (without y xs)) (other z y r.0) ∙ ap (λ (l : List ℕ). z ∷ l) (all_left z y xs r.0 r.1)
          where
            other : (z y : ℕ) → y < z → (z == y) ≡ false
            other z y l = grind (arith, nat_tests)
    by false e k more = ⊎_elim
        (λ u. absurd (true_false u e))
        (λ u. ap (λ (b : Bool). cond b (y ∷ put x (without x xs)) (x ∷ y ∷ without x xs)) (less y x (has_above y x xs r.1 u)) ∙ ap (λ (l : List ℕ). y ∷ l) (more u))
        k

pub in_order_are : (xs ys : List ℕ) (above : ℕ) → IsNumberSet xs → RiseAbove above ys → ((a : ℕ) → has xs a ≡ has ys a) → rising xs ≡ ys
in_order_are [] [] above s r h = refl
in_order_are [] (y ∷ ys) above s r h = absurd (true_false (or_left (y == y) (has ys y) (same y y refl)) (sym (h y)))
in_order_are (x ∷ xs) ys above s r h =
    ap (put x) (in_order_are xs (without x ys) above s.1 (still_rise above x ys r) (λ a. left a (x == a) refl))
    ∙ put_back above x ys r (sym (h x) ∙ or_left (x == x) (has xs x) (same x x refl))
  where
    turned : (x a : ℕ) → (a == x) ≡ (x == a)
    turned x a = grind (arith, nat_tests)

    keep : (b : Bool) → (b && true) ≡ b
    keep true = refl
    keep false = refl

    none : (b : Bool) → (b && false) ≡ false
    none true = refl
    none false = refl

    left : (a : ℕ) (b : Bool) → (x == a) ≡ b → has xs a ≡ has (without x ys) a
    left a true e =
        let q : x ≡ a = eqb-true x a e in
        subst (λ (z : ℕ). has xs z ≡ false) q s.0 ∙ sym (has-without x a ys ∙ (ap (λ (c : Bool). has ys a && not c) (turned x a ∙ e) ∙ none (has ys a)))
    left a false e = sym (has-without x a ys ∙ (ap (λ (c : Bool). has ys a && not c) (turned x a ∙ e) ∙ (keep (has ys a) ∙ (sym (h a) ∙ ap (λ (c : Bool). c || has xs a) e))))
