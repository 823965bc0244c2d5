-- Lists of numbers that fall.
use Rattle.std.proofs.Common.{◌≡◌, ℕ, zero, suc, ◌==◌, ◌<◌, ◌≤◌, Bool, true, false, cond, ◌&&◌, ◌||◌, List, [], ◌∷◌, filter, ⊎_elim, refl, sym, ◌∙◌, ap, subst, eqb-true, arith}
use Rattle.std.proofs.lemmas.Bool.Decides.{eqb_tells}
use Rattle.bucket_rules.specs.Row.{has}
use Rattle.bucket_rules.proofs.Words.{true_false}
use Rattle.bucket_laws.proofs.Tests.{either, none_of, or_left, or_right, other, same}

abbrev pub all_below : ℕ → List ℕ → Type 0
all_below f [] = Unit {0}
all_below f (x ∷ xs) = (x < f) × all_below f xs

abbrev pub NumbersFall : List ℕ → Type 0
NumbersFall [] = Unit {0}
NumbersFall (x ∷ xs) = all_below x xs × NumbersFall xs

not_in : (f : ℕ) (xs : List ℕ) → all_below f xs → has xs f ≡ false
not_in f [] h = refl
not_in f (x ∷ xs) h = none_of (x == f) (has xs f) (other x f (λ e. absurd (omega (arith, e, h.0)))) (not_in f xs h.1)

pub in_below : (f g : ℕ) (xs : List ℕ) → all_below f xs → has xs g ≡ true → g < f
in_below f g [] h l = cc
in_below f g (x ∷ xs) h l = ⊎_elim (λ e. omega (arith, h.0, eqb-true x g e)) (λ e. in_below f g xs h.1 e) (either (x == g) (has xs g) l)

heads : (x y : ℕ) (xs ys : List ℕ) → all_below y ys → has (x ∷ xs) x ≡ has (y ∷ ys) x → x ≤ y
heads x y xs ys h e =
    let t : has (x ∷ xs) x ≡ true = or_left (x == x) (has xs x) (same x x refl) in
    ⊎_elim (λ z. omega (arith, eqb-true y x z)) (λ z. omega (arith, in_below y x ys h z)) (either (y == x) (has ys x) (sym e ∙ t))

tails : (x : ℕ) (xs ys : List ℕ) → all_below x xs → all_below x ys → ((f : ℕ) → has (x ∷ xs) f ≡ has (x ∷ ys) f) → (f : ℕ) → has xs f ≡ has ys f
tails x xs ys h l e f = ⊎_elim
    (λ z. subst (λ (y : ℕ). has xs y ≡ has ys y) z.1 (not_in x xs h ∙ sym (not_in x ys l)))
    (λ z. by_false (x == f) (has xs f) (has ys f) z.0 (e f)) (eqb_tells x f)
  where
    by_false : (t p q : Bool) → t ≡ false → (t || p) ≡ (t || q) → p ≡ q
    by_false true p q k e = cc
    by_false false p q k e = e

-- two falling lists of the same numbers are one
pub same_falling : (xs ys : List ℕ) → NumbersFall xs → NumbersFall ys → ((f : ℕ) → has xs f ≡ has ys f) → xs ≡ ys
same_falling [] [] h l e = refl
same_falling [] (y ∷ ys) h l e = absurd (true_false (or_left (y == y) (has ys y) (same y y refl)) (sym (e y)))
same_falling (x ∷ xs) [] h l e = absurd (true_false (or_left (x == x) (has xs x) (same x x refl)) (e x))
same_falling (x ∷ xs) (y ∷ ys) h l e =
    let a = heads x y xs ys l.0 (e x) in
    let b = heads y x ys xs h.0 (sym (e y)) in
    let s : x ≡ y = omega (arith, a, b) in
    let l' = subst (λ (z : ℕ). all_below z ys) (sym s) l.0 in
    let e' = subst (λ (z : ℕ). (f : ℕ) → has (x ∷ xs) f ≡ has (z ∷ ys) f) (sym s) e in
    ap (λ (z : List ℕ). x ∷ z) (same_falling xs ys h.1 l.1 (tails x xs ys h.0 l' e')) ∙ ap (λ (z : ℕ). z ∷ ys) s

filter_below : (p : ℕ → Bool) (f : ℕ) (xs : List ℕ) → all_below f xs → all_below f (filter p xs)
filter_below p f [] h = tt
filter_below p f (x ∷ xs) h = by (p x) (filter_below p f xs h.1)
  where
    by : (t : Bool) → all_below f (filter p xs) → all_below f (cond t (x ∷ filter p xs) (filter p xs))
    by true k = (h.0, k)
    by false k = k

pub filter_falls : (p : ℕ → Bool) (xs : List ℕ) → NumbersFall xs → NumbersFall (filter p xs)
filter_falls p [] h = tt
filter_falls p (x ∷ xs) h = by (p x) (filter_falls p xs h.1)
  where
    by : (t : Bool) → NumbersFall (filter p xs) → NumbersFall (cond t (x ∷ filter p xs) (filter p xs))
    by true k = (filter_below p x xs h.0, k)
    by false k = k

-- n, n - 1 and so on down to 1
abbrev pub down_from : ℕ → List ℕ
down_from zero = []
down_from (suc n) = suc n ∷ down_from n

down_below : (m n : ℕ) → n < m → all_below m (down_from n)
down_below m zero h = tt
down_below m (suc n) h = (h, down_below m n (omega arith))

pub down_falls : (n : ℕ) → NumbersFall (down_from n)
down_falls zero = tt
down_falls (suc n) = (down_below (suc n) n (omega arith), down_falls n)

merge : (t u s q r : Bool) → (s ≡ true → t ≡ u) → r ≡ (u && q) → cond t (s || r) r ≡ (u && (s || q))
merge true true s q r h k = ap (λ (z : Bool). s || z) k
merge true false true q r h k = let z : true ≡ false = h refl in cc
merge true false false q r h k = k
merge false true true q r h k = let z : false ≡ true = h refl in cc
merge false true false q r h k = k
merge false false s q r h k = k

has_cond : (t : Bool) (x f : ℕ) (ys : List ℕ) → has (cond t (x ∷ ys) ys) f ≡ cond t ((x == f) || has ys f) (has ys f)
has_cond true x f ys = refl
has_cond false x f ys = refl

and_no : (t : Bool) → false ≡ (t && false)
and_no true = refl
and_no false = refl

pub has_filter : (p : ℕ → Bool) (f : ℕ) (xs : List ℕ) → has (filter p xs) f ≡ (p f && has xs f)
has_filter p f [] = and_no (p f)
has_filter p f (x ∷ xs) =
    has_cond (p x) x f (filter p xs) ∙ merge (p x) (p f) (x == f) (has xs f) (has (filter p xs) f) (λ e. ap p (eqb-true x f e)) (has_filter p f xs)

pub has_down : (n f : ℕ) → 1 ≤ f → f ≤ n → has (down_from n) f ≡ true
has_down zero f h l = absurd (omega arith)
has_down (suc n) f h l =
    ⊎_elim (λ e. or_left (suc n == f) (has (down_from n) f) e.0)
    (λ e. or_right (suc n == f) (has (down_from n) f) (has_down n f h (omega (arith, e.1)))) (eqb_tells (suc n) f)
