-- The list of the runs that an entry lets go.
use Rattle.std.proofs.Common.{◌≡◌, ℕ, ◌==◌, ◌+◌, ◌<◌, nat_lt, Bool, true, false, cond, ◌&&◌, ◌||◌, List, [], ◌∷◌, filter, length, map, refl, sym, ◌∙◌, ap, subst, arith}
use Rattle.std.specs.Prelude.{All, sum_by}
use Rattle.std.proofs.lemmas.Bool.Decides.{nat_tests}
use Rattle.std.proofs.lemmas.List.Elements.{All-cons, All-head, All-nil, All-tail, All-weaker}
use Rattle.std.proofs.lemmas.List.Sums.{sum_by-cons}
use Rattle.suri_base.specs.declared.entry.BucketNote.{BucketNote}
use Rattle.suri_base.specs.declared.entry.Entry.{Entry}
use Rattle.bucket_rules.specs.Row.{after, has, is_here, lets_go, made, row}
use Rattle.bucket_rules.specs.Rule.{IsLegal, count_of}
use Rattle.bucket_rules.specs.Sound.{IsNumberSet}
use Rattle.bucket_rules.specs.declared.fixed.Fixed.{Fixed}
use Rattle.bucket_rules.proofs.Soundness.{sound}
use Rattle.bucket_laws.specs.Leaving.{AreRising, Gone, gone, put, rising, runs, sum_nodes}
use Rattle.bucket_laws.specs.Nodes.{taken_by}
use Rattle.bucket_laws.proofs.Falling.{has_filter}
use Rattle.bucket_laws.proofs.Steps.{here_made}
use Rattle.bucket_laws.proofs.Tests.{both, neither}

-- a list in order has the same numbers

has_put : (x f : ℕ) (xs : List ℕ) → has (put x xs) f ≡ ((x == f) || has xs f)
has_put x f [] = refl
has_put x f (y ∷ ys) = by (nat_lt y x) (has_put x f ys)
  where
    swap : (p q r : Bool) → (q || (p || r)) ≡ (p || (q || r))
    swap true true r = refl
    swap true false r = refl
    swap false true r = refl
    swap false false r = refl

    by : (b : Bool) → has (put x ys) f ≡ ((x == f) || has ys f) → has (cond b (y ∷ put x ys) (x ∷ y ∷ ys)) f ≡ ((x == f) || ((y == f) || has ys f))
    by true h = ap (λ (b : Bool). (y == f) || b) h ∙ swap (x == f) (y == f) (has ys f)
    by false h = refl

has_rising : (f : ℕ) (xs : List ℕ) → has (rising xs) f ≡ has xs f
has_rising f [] = refl
has_rising f (x ∷ xs) = has_put x f (rising xs) ∙ ap (λ (b : Bool). (x == f) || b) (has_rising f xs)

-- and as many that pass a test

length_put : (p : ℕ → Bool) (x : ℕ) (xs : List ℕ) → length (filter p (put x xs)) ≡ length (filter p (x ∷ xs))
length_put p x [] = refl
length_put p x (y ∷ ys) = by (nat_lt y x) (length_put p x ys)
  where
    four : (c d : Bool) (fs gs : List ℕ) → length fs ≡ length (cond c (x ∷ gs) gs)
        → length (cond d (y ∷ fs) fs) ≡ length (cond c (x ∷ cond d (y ∷ gs) gs) (cond d (y ∷ gs) gs))
    four true true fs gs h = omega (arith, h)
    four true false fs gs h = h
    four false true fs gs h = omega (arith, h)
    four false false fs gs h = h

    by : (b : Bool) → length (filter p (put x ys)) ≡ length (filter p (x ∷ ys))
        → length (filter p (cond b (y ∷ put x ys) (x ∷ y ∷ ys))) ≡ length (filter p (x ∷ y ∷ ys))
    by true h = four (p x) (p y) (filter p (put x ys)) (filter p ys) h
    by false h = refl

length_rising : (p : ℕ → Bool) (xs : List ℕ) → length (filter p (rising xs)) ≡ length (filter p xs)
length_rising p [] = refl
length_rising p (x ∷ xs) = length_put p x (rising xs) ∙ by (p x) (length_rising p xs)
  where
    by : (b : Bool) → length (filter p (rising xs)) ≡ length (filter p xs)
        → length (cond b (x ∷ filter p (rising xs)) (filter p (rising xs))) ≡ length (cond b (x ∷ filter p xs) (filter p xs))
    by true h = omega (arith, h)
    by false h = h

-- and the same sum

sum_put : (f : ℕ → ℕ) (x : ℕ) (xs : List ℕ) → sum_by f (put x xs) ≡ f x + sum_by f xs
sum_put f x [] = sum_by-cons f x []
sum_put f x (y ∷ ys) = by (nat_lt y x) (sum_put f x ys)
  where
    by : (b : Bool) → sum_by f (put x ys) ≡ f x + sum_by f ys → sum_by f (cond b (y ∷ put x ys) (x ∷ y ∷ ys)) ≡ f x + sum_by f (y ∷ ys)
    by true h = omega (arith, h, sum_by-cons f y (put x ys), sum_by-cons f y ys)
    by false h = sum_by-cons f x (y ∷ ys)

sum_rising : (f : ℕ → ℕ) (xs : List ℕ) → sum_by f (rising xs) ≡ sum_by f xs
sum_rising f [] = refl
sum_rising f (x ∷ xs) = omega (arith, sum_put f x (rising xs), sum_by-cons f x xs, sum_rising f xs)

-- its numbers rise, where each is there once

all_put : (z x : ℕ) (xs : List ℕ) → z < x → All (λ (y : ℕ). z < y) xs → All (λ (y : ℕ). z < y) (put x xs)
all_put z x [] l a = All-cons (λ (y : ℕ). z < y) x [] l a
all_put z x (y ∷ ys) l a = by (nat_lt y x) (all_put z x ys l (All-tail (λ (y : ℕ). z < y) y ys a))
  where
    by : (b : Bool) → All (λ (y : ℕ). z < y) (put x ys) → All (λ (y : ℕ). z < y) (cond b (y ∷ put x ys) (x ∷ y ∷ ys))
    by true h = All-cons (λ (y : ℕ). z < y) y (put x ys) (All-head (λ (y : ℕ). z < y) y ys a) h
    by false h = All-cons (λ (y : ℕ). z < y) x (y ∷ ys) l a

put_rises : (x : ℕ) (xs : List ℕ) → AreRising xs → has xs x ≡ false → AreRising (put x xs)
put_rises x [] r n = (All-nil (λ (y : ℕ). x < y), tt)
put_rises x (y ∷ ys) r n = by (nat_lt y x) refl (neither (y == x) (has ys x) n).0 (put_rises x ys r.1 (neither (y == x) (has ys x) n).1)
  where
    less : (y x : ℕ) → nat_lt y x ≡ true → y < x
    less y x e = grind (arith, nat_tests)

    more : (y x : ℕ) → nat_lt y x ≡ false → (y == x) ≡ false → x < y
    more y x e n = grind (arith, nat_tests)

    by : (b : Bool) → nat_lt y x ≡ b → (y == x) ≡ false → AreRising (put x ys) → AreRising (cond b (y ∷ put x ys) (x ∷ y ∷ ys))
    by true e n h = (all_put y x ys (less y x e) r.0, h)
    by false e n h =
        let l = more y x e n in
        (All-cons (λ (z : ℕ). x < z) y ys l (All-weaker (λ (z : ℕ). y < z) (λ (z : ℕ). x < z) (λ z i. omega (arith, l, i)) ys r.0), r)

set_rises : (xs : List ℕ) → IsNumberSet xs → AreRising (rising xs)
set_rises [] s = tt
set_rises (x ∷ xs) s = put_rises x (rising xs) (set_rises xs s.1) (has_rising x xs ∙ s.0)

all_filter : (p : ℕ → Bool) (z : ℕ) (xs : List ℕ) → All (λ (y : ℕ). z < y) xs → All (λ (y : ℕ). z < y) (filter p xs)
all_filter p z [] a = a
all_filter p z (x ∷ xs) a = by (p x) (all_filter p z xs (All-tail (λ (y : ℕ). z < y) x xs a))
  where
    by : (b : Bool) → All (λ (y : ℕ). z < y) (filter p xs) → All (λ (y : ℕ). z < y) (cond b (x ∷ filter p xs) (filter p xs))
    by true h = All-cons (λ (y : ℕ). z < y) x (filter p xs) (All-head (λ (y : ℕ). z < y) x xs a) h
    by false h = h

filter_rises : (p : ℕ → Bool) (xs : List ℕ) → AreRising xs → AreRising (filter p xs)
filter_rises p [] r = tt
filter_rises p (x ∷ xs) r = by (p x) (filter_rises p xs r.1)
  where
    by : (b : Bool) → AreRising (filter p xs) → AreRising (cond b (x ∷ filter p xs) (filter p xs))
    by true h = (all_filter p x xs r.0, h)
    by false h = h

-- the runs that leave

abbrev with_nodes : (ℕ → ℕ) → List ℕ → List Gone
with_nodes k xs = map (λ a. record { run = a; nodes = k a }) xs

runs_are : (k : ℕ → ℕ) (xs : List ℕ) → runs (with_nodes k xs) ≡ xs
runs_are k [] = refl
runs_are k (x ∷ xs) = ap (λ ys. x ∷ ys) (runs_are k xs)

as_many : (k : ℕ → ℕ) (xs : List ℕ) → length (with_nodes k xs) ≡ length xs
as_many k [] = refl
as_many k (x ∷ xs) = omega (arith, as_many k xs)

nodes_filter : (p : ℕ → Bool) (k : ℕ → ℕ) (xs : List ℕ) → sum_nodes (with_nodes k (filter p xs)) ≡ sum_by (λ a. cond (p a) (k a) 0) xs
nodes_filter p k [] = refl
nodes_filter p k (x ∷ xs) = by (p x) (nodes_filter p k xs) ∙ sym (sum_by-cons (λ a. cond (p a) (k a) 0) x xs)
  where
    by : (b : Bool) → sum_nodes (with_nodes k (filter p xs)) ≡ sum_by (λ a. cond (p a) (k a) 0) xs
        → sum_nodes (with_nodes k (cond b (x ∷ filter p xs) (filter p xs))) ≡ cond b (k x) 0 + sum_by (λ a. cond (p a) (k a) 0) xs
    by true h = omega (arith, h)
    by false h = omega (arith, h)

module _ (s : Fixed) (past : List (Entry BucketNote)) (n : BucketNote) (l : IsLegal s past) where
  -- they are those that the entry lets go
  pub gone_are : (a : ℕ) → has (runs (gone s past n)) a ≡ lets_go s past n a
  gone_are a = ap (λ xs. has xs a) (runs_are (λ a. (after s a n (row s a past)).held) (filter (λ a. lets_go s past n a) (rising (made past))))
      ∙ (has_filter (λ a. lets_go s past n a) a (rising (made past)) ∙ by (lets_go s past n a) refl)
    where
      by : (b : Bool) → lets_go s past n a ≡ b → (b && has (rising (made past)) a) ≡ b
      by false e = refl
      by true e = has_rising a (made past) ∙ here_made s past a (sound s past l) (both (is_here (row s a past)) _ e).0

  pub gone_rise : AreRising (runs (gone s past n))
  gone_rise = subst AreRising (sym (runs_are (λ a. (after s a n (row s a past)).held) (filter (λ a. lets_go s past n a) (rising (made past)))))
      (filter_rises (λ a. lets_go s past n a) (rising (made past)) (set_rises (made past) (sound s past l).once))

pub gone_many : (s : Fixed) (past : List (Entry BucketNote)) (n : BucketNote) → length (gone s past n) ≡ count_of past (λ a. lets_go s past n a)
gone_many s past n =
    as_many (λ a. (after s a n (row s a past)).held) (filter (λ a. lets_go s past n a) (rising (made past))) ∙ length_rising (λ a. lets_go s past n a)
    (made past)

pub gone_nodes : (s : Fixed) (past : List (Entry BucketNote)) (n : BucketNote) → sum_nodes (gone s past n) ≡ sum_by (λ a. taken_by s a past n) (made past)
gone_nodes s past n =
    nodes_filter (λ a. lets_go s past n a) (λ a. (after s a n (row s a past)).held) (rising (made past)) ∙ sum_rising (λ a. taken_by s a past n) (made past)
