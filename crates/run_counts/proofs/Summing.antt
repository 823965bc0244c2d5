-- Sums over lists: with the element at a place, over a list that is told by another one, and over a list turned round, where the order
-- doesn't matter.
use Rattle.std.proofs.Common.{◌≡◌, ℕ, ◌+◌, ◌-◌, ◌<◌, cond, Bool, List, [], ◌∷◌, length, map, reverse, take, get_or, refl, sym, ap, ◌∙◌, subst, arith, Some}
use Rattle.std.specs.Prelude.{count_by, slice_get, sum_by}
use Rattle.std.proofs.lemmas.List.Sorted.{IsPermutation-reverse, sum_by-IsPermutation}
use Rattle.std.proofs.lemmas.List.Sums.{sum_by-cons, sum_by_more}
use Rattle.std.proofs.lemmas.Option.{slice_get-get_or}
use Rattle.suri_base.specs.Trail.{Trailed}
use Rattle.suri_base.specs.declared.entry.BucketNote.{BucketNote}
use Rattle.suri_base.specs.declared.entry.Entry.{Entry}
use Rattle.run_counts.specs.Counting.{all_refusals, is_refusal, refusals}

some_same : {A : Type 0} {x y : A} → Some x ≡ Some y → x ≡ y
some_same e = cc

-- a sum with the element at a place
pub next_sum : {X : Type 0} (g : X → ℕ) (xs : List X) (i total : ℕ) (x : X) → i < length xs → slice_get xs (i + 1 - 1) ≡ Some x → total ≡ sum_by g (take i xs)
    → total + g x ≡ sum_by g (take (i + 1) xs)
next_sum g xs i total x lt at is =
    let here : i + 1 - 1 ≡ i = omega arith in
    let same : get_or xs i x ≡ x = some_same (sym (slice_get-get_or xs i x lt) ∙ subst (λ n. slice_get xs n ≡ Some x) here at) in
    ap (λ (n : ℕ). n + g x) is ∙ (ap (λ y. sum_by g (take i xs) + g y) (sym same) ∙ sym (sum_by_more g xs i x lt))

pub sum_mapped : {X Y : Type 0} (g : Y → ℕ) (f : X → Y) (xs : List X) → sum_by g (map f xs) ≡ sum_by (λ x. g (f x)) xs
sum_mapped g f [] = refl
sum_mapped g f (x ∷ xs) = omega (arith, sum_by-cons g (f x) (map f xs), sum_by-cons (λ y. g (f y)) x xs, sum_mapped g f xs)

pub sum_reversed : {X : Type 0} (g : X → ℕ) (xs : List X) → sum_by g (reverse xs) ≡ sum_by g xs
sum_reversed g xs = sum_by-IsPermutation g xs (reverse xs) (IsPermutation-reverse xs)

pub count_reversed : {X : Type 0} (p : X → Bool) (xs : List X) → count_by p (reverse xs) ≡ count_by p xs
count_reversed p xs = sum_reversed (λ x. cond (p x) 1 0) xs

-- what the buckets refused, whichever way round their histories stand
pub refusals_reversed : (buckets : List (List (Entry BucketNote))) → all_refusals (map (λ h. reverse h) buckets) ≡ all_refusals buckets
refusals_reversed [] = refl
refusals_reversed (h ∷ buckets) = omega (
  arith,
  sum_by-cons (λ (k : List (Entry BucketNote)). refusals k) (reverse h) (map (λ k. reverse k) buckets),
  sum_by-cons (λ (k : List (Entry BucketNote)). refusals k) h buckets,
  count_reversed (λ (e : Entry BucketNote). is_refusal e.note) h,
  refusals_reversed buckets,
)

module _ {X : Type 0} (xs : List X) (f : X → List (Entry BucketNote)) where
  -- one history more
  pub next_refusals : (i count more : ℕ) (x : X) → i < length xs → count ≡ sum_by (λ y. refusals (f y)) (take i xs) → x ≡ get_or xs i x → more ≡ refusals (f x)
      → count + more ≡ sum_by (λ y. refusals (f y)) (take (i + 1) xs)
  next_refusals i count more x lt is at here =
      let same : more ≡ refusals (f (get_or xs i x)) = here ∙ ap (λ y. refusals (f y)) at in
      omega (arith, is, same, sum_by_more (λ y. refusals (f y)) xs i x lt)

  -- the histories are those of a trail
  pub whole_refusals : (ys : List X) (t : Trailed) → xs ≡ ys → map f ys ≡ t.buckets → sum_by (λ y. refusals (f y)) xs ≡ all_refusals t.buckets
  whole_refusals ys t is buckets =
      ap (λ zs. sum_by (λ y. refusals (f y)) zs) is ∙ (sym (sum_mapped (λ h. refusals h) f ys) ∙ ap (λ hs. all_refusals hs) buckets)
