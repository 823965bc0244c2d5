-- What the hands of all rounds hold goes to the recycler and to the end role: summed by rounds it is the same as summed by roles.
use Rattle.std.proofs.Common.{◌≡◌, ℕ, zero, suc, ◌+◌, ◌<◌, ◌≤◌, List, [], ◌∷◌, ◌++◌, length, sym, ◌∙◌, ap, arith}
use Rattle.bucket_laws.specs.Leaving.{Gone}
use Rattle.run_laws.proofs.Sums.{sum_same, sum_swap, sum_zero}
use Rattle.run_laws.specs.Counts.{sum_below}
use Rattle.run_rules.specs.Lawful.{gathered, nth, waited}

pub sum_front : (m : ℕ) (f : ℕ → ℕ) → sum_below (suc m) f ≡ f 0 + sum_below m (λ k. f (suc k))
sum_front zero f = omega arith
sum_front (suc m) f = omega (arith, sum_front m f)

-- a measure of lists of runs that adds up
module _ (μ : List Gone → ℕ) (none : μ [] ≡ 0) (plus : (x y : List Gone) → μ (x ++ y) ≡ μ x + μ y) where
  abbrev pub all_hands : List (List Gone) → ℕ
  all_hands [] = 0
  all_hands (h ∷ hs) = μ h + all_hands hs

  no_hands : (m : ℕ) → sum_below m (λ k. μ (nth k [])) ≡ 0
  no_hands m = sum_same m (λ k. μ (nth k [])) (λ k. 0) (λ k l. none) ∙ sum_zero m

  hands_sum : (m : ℕ) (hs : List (List Gone)) → length hs ≤ m → all_hands hs ≡ sum_below m (λ k. μ (nth k hs))
  hands_sum m [] l = sym (no_hands m)
  hands_sum zero (h ∷ hs) l = absurd (omega arith)
  hands_sum (suc m) (h ∷ hs) l = omega (arith, hands_sum m hs (omega arith), sum_front m (λ k. μ (nth k (h ∷ hs))))

  gathered_sum : (n : ℕ) (hands : ℕ → List (List Gone)) (k : ℕ) → μ (gathered n hands k) ≡ sum_below n (λ r. μ (nth k (hands r)))
  gathered_sum zero hands k = none
  gathered_sum (suc n) hands k = plus (gathered n hands k) (nth k (hands n)) ∙ ap (λ (x : ℕ). x + μ (nth k (hands n))) (gathered_sum n hands k)

  waited_sum : (n : ℕ) (hands : ℕ → List (List Gone)) (k : ℕ) → μ (waited n hands k) ≡ sum_below k (λ j. μ (gathered n hands (suc j)))
  waited_sum n hands zero = none
  waited_sum n hands (suc k) = plus (gathered n hands (suc k)) (waited n hands k) ∙ omega (arith, waited_sum n hands k)

  -- what waited for the recycler, and what was left over, is what the hands of all rounds held
  pub handed_on : (n m : ℕ) (hands : ℕ → List (List Gone)) → ((r : ℕ) → r < n → length (hands r) ≤ suc m)
      → μ (waited n hands m) + μ (gathered n hands 0) ≡ sum_below n (λ r. all_hands (hands r))
  handed_on n m hands few =
      let one = waited_sum n hands m in
      let two = sum_front m (λ k. μ (gathered n hands k)) in
      let three = sum_same (suc m) (λ k. μ (gathered n hands k)) (λ k. sum_below n (λ r. μ (nth k (hands r)))) (λ k l. gathered_sum n hands k) in
      let four = sum_swap (suc m) n (λ k r. μ (nth k (hands r))) in
      let five = sum_same n (λ r. sum_below (suc m) (λ k. μ (nth k (hands r)))) (λ r. all_hands (hands r)) (λ r l. sym (hands_sum (suc m) (hands r) (few r l))) in
      omega (arith, one, two, three, four, five)
