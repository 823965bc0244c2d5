-- The kind of a role's part tells the role's number, and its number the kind: workers come first, then the manager, then the recycler.
use Rattle.std.proofs.Common.{◌≡◌, ℕ, ◌==◌, ◌+◌, ◌<◌, nat_lt, Bool, true, false, cond, refl, ◌∙◌, ap, arith}
use Rattle.std.proofs.lemmas.Bool.Decides.{nat_tests}
use Rattle.role_meets.specs.Parts.{kind_at, works, manages, recycles}

module _ (n k : ℕ) where
  below : nat_lt k n ≡ true → k < n
  below h = grind (arith, nat_tests, h)

  above : nat_lt k n ≡ false → (k == n) ≡ false → k < n + 2 → k ≡ n + 1
  above h e low = grind (arith, nat_tests, h, e, low)

  equal : (k == n) ≡ true → k ≡ n
  equal h = grind (arith, nat_tests, h)

  pub is_worker : works ≡ kind_at n k → k < n
  is_worker h = by (nat_lt k n) (k == n) refl h
    where
      by : (t u : Bool) → nat_lt k n ≡ t → works ≡ cond t works (cond u manages recycles) → k < n
      by true u e h = below e
      by false true e h = cc
      by false false e h = cc

  pub is_manager : manages ≡ kind_at n k → k ≡ n
  is_manager h = by (nat_lt k n) (k == n) refl h
    where
      by : (t u : Bool) → (k == n) ≡ u → manages ≡ cond t works (cond u manages recycles) → k ≡ n
      by true u e h = cc
      by false true e h = equal e
      by false false e h = cc

  pub is_recycler : recycles ≡ kind_at n k → k < n + 2 → k ≡ n + 1
  is_recycler h low = by (nat_lt k n) (k == n) refl refl h
    where
      by : (t u : Bool) → nat_lt k n ≡ t → (k == n) ≡ u → recycles ≡ cond t works (cond u manages recycles) → k ≡ n + 1
      by true u e f h = cc
      by false true e f h = cc
      by false false e f h = above e f low

not_below : (n : ℕ) → nat_lt (n + 1) n ≡ false
not_below n = grind (arith, nat_tests)

not_equal : (n : ℕ) → (n + 1 == n) ≡ false
not_equal n = grind (arith, nat_tests)

-- the last of them is the recycler
pub recycler_kind : (n : ℕ) → kind_at n (n + 1) ≡ recycles
recycler_kind n = ap (λ (t : Bool). cond t works (cond (n + 1 == n) manages recycles)) (not_below n) ∙ ap (λ (t : Bool). cond t manages recycles) (not_equal n)
