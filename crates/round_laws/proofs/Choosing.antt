-- What there is for each number below a bound is given by one function: number by number the last one is put in front of those below it.
use Rattle.std.proofs.Common.{◌≡◌, ℕ, zero, suc, ◌==◌, ◌<◌, ◌≤◌, Bool, false, cond, ⊎_elim, refl, sym, ◌∙◌, ap, subst, arith}
use Rattle.std.proofs.lemmas.Bool.Decides.{eqb_tells, nat_tests}

module _ {X : Type 0} (P : ℕ → X → Type 0) (other : X) where
  -- chosen below n, and the other one from there on
  pub record Chosen (n : ℕ) : Type 0 where
    pub choice : ℕ → X
    pub holds : (k : ℕ) → k < n → P k (choice k)
    pub beyond : (k : ℕ) → n ≤ k → choice k ≡ other

  none_equal : (k n : ℕ) → suc n ≤ k → (k == n) ≡ false
  none_equal k n high = grind (arith, nat_tests, high)

  pub chosen : (n : ℕ) → ((k : ℕ) → k < n → (x : X) × P k x) → Chosen n
  chosen zero h = record { choice = λ k. other; holds = λ k low. absurd (omega (arith, low)); beyond = λ k high. refl }
  chosen (suc n) h =
      let c = chosen n (λ k low. h k (omega (arith, low))) in
      let x = h n (omega arith) in
      record {
        choice = λ k. cond (k == n) x.0 (c.choice k);
        holds = λ k low. ⊎_elim
            (λ e. subst (λ (b : Bool). P k (cond b x.0 (c.choice k))) (sym e.0) (subst (λ (m : ℕ). P m x.0) (sym e.1) x.1))
            (λ e. subst (λ (b : Bool). P k (cond b x.0 (c.choice k))) (sym e.0) (c.holds k (omega (arith, low, e.1))))
            (eqb_tells k n);
        beyond = λ k high. ap (λ (b : Bool). cond b x.0 (c.choice k)) (none_equal k n high) ∙ c.beyond k (omega (arith, high));
      }
