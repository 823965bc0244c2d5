-- The cuts of a run, from one round to the next: the histories at the end of one more round stand behind those from before.
use Rattle.std.proofs.Common.{◌≡◌, ◌≢◌, ℕ, zero, suc, ◌==◌, ◌<◌, ◌≤◌, Bool, cond, List, ⊎_elim, refl, sym, ◌∙◌, ap, subst, arith}
use Rattle.std.proofs.lemmas.Bool.Decides.{eqb_tells}
use Rattle.bucket_laws.proofs.Tests.{other, same}
use Rattle.round_laws.specs.Cuts.{EndsRound, HasCuts}
use Rattle.run_rules.specs.Acts.{Act}
use Rattle.run_rules.specs.Growing.{HasGrown}
use Rattle.run_rules.specs.Histories.{Histories}
use Rattle.run_rules.specs.Setup.{Setup}
use Rattle.suri_base.specs.History.{Begins}

-- this at place n, and elsewhere what was there before
abbrev with_next : {A : Type 0} → ℕ → A → (ℕ → A) → ℕ → A
with_next n x before k = cond (k == n) x (before k)

at_next : {A : Type 0} (n : ℕ) (x : A) (before : ℕ → A) → with_next n x before n ≡ x
at_next n x before = ap (λ (t : Bool). cond t x (before n)) (same n n refl)

below_next : {A : Type 0} (n : ℕ) (x : A) (before : ℕ → A) (k : ℕ) → k < n → with_next n x before k ≡ before k
below_next n x before k low = ap (λ (t : Bool). cond t x (before k)) (other k n (λ e. omega (arith, e, low)))

-- before the first round there is one cut
pub first_cut : (w : Setup) (t : Histories) (acts : ℕ → List Act) → EndsRound w t 0 acts → HasCuts w t 0 acts
first_cut w t acts at = record { cut = λ r. t; did = λ r. acts; ends = ends; grows = λ r low. absurd (omega (arith, low)); goes_on = λ r low role. absurd (omega (arith, low)); last = refl; last_did = λ role. refl }
  where
    ends : (r : ℕ) → r ≤ 0 → EndsRound w t r acts
    ends zero low = at
    ends (suc r) low = absurd (omega (arith, low))

module _ (w : Setup) (old new : Histories) (round : ℕ) (acts more : ℕ → List Act) (c : HasCuts w old round acts) (at : EndsRound w new (suc round) more) (grown : HasGrown old new)
    (on : (role : ℕ) → Begins (acts role) (more role)) where
  abbrev cut : ℕ → Histories
  cut = with_next (suc round) new c.cut

  abbrev did : ℕ → ℕ → List Act
  did = with_next (suc round) more c.did

  cut_last : cut (suc round) ≡ new
  cut_last = at_next (suc round) new c.cut

  did_last : did (suc round) ≡ more
  did_last = at_next (suc round) more c.did

  cut_below : (r : ℕ) → r < suc round → cut r ≡ c.cut r
  cut_below r low = below_next (suc round) new c.cut r low

  did_below : (r : ℕ) → r < suc round → did r ≡ c.did r
  did_below r low = below_next (suc round) more c.did r low

  less : (r k : ℕ) → r ≤ k → r ≢ k → r < k
  less r k low apart = omega (arith, low, apart)

  ends_last : EndsRound w (cut (suc round)) (suc round) (did (suc round))
  ends_last =
      subst (λ (h : Histories). EndsRound w h (suc round) (did (suc round))) (sym cut_last)
      (subst (λ (d : ℕ → List Act). EndsRound w new (suc round) d) (sym did_last) at)

  ends_below : (r : ℕ) → r < suc round → EndsRound w (cut r) r (did r)
  ends_below r low =
      subst (λ (h : Histories). EndsRound w h r (did r)) (sym (cut_below r low))
      (subst (λ (d : ℕ → List Act). EndsRound w (c.cut r) r d) (sym (did_below r low)) (c.ends r (omega (arith, low))))

  ends : (r : ℕ) → r ≤ suc round → EndsRound w (cut r) r (did r)
  ends r low = ⊎_elim (λ is. subst (λ (k : ℕ). EndsRound w (cut k) k (did k)) (sym is.1) ends_last) (λ not. ends_below r (less r (suc round) low not.1)) (eqb_tells r (suc round))

  grows_last : HasGrown (cut round) (cut (suc round))
  grows_last =
      subst (λ (h : Histories). HasGrown h (cut (suc round))) (sym (cut_below round (omega arith) ∙ c.last))
      (subst (λ (h : Histories). HasGrown old h) (sym cut_last) grown)

  grows_below : (r : ℕ) → r < round → HasGrown (cut r) (cut (suc r))
  grows_below r low =
      subst (λ (h : Histories). HasGrown h (cut (suc r))) (sym (cut_below r (omega (arith, low))))
      (subst (λ (h : Histories). HasGrown (c.cut r) h) (sym (cut_below (suc r) (omega (arith, low)))) (c.grows r low))

  grows : (r : ℕ) → r < suc round → HasGrown (cut r) (cut (suc r))
  grows r low = ⊎_elim (λ is. subst (λ (k : ℕ). HasGrown (cut k) (cut (suc k))) (sym is.1) grows_last) (λ not. grows_below r (less r round (omega (arith, low)) not.1)) (eqb_tells r round)

  goes_on_last : (role : ℕ) → Begins (did round role) (did (suc round) role)
  goes_on_last role =
      subst (λ (l : List Act). Begins l (did (suc round) role)) (sym (ap (λ (d : ℕ → List Act). d role) (did_below round (omega arith)) ∙ c.last_did role))
      (subst (λ (d : ℕ → List Act). Begins (acts role) (d role)) (sym did_last) (on role))

  goes_on_below : (r : ℕ) → r < round → (role : ℕ) → Begins (did r role) (did (suc r) role)
  goes_on_below r low role =
      subst (λ (d : ℕ → List Act). Begins (d role) (did (suc r) role)) (sym (did_below r (omega (arith, low))))
      (subst (λ (d : ℕ → List Act). Begins (c.did r role) (d role)) (sym (did_below (suc r) (omega (arith, low)))) (c.goes_on r low role))

  goes_on : (r : ℕ) → r < suc round → (role : ℕ) → Begins (did r role) (did (suc r) role)
  goes_on r low role =
      ⊎_elim (λ is. subst (λ (k : ℕ). Begins (did k role) (did (suc k) role)) (sym is.1) (goes_on_last role)) (λ not. goes_on_below r (less r round (omega (arith, low)) not.1) role)
      (eqb_tells r round)

  -- after one round more there is one cut more
  pub next_cut : HasCuts w new (suc round) more
  next_cut = record { cut = cut; did = did; ends = ends; grows = grows; goes_on = goes_on; last = cut_last; last_did = λ role. ap (λ (d : ℕ → List Act). d role) did_last }
