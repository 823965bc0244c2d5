-- The flows as a finite map, under the edits of a vector.
use Rattle.std.proofs.Common.{◌≡◌, ℕ, zero, suc, ◌==◌, ◌≤◌, Bool, true, false, cond, List, [], ◌∷◌, Option, Some, None, ◌⊎◌, ⊎_elim, length, map, filter, slice_get, slice_set, insert, remove, refl, sym, ◌∙◌, ap, subst, arith}
use Rattle.std.proofs.lemmas.Bool.Decides.{nat_tests, eqb_tells}
use Rattle.bucket_flow.specs.Held.{Held}
use Rattle.bucket_flow.specs.Flows.{find_in, IsDistinct}

abbrev run_in : Option Held → ℕ
run_in None = 0
run_in (Some f) = f.run

front_same : (g f : Held) (rest : Option Held) → g ≡ f → cond (g.run == f.run) (Some g) rest ≡ Some f
front_same g f rest e = grind (arith, nat_tests)

front_other : (g f : Held) (o : Option Held) → (g.run ≡ f.run → ⊥) → o ≡ Some f → cond (g.run == f.run) (Some g) o ≡ Some f
front_other g f o n h = grind (arith, nat_tests)

-- a flow at a place is the flow of its run
pub find_at : (fs : List Held) (i : ℕ) (f : Held) → IsDistinct fs → slice_get fs i ≡ Some f → find_in fs f.run ≡ Some f
find_at [] i f d h = cc
find_at (g ∷ fs) zero f d h = front_same g f (find_in fs f.run) (cc)
find_at (g ∷ fs) (suc i) f d h =
    let ih = find_at fs i f d.1 h in
    front_other g f (find_in fs f.run) (λ e. let k : find_in fs f.run ≡ None = rw (← e) d.0 in cc) ih

-- two tests of different runs, in either order
swap : (x f a : ℕ) (u v o : Option Held) → (x ≡ f → ⊥) → cond (x == a) u (cond (f == a) v o) ≡ cond (f == a) v (cond (x == a) u o)
swap x f a u v o n = grind (arith, nat_tests)

-- the flow of a place further on has another run
apart : (x : Held) (fs : List Held) (i : ℕ) (f : Held) → IsDistinct (x ∷ fs) → slice_get fs i ≡ Some f → x.run ≡ f.run → ⊥
apart x fs i f d h e = let k : find_in fs f.run ≡ None = rw (← e) d.0 in let m = find_at fs i f d.1 h in cc

first_set : (x f g : Held) (a : ℕ) (o : Option Held) → Some x ≡ Some f → g.run ≡ f.run
    → cond (g.run == a) (Some g) o ≡ cond (f.run == a) (Some g) (cond (x.run == a) (Some x) o)
first_set x f g a o h r = grind (arith, nat_tests)

first_removed : (x f : Held) (fs : List Held) (a : ℕ) → Some x ≡ Some f → find_in fs x.run ≡ None
    → find_in fs a ≡ cond (f.run == a) None (cond (x.run == a) (Some x) (find_in fs a))
first_removed x f fs a h n = grind (arith, nat_tests)

first_or : (g : Held) (a : ℕ) (o : Option Held) (f : Held) → cond (g.run == a) (Some g) o ≡ Some f → ((g ≡ f) × (g.run ≡ a)) ⊎ (o ≡ Some f)
first_or g a o f h = grind (arith, nat_tests)

-- and a flow of a run stands at a place
pub place_of_run : (fs : List Held) (a : ℕ) (f : Held) → find_in fs a ≡ Some f → (i : ℕ) × (slice_get fs i ≡ Some f) × (f.run ≡ a)
place_of_run [] a f h = cc
place_of_run (g ∷ fs) a f h =
    ⊎_elim
    (λ e. (0, ap Some e.0, ap (λ (y : Held). y.run) (sym e.0) ∙ e.1))
    (λ e. let p = place_of_run fs a f e in (suc p.0, p.1, p.2))
    (first_or g a (find_in fs a) f h)

pub find_set : (fs : List Held) (i : ℕ) (f g : Held) → IsDistinct fs → slice_get fs i ≡ Some f → g.run ≡ f.run → (a : ℕ)
    → find_in (slice_set fs i g) a ≡ cond (f.run == a) (Some g) (find_in fs a)
find_set [] i f g d h r a = cc
find_set (x ∷ fs) zero f g d h r a = first_set x f g a (find_in fs a) h r
find_set (x ∷ fs) (suc i) f g d h r a =
    ap (cond (x.run == a) (Some x)) (find_set fs i f g d.1 h r a) ∙ swap x.run f.run a (Some x) (Some g) (find_in fs a) (apart x fs i f d h)

pub find_remove : (fs : List Held) (i : ℕ) (f : Held) → IsDistinct fs → slice_get fs i ≡ Some f → (a : ℕ)
    → find_in (remove fs i) a ≡ cond (f.run == a) None (find_in fs a)
find_remove [] i f d h a = cc
find_remove (x ∷ fs) zero f d h a = first_removed x f fs a h d.0
find_remove (x ∷ fs) (suc i) f d h a =
    ap (cond (x.run == a) (Some x)) (find_remove fs i f d.1 h a) ∙ swap x.run f.run a (Some x) None (find_in fs a) (apart x fs i f d h)

absent_first : (x : Held) (a : ℕ) (o : Option Held) → cond (x.run == a) (Some x) o ≡ None → (x.run ≡ a → ⊥) × (o ≡ None)
absent_first x a o h = grind (arith, nat_tests)

-- a flow more, at any place
pub find_insert : (fs : List Held) (i : ℕ) (f : Held) → find_in fs f.run ≡ None → i ≤ length fs → (a : ℕ) → find_in (insert fs i f) a ≡ cond (f.run == a) (Some f) (find_in fs a)
find_insert fs zero f h w a = refl
find_insert [] (suc i) f h w a = absurd (omega (arith, w))
find_insert (x ∷ fs) (suc i) f h w a =
    let n = absent_first x f.run (find_in fs f.run) h in
    ap (cond (x.run == a) (Some x)) (find_insert fs i f n.1 (omega (arith, w)) a) ∙ swap x.run f.run a (Some x) (Some f) (find_in fs a) n.0

kept_absent : (f x : ℕ) (u o : Option Held) → (x ≡ f → ⊥) → o ≡ None → cond (f == x) u o ≡ None
kept_absent f x u o n h = grind (arith, nat_tests)

removed_absent : (f x : ℕ) (o : Option Held) → o ≡ None → cond (f == x) None o ≡ None
removed_absent f x o h = grind (arith, nat_tests)

pub distinct_set : (fs : List Held) (i : ℕ) (f g : Held) → IsDistinct fs → slice_get fs i ≡ Some f → g.run ≡ f.run → IsDistinct (slice_set fs i g)
distinct_set [] i f g d h r = cc
distinct_set (x ∷ fs) zero f g d h r =
    let e : g.run ≡ x.run = r ∙ ap (λ (y : Option Held). run_in y) (sym h) in
    (rw e d.0, d.1)
distinct_set (x ∷ fs) (suc i) f g d h r =
    (find_set fs i f g d.1 h r x.run ∙ kept_absent f.run x.run (Some g) (find_in fs x.run) (apart x fs i f d h) d.0, distinct_set fs i f g d.1 h r)

pub distinct_remove : (fs : List Held) (i : ℕ) (f : Held) → IsDistinct fs → slice_get fs i ≡ Some f → IsDistinct (remove fs i)
distinct_remove [] i f d h = cc
distinct_remove (x ∷ fs) zero f d h = d.1
distinct_remove (x ∷ fs) (suc i) f d h =
    (find_remove fs i f d.1 h x.run ∙ removed_absent f.run x.run (find_in fs x.run) d.0, distinct_remove fs i f d.1 h)

pub distinct_insert : (fs : List Held) (i : ℕ) (f : Held) → IsDistinct fs → find_in fs f.run ≡ None → i ≤ length fs → IsDistinct (insert fs i f)
distinct_insert fs zero f d h w = (h, d)
distinct_insert [] (suc i) f d h w = absurd (omega (arith, w))
distinct_insert (x ∷ fs) (suc i) f d h w =
    let n = absent_first x f.run (find_in fs f.run) h in
    (find_insert fs i f n.1 (omega (arith, w)) x.run ∙ kept_absent f.run x.run (Some f) (find_in fs x.run) n.0 d.0, distinct_insert fs i f d.1 n.1 (omega (arith, w)))

-- the same flows, changed one by one, of which some stay

module _ (h : Held → Held) (same : (f : Held) → (h f).run ≡ f.run) (p : Held → Bool) where
  abbrev pub changed : Option Held → Option Held
  changed None = None
  changed (Some f) = cond (p (h f)) (Some (h f)) None

  none_changed : (fs : List Held) (a : ℕ) → find_in fs a ≡ None → find_in (filter p (map h fs)) a ≡ None
  none_changed [] a e = refl
  none_changed (x ∷ fs) a e =
      let n = absent_first x a (find_in fs a) e in
      step (p (h x)) (none_changed fs a n.1) n.0
    where
      step : (b : Bool) → find_in (filter p (map h fs)) a ≡ None → (x.run ≡ a → ⊥)
          → find_in (cond b (h x ∷ filter p (map h fs)) (filter p (map h fs))) a ≡ None
      step true k n = ⊎_elim (λ e. absurd (n (sym (same x) ∙ e.1))) (λ e. rw (e.0) k) (eqb_tells (h x).run a)
      step false k n = k

  pub find_changed : (fs : List Held) (a : ℕ) → IsDistinct fs → find_in (filter p (map h fs)) a ≡ changed (find_in fs a)
  find_changed [] a d = refl
  find_changed (x ∷ fs) a d = ⊎_elim
      (λ e. rw (e.0) (here (p (h x)) e.1 (none_changed fs x.run d.0)))
      (λ e. rw (e.0) (there (p (h x)) e.1 (find_changed fs a d.1)))
      (eqb_tells x.run a)
    where
      here : (b : Bool) → x.run ≡ a → find_in (filter p (map h fs)) x.run ≡ None
          → find_in (cond b (h x ∷ filter p (map h fs)) (filter p (map h fs))) a ≡ cond b (Some (h x)) None
      here true e k = ⊎_elim (λ m. rw (m.0) refl) (λ m. absurd (m.1 (same x ∙ e))) (eqb_tells (h x).run a)
      here false e k = subst (λ (v : ℕ). find_in (filter p (map h fs)) v ≡ None) e k

      there : (b : Bool) → (x.run ≡ a → ⊥) → find_in (filter p (map h fs)) a ≡ changed (find_in fs a)
          → find_in (cond b (h x ∷ filter p (map h fs)) (filter p (map h fs))) a ≡ changed (find_in fs a)
      there true n k = ⊎_elim (λ m. absurd (n (sym (same x) ∙ m.1))) (λ m. rw (m.0) k) (eqb_tells (h x).run a)
      there false n k = k

  pub distinct_changed : (fs : List Held) → IsDistinct fs → IsDistinct (filter p (map h fs))
  distinct_changed [] d = tt
  distinct_changed (x ∷ fs) d = step (p (h x)) (distinct_changed fs d.1) (none_changed fs x.run d.0)
    where
      step : (b : Bool) → IsDistinct (filter p (map h fs)) → find_in (filter p (map h fs)) x.run ≡ None
          → IsDistinct (cond b (h x ∷ filter p (map h fs)) (filter p (map h fs)))
      step true k n = (subst (λ (v : ℕ). find_in (filter p (map h fs)) v ≡ None) (sym (same x)) n, k)
      step false k n = k
