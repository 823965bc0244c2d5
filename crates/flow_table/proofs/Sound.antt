-- What flows in slots may not share stays apart, whatever a call makes of one of them.
use Rattle.std.proofs.Common.{◌≡◌, ℕ, zero, suc, ◌==◌, Bool, true, false, cond, ◌&&◌, ◌||◌, List, [], ◌∷◌, ◌++◌, length, slice_get, slice_set, Option, Some, None, ◌⊎◌, inl, inr, ⊎_elim, refl, sym, ◌∙◌, ap, subst, arith}
use Rattle.std.proofs.lemmas.Bool.Decides.{eqb_tells, nat_tests}
use Rattle.std.proofs.lemmas.Option.{none-some, same_Some}
use Rattle.suri_base.specs.Keys.{same_key}
use Rattle.suri_base.specs.declared.facts.Facts.{Facts}
use Rattle.suri_base.specs.declared.key.Key.{Key}
use Rattle.suri_base.proofs.SameKeys.{same_key-refl}
use Rattle.bucket_rules.specs.Row.{has, is_linked}
use Rattle.bucket_flow.specs.Held.{Held, linked_with, used_by}
use Rattle.bucket_flow.specs.Flows.{NonePasses, find_in}
use Rattle.flow_table.specs.Slots.{AreApart, AreSound, IsGrown, IsNewRun, IsOwn, SharesFrame, SharesKey, SharesRun, filled, rank}
use Rattle.flow_table.proofs.Slots.{get_rank}

-- what stands at a place of a list of which one place was written, or that has one element more
set_cases : {X : Type 0} (xs : List X) (i j : ℕ) (h x : X) → slice_get (slice_set xs i h) j ≡ Some x → ((i ≡ j) × (h ≡ x)) ⊎ (slice_get xs j ≡ Some x)
set_cases [] i j h x e = inr e
set_cases (y ∷ ys) zero zero h x e = inl (refl, cc)
set_cases (y ∷ ys) zero (suc j) h x e = inr e
set_cases (y ∷ ys) (suc i) zero h x e = inr e
set_cases (y ∷ ys) (suc i) (suc j) h x e = ⊎_elim (λ m. inl (ap suc m.0, m.1)) (λ m. inr m) (set_cases ys i j h x e)

push_cases : {X : Type 0} (xs : List X) (j : ℕ) (h x : X) → slice_get (xs ++ h ∷ []) j ≡ Some x → ((length xs ≡ j) × (h ≡ x)) ⊎ (slice_get xs j ≡ Some x)
push_cases [] zero h x e = inl (refl, cc)
push_cases [] (suc j) h x e = cc
push_cases (y ∷ ys) zero h x e = inr e
push_cases (y ∷ ys) (suc j) h x e = ⊎_elim (λ m. inl (ap suc m.0, m.1)) (λ m. inr m) (push_cases ys j h x e)

module _ (C : Held → Held → Type 0) (slots : List (Option Held)) (a : AreApart C slots) where
  -- one flow changes
  apart_set : (i : ℕ) (h : Held) → ((j : ℕ) (g : Held) → slice_get slots j ≡ Some (Some g) → C h g → i ≡ j) → ((j : ℕ) (g : Held) → slice_get slots j ≡ Some (Some g) → C g h → j ≡ i)
      → AreApart C (slice_set slots i (Some h))
  apart_set i h fore back x y p q ex ey c = by (set_cases slots i x (Some h) (Some p) ex) (set_cases slots i y (Some h) (Some q) ey)
    where
      by : ((i ≡ x) × (◌≡◌ {A = Option Held} (Some h) (Some p))) ⊎ (slice_get slots x ≡ Some (Some p)) → ((i ≡ y) × (◌≡◌ {A = Option Held} (Some h) (Some q))) ⊎ (slice_get slots y ≡ Some (Some q)) → x ≡ y
      by (inl m) (inl n) = sym m.0 ∙ n.0
      by (inl m) (inr n) = sym m.0 ∙ fore y q n (subst (λ (z : Held). C z q) (sym (same_Some h p m.1)) c)
      by (inr m) (inl n) = back x p m (subst (λ (z : Held). C p z) (sym (same_Some h q n.1)) c) ∙ n.0
      by (inr m) (inr n) = a x y p q m n c

  -- one leaves
  apart_cut : (i : ℕ) → AreApart C (slice_set slots i None)
  apart_cut i x y p q ex ey c = by (set_cases slots i x None (Some p) ex) (set_cases slots i y None (Some q) ey)
    where
      by : ((i ≡ x) × (◌≡◌ {A = Option Held} None (Some p))) ⊎ (slice_get slots x ≡ Some (Some p)) → ((i ≡ y) × (◌≡◌ {A = Option Held} None (Some q))) ⊎ (slice_get slots y ≡ Some (Some q)) → x ≡ y
      by (inl m) n = absurd (none-some p m.1)
      by (inr m) (inl n) = absurd (none-some q n.1)
      by (inr m) (inr n) = a x y p q m n c

  -- an empty one comes at the end
  apart_grown : AreApart C (slots ++ None ∷ [])
  apart_grown x y p q ex ey c = a x y p q (back x p ex) (back y q ey) c
    where
      back : (j : ℕ) (g : Held) → slice_get (slots ++ None ∷ []) j ≡ Some (Some g) → slice_get slots j ≡ Some (Some g)
      back j g e = ⊎_elim (λ m. absurd (none-some g m.1)) (λ m. m) (push_cases slots j None (Some g) e)

-- a flow that keeps its run and its key, is not linked again, and has no new use
pub record IsLess (f h : Held) : Type 0 where
  pub run : h.run ≡ f.run
  pub key : h.obj.sums.key ≡ f.obj.sums.key
  pub linked : is_linked h.place ≡ true → is_linked f.place ≡ true
  pub uses : (u : ℕ) → has h.uses u ≡ true → has f.uses u ≡ true

key_less : (f h g k : Held) → IsLess f h → IsLess g k → SharesKey h k → SharesKey f g
key_less f h g k l m c = (l.linked c.0, m.linked c.1, sym l.key ∙ c.2 ∙ m.key)

pub same_less : (f : Held) → IsLess f f
same_less f = record { run = refl; key = refl; linked = λ e. e; uses = λ u e. e }

module _ (slots : List (Option Held)) (s : AreSound slots) where
  pub sound_set : (i : ℕ) (f h : Held) → slice_get slots i ≡ Some (Some f) → IsLess f h → AreSound (slice_set slots i (Some h))
  sound_set i f h e l = record {
    runs = apart_set SharesRun slots s.runs i h (λ j g n c. s.runs i j f g e n (sym l.run ∙ c)) (λ j g n c. s.runs j i g f n e (c ∙ l.run));
    keys = apart_set SharesKey slots s.keys i h (λ j g n c. s.keys i j f g e n (key_less f h g g l (same_less g) c)) (λ j g n c. s.keys j i g f n e (key_less g g f h (same_less g) l c));
    frames = apart_set SharesFrame slots s.frames i h (λ j g n c. s.frames i j f g e n (c.0, l.uses c.0 c.1, c.2)) (λ j g n c. s.frames j i g f n e (c.0, c.1, l.uses c.0 c.2));
  }

  pub sound_grown : (next : List (Option Held)) → IsGrown slots next → AreSound next
  sound_grown next (inl e) = subst AreSound (sym e) s
  sound_grown next (inr e) = subst AreSound (sym e) (record { runs = apart_grown SharesRun slots s.runs; keys = apart_grown SharesKey slots s.keys; frames = apart_grown SharesFrame slots s.frames })

  pub sound_cut : (i : ℕ) → AreSound (slice_set slots i None)
  sound_cut i = record { runs = apart_cut SharesRun slots s.runs i; keys = apart_cut SharesKey slots s.keys i; frames = apart_cut SharesFrame slots s.frames i }

  -- a flow takes a frame that no flow is used by
  pub sound_join : (i : ℕ) (f h : Held) (u : ℕ) → slice_get slots i ≡ Some (Some f) → h.run ≡ f.run → h.obj.sums.key ≡ f.obj.sums.key → h.place ≡ f.place
      → ((v : ℕ) → has h.uses v ≡ ((u == v) || has f.uses v)) → NonePasses (used_by u) (filled slots) → AreSound (slice_set slots i (Some h))
  sound_join i f h u e run key place uses none = record {
    runs = apart_set SharesRun slots s.runs i h (λ j g n c. s.runs i j f g e n (sym run ∙ c)) (λ j g n c. s.runs j i g f n e (c ∙ run));
    keys = apart_set SharesKey slots s.keys i h (λ j g n c. s.keys i j f g e n (ap is_linked (sym place) ∙ c.0, c.1, sym key ∙ c.2)) (λ j g n c. s.keys j i g f n e (c.0, ap is_linked (sym place) ∙ c.1, c.2 ∙ key));
    frames = apart_set SharesFrame slots s.frames i h (λ j g n c. s.frames i j f g e n (c.0, old j g n c.0 c.1 c.2, c.2)) (λ j g n c. s.frames j i g f n e (c.0, c.1, old j g n c.0 c.2 c.1));
  }
    where
      old : (j : ℕ) (g : Held) → slice_get slots j ≡ Some (Some g) → (v : ℕ) → has h.uses v ≡ true → has g.uses v ≡ true → has f.uses v ≡ true
      old j g n v m p = ⊎_elim
          (λ k. let q = none (rank slots j) g (get_rank slots j g n) in let r : has g.uses u ≡ true = subst (λ (x : ℕ). has g.uses x ≡ true) (sym k.1) p in cc)
          (λ k. sym (ap (λ (b : Bool). b || has f.uses v) k.0) ∙ sym (uses v) ∙ m)
          (eqb_tells u v)

  -- a flow comes
  module _ (h : Held) (own : IsOwn h slots) where
    back_run : (j : ℕ) (g : Held) → slice_get slots j ≡ Some (Some g) → SharesRun g h → ⊥
    back_run j g n c = own.run j g n (sym c)

    back_key : (j : ℕ) (g : Held) → slice_get slots j ≡ Some (Some g) → SharesKey g h → ⊥
    back_key j g n c = own.key j g n (c.1, c.0, sym c.2)

    back_frames : (j : ℕ) (g : Held) → slice_get slots j ≡ Some (Some g) → SharesFrame g h → ⊥
    back_frames j g n c = own.frames j g n (c.0, c.2, c.1)

    pub sound_fill : (i : ℕ) → AreSound (slice_set slots i (Some h))
    sound_fill i = record {
      runs = apart_set SharesRun slots s.runs i h (λ j g n c. absurd (own.run j g n c)) (λ j g n c. absurd (back_run j g n c));
      keys = apart_set SharesKey slots s.keys i h (λ j g n c. absurd (own.key j g n c)) (λ j g n c. absurd (back_key j g n c));
      frames = apart_set SharesFrame slots s.frames i h (λ j g n c. absurd (own.frames j g n c)) (λ j g n c. absurd (back_frames j g n c));
    }

-- a flow that stands there is the flow of its run
absent_not : (fs : List Held) (k : ℕ) (g : Held) → slice_get fs k ≡ Some g → find_in fs g.run ≡ None → ⊥
absent_not [] k g e n = cc
absent_not (x ∷ fs) zero g e n = first x g (find_in fs g.run) (same_Some x g e) n
  where
    first : (x g : Held) (o : Option Held) → x ≡ g → cond (x.run == g.run) (Some x) o ≡ None → ⊥
    first x g o m n = grind (arith, nat_tests)
absent_not (x ∷ fs) (suc k) g e n = absent_not fs k g e (rest (x.run == g.run) n)
  where
    rest : (b : Bool) → cond b (Some x) (find_in fs g.run) ≡ None → find_in fs g.run ≡ None
    rest true n = absurd (none-some x (sym n))
    rest false n = n

-- a run that begins shares nothing
pub own_new : (slots : List (Option Held)) (t : Facts) (h : Held) → IsNewRun t (filled slots) → h.run ≡ t.no → h.obj.sums.key ≡ t.key → ((u : ℕ) → has h.uses u ≡ ((t.no == u) || false)) → IsOwn h slots
own_new slots t h new run key uses = record {
  run = λ j g n c. absent_not (filled slots) (rank slots j) g (get_rank slots j g n) (subst (λ (x : ℕ). find_in (filled slots) x ≡ None) (sym run ∙ c) new.run);
  key = λ j g n c.
      let k : linked_with t.key g ≡ false = new.key (rank slots j) g (get_rank slots j g n) in
      let same : same_key g.obj.sums.key t.key ≡ true = subst (λ (x : Key). same_key x t.key ≡ true) (sym key ∙ c.2) (same_key-refl t.key) in
      clash (is_linked g.place) (same_key g.obj.sums.key t.key) c.1 same k;
  frames = λ j g n c.
      let k : has g.uses t.no ≡ false = new.unused (rank slots j) g (get_rank slots j g n) in
      let mine = one_use t.no c.0 (sym (uses c.0) ∙ c.1) in
      let its : has g.uses t.no ≡ true = subst (λ (x : ℕ). has g.uses x ≡ true) (sym mine) c.2 in cc;
}
  where
    clash : (p q : Bool) → p ≡ true → q ≡ true → (p && q) ≡ false → ⊥
    clash true true a b c = cc
    clash true false a b c = cc
    clash false q a b c = cc

    one_use : (u v : ℕ) → ((u == v) || false) ≡ true → u ≡ v
    one_use u v e = ⊎_elim (λ k. k.1) (λ k. absurd (off (u == v) k.0 e)) (eqb_tells u v)
      where
        off : (b : Bool) → b ≡ false → (b || false) ≡ true → ⊥
        off true x y = cc
        off false x y = cc
