-- Lists that are taken apart from the back, and what is known of each of their elements by its place.
use Rattle.std.proofs.Common.{◌≡◌, ◌≢◌, ℕ, suc, ◌+◌, ◌<◌, List, [], ◌∷◌, ◌++◌, length, map, reverse, set, get_or, refl, sym, ap, ◌∙◌, subst, arith, append_assoc, get_or-set_other, get_or-set_same}
use mathlib.Core.Logic.{dite}
use native.Mathlib.Decide.{ℕ_discrete}
use Rattle.std.proofs.lemmas.List.{reverse-append, append-nil, map-append}
use Rattle.hist_lock.specs.Locks.{numbers}
use Rattle.lock_rows.proofs.Placed.{any_default, get_or_map}
use Rattle.lock_rows.specs.Rows.{Pairs}

-- numbers in order, told by index
pub numbered : {X : Type 0} (f : X → ℕ) (a : ℕ) (xs : List X) → ((k : ℕ) (d : X) → k < length xs → f (get_or xs k d) ≡ a + k) → map f xs ≡ numbers a (length xs)
numbered f a [] h = refl
numbered f a (x ∷ xs) h =
    let here : f x ≡ a = h 0 x (omega arith) ∙ omega arith in
    ap (λ (n : ℕ). n ∷ map f xs) here ∙ ap (λ (l : List ℕ). a ∷ l) (numbered f (suc a) xs (λ k d below. h (suc k) d (omega (arith, below)) ∙ omega arith))

module _ {A B D : Type 0} where
  pub pairs_right : (P : A → D → Type 0) (f : B → D) (xs : List A) (ys : List B) → Pairs (λ x y. P x (f y)) xs ys → Pairs P xs (map f ys)
  pairs_right P f [] [] h = tt
  pairs_right P f (x ∷ xs) (y ∷ ys) h = (h.0, pairs_right P f xs ys h.1)
  pairs_right P f [] (y ∷ ys) h = absurd h
  pairs_right P f (x ∷ xs) [] h = absurd h

less : (i k : ℕ) → k ≢ i → k < i + 1 → k < i
less i k not below = omega arith

module _ {X : Type 0} where
  -- one more is taken from the back of what is left
  pub done_next : (olds done left rest : List X) (p : X) → olds ≡ done ++ reverse left → left ≡ rest ++ p ∷ [] → olds ≡ (done ++ p ∷ []) ++ reverse rest
  done_next olds done left rest p all is = all ∙ (ap (λ (l : List X). done ++ l) (ap reverse is ∙ reverse-append rest (p ∷ [])) ∙ sym (append_assoc done (p ∷ []) (reverse rest)))

  pub done_all : (olds done left : List X) → length left ≡ 0 → olds ≡ done ++ reverse left → olds ≡ done
  done_all olds done [] none all = all ∙ append-nil done
  done_all olds done (x ∷ left) none all = absurd (omega (arith, none))

  pub mapped_next : {Y : Type 0} (f : X → Y) (done : List X) (ys more : List Y) (p : X) → ys ≡ map f done → more ≡ ys ++ f p ∷ [] → more ≡ map f (done ++ p ∷ [])
  mapped_next f done ys more p is new = new ∙ (ap (λ (l : List _). l ++ f p ∷ []) is ∙ sym (map-append f done (p ∷ [])))

  pub some_of : (xs : List X) (k : ℕ) → k < length xs → X
  some_of [] k below = absurd (omega (arith, below))
  some_of (x ∷ xs) k below = x

  -- what holds of the first ones, where the others are as they were, holds of one more after it was set
  pub next_set : (Q : X → X → Type 0) (olds xs : List X) (i : ℕ) (b d : X) → length xs ≡ length olds → i < length olds → ((k : ℕ) (e : X) → k < i → Q (get_or olds k e) (get_or xs k e)) → Q (get_or olds i d) b
      → (k : ℕ) (e : X) → k < i + 1 → Q (get_or olds k e) (get_or (set xs i b) k e)
  next_set Q olds xs i b d count inside all here k e below = dite (ℕ_discrete k i)
      (λ is. subst (λ (z : X). Q (get_or olds k e) z) (sym (ap (λ (m : ℕ). get_or (set xs i b) m e) is ∙ get_or-set_same xs i b e (omega (arith, count, inside))))
      (subst (λ (z : X). Q z b) (any_default olds i d e inside ∙ ap (λ (m : ℕ). get_or olds m e) (sym is)) here))
      (λ not. subst (λ (z : X). Q (get_or olds k e) z) (sym (get_or-set_other xs i k b e not)) (all k e (less i k not below)))

  -- the same of one alone, whatever holds of the others
  pub each_set : (Q : X → X → Type 0) (olds xs : List X) (i : ℕ) (b d : X) → length xs ≡ length olds → i < length olds → ((k : ℕ) (e : X) → k < length olds → k ≢ i → Q (get_or olds k e) (get_or xs k e)) → Q (get_or olds i d) b
      → (k : ℕ) (e : X) → k < length olds → Q (get_or olds k e) (get_or (set xs i b) k e)
  each_set Q olds xs i b d count inside all here k e below = dite (ℕ_discrete k i)
      (λ is. subst (λ (z : X). Q (get_or olds k e) z) (sym (ap (λ (m : ℕ). get_or (set xs i b) m e) is ∙ get_or-set_same xs i b e (omega (arith, count, inside))))
      (subst (λ (z : X). Q z b) (any_default olds i d e inside ∙ ap (λ (m : ℕ). get_or olds m e) (sym is)) here))
      (λ not. subst (λ (z : X). Q (get_or olds k e) z) (sym (get_or-set_other xs i k b e not)) (all k e below not))

-- an element of a list that is a word of the elements of another
pub word_at : {X Y : Type 0} (f : X → Y) (xs : List X) (ys : List Y) (k : ℕ) (d : X) → ys ≡ map f xs → get_or ys k (f d) ≡ f (get_or xs k d)
word_at f xs ys k d is = ap (λ (l : List _). get_or l k (f d)) is ∙ get_or_map f xs k d

pub words_at : {X Y Z : Type 0} (f : X → Z) (h : Y → Z) (xs : List X) (ys : List Y) (k : ℕ) (d : X) (e : Y) → h e ≡ f d → map h ys ≡ map f xs → h (get_or ys k e) ≡ f (get_or xs k d)
words_at f h xs ys k d e same is = sym (get_or_map h ys k e) ∙ (ap (λ (z : _). get_or (map h ys) k z) same ∙ word_at f xs (map h ys) k d is)
