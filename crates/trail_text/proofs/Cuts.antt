-- Texts in pieces.
use Rattle.std.proofs.Common.{◌≡◌, ◌≢◌, ◌∷◌, [], List, ℕ, zero, suc, ◌+◌, ◌-◌, ◌<◌, ◌≤◌, ◌==◌, Bool, true, false, IsTrue, add-one, arith, drop, get_or, length, refl, take}
use Rattle.std.proofs.lemmas.List.{take_rest}
use Rattle.trail_text.specs.Pieces.{left, pieces, with_first}

not_true : (b : Bool) → (b ≡ true → ⊥) → b ≡ false
not_true true h = absurd (h refl)
not_true false h = refl

-- a text without the byte is one piece
uncut : (at : ℕ) (t : List ℕ) → ((k : ℕ) → k < length t → (get_or t k 0 == at) ≡ false) → pieces at t ≡ t ∷ []
uncut at [] none = refl
uncut at (c ∷ cs) none =
    let here : (c == at) ≡ false = none 0 (omega arith) in
    let rest : pieces at cs ≡ cs ∷ [] = uncut at cs (λ k h. none (suc k) (omega (arith, h))) in
    rw here (rw rest refl)

-- the first piece ends at the first such byte
cut : (at : ℕ) (t : List ℕ) (k : ℕ) → k < length t → (get_or t k 0 == at) ≡ true → ((j : ℕ) → j < k → (get_or t j 0 == at) ≡ false)
    → pieces at t ≡ take k t ∷ pieces at (drop (suc k) t)
cut at [] k h is none = absurd (omega (arith, h))
cut at (c ∷ cs) zero h is none = rw is refl
cut at (c ∷ cs) (suc k) h is none =
    let here : (c == at) ≡ false = none 0 (omega arith) in
    let rest : pieces at cs ≡ take k cs ∷ pieces at (drop (suc k) cs) = cut at cs k (omega (arith, h)) is (λ j l. none (suc j) (omega (arith, l))) in
    rw here (rw rest refl)

more : (c : ℕ) (ps : List (List ℕ)) → with_first c ps ≢ []
more c [] e = cc
more c (p ∷ ps) e = cc

pub some : (at : ℕ) (t : List ℕ) → pieces at t ≢ []
some at [] e = cc
some at (c ∷ cs) e = by_byte (c == at) refl
  where
    by_byte : (b : Bool) → (c == at) ≡ b → ⊥
    by_byte true is = let h : [] ∷ pieces at cs ≡ [] = rw is at e in cc
    by_byte false is = more c (pieces at cs) (rw is at e)

-- where the last piece was not handed out, a text without the byte is the last piece
pub left_last : (done : Bool) (at : ℕ) (t : List ℕ) → done ≡ false → ((k : ℕ) → 0 ≤ k → k < length t → (get_or t k 0 == at) ≡ true → ⊥) → left done at t ≡ t ∷ []
left_last true at t d none = cc
left_last false at t d none = uncut at t (λ k h. not_true (get_or t k 0 == at) (none k (omega arith) h))

-- and else the next one ends at the first such byte
pub left_next : (done : Bool) (at : ℕ) (t : List ℕ) (k : ℕ) → done ≡ false → k < length t → (get_or t k 0 == at) ≡ true
    → ((j : ℕ) → 0 ≤ j → j < k → (get_or t j 0 == at) ≡ true → ⊥) → left done at t ≡ take k t ∷ left done at (take (length t - (k + 1)) (drop (k + 1) t))
left_next true at t k d h is none = cc
left_next false at t k d h is none = rw (take_rest t (k + 1)) (rw (add-one k) (cut at t k h is (λ j l. not_true (get_or t j 0 == at) (none j (omega arith) l))))

pub left_none : (done : Bool) (at : ℕ) (t : List ℕ) → (IsTrue done → left done at t ≡ []) × (left done at t ≡ [] → IsTrue done)
left_none true at t = (λ h. refl, λ h. refl)
left_none false at t = (λ h. cc, λ h. absurd (some at t h))
