-- Bytes of parts, and the stream that they make.
use Rattle.std.proofs.Common.{◌≡◌, ℕ, zero, suc, ◌+◌, ◌-◌, ◌<◌, ◌≤◌, List, [], ◌∷◌, ◌++◌, length, take, drop, Option, Some, None, refl}
use Rattle.std.proofs.Common.{sym, ap, ◌∙◌, subst, arith, append-nil}
use Rattle.std.specs.Prelude.{slice_get}
use Rattle.reassembly.specs.Parts.{bytes_from}

pub slice_get-drop : (xs : List ℕ) (n i : ℕ) → slice_get (drop n xs) i ≡ slice_get xs (n + i)
slice_get-drop xs zero i = ap (slice_get xs) (omega arith)
slice_get-drop [] (suc n) i = refl
slice_get-drop (x ∷ xs) (suc n) i =
    let e : suc n + i ≡ suc (n + i) = omega arith in
    slice_get-drop xs n i ∙ ap (slice_get (x ∷ xs)) (sym e)

pub slice_get-take : (xs : List ℕ) (n i : ℕ) → i < n → slice_get (take n xs) i ≡ slice_get xs i
slice_get-take xs zero i h = absurd (omega arith)
slice_get-take [] (suc n) i h = refl
slice_get-take (x ∷ xs) (suc n) zero h = refl
slice_get-take (x ∷ xs) (suc n) (suc i) h = slice_get-take xs n i (omega arith)

-- the stream from an offset on, where the byte there is known
from_byte : (at : ℕ → Option ℕ) (k most : ℕ) (b : ℕ) → at k ≡ Some b → bytes_from at k (suc most) ≡ b ∷ bytes_from at (k + 1) most
unfolding bytes_from
from_byte at k most b is = ap (λ (o : Option ℕ). elim o as (λ _. List ℕ) [ None ↦ [] | Some c ↦ c ∷ bytes_from at (k + 1) most ]) is

-- it ends where nothing is covered
pub from_gap : (at : ℕ → Option ℕ) (k most : ℕ) → at k ≡ None → bytes_from at k most ≡ []
unfolding bytes_from
from_gap at k zero none = refl
from_gap at k (suc most) none = ap (λ (o : Option ℕ). elim o as (λ _. List ℕ) [ None ↦ [] | Some c ↦ c ∷ bytes_from at (k + 1) most ]) none

pub from_none : (at : ℕ → Option ℕ) (k : ℕ) → bytes_from at k 0 ≡ []
unfolding bytes_from
from_none at k = refl

-- the stream from an offset on begins with what is covered there
pub from_stretch : (at : ℕ → Option ℕ) (k most : ℕ) (xs : List ℕ) → length xs ≤ most → ((i : ℕ) → i < length xs → at (k + i) ≡ slice_get xs i)
    → bytes_from at k most ≡ xs ++ bytes_from at (k + length xs) (most - length xs)
from_stretch at k most [] few same =
    let e : k + length {A = ℕ} [] ≡ k = omega arith in
    let f : most - length {A = ℕ} [] ≡ most = omega arith in
    sym (ap (λ (j : ℕ). bytes_from at j (most - length {A = ℕ} [])) e ∙ ap (bytes_from at k) f)
from_stretch at k zero (x ∷ xs) few same = absurd (omega arith)
from_stretch at k (suc most) (x ∷ xs) few same =
    let here : k + 0 ≡ k = omega arith in
    let b : at k ≡ Some x = subst (λ (j : ℕ). at j ≡ Some x) here (same 0 (omega arith)) in
    let rest = from_stretch at (k + 1) most xs (omega arith) (λ i h.
    let e : k + 1 + i ≡ k + suc i = omega arith in
    ap at e ∙ same (suc i) (omega arith)) in
    let e : k + 1 + length xs ≡ k + length (x ∷ xs) = omega arith in
    let f : most - length xs ≡ suc most - length (x ∷ xs) = omega arith in
    from_byte at k most x b
    ∙ ap (λ (l : List ℕ). x ∷ l) (rest
    ∙ ap (λ (l : List ℕ). xs ++ l) (ap (λ (j : ℕ). bytes_from at j (most - length xs)) e ∙ ap (bytes_from at (k + length (x ∷ xs))) f))

-- each byte of the stream from an offset on is that at its offset
pub from_has : (at : ℕ → Option ℕ) (k most i : ℕ) → i < length (bytes_from at k most) → at (k + i) ≡ slice_get (bytes_from at k most) i
from_has at k zero i h = absurd (omega (arith, ap length (from_none at k)))
from_has at k (suc most) i h = by (from_has at (k + 1) most) (at k) refl
  where
    by : ((j : ℕ) → j < length (bytes_from at (k + 1) most) → at (k + 1 + j) ≡ slice_get (bytes_from at (k + 1) most) j)
        → (o : Option ℕ) → at k ≡ o → at (k + i) ≡ slice_get (bytes_from at k (suc most)) i
    by again None none = absurd (omega (arith, ap length (from_gap at k (suc most) none)))
    by again (Some b) is = each i h
      where
        each : (j : ℕ) → j < length (bytes_from at k (suc most)) → at (k + j) ≡ slice_get (bytes_from at k (suc most)) j
        each zero g =
            let e : k + 0 ≡ k = omega arith in
            ap at e ∙ (is ∙ sym (ap (λ (l : List ℕ). slice_get l 0) (from_byte at k most b is)))
        each (suc j) g =
            let e : k + suc j ≡ k + 1 + j = omega arith in
            let short : j < length (bytes_from at (k + 1) most) = omega (arith, ap length (from_byte at k most b is)) in
            ap at e ∙ (again j short ∙ sym (ap (λ (l : List ℕ). slice_get l (suc j)) (from_byte at k most b is)))

-- the stream is no longer than asked for
pub from_few : (at : ℕ → Option ℕ) (k most : ℕ) → length (bytes_from at k most) ≤ most
from_few at k zero = omega (arith, ap length (from_none at k))
from_few at k (suc most) = by (from_few at (k + 1) most) (at k) refl
  where
    by : length (bytes_from at (k + 1) most) ≤ most → (o : Option ℕ) → at k ≡ o → length (bytes_from at k (suc most)) ≤ suc most
    by again None none = omega (arith, ap length (from_gap at k (suc most) none))
    by again (Some b) is = omega (arith, ap length (from_byte at k most b is), again)

-- where it is shorter than asked for, nothing is covered behind it
pub from_end : (at : ℕ → Option ℕ) (k most : ℕ) → length (bytes_from at k most) < most → at (k + length (bytes_from at k most)) ≡ None
from_end at k zero h = absurd (omega arith)
from_end at k (suc most) h = by (from_end at (k + 1) most) (at k) refl
  where
    by : (length (bytes_from at (k + 1) most) < most → at (k + 1 + length (bytes_from at (k + 1) most)) ≡ None)
        → (o : Option ℕ) → at k ≡ o → at (k + length (bytes_from at k (suc most))) ≡ None
    by again None none =
        let e : k + length (bytes_from at k (suc most)) ≡ k = omega (arith, ap length (from_gap at k (suc most) none)) in
        ap at e ∙ none
    by again (Some b) is =
        let l = ap length (from_byte at k most b is) in
        let e : k + length (bytes_from at k (suc most)) ≡ k + 1 + length (bytes_from at (k + 1) most) = omega (arith, l) in
        ap at e ∙ again (omega (arith, l))

-- the stream is the one list that has each covered byte and ends at the first that isn't
pub from_whole : (at : ℕ → Option ℕ) (k most : ℕ) (xs : List ℕ) → length xs ≤ most → ((i : ℕ) → i < length xs → at (k + i) ≡ slice_get xs i)
    → (length xs < most → at (k + length xs) ≡ None) → bytes_from at k most ≡ xs
from_whole at k most xs few same end =
    from_stretch at k most xs few same ∙ (ap (λ (l : List ℕ). xs ++ l) (none (most - length xs) refl) ∙ append-nil xs)
  where
    none : (n : ℕ) → most - length xs ≡ n → bytes_from at (k + length xs) n ≡ []
    none zero e = from_none at (k + length xs)
    none (suc n) e = from_gap at (k + length xs) (suc n) (end (omega (arith, e)))

-- two lists of at with the same bytes up to the end of one's stream make the same stream
pub from_same : (at other : ℕ → Option ℕ) (k most : ℕ) → ((i : ℕ) → i ≤ length (bytes_from other k most) → at (k + i) ≡ other (k + i))
    → bytes_from at k most ≡ bytes_from other k most
from_same at other k most same =
    from_whole at k most (bytes_from other k most) (from_few other k most) (λ i h. same i (omega arith) ∙ from_has other k most i h)
    (λ h. same (length (bytes_from other k most)) (omega arith) ∙ from_end other k most h)
