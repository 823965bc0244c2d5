-- The next packet of a key, as the facts of a capture tell it.
use Rattle.std.proofs.Common.{◌≡◌, ℕ, zero, suc, ◌+◌, ◌-◌, ◌<◌, Bool, true, false, cond, List, [], ◌∷◌, Option, Some, None, ◌⊎◌, inl, inr, refl, sym, ◌∙◌, ap, subst, arith}
use Rattle.std.specs.Prelude.{slice_get}
use Rattle.suri_base.specs.Capture.{Captured, IsCapture, AreLinked, next_in, packets_in}
use Rattle.suri_base.specs.Keys.{first_no, key_list, same_key}
use Rattle.suri_base.specs.declared.facts.Facts.{Facts}
use Rattle.suri_base.specs.declared.key.Key.{Key}
use Rattle.suri_base.specs.declared.seen.Seen.{Seen}
use Rattle.suri_base.specs.declared.seen.Seen.TheVariants.{Bears, Counted}
use Rattle.suri_base.proofs.SameKeys.{same_key-is}
use Rattle.bucket_rules.specs.Packets.{bearing, facts_of_seen, of_packet}
use Rattle.bucket_laws.proofs.Listing.{is_of, is_of_its, bearing_has, bearing_no}

-- the first frame of some that bears the key has this number, or it is 0
abbrev FirstIn : Key → List Seen → ℕ → Type 0
FirstIn k seen x = ((x ≡ 0) × ((i : ℕ) (u : Facts) → slice_get seen i ≡ Some (Bears u) → same_key u.key k ≡ false))
    ⊎ ((i : ℕ) × (u : Facts) × (slice_get seen i ≡ Some (Bears u)) × (u.key ≡ k) × (x ≡ u.no)
    × ((j : ℕ) (v : Facts) → j < i → slice_get seen j ≡ Some (Bears v) → same_key v.key k ≡ false))

is_bears : (x : Seen) (u : Facts) → Some x ≡ Some (Bears u) → x ≡ Bears u
is_bears x u h = cc

skip : (k : Key) (x : Seen) (seen : List Seen) (m : ℕ) → ((u : Facts) → x ≡ Bears u → same_key u.key k ≡ false) → FirstIn k seen m → FirstIn k (x ∷ seen) m
skip k x seen m n (inl z) = inl (z.0, λ i u h. at i u h)
  where
    at : (i : ℕ) (u : Facts) → slice_get (x ∷ seen) i ≡ Some (Bears u) → same_key u.key k ≡ false
    at zero u h = n u (is_bears x u h)
    at (suc i) u h = z.1 i u h
skip k x seen m n (inr z) = inr (suc z.0, z.1, z.2, z.3, z.4, λ j v l h. at j v l h)
  where
    at : (j : ℕ) (v : Facts) → j < suc z.0 → slice_get (x ∷ seen) j ≡ Some (Bears v) → same_key v.key k ≡ false
    at zero v l h = n v (is_bears x v h)
    at (suc j) v l h = z.5 j v (omega (arith, l)) h

first_in : (k : Key) (seen : List Seen) → FirstIn k seen (next_in k seen)
first_in k [] = inl (refl, λ i u h. cc)
first_in k (Counted c ∷ seen) = skip k (Counted c) seen (next_in k seen) (λ u h. cc) (first_in k seen)
first_in k (Bears f ∷ seen) = by (same_key f.key k) refl (first_in k seen)
  where
    by : (b : Bool) → same_key f.key k ≡ b → FirstIn k seen (next_in k seen)
        → FirstIn k (Bears f ∷ seen) (first_no (cond b (f ∷ key_list k (packets_in seen)) (key_list k (packets_in seen))))
    by true e rest = inr (0, f, refl, same_key-is f.key k e, refl, λ j v l h. absurd (omega (arith, l)))
    by false e rest = skip k (Bears f) seen (next_in k seen) (λ u h. let q : f ≡ u = cc in subst (λ (v : Facts). same_key v.key k ≡ false) q e) rest

-- the facts at a place name the first such frame behind it
linked_at : (seen : List Seen) (n : ℕ) (t : Facts) → AreLinked seen → slice_get seen n ≡ Some (Bears t)
    → (rest : List Seen) × ((i m : ℕ) → m ≡ n + i + 1 → slice_get rest i ≡ slice_get seen m) × (t.next ≡ next_in t.key rest)
linked_at [] n t l h = cc
linked_at (Counted c ∷ seen) zero t l h = cc
linked_at (Bears f ∷ seen) zero t l h =
    let q : f ≡ t = cc in
    (seen, λ i m e. at i m e, subst (λ (u : Facts). u.next ≡ next_in u.key seen) q l.0)
  where
    at : (i m : ℕ) → m ≡ 0 + i + 1 → slice_get seen i ≡ slice_get (Bears f ∷ seen) m
    at i m e = let p : suc i ≡ m = omega (arith, e) in ap (λ j. slice_get (Bears f ∷ seen) j) p
linked_at (Counted c ∷ seen) (suc n) t l h = behind (Counted c) seen n t (linked_at seen n t l h)
  where
    behind : (x : Seen) (seen : List Seen) (n : ℕ) (t : Facts)
        → (rest : List Seen) × ((i m : ℕ) → m ≡ n + i + 1 → slice_get rest i ≡ slice_get seen m) × (t.next ≡ next_in t.key rest)
        → (rest : List Seen) × ((i m : ℕ) → m ≡ suc n + i + 1 → slice_get rest i ≡ slice_get (x ∷ seen) m) × (t.next ≡ next_in t.key rest)
    behind x seen n t z = (z.0, λ i m e. at i m e, z.2)
      where
        at : (i m : ℕ) → m ≡ suc n + i + 1 → slice_get z.0 i ≡ slice_get (x ∷ seen) m
        at i zero e = absurd (omega (arith, e))
        at i (suc m) e = z.1 i m (omega (arith, e))
linked_at (Bears f ∷ seen) (suc n) t l h = behind (Bears f) seen n t (linked_at seen n t l.1 h)
  where
    behind : (x : Seen) (seen : List Seen) (n : ℕ) (t : Facts)
        → (rest : List Seen) × ((i m : ℕ) → m ≡ n + i + 1 → slice_get rest i ≡ slice_get seen m) × (t.next ≡ next_in t.key rest)
        → (rest : List Seen) × ((i m : ℕ) → m ≡ suc n + i + 1 → slice_get rest i ≡ slice_get (x ∷ seen) m) × (t.next ≡ next_in t.key rest)
    behind x seen n t z = (z.0, λ i m e. at i m e, z.2)
      where
        at : (i m : ℕ) → m ≡ suc n + i + 1 → slice_get z.0 i ≡ slice_get (x ∷ seen) m
        at i zero e = absurd (omega (arith, e))
        at i (suc m) e = z.1 i m (omega (arith, e))

not_of : (c : Captured) (k : Key) (m : ℕ) → ((u : Facts) → slice_get c.seen m ≡ Some (Bears u) → same_key u.key k ≡ false) → is_of c k (suc m) ≡ false
not_of c k m n = by (slice_get c.seen m) refl
  where
    by : (o : Option Seen) → slice_get c.seen m ≡ o → of_packet (facts_of_seen o) (λ t. same_key t.key k) ≡ false
    by None e = refl
    by (Some (Bears u)) e = n u e
    by (Some (Counted x)) e = refl

-- the next packet of the key of frame f: there is none, or it is the first one behind
abbrev pub IsNext : Captured → ℕ → Facts → Type 0
IsNext c f t =
    ((t.next ≡ 0) × ((g : ℕ) → f < g → is_of c t.key g ≡ false))
    ⊎ ((f < t.next) × (is_of c t.key t.next ≡ true) × ((g : ℕ) → f < g → g < t.next → is_of c t.key g ≡ false))

pub next_is : (c : Captured) (f : ℕ) (t : Facts) → IsCapture c → bearing c f ≡ Some t → IsNext c f t
next_is c zero t is h = cc
next_is c (suc n) t is h = by (linked_at c.seen n t is.linked own)
  where
    own : slice_get c.seen n ≡ Some (Bears t)
    own = let p : suc n - 1 ≡ n = omega arith in subst (λ m. slice_get c.seen m ≡ Some (Bears t)) p (bearing_has c (suc n) t h).1

    by : (rest : List Seen) × ((i m : ℕ) → m ≡ n + i + 1 → slice_get rest i ≡ slice_get c.seen m) × (t.next ≡ next_in t.key rest) → IsNext c (suc n) t
    by z = first (first_in t.key z.0)
      where
        behind : (m : ℕ) (u : Facts) (i : ℕ) → m ≡ n + i + 1 → slice_get c.seen m ≡ Some (Bears u) → slice_get z.0 i ≡ Some (Bears u)
        behind m u i e at = z.1 i m e ∙ at

        none : ((i : ℕ) (u : Facts) → slice_get z.0 i ≡ Some (Bears u) → same_key u.key t.key ≡ false) → (g : ℕ) → suc n < g → is_of c t.key g ≡ false
        none clear zero l = absurd (omega (arith, l))
        none clear (suc m) l = not_of c t.key m (λ u at. clear (m - n - 1) u (behind m u (m - n - 1) (omega (arith, l)) at))

        between : (i : ℕ) → ((j : ℕ) (v : Facts) → j < i → slice_get z.0 j ≡ Some (Bears v) → same_key v.key t.key ≡ false) → (g : ℕ) → suc n < g
            → g < n + i + 2 → is_of c t.key g ≡ false
        between i clear zero l r = absurd (omega (arith, l))
        between i clear (suc m) l r = not_of c t.key m (λ u at. clear (m - n - 1) u (omega (arith, l, r)) (behind m u (m - n - 1) (omega (arith, l)) at))

        first : FirstIn t.key z.0 (next_in t.key z.0) → IsNext c (suc n) t
        first (inl y) = inl (z.2 ∙ y.0, λ g l. none y.1 g l)
        first (inr y) =
            let m = n + y.0 + 1 in
            let at : slice_get c.seen m ≡ Some (Bears y.1) = sym (z.1 y.0 m refl) ∙ y.2 in
            let b : bearing c (suc m) ≡ Some y.1 = ap facts_of_seen at in
            let number : y.1.no ≡ suc m = bearing_no c (suc m) y.1 is b in
            let x : suc m ≡ t.next = sym number ∙ (sym y.4 ∙ sym z.2) in
            inr (
              omega (arith, x),
              subst (λ (g : ℕ). is_of c t.key g ≡ true) x (subst (λ (k : Key). is_of c k (suc m) ≡ true) y.3 (is_of_its c (suc m) y.1 b)),
              λ g l r. between y.0 y.5 g l (omega (arith, x, r)),
            )
