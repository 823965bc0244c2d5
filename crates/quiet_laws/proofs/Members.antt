-- What is in a list that is turned round, joined, filtered or mapped.
use Rattle.std.proofs.Common.{◌≡◌, ℕ, zero, suc, ◌==◌, ◌<◌, ◌||◌, Bool, true, false, cond, List, [], ◌∷◌, ◌++◌, filter, length, map, reverse, ◌⊎◌, ⊎_elim, inl, inr, refl, sym, ◌∙◌, ap, subst, arith}
use Rattle.std.specs.List.{concat}
use Rattle.std.proofs.lemmas.Grind.{reverse_onto}
use Rattle.bucket_laws.proofs.Listing.{in_right}
use Rattle.bucket_laws.proofs.Tests.{either, no_true, none_of, or_left, or_right, same}
use Rattle.bucket_laws.specs.Places.{In}
use Rattle.bucket_rules.proofs.Words.{true_false}
use Rattle.bucket_rules.specs.Row.{has, made}
use Rattle.bucket_rules.specs.Sound.{IsNumberSet}
use Rattle.run_rules.specs.Histories.{bucket_at}
use Rattle.suri_base.specs.declared.entry.BucketNote.{BucketNote}
use Rattle.suri_base.specs.declared.entry.Entry.{Entry}

pub in_left : {A : Type 0} (x : A) (xs ys : List A) → In x xs → In x (xs ++ ys)
in_left x [] ys i = absurd i
in_left x (y ∷ xs) ys (inl e) = inl e
in_left x (y ∷ xs) ys (inr i) = inr (in_left x xs ys i)

pub in_either : {A : Type 0} (x : A) (xs ys : List A) → In x (xs ++ ys) → In x xs ⊎ In x ys
in_either x [] ys i = inr i
in_either x (y ∷ xs) ys (inl e) = inl (inl e)
in_either x (y ∷ xs) ys (inr i) = ⊎_elim (λ j. inl (inr j)) (λ j. inr j) (in_either x xs ys i)

pub in_reverse : {A : Type 0} (x : A) (xs : List A) → In x xs → In x (reverse xs)
in_reverse x [] i = absurd i
in_reverse {A} x (y ∷ xs) i = subst (λ (l : List A). In x l) (sym (reverse_onto xs y [])) (⊎_elim
    (λ e. in_right x (reverse xs) (y ∷ []) (inl e))
    (λ j. in_left x (reverse xs) (y ∷ []) (in_reverse x xs j)) i)

pub in_reversed : {A : Type 0} (x : A) (xs : List A) → In x (reverse xs) → In x xs
in_reversed x [] i = absurd i
in_reversed {A} x (y ∷ xs) i = ⊎_elim
    (λ j. inr (in_reversed x xs j))
    (λ j. ⊎_elim (λ e. inl e) (λ k. absurd k) j)
    (in_either x (reverse xs) (y ∷ []) (subst (λ (l : List A). In x l) (reverse_onto xs y []) i))

pub in_map : {A B : Type 0} (f : A → B) (x : A) (xs : List A) → In x xs → In (f x) (map f xs)
in_map f x [] i = absurd i
in_map f x (y ∷ xs) (inl e) = inl (ap f e)
in_map f x (y ∷ xs) (inr i) = inr (in_map f x xs i)

pub in_mapped : {A B : Type 0} (f : A → B) (y : B) (xs : List A) → In y (map f xs) → (x : A) × In x xs × (f x ≡ y)
in_mapped f y [] i = absurd i
in_mapped f y (x ∷ xs) (inl e) = (x, inl refl, e)
in_mapped f y (x ∷ xs) (inr i) = let z = in_mapped f y xs i in (z.0, inr z.1, z.2)

pub in_passed : {A : Type 0} (p : A → Bool) (x : A) (xs : List A) → In x (filter p xs) → In x xs
in_passed p x [] i = absurd i
in_passed {A} p x (y ∷ xs) i = by (p y) i (λ j. in_passed p x xs j)
  where
    by : (b : Bool) → In x (cond b (y ∷ filter p xs) (filter p xs)) → (In x (filter p xs) → In x xs) → In x (y ∷ xs)
    by true (inl e) more = inl e
    by true (inr j) more = inr (more j)
    by false j more = inr (more j)

pub in_passing : {A : Type 0} (p : A → Bool) (x : A) (xs : List A) → p x ≡ true → In x xs → In x (filter p xs)
in_passing p x [] h i = absurd i
in_passing {A} p x (y ∷ xs) h i = by (p y) refl i (λ j. in_passing p x xs h j)
  where
    by : (b : Bool) → p y ≡ b → In x (y ∷ xs) → (In x xs → In x (filter p xs)) → In x (cond b (y ∷ filter p xs) (filter p xs))
    by true e (inl q) more = inl q
    by true e (inr j) more = inr (more j)
    by false e (inl q) more = absurd (true_false h (sym (ap p q) ∙ e))
    by false e (inr j) more = more j

-- numbers of joined lists

has_joined : (a : ℕ) (xs ys : List ℕ) → has (xs ++ ys) a ≡ (has xs a || has ys a)
has_joined a [] ys = refl
has_joined a (x ∷ xs) ys = by (x == a) (has_joined a xs ys)
  where
    by : (b : Bool) → has (xs ++ ys) a ≡ (has xs a || has ys a) → (b || has (xs ++ ys) a) ≡ ((b || has xs a) || has ys a)
    by true h = refl
    by false h = h

set_joined : (xs ys : List ℕ) → IsNumberSet xs → IsNumberSet ys → ((a : ℕ) → has xs a ≡ true → has ys a ≡ true → ⊥) → IsNumberSet (xs ++ ys)
set_joined [] ys s k apart = k
set_joined (x ∷ xs) ys s k apart =
    let one : has ys x ≡ false = no_true (has ys x) (λ h. apart x (or_left (x == x) (has xs x) (same x x refl)) h) in
    (has_joined x xs ys ∙ none_of (has xs x) (has ys x) s.0 one, set_joined xs ys s.1 k (λ a h. apart a (or_right (x == a) (has xs a) h)))

-- the runs that began in some buckets

pub begun_in : (a : ℕ) (hs : List (List (Entry BucketNote))) → has (concat (map (λ h. made h) hs)) a ≡ true
    → (b : ℕ) × (b < length hs) × (has (made (bucket_at b hs)) a ≡ true)
begun_in a [] h = absurd (true_false h refl)
begun_in a (h ∷ hs) e = ⊎_elim
    (λ k. (0, omega arith, k))
    (λ k. let z = begun_in a hs k in let low = z.1 in (suc z.0, omega (arith, low), z.2))
    (either (has (made h) a) (has (concat (map (λ h. made h) hs)) a) (sym (has_joined a (made h) (concat (map (λ h. made h) hs))) ∙ e))

pub begun_of : (a b : ℕ) (hs : List (List (Entry BucketNote))) → b < length hs → has (made (bucket_at b hs)) a ≡ true → has (concat (map (λ h. made h) hs)) a ≡ true
begun_of a b [] l e = absurd (omega (arith, l))
begun_of a zero (h ∷ hs) l e = has_joined a (made h) (concat (map (λ h. made h) hs)) ∙ or_left (has (made h) a) (has (concat (map (λ h. made h) hs)) a) e
begun_of a (suc b) (h ∷ hs) l e =
    has_joined a (made h) (concat (map (λ h. made h) hs)) ∙ or_right (has (made h) a) (has (concat (map (λ h. made h) hs)) a) (begun_of a b hs (omega (arith, l)) e)

-- each began once, in one bucket
pub begun_once : (hs : List (List (Entry BucketNote))) → ((b : ℕ) → b < length hs → IsNumberSet (made (bucket_at b hs)))
    → ((b c a : ℕ) → b < length hs → c < length hs → has (made (bucket_at b hs)) a ≡ true → has (made (bucket_at c hs)) a ≡ true → b ≡ c)
    → IsNumberSet (concat (map (λ h. made h) hs))
begun_once [] each one = tt
begun_once (h ∷ hs) each one = set_joined (made h) (concat (map (λ h. made h) hs)) (each 0 (omega arith))
    (begun_once hs (λ b l. each (suc b) (omega (arith, l))) (λ b c a l k x y. let q = one (suc b) (suc c) a (omega (arith, l)) (omega (arith, k)) x y in omega (arith, q)))
    (λ a x y. let z = begun_in a hs y in let low = z.1 in absurd (omega (arith, one 0 (suc z.0) a (omega arith) (omega (arith, low)) x z.2)))
