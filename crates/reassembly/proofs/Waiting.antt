-- What waits is enough: beyond the frontier the stored parts that wait have the bytes that all parts have.
use Rattle.std.proofs.Common.{◌≡◌, ℕ, zero, suc, ◌+◌, ◌-◌, ◌<◌, ◌≤◌, cond, Bool, true, false, ◌&&◌, List, [], ◌∷◌, length, Option, Some}
use Rattle.std.proofs.Common.{None, refl, sym, ap, ◌∙◌, arith}
use Rattle.std.specs.Prelude.{nat_le, nat_lt, slice_get}
use Rattle.std.specs.Option.{option_or, is_some}
use Rattle.std.proofs.lemmas.Option.{slice_get_past, slice_get_within}
use Rattle.reassembly.specs.Parts.{are_covered, beyond, bytes_from, byte_at, byte_in, frontier_of, is_old, stored_of, waiting_of, EndsBelow, Part}
use Rattle.reassembly.proofs.Bytes.{from_end, from_has}

-- what a test says
le_true : (a b : ℕ) → a ≤ b → nat_le a b ≡ true
le_true a b h = grind arith

le_false : (a b : ℕ) → b < a → nat_le a b ≡ false
le_false a b h = grind arith

-- the byte of a part, at or after its first offset and before it
pub in_after : (p : Part) (k : ℕ) → p.first ≤ k → byte_in p k ≡ slice_get p.bytes (k - p.first)
in_after p k h = ap (λ (b : Bool). cond b (slice_get p.bytes (k - p.first)) None) (le_true p.first k h)

pub in_before : (p : Part) (k : ℕ) → k < p.first → byte_in p k ≡ None
in_before p k h = ap (λ (b : Bool). cond b (slice_get p.bytes (k - p.first)) None) (le_false p.first k h)

none_past : (xs : List ℕ) (i : ℕ) → slice_get xs i ≡ None → length xs ≤ i
none_past [] i none = omega arith
none_past (x ∷ xs) zero none = cc
none_past (x ∷ xs) (suc i) none =
    let again = none_past xs i none in
    omega arith

-- a part that begins at or before an offset, and doesn't cover it, covers none after it
pub ended : (p : Part) (f k : ℕ) → p.first ≤ f → byte_in p f ≡ None → f ≤ k → byte_in p k ≡ None
ended p f k begins none later =
    let past = none_past p.bytes (f - p.first) (sym (in_after p f begins) ∙ none) in
    in_after p k (omega arith) ∙ slice_get_past p.bytes (k - p.first) (omega arith)

and_left : (a b : Bool) → (a && b) ≡ true → a ≡ true
and_left true b h = refl
and_left false b h = cc

and_right : (a b : Bool) → (a && b) ≡ true → b ≡ true
and_right true b h = h
and_right false b h = cc

pub covered_at : (parts : List Part) (k : ℕ) (xs : List ℕ) → are_covered parts k xs ≡ true → (i : ℕ) → i < length xs → is_some (byte_at parts (k + i)) ≡ true
covered_at parts k [] all i h = absurd (omega arith)
covered_at parts k (x ∷ xs) all zero h =
    let e : k + 0 ≡ k = omega arith in
    ap (λ (j : ℕ). is_some (byte_at parts j)) e ∙ and_left (is_some (byte_at parts k)) (are_covered parts (k + 1) xs) all
covered_at parts k (x ∷ xs) all (suc i) h =
    let e : k + suc i ≡ k + 1 + i = omega arith in
    ap (λ (j : ℕ). is_some (byte_at parts j)) e
    ∙ covered_at parts (k + 1) xs (and_right (is_some (byte_at parts k)) (are_covered parts (k + 1) xs) all) i (omega arith)

pub all_covered : (parts : List Part) (k : ℕ) (xs : List ℕ) → ((i : ℕ) → i < length xs → is_some (byte_at parts (k + i)) ≡ true) → are_covered parts k xs ≡ true
all_covered parts k [] each = refl
all_covered parts k (x ∷ xs) each =
    let e : k + 0 ≡ k = omega arith in
    let here : is_some (byte_at parts k) ≡ true = ap (λ (j : ℕ). is_some (byte_at parts j)) (sym e) ∙ each 0 (omega arith) in
    let rest : are_covered parts (k + 1) xs ≡ true = all_covered parts (k + 1) xs (λ i h.
    let f : k + 1 + i ≡ k + suc i = omega arith in
    ap (λ (j : ℕ). is_some (byte_at parts j)) f ∙ each (suc i) (omega arith)) in
    ap (λ (b : Bool). b && are_covered parts (k + 1) xs) here ∙ rest

pub or_none : (o : Option ℕ) → option_or o None ≡ o
or_none None = refl
or_none (Some b) = refl

-- a part that doesn't cover an offset changes nothing there
pub skips : (older : List Part) (p : Part) (k : ℕ) → byte_in p k ≡ None → byte_at (p ∷ older) k ≡ byte_at older k
skips older p k none = ap (option_or (byte_at older k)) none ∙ or_none (byte_at older k)

-- where a part covers an offset
pub in_some : (p : Part) (k b : ℕ) → byte_in p k ≡ Some b → (p.first ≤ k) × (k < p.first + length p.bytes)
in_some p k b is = by (nat_le p.first k) refl
  where
    some_none : None ≡ Some b → ⊥
    some_none e = cc

    by : (t : Bool) → nat_le p.first k ≡ t → (p.first ≤ k) × (k < p.first + length p.bytes)
    by true test =
        let begins : p.first ≤ k = grind arith in
        let within = slice_get_within p.bytes (k - p.first) b (sym (in_after p k begins) ∙ is) in
        (begins, omega arith)
    by false test =
        let begins : k < p.first = grind arith in
        absurd (some_none (sym (in_before p k begins) ∙ is))

-- a part that brings nothing changes nothing
pub old_same : (older : List Part) (p : Part) → is_old older p ≡ true → (k : ℕ) → byte_at (p ∷ older) k ≡ byte_at older k
old_same older p old k = by (byte_at older k) refl
  where
    inside : byte_at older k ≡ None → (o : Option ℕ) → byte_in p k ≡ o → o ≡ None
    inside none None is = refl
    inside none (Some b) is =
        let where_it_is = in_some p k b is in
        let e : p.first + (k - p.first) ≡ k = omega arith in
        let covered : is_some (byte_at older k) ≡ true = ap (λ (j : ℕ). is_some (byte_at older j)) (sym e)
        ∙ covered_at older p.first p.bytes old (k - p.first) (omega arith) in
        absurd (no (ap is_some (sym none) ∙ covered))
      where
        no : false ≡ true → ⊥
        no e = cc

    by : (o : Option ℕ) → byte_at older k ≡ o → byte_at (p ∷ older) k ≡ byte_at older k
    by None none = skips older p k (inside none (byte_in p k) refl)
    by (Some b) is = ap (λ (o : Option ℕ). option_or o (byte_in p k)) is ∙ sym is

-- an offset that nothing covers is at or after the frontier
pub frontier_before : (depth : ℕ) (parts : List Part) (k : ℕ) → byte_at parts k ≡ None → frontier_of depth parts ≤ k
frontier_before depth parts k none = by (nat_lt k (frontier_of depth parts)) refl
  where
    by : (t : Bool) → nat_lt k (frontier_of depth parts) ≡ t → frontier_of depth parts ≤ k
    by true test =
        let within : k < frontier_of depth parts = grind arith in
        let e : 0 + k ≡ k = omega arith in
        let here = from_has (byte_at parts) 0 depth k within in
        let past = none_past (bytes_from (byte_at parts) 0 depth) k (sym here ∙ (ap (byte_at parts) e ∙ none)) in
        absurd (omega arith)
    by false test = grind arith

-- the stored parts that begin beyond an offset which nothing covers have, from it on, the bytes of all parts
pub beyond_has : (depth f k : ℕ) (parts : List Part) → byte_at parts f ≡ None → f ≤ k → byte_at (beyond f (stored_of depth parts)) k ≡ byte_at parts k
beyond_has depth f k [] none later = refl
beyond_has depth f k (p ∷ older) none later =
    by (beyond_has depth f k older gap_before later) (is_old older p) refl (nat_lt (frontier_of depth older) p.first) refl (nat_lt f p.first) refl
  where
    gap_before : byte_at older f ≡ None
    gap_before = first_none (byte_at older f) (byte_in p f) none
      where
        first_none : (o q : Option ℕ) → option_or o q ≡ None → o ≡ None
        first_none None q e = refl
        first_none (Some b) q e = cc

    gap_in : byte_in p f ≡ None
    gap_in = ap (λ (o : Option ℕ). option_or o (byte_in p f)) (sym gap_before) ∙ none

    not_far : nat_lt (frontier_of depth older) p.first ≡ false → p.first ≤ frontier_of depth older
    not_far e = grind arith

    by : byte_at (beyond f (stored_of depth older)) k ≡ byte_at older k
        → (old : Bool) → is_old older p ≡ old → (far : Bool) → nat_lt (frontier_of depth older) p.first ≡ far → (out : Bool) → nat_lt f p.first ≡ out
        → byte_at (beyond f (stored_of depth (p ∷ older))) k ≡ byte_at (p ∷ older) k
    by again true is far is_far out is_out = rw is (again ∙ sym (old_same older p is k))
    by again false is false is_far out is_out =
        let begins : p.first ≤ f = omega (arith, not_far is_far, frontier_before depth older f gap_before) in
        rw (is, is_far) (again ∙ sym (skips older p k (ended p f k begins gap_in later)))
    by again false is true is_far true is_out = rw (is, is_far, is_out) (ap (λ (o : Option ℕ). option_or o (byte_in p k)) again)
    by again false is true is_far false is_out =
        let begins : p.first ≤ f = grind arith in
        rw (is, is_far, is_out) (again ∙ sym (skips older p k (ended p f k begins gap_in later)))

-- nothing covers the frontier
pub frontier_gap : (depth : ℕ) (parts : List Part) → EndsBelow depth parts → byte_at parts (frontier_of depth parts) ≡ None
frontier_gap depth parts ends = by (nat_lt (frontier_of depth parts) depth) refl
  where
    by : (t : Bool) → nat_lt (frontier_of depth parts) depth ≡ t → byte_at parts (frontier_of depth parts) ≡ None
    by true test =
        let short : frontier_of depth parts < depth = grind arith in
        let e : 0 + frontier_of depth parts ≡ frontier_of depth parts = omega arith in
        ap (byte_at parts) (sym e) ∙ from_end (byte_at parts) 0 depth short
    by false test =
        let long : depth ≤ frontier_of depth parts = grind arith in
        ends (frontier_of depth parts) long

-- what waits has, from the frontier on, the bytes of all parts
pub waiting_has : (depth k : ℕ) (parts : List Part) → EndsBelow depth parts → frontier_of depth parts ≤ k → byte_at (waiting_of depth parts) k ≡ byte_at parts k
waiting_has depth k parts ends later = beyond_has depth (frontier_of depth parts) k parts (frontier_gap depth parts ends) later
