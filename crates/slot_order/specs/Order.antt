-- A finite map from keys to slots, as a list of pairs by rising key.
use Rattle.std.specs.Prelude.{◌≡◌, ℕ, Bool, true, false, ◌<◌, ◌≤◌, if◌then◌else◌, List, [], ◌∷◌, length, slice_index_or, Option, Some, None}
use Rattle.std.specs.Ordering.{is_eq, is_gt}
use Rattle.std.specs.declared.cmp.Ordering.{Ordering}
use Rattle.std.specs.declared.cmp.Ordering.TheVariants.{Less, Equal, Greater}

-- the pairs, and for how many more there is room
pub record Pairs (K : Type 0) : Type 0 where
  pub pairs : List (K × ℕ)
  pub room : ℕ

-- the slot of a key
abbrev pub slot_of : {K : Type 0} → (K → K → Ordering) → List (K × ℕ) → K → Option ℕ
slot_of cmp [] k = None
slot_of cmp (e ∷ es) k = if is_eq (cmp e.0 k) then Some e.1 else slot_of cmp es k

-- the key stands before all of these
abbrev pub IsBelow : {K : Type 0} → (K → K → Ordering) → K → List (K × ℕ) → Type 0
IsBelow cmp k [] = Unit {0}
IsBelow cmp k (e ∷ es) = (cmp k e.0 ≡ Less) × IsBelow cmp k es

-- the keys rise, so that none stands twice
abbrev pub AreSorted : {K : Type 0} → (K → K → Ordering) → List (K × ℕ) → Type 0
AreSorted cmp [] = Unit {0}
AreSorted cmp (e ∷ es) = IsBelow cmp e.0 es × AreSorted cmp es

-- the pair at a place has the key
pub record IsAt {K : Type 0} (cmp : K → K → Ordering) (es : List (K × ℕ)) (k : K) (i : ℕ) : Type 0 where
  pub within : i < length es
  pub same : (d : K × ℕ) → cmp (slice_index_or es i d).0 k ≡ Equal

-- smaller keys stand before the place, greater ones from it on
pub record IsGap {K : Type 0} (cmp : K → K → Ordering) (es : List (K × ℕ)) (k : K) (i : ℕ) : Type 0 where
  pub within : i ≤ length es
  pub before : (j : ℕ) (d : K × ℕ) → j < i → cmp (slice_index_or es j d).0 k ≡ Less
  pub after : (j : ℕ) (d : K × ℕ) → i ≤ j → j < length es → cmp (slice_index_or es j d).0 k ≡ Greater

-- the pair is that of the least key
pub record IsFirst {K : Type 0} (cmp : K → K → Ordering) (es : List (K × ℕ)) (e : K × ℕ) : Type 0 where
  pub there : slot_of cmp es e.0 ≡ Some e.1
  pub least : (q : K) (s : ℕ) → slot_of cmp es q ≡ Some s → is_gt (cmp e.0 q) ≡ false

-- whether it is this key
abbrev pub is_key : {K : Type 0} → (K → K → Ordering) → Option K → K → Bool
is_key cmp None q = false
is_key cmp (Some k) q = is_eq (cmp k q)

-- for how many pairs more there has to be room where one key leaves and another comes: for none where they are one key
abbrev pub added : {K : Type 0} → (K → K → Ordering) → Option K → Option K → ℕ
added cmp old None = 0
added cmp old (Some k) = if is_key cmp old k then 0 else 1

-- where a key leaves the slot that it had, and another takes it
pub record CanReplace {K : Type 0} (cmp : K → K → Ordering) (es : List (K × ℕ)) (spare : ℕ) (old new : Option K) (s : ℕ) : Type 0 where
  pub was : (k : K) → old ≡ Some k → slot_of cmp es k ≡ Some s
  pub free : (k : K) (r : ℕ) → new ≡ Some k → slot_of cmp es k ≡ Some r → is_key cmp old k ≡ true
  pub room : added cmp old new ≤ spare
