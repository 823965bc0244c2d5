-- Sorted pairs in a row of chunks.
use Rattle.std.specs.Prelude.{◌≡◌, ℕ, suc, zero, Bool, true, false, ◌<◌, ◌≤◌, ◌+◌, ◌++◌, ◌-◌, List, [], ◌∷◌, length, Vec, vec_len, vec_capacity, All, min}
use Rattle.std.specs.Ordering.{is_gt}
use Rattle.std.specs.declared.cmp.Ordering.{Ordering}
use Rattle.slot_order.specs.Order.{IsAt, IsGap}
use Rattle.std.specs.Global.{Global}

-- what stands in the chunks, from the first to the last
abbrev pub joined : {X : Type 0} → List (Vec X Global) → List X
joined [] = []
joined (v ∷ vs) = v.items ++ joined vs

-- what stands in one chunk
abbrev pub items_at : {X : Type 0} → List (Vec X Global) → ℕ → List X
items_at [] c = []
items_at (v ∷ vs) zero = v.items
items_at (v ∷ vs) (suc c) = items_at vs c

-- where a place in a chunk stands in the whole
abbrev pub place_in : {X : Type 0} → List (Vec X Global) → ℕ → ℕ → ℕ
place_in [] c i = i
place_in (v ∷ vs) zero i = i
place_in (v ∷ vs) (suc c) i = length v.items + place_in vs c i

-- a chunk that holds something, with room for one more, and that is never full
pub record IsChunk {X : Type 0} (v : Vec X Global) : Type 0 where
  pub some : 0 < length v.items
  pub few : length v.items < 256
  pub wide : 256 ≤ vec_capacity v

-- an empty chunk, kept for a split
pub record IsSpare {X : Type 0} (v : Vec X Global) : Type 0 where
  pub none : v.items ≡ []
  pub wide : 256 ≤ vec_capacity v

-- whether what stands here begins above a key
abbrev pub begins_above : {K : Type 0} → (K → K → Ordering) → K → List (K × ℕ) → Bool
begins_above cmp k [] = false
begins_above cmp k (e ∷ es) = is_gt (cmp e.0 k)

-- whether a chunk begins above a key; what lies behind the last chunk does
abbrev pub is_above : {K : Type 0} → (K → K → Ordering) → K → List (Vec (K × ℕ) Global) → ℕ → Bool
is_above cmp k [] c = true
is_above cmp k (v ∷ vs) zero = begins_above cmp k v.items
is_above cmp k (v ∷ vs) (suc c) = is_above cmp k vs c

-- the chunk in which a key stands, or would stand
pub record IsHome {K : Type 0} (cmp : K → K → Ordering) (k : K) (cs : List (Vec (K × ℕ) Global)) (c : ℕ) : Type 0 where
  pub within : c < length cs
  pub from : 0 < c → is_above cmp k cs c ≡ false
  pub to : is_above cmp k cs (suc c) ≡ true

-- chunks with pairs, and those that are kept for a split
pub record IsRow {X : Type 0} (cs ss : Vec (Vec X Global) Global) : Type 0 where
  pub chunks : All IsChunk cs.items
  pub spares : All IsSpare ss.items

-- for how many more there is room: each may want a chunk, and a place for it
abbrev pub room_of : {X : Type 0} → Vec (Vec X Global) Global → Vec (Vec X Global) Global → ℕ
room_of chunks spares = min (vec_len spares) (vec_capacity chunks - vec_len chunks)

-- the key stands at a place in a chunk, and so in the row
pub record IsFoundIn {K : Type 0} (cmp : K → K → Ordering) (cs : List (Vec (K × ℕ) Global)) (k : K) (c i : ℕ) : Type 0 where
  pub within : i < length (items_at cs c)
  pub there : IsAt cmp (joined cs) k (place_in cs c i)

-- the key would go to a place in a chunk, and so in the row
pub record IsMissingIn {K : Type 0} (cmp : K → K → Ordering) (cs : List (Vec (K × ℕ) Global)) (k : K) (c i : ℕ) : Type 0 where
  pub within : i ≤ length (items_at cs c)
  pub between : IsGap cmp (joined cs) k (place_in cs c i)
