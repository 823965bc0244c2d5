-- The slot at a place stands in the piece that the place's quotient by the size names.
use Rattle.std.proofs.Common.{◌≡◌, ℕ, zero, suc, ◌+◌, ◌-◌, ◌*◌, ◌<◌, ◌≤◌, ◌⊎◌, inl, inr, List, [], ◌∷◌, ◌++◌, length, map, Vec, Global, get_or, length-append, refl, ap, ◌∙◌, arith}
use Rattle.std.proofs.lemmas.Bool.{cases_lt}
use Rattle.std.proofs.lemmas.List.{get_or_append_left, get_or-append_right}
use Rattle.suri_base.specs.Slot.{ArePieces, joined}
use Rattle.suri_base.specs.declared.slot.Slot.{Slot}

abbrev pub lists : List (Vec Slot Global) → List (List Slot)
lists pieces = map (λ p. p.items) pieces

-- the first piece holds this place, where it is below the size
in_first : (size j : ℕ) (piece : List Slot) (pieces : List (List Slot)) → ArePieces size (piece ∷ pieces) → j < size → j < length (joined (piece ∷ pieces)) → j < length piece
in_first size j piece pieces are low within = by (cases_lt 0 (length (joined pieces)))
  where
    by : (0 < length (joined pieces)) ⊎ (length (joined pieces) ≤ 0) → j < length piece
    by (inl some) = let full = are.1 some in omega (arith, full, low)
    by (inr none) = let sum = length-append piece (joined pieces) in omega (arith, none, within, sum)

-- where a place is beyond the first piece, that is full, and the place lies in those behind it
behind_first : (size k rest : ℕ) (piece : List Slot) (pieces : List (List Slot)) → ArePieces size (piece ∷ pieces) → k ≡ size + rest → k < length (joined (piece ∷ pieces))
    → (length piece ≡ size) × (rest < length (joined pieces))
behind_first size k rest piece pieces are e within =
    let sum = length-append piece (joined pieces) in
    let few = are.0 in
    let full = are.1 (omega (arith, sum, few, e, within)) in
    (full, omega (arith, sum, full, e, within))

split : (size i j k : ℕ) → k ≡ suc i * size + j → k ≡ size + (i * size + j)
split size i j k e = grind (arith, e)

pub within : (pieces : List (Vec Slot Global)) (size i j k : ℕ) → ArePieces size (lists pieces) → j < size → k ≡ i * size + j → k < length (joined (lists pieces)) → i < length pieces
within [] size i j k are low e inside = absurd (omega (arith, inside))
within (p ∷ pieces) size zero j k are low e inside = omega arith
within (p ∷ pieces) size (suc i) j k are low e inside =
    let on = behind_first size k (i * size + j) p.items (lists pieces) are (split size i j k e) inside in
    let rest = within pieces size i j (i * size + j) are.2 low refl on.1 in
    omega (arith, rest)

pub holds : (pieces : List (Vec Slot Global)) (size i j k : ℕ) (v : Vec Slot Global) → ArePieces size (lists pieces) → j < size → k ≡ i * size + j → k < length (joined (lists pieces))
    → j < length (get_or pieces i v).items
holds [] size i j k v are low e inside = absurd (omega (arith, inside))
holds (p ∷ pieces) size zero j k v are low e inside =
    let same : k ≡ j = grind (arith, e) in
    in_first size j p.items (lists pieces) are low (omega (arith, same, inside))
holds (p ∷ pieces) size (suc i) j k v are low e inside =
    let on = behind_first size k (i * size + j) p.items (lists pieces) are (split size i j k e) inside in
    holds pieces size i j (i * size + j) v are.2 low refl on.1

pub found : (pieces : List (Vec Slot Global)) (size i j k : ℕ) (v : Vec Slot Global) (s : Slot) → ArePieces size (lists pieces) → j < size → k ≡ i * size + j → k < length (joined (lists pieces))
    → get_or (joined (lists pieces)) k s ≡ get_or (get_or pieces i v).items j s
found [] size i j k v s are low e inside = absurd (omega (arith, inside))
found (p ∷ pieces) size zero j k v s are low e inside =
    let same : k ≡ j = grind (arith, e) in
    let here = in_first size j p.items (lists pieces) are low (omega (arith, same, inside)) in
    ap (λ (n : ℕ). get_or (p.items ++ joined (lists pieces)) n s) same ∙ get_or_append_left p.items (joined (lists pieces)) s j here
found (p ∷ pieces) size (suc i) j k v s are low e inside =
    let far = split size i j k e in
    let on = behind_first size k (i * size + j) p.items (lists pieces) are far inside in
    let place : k - size ≡ i * size + j = omega (arith, far) in
    get_or-append_right p.items (joined (lists pieces)) size k s on.0 (omega (arith, far)) ∙ ap (λ (n : ℕ). get_or (joined (lists pieces)) n s) place
    ∙ found pieces size i j (i * size + j) v s are.2 low refl on.1
