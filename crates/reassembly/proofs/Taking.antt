-- Taking in the bytes that come next.
use Rattle.std.proofs.Common.{◌≡◌, ℕ, ◌+◌, ◌-◌, ◌<◌, ◌≤◌, Bool, true, false, List, ◌++◌, length, get_or, Some, None}
use Rattle.std.proofs.Common.{refl, sym, ap, ◌∙◌, arith, append_assoc, append-nil}
use Rattle.std.specs.Prelude.{nat_le}
use Rattle.std.proofs.lemmas.Option.{slice_get-get_or}
use Rattle.reassembly.specs.Parts.{bytes_from, byte_at, EndsBelow, Part}
use Rattle.reassembly.specs.Stretches.{IsStretch}
use Rattle.reassembly.proofs.Bytes.{from_stretch, from_gap}

-- bytes that parts have end below the depth
pub stretch_below : (depth at : ℕ) (parts : List Part) (stretch : List ℕ) → EndsBelow depth parts → at ≤ depth → IsStretch parts at (Some stretch)
    → at + length stretch ≤ depth
stretch_below depth at parts stretch ends low stretches = by (nat_le (at + length stretch) depth) refl
  where
    clash : (b : ℕ) → None ≡ Some b → at + length stretch ≤ depth
    clash b e = cc

    by : (t : Bool) → nat_le (at + length stretch) depth ≡ t → at + length stretch ≤ depth
    by true test = grind arith
    by false test =
        let long : depth < at + length stretch = grind arith in
        let last = length stretch - 1 in
        let inside : last < length stretch = omega arith in
        let past : depth ≤ at + last = omega arith in
        clash (get_or stretch last 0) (sym (ends (at + last) past) ∙ (stretches.1 last inside ∙ slice_get-get_or stretch last 0 inside))

-- more is taken in
pub take_more : (depth from at : ℕ) (parts : List Part) (taken stretch : List ℕ)
    → bytes_from (byte_at parts) from (depth - from) ≡ taken ++ bytes_from (byte_at parts) at (depth - at)
    → at + length stretch ≤ depth → IsStretch parts at (Some stretch)
    → bytes_from (byte_at parts) from (depth - from) ≡ (taken ++ stretch)
    ++ bytes_from (byte_at parts) (at + length stretch) (depth - (at + length stretch))
take_more depth from at parts taken stretch so_far few stretches =
    let e : depth - at - length stretch ≡ depth - (at + length stretch) = omega arith in
    let next = from_stretch (byte_at parts) at (depth - at) stretch (omega arith) stretches.1
    ∙ ap (λ (n : ℕ). stretch ++ bytes_from (byte_at parts) (at + length stretch) n) e in
    so_far ∙ (ap (λ (l : List ℕ). taken ++ l) next
    ∙ sym (append_assoc taken stretch (bytes_from (byte_at parts) (at + length stretch) (depth - (at + length stretch)))))

-- nothing more is there
pub take_all : (depth from at : ℕ) (parts : List Part) (taken : List ℕ)
    → bytes_from (byte_at parts) from (depth - from) ≡ taken ++ bytes_from (byte_at parts) at (depth - at)
    → IsStretch parts at None → bytes_from (byte_at parts) from (depth - from) ≡ taken
take_all depth from at parts taken so_far none = so_far ∙ (ap (λ (l : List ℕ). taken ++ l) (from_gap (byte_at parts) at (depth - at) none) ∙ append-nil taken)
