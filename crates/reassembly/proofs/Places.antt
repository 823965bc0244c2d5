-- Payloads in the capture's bytes, and what nodes say of them.
use Rattle.std.proofs.Common.{◌≡◌, ℕ, zero, suc, ◌+◌, ◌-◌, ◌≤◌, ◌%◌, ◌^◌, min, cond, Bool, true, false, List, [], ◌∷◌, length, map, take}
use Rattle.std.proofs.Common.{drop, refl, sym, ap, ◌∙◌, arith, length-drop}
use Rattle.std.specs.Prelude.{nat_lt, slice_range}
use Rattle.std.proofs.lemmas.List.{length-take}
use Rattle.reassembly.specs.Kept.{AllLieIn, LiesIn, spot_in}
use Rattle.reassembly.specs.Members.{Member, early, first_of, part_of, sequence_of}
use Rattle.reassembly.specs.Nodes.{parts_at, part_at, LieWithin}
use Rattle.reassembly.specs.Parts.{beyond, needs_segment, stored_of, waiting_of, Part}
use Rattle.segment_tree.specs.declared.spot.Spot.{Spot}

pub drop_nil : (k : ℕ) → drop {A = ℕ} k [] ≡ []
drop_nil zero = refl
drop_nil (suc k) = refl

drop_more : (m n : ℕ) (xs : List ℕ) → drop n (drop m xs) ≡ drop (m + n) xs
drop_more zero n xs = let e : n ≡ zero + n = omega arith in ap (λ (k : ℕ). drop k xs) e
drop_more (suc m) n [] = drop_nil n ∙ sym (drop_nil (suc m + n))
drop_more (suc m) n (x ∷ xs) =
    let e : suc (m + n) ≡ suc m + n = omega arith in
    drop_more m n xs ∙ ap (λ (k : ℕ). drop k (x ∷ xs)) e

take_few : (m n : ℕ) (xs : List ℕ) → m ≤ n → take m (take n xs) ≡ take m xs
take_few zero n xs h = refl
take_few (suc m) zero xs h = absurd (omega arith)
take_few (suc m) (suc n) [] h = refl
take_few (suc m) (suc n) (x ∷ xs) h = ap (λ (l : List ℕ). x ∷ l) (take_few m n xs (omega arith))

take_own : (n : ℕ) (xs : List ℕ) → take n xs ≡ take (length (take n xs)) xs
take_own zero xs = refl
take_own (suc n) [] = refl
take_own (suc n) (x ∷ xs) = ap (λ (l : List ℕ). x ∷ l) (take_own n xs)

drop_takes : (n k : ℕ) (xs : List ℕ) → drop n (take k xs) ≡ take (k - n) (drop n xs)
drop_takes zero k xs = let e : k ≡ k - zero = omega arith in ap (λ (j : ℕ). take j xs) e
drop_takes (suc n) zero xs = let e : zero ≡ zero - suc n = omega arith in ap (λ (j : ℕ). take j (drop (suc n) xs)) e
drop_takes (suc n) (suc k) [] = by (suc k - suc n)
  where
    by : (j : ℕ) → [] ≡ take {A = ℕ} j []
    by zero = refl
    by (suc j) = refl
drop_takes (suc n) (suc k) (x ∷ xs) = let e : k - n ≡ suc k - suc n = omega arith in drop_takes n k xs ∙ ap (λ (j : ℕ). take j (drop n xs)) e

-- the front of a payload lies there too
front_lies : (bytes : List ℕ) (at n : ℕ) (xs : List ℕ) → LiesIn bytes at xs → LiesIn bytes at (take n xs)
front_lies bytes at n xs lies =
    let l = length-take n xs in
    let many : at + length xs - at ≡ length xs = omega arith in
    let few : at + length (take n xs) - at ≡ length (take n xs) = omega arith in
    let w = lies.within in
    record {
      within = omega (arith, l, w);
      same = ap (λ (j : ℕ). take j (drop at bytes)) few
          ∙ (sym (take_few (length (take n xs)) (length xs) (drop at bytes) (omega (arith, l)))
          ∙ (ap (take (length (take n xs))) (ap (λ (j : ℕ). take j (drop at bytes)) (sym many) ∙ lies.same)
          ∙ sym (take_own n xs)));
    }

-- and so does what stands behind its front
rest_lies : (bytes : List ℕ) (at n : ℕ) (xs : List ℕ) → LiesIn bytes at xs → n ≤ length xs → LiesIn bytes (at + n) (drop n xs)
rest_lies bytes at n xs lies h =
    let l = length-drop n xs in
    let e : at + n + length (drop n xs) - (at + n) ≡ at + length xs - at - n = omega (arith, l) in
    let w = lies.within in
    record {
      within = omega (arith, l, w);
      same = ap (λ (j : ℕ). take j (drop (at + n) bytes)) e
          ∙ (ap (take (at + length xs - at - n)) (sym (drop_more at n bytes))
          ∙ (sym (drop_takes n (at + length xs - at) (drop at bytes)) ∙ ap (drop n) lies.same));
    }

abbrev pub PartsLieIn : List ℕ → List Part → Type 0
PartsLieIn bytes [] = Unit {0}
PartsLieIn bytes (p ∷ parts) = LiesIn bytes p.at p.bytes × PartsLieIn bytes parts

early_few : (base sequence : ℕ) (payload : List ℕ) → early base sequence payload ≤ length payload
early_few base sequence payload = by (nat_lt ((sequence + 2 ^ 32 - base) % 2 ^ 32) (2 ^ 31))
  where
    by : (t : Bool) → cond t 0 (min (2 ^ 32 - (sequence + 2 ^ 32 - base) % 2 ^ 32) (length payload)) ≤ length payload
    by true = omega arith
    by false = omega arith

pub parts_lie : (bytes : List ℕ) (depth base : ℕ) (members : List Member) → AllLieIn bytes members → PartsLieIn bytes (map (part_of depth base) members)
parts_lie bytes depth base [] lie = tt
parts_lie bytes depth base (m ∷ members) lie =
    let e = early base (sequence_of m.tcp) m.payload in
    let rest = rest_lies bytes m.at e m.payload lie.0 (early_few base (sequence_of m.tcp) m.payload) in
    (front_lies bytes (m.at + e) (depth - first_of base (sequence_of m.tcp)) (drop e m.payload) rest, parts_lie bytes depth base members lie.1)

stored_lie : (bytes : List ℕ) (depth : ℕ) (parts : List Part) → PartsLieIn bytes parts → PartsLieIn bytes (stored_of depth parts)
stored_lie bytes depth [] lie = tt
stored_lie bytes depth (p ∷ parts) lie = by (needs_segment depth parts p) (stored_lie bytes depth parts lie.1)
  where
    by : (t : Bool) → PartsLieIn bytes (stored_of depth parts) → PartsLieIn bytes (cond t (p ∷ stored_of depth parts) (stored_of depth parts))
    by true again = (lie.0, again)
    by false again = again

beyond_lie : (bytes : List ℕ) (k : ℕ) (parts : List Part) → PartsLieIn bytes parts → PartsLieIn bytes (beyond k parts)
beyond_lie bytes k [] lie = tt
beyond_lie bytes k (p ∷ parts) lie = by (nat_lt k p.first) (beyond_lie bytes k parts lie.1)
  where
    by : (t : Bool) → PartsLieIn bytes (beyond k parts) → PartsLieIn bytes (cond t (p ∷ beyond k parts) (beyond k parts))
    by true again = (lie.0, again)
    by false again = again

pub waiting_lie : (bytes : List ℕ) (depth : ℕ) (parts : List Part) → PartsLieIn bytes parts → PartsLieIn bytes (waiting_of depth parts)
waiting_lie bytes depth parts lie = beyond_lie bytes _ (stored_of depth parts) (stored_lie bytes depth parts lie)

-- what stands where parts do has the bytes of these parts
pub spots_have : (bytes : List ℕ) (spots : List Spot) (parts : List Part) → spots ≡ map spot_in parts → PartsLieIn bytes parts
    → parts_at bytes spots ≡ parts
spots_have bytes [] [] same lie = refl
spots_have bytes [] (p ∷ parts) same lie = cc
spots_have bytes (s ∷ spots) [] same lie = cc
spots_have bytes (s ∷ spots) (p ∷ parts) same lie =
    let head : s ≡ spot_in p = cc in
    let tail : spots ≡ map spot_in parts = cc in
    let number : s.no ≡ p.no = ap (λ (x : Spot). x.no) head in
    let first : s.first ≡ p.first = ap (λ (x : Spot). x.first) head in
    let at : s.at ≡ p.at = ap (λ (x : Spot). x.at) head in
    let len : s.len ≡ length p.bytes = ap (λ (x : Spot). x.len) head in
    let have : slice_range bytes s.at (s.at + s.len) ≡ p.bytes = ap (λ (x : Spot). slice_range bytes x.at (x.at + x.len)) head ∙ lie.0.same in
    let one : part_at bytes s ≡ p = λ i. record { no = number i; first = first i; at = at i; bytes = have i } in
    let rest = spots_have bytes spots parts tail lie.1 in
    λ i. one i ∷ rest i

pub spots_within : (bytes : List ℕ) (spots : List Spot) (parts : List Part) → spots ≡ map spot_in parts → PartsLieIn bytes parts
    → LieWithin (length bytes) spots
spots_within bytes [] [] same lie = tt
spots_within bytes [] (p ∷ parts) same lie = cc
spots_within bytes (s ∷ spots) [] same lie = cc
spots_within bytes (s ∷ spots) (p ∷ parts) same lie =
    let head : s ≡ spot_in p = cc in
    let tail : spots ≡ map spot_in parts = cc in
    let at : s.at ≡ p.at = ap (λ (x : Spot). x.at) head in
    let len : s.len ≡ length p.bytes = ap (λ (x : Spot). x.len) head in
    let w = lie.0.within in
    (omega (arith, at, len, w), spots_within bytes spots parts tail lie.1)
