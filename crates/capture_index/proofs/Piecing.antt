-- Pieces of slots: they join to the whole, and the next frames are named piece by piece.
use Rattle.std.proofs.Common.{◌≡◌, ℕ, zero, suc, ◌+◌, ◌-◌, ◌*◌, ◌/◌, ◌%◌, min, ◌<◌, ◌≤◌, List, [], ◌∷◌, ◌++◌, refl, ap, sym, ◌∙◌, subst, drop, length, map, Vec, Global, length-take, length-drop, arith}
use Rattle.std.proofs.lemmas.Grind.{div_ceil_times}
use Rattle.std.proofs.lemmas.List.{drop-drop, drop_all, length-map, take-append-drop}
use Rattle.std.proofs.lemmas.List.FromFn.{map-range_with_len_more}
use Rattle.std.proofs.Math.Nat.{mul-le-mul_right}
use Rattle.std.specs.Fork.{slice_chunk}
use Rattle.std.specs.Int.{div_ceil}
use Rattle.std.specs.List.{range_with_len}
use Rattle.suri_base.specs.Slot.{ArePieces, joined, packed}
use Rattle.suri_base.specs.declared.seen.Seen.{Seen}
use Rattle.suri_base.specs.declared.slot.Slot.{Slot}
use Rattle.capture_index.specs.Pieces.{piece_of, pieces_of}

map_both : (a b : List Seen) → map packed (a ++ b) ≡ map packed a ++ map packed b
map_both [] b = refl
map_both (s ∷ a) b = ap (λ (l : List Slot). packed s ∷ l) (map_both a b)

-- a piece, and what stands behind it
pub chunk_and : (size i : ℕ) (seen : List Seen) → slice_chunk seen size i ++ drop ((i + 1) * size) seen ≡ drop (i * size) seen
chunk_and size i seen =
    let e : (i + 1) * size ≡ i * size + size = grind arith in
    ap (λ (k : ℕ). slice_chunk seen size i ++ drop k seen) e ∙ ap (λ (l : List Seen). slice_chunk seen size i ++ l) (sym (drop-drop size (i * size) seen)) ∙ take-append-drop size (drop (i * size) seen)

-- the pieces from one number on make up what follows the place where they begin
joined_from : (size begin count : ℕ) (seen : List Seen) → length seen ≤ (begin + count) * size → joined (map (piece_of size seen) (range_with_len begin count)) ≡ map packed (drop (begin * size) seen)
joined_from size begin zero seen all =
    let none : drop (begin * size) seen ≡ [] = drop_all (begin * size) seen (grind (arith, all)) in
    ap (λ (l : List Seen). map packed l) (sym none)
joined_from size begin (suc count) seen all =
    let e : begin + 1 + count ≡ begin + suc count = omega arith in
    ap (λ (l : List Slot). piece_of size seen begin ++ l) (joined_from size (begin + 1) count seen (subst (λ (n : ℕ). length seen ≤ n * size) (sym e) all))
    ∙ sym (map_both (slice_chunk seen size begin) (drop ((begin + 1) * size) seen)) ∙ ap (λ (l : List Seen). map packed l) (chunk_and size begin seen)

full : (size begin : ℕ) (seen : List Seen) → 0 < length (map packed (drop ((begin + 1) * size) seen)) → length (piece_of size seen begin) ≡ size
full size begin seen some =
    let e : (begin + 1) * size ≡ begin * size + size = grind arith in
    let behind : length (map packed (drop ((begin + 1) * size) seen)) ≡ length seen - (begin + 1) * size = length-map (drop ((begin + 1) * size) seen) packed ∙ length-drop ((begin + 1) * size) seen in
    simp (length-map, length-take, length-drop) (omega (arith, some, behind, e))

are_from : (size begin count : ℕ) (seen : List Seen) → length seen ≤ (begin + count) * size → ArePieces size (map (piece_of size seen) (range_with_len begin count))
are_from size begin zero seen all = tt
are_from size begin (suc count) seen all =
    let e : begin + 1 + count ≡ begin + suc count = omega arith in
    let rest : length seen ≤ (begin + 1 + count) * size = subst (λ (n : ℕ). length seen ≤ n * size) (sym e) all in (
      simp (length-map, length-take) (omega arith),
      λ some. full size begin seen (subst (λ (l : List Slot). 0 < length l) (joined_from size (begin + 1) count seen rest) some),
      are_from size (begin + 1) count seen rest,
    )

enough : (size : ℕ) (seen : List Seen) → 0 < size → length seen ≤ (0 + div_ceil (length seen) size) * size
enough size seen some =
    let e : 0 + div_ceil (length seen) size ≡ div_ceil (length seen) size = omega arith in
    rw e (div_ceil_times (length seen) size some).0

pub pieces_join : (size : ℕ) (seen : List Seen) → 0 < size → joined (pieces_of size seen) ≡ map packed seen
pieces_join size seen some =
    let none : 0 * size ≡ 0 = omega arith in
    joined_from size 0 (div_ceil (length seen) size) seen (enough size seen some) ∙ ap (λ (k : ℕ). map packed (drop k seen)) none

pub pieces_are : (size : ℕ) (seen : List Seen) → 0 < size → ArePieces size (pieces_of size seen)
pieces_are size seen some = are_from size 0 (div_ceil (length seen) size) seen (enough size seen some)

-- a piece that is there begins before the last of them
pub begins_within : (count size i pieces : ℕ) → 0 < size → pieces ≡ div_ceil count size → i < pieces → i * size < count
begins_within count size i pieces some many low =
    let last = (div_ceil_times count size some).1 in
    let scaled : (i + 1) * size ≤ pieces * size = mul-le-mul_right size (omega (arith, low)) in
    let same : pieces * size ≡ (count / size + min 1 (count % size)) * size = ap (λ (n : ℕ). n * size) many in
    let e : (i + 1) * size ≡ i * size + size = grind arith in
    omega (arith, last, scaled, e, same)

-- they hold all
pub holds_all : (count size pieces : ℕ) → 0 < size → div_ceil count size ≤ pieces → count ≤ pieces * size
holds_all count size pieces some many =
    let scaled : div_ceil count size * size ≤ pieces * size = mul-le-mul_right size many in
    let first = (div_ceil_times count size some).0 in
    omega (arith, first, scaled)

-- one piece more
pub map_push : {X Y : Type 0} (f : X → Y) (xs : List X) (x : X) → map f (xs ++ x ∷ []) ≡ map f xs ++ f x ∷ []
map_push f [] x = refl
map_push f (y ∷ xs) x = ap (λ l. f y ∷ l) (map_push f xs x)

pub lists_more : {X : Type 0} (f : ℕ → List X) (pieces now : List (Vec X Global)) (i : ℕ) (piece : Vec X Global) → map (λ p. p.items) pieces ≡ map f (range_with_len 0 i) → piece.items ≡ f i
    → now ≡ pieces ++ piece ∷ [] → map (λ p. p.items) now ≡ map f (range_with_len 0 (i + 1))
lists_more f pieces now i piece so is now_is =
    ap (λ (l : List (Vec _ Global)). map (λ p. p.items) l) now_is ∙ map_push (λ p. p.items) pieces piece ∙ ap (λ l. l ++ piece.items ∷ []) so ∙ ap (λ l. map f (range_with_len 0 i) ++ l ∷ []) is
    ∙ sym (map-range_with_len_more f 0 i i (omega arith))
