-- The next frames are named piece by piece, the last piece first.
use Rattle.std.proofs.Common.{◌≡◌, ℕ, zero, suc, ◌+◌, ◌-◌, ◌*◌, ◌<◌, ◌≤◌, List, [], ◌∷◌, ◌++◌, refl, ap, sym, ◌∙◌, subst, take, drop, length, map, Vec, Global, get_or, append-nil, append_assoc, length-take, length-drop, arith}
use Rattle.std.proofs.Math.ListN.{set}
use Rattle.std.proofs.lemmas.Grind.{take_at_read}
use Rattle.std.proofs.lemmas.List.{drop-drop, drop_all, drop_more, length-map, take-append-drop, take_all}
use Rattle.std.proofs.lemmas.List.FromFn.{get_or-map-range_with_len, length-map-range_with_len}
use Rattle.std.specs.Fork.{slice_chunk}
use Rattle.std.specs.Int.{div_ceil}
use Rattle.suri_base.specs.Slot.{packed}
use Rattle.suri_base.specs.declared.seen.Seen.{Seen}
use Rattle.suri_base.specs.declared.slot.Slot.{Slot}
use Rattle.capture_index.specs.declared.firsts.Firsts.{Firsts}
use Rattle.capture_index.specs.Links.{AreAt, Tells, linked, linked_before, linked_one}
use Rattle.capture_index.specs.Pieces.{piece_of, pieces_of}
use Rattle.capture_index.proofs.Laws.{linked_count}
use Rattle.capture_index.proofs.Nexts.{read_between, write_between}
use Rattle.capture_index.proofs.Piecing.{begins_within, chunk_and, holds_all}

-- what is known of the loop from the last piece to the first, when it has come to this one
pub record Chained (size : ℕ) (seen : List Seen) (i : ℕ) (lists : List (List Slot)) (m : Firsts) : Type 0 where
  pub told : Tells m (drop (i * size) seen)
  pub done : lists ≡ take i (pieces_of size seen) ++ drop i (pieces_of size (linked seen))

-- what the frames of a list name, where the list is cut
take_linked : (n : ℕ) (seen : List Seen) → take n (linked seen) ≡ linked_before (drop n seen) (take n seen)
take_linked zero seen = refl
take_linked (suc n) [] = refl
take_linked (suc n) (s ∷ seen) =
    ap (λ (l : List Seen). linked_one s l ∷ take n (linked seen)) (sym (take-append-drop n seen)) ∙ ap (λ (l : List Seen). linked_one s (take n seen ++ drop n seen) ∷ l) (take_linked n seen)

drop_linked : (n : ℕ) (seen : List Seen) → drop n (linked seen) ≡ linked (drop n seen)
drop_linked zero seen = refl
drop_linked (suc n) [] = refl
drop_linked (suc n) (s ∷ seen) = drop_linked n seen

chunk_linked : (size i : ℕ) (seen : List Seen) → slice_chunk (linked seen) size i ≡ linked_before (drop ((i + 1) * size) seen) (slice_chunk seen size i)
chunk_linked size i seen =
    let e : i * size + size ≡ (i + 1) * size = grind arith in
    ap (λ (l : List Seen). take size l) (drop_linked (i * size) seen) ∙ take_linked size (drop (i * size) seen) ∙ ap (λ (l : List Seen). linked_before l (slice_chunk seen size i)) (drop-drop size (i * size) seen)
    ∙ ap (λ (k : ℕ). linked_before (drop k seen) (slice_chunk seen size i)) e

-- the numbers of a part
at_drop : (k number : ℕ) (seen : List Seen) → AreAt number seen → AreAt (number + k) (drop k seen)
at_drop zero number seen at = let e : number ≡ number + 0 = omega arith in subst (λ (n : ℕ). AreAt n seen) e at
at_drop (suc k) number [] at = tt
at_drop (suc k) number (s ∷ seen) at =
    let e : number + 1 + k ≡ number + suc k = omega arith in
    subst (λ (n : ℕ). AreAt n (drop k seen)) e (at_drop k (number + 1) seen at.1)

at_take : (k number : ℕ) (seen : List Seen) → AreAt number seen → AreAt number (take k seen)
at_take zero number seen at = tt
at_take (suc k) number [] at = tt
at_take (suc k) number (s ∷ seen) at = (at.0, at_take k (number + 1) seen at.1)

pub at_chunk : (size i first : ℕ) (seen : List Seen) → first ≡ i * size + 1 → AreAt 1 seen → AreAt first (slice_chunk seen size i)
at_chunk size i first seen is at =
    let e : 1 + i * size ≡ first = omega (arith, is) in
    at_take size first (drop (i * size) seen) (subst (λ (n : ℕ). AreAt n (drop (i * size) seen)) e (at_drop (i * size) 1 seen at))

many : (size : ℕ) (seen : List Seen) → length (pieces_of size seen) ≡ div_ceil (length seen) size
many size seen = length-map-range_with_len (piece_of size seen) 0 (div_ceil (length seen) size)

many_linked : (size : ℕ) (seen : List Seen) → length (pieces_of size (linked seen)) ≡ div_ceil (length seen) size
many_linked size seen = many size (linked seen) ∙ ap (λ (n : ℕ). div_ceil n size) (linked_count seen)

pub one_of : (size i : ℕ) (seen : List Seen) (d : List Slot) → i < div_ceil (length seen) size → get_or (pieces_of size seen) i d ≡ piece_of size seen i
one_of size i seen d low = get_or-map-range_with_len (piece_of size seen) 0 (div_ceil (length seen) size) i i d low (omega arith)

-- so many pieces there are
pub pieces_count : (size : ℕ) (seen : List Seen) (pieces : List (Vec Slot Global)) → map (λ p. p.items) pieces ≡ pieces_of size seen → length pieces ≡ div_ceil (length seen) size
pieces_count size seen pieces is = sym (length-map pieces (λ p. p.items)) ∙ ap (length {A = List Slot}) is ∙ many size seen

-- the piece before a place begins before the last frame
pub begins_at : (size : ℕ) (seen : List Seen) (pieces : List (Vec Slot Global)) (place : ℕ) → 0 < size → map (λ p. p.items) pieces ≡ pieces_of size seen → 0 < place → place ≤ length pieces
    → (place - 1) * size < length seen
begins_at size seen pieces place some is later low =
    begins_within (length seen) size (place - 1) (length pieces) some (pieces_count size seen pieces is) (omega (arith, later, low))

-- how far the piece reaches
pub reaches : (size i : ℕ) (seen : List Seen) → i * size < length seen → i * size + length (piece_of size seen i) ≤ length seen
reaches size i seen low = simp (length-map, length-take, length-drop) (omega (arith, low))

-- behind the last piece
pub chained_none : (size : ℕ) (seen : List Seen) (i : ℕ) (lists : List (List Slot)) (m : Firsts) → 0 < size → i ≡ length lists → lists ≡ pieces_of size seen → Tells m []
    → Chained size seen i lists m
chained_none size seen i lists m some all is tells =
    let count : i ≡ div_ceil (length seen) size = all ∙ ap (length {A = List Slot}) is ∙ many size seen in
    let first : i ≡ length (pieces_of size seen) = count ∙ sym (many size seen) in
    let second : i ≡ length (pieces_of size (linked seen)) = count ∙ sym (many_linked size seen) in
    let none : drop (i * size) seen ≡ [] = drop_all (i * size) seen (holds_all (length seen) size i some (omega (arith, count))) in
    record {
      told = subst (λ (l : List Seen). Tells m l) (sym none) tells;
      done = is ∙ sym (take_all i (pieces_of size seen) (omega (arith, first))) ∙ sym (append-nil (take i (pieces_of size seen)))
          ∙ ap (λ (l : List (List Slot)). take i (pieces_of size seen) ++ l) (sym (drop_all i (pieces_of size (linked seen)) (omega (arith, second))));
    }

-- the piece before those that are done is still as it was
pub still : (size : ℕ) (seen : List Seen) (i j : ℕ) (lists : List (List Slot)) (m : Firsts) (d : List Slot) → j ≡ i + 1 → i < div_ceil (length seen) size → Chained size seen j lists m
    → get_or lists i d ≡ piece_of size seen i
still size seen i j lists m d j_is low so =
    let before = pieces_of size seen in
    let after = pieces_of size (linked seen) in
    let done : lists ≡ take (i + 1) before ++ drop (i + 1) after = subst (λ (k : ℕ). lists ≡ take k before ++ drop k after) j_is so.done in
    let here : i < length before = omega (arith, low, many size seen) in
    let apart : lists ≡ take i before ++ piece_of size seen i ∷ drop (i + 1) after =
    done ∙ ap (λ (l : List (List Slot)). l ++ drop (i + 1) after) ((take_at_read before i d here).1 ∙ ap (λ (p : List Slot). take i before ++ p ∷ []) (one_of size i seen d low))
    ∙ append_assoc (take i before) (piece_of size seen i ∷ []) (drop (i + 1) after) in
    let place : i ≡ length (take i before) = simp (length-take) (omega (arith, here)) in
    ap (λ (l : List (List Slot)). get_or l i d) apart ∙ read_between (take i before) (drop (i + 1) after) (piece_of size seen i) d i place

-- one piece more
pub chained_more : (size : ℕ) (seen : List Seen) (i j first : ℕ) (lists now : List (List Slot)) (m n : Firsts) (d old new : List Slot) → j ≡ i + 1 → i < div_ceil (length seen) size
    → first ≡ i * size + 1 → AreAt 1 seen → Chained size seen j lists m → old ≡ get_or lists i d
    → ((part behind : List Seen) → old ≡ map packed part → AreAt first part → Tells m behind → new ≡ map packed (linked_before behind part))
    → ((part behind : List Seen) → old ≡ map packed part → AreAt first part → Tells m behind → Tells n (part ++ behind))
    → now ≡ set lists i new → Chained size seen i now n
chained_more size seen i j first lists now m n d old new j_is low first_is at so old_is value tells now_is =
    let before = pieces_of size seen in
    let after = pieces_of size (linked seen) in
    let part = slice_chunk seen size i in
    let behind = drop ((i + 1) * size) seen in
    let told : Tells m behind = subst (λ (k : ℕ). Tells m (drop (k * size) seen)) j_is so.told in
    let done : lists ≡ take (i + 1) before ++ drop (i + 1) after = subst (λ (k : ℕ). lists ≡ take k before ++ drop k after) j_is so.done in
    let here : i < length before = omega (arith, low, many size seen) in
    let there : i < length after = omega (arith, low, many_linked size seen) in
    let apart : lists ≡ take i before ++ piece_of size seen i ∷ drop (i + 1) after =
    done ∙ ap (λ (l : List (List Slot)). l ++ drop (i + 1) after) ((take_at_read before i d here).1 ∙ ap (λ (p : List Slot). take i before ++ p ∷ []) (one_of size i seen d low))
    ∙ append_assoc (take i before) (piece_of size seen i ∷ []) (drop (i + 1) after) in
    let place : i ≡ length (take i before) = simp (length-take) (omega (arith, here)) in
    let read : old ≡ map packed part = old_is ∙ still size seen i j lists m d j_is low so in
    let numbered = at_chunk size i first seen first_is at in
    let same : div_ceil (length seen) size ≡ div_ceil (length (linked seen)) size = ap (λ (k : ℕ). div_ceil k size) (sym (linked_count seen)) in
    let made : new ≡ get_or after i d =
    value part behind read numbered told ∙ ap (λ (l : List Seen). map packed l) (sym (chunk_linked size i seen)) ∙ sym (one_of size i (linked seen) d (subst (λ (k : ℕ). i < k) same low)) in
    record {
      told = subst (λ (l : List Seen). Tells n l) (chunk_and size i seen) (tells part behind read numbered told);
      done = now_is ∙ ap (λ (l : List (List Slot)). set l i new) apart ∙ write_between (take i before) (drop (i + 1) after) (piece_of size seen i) new i place
          ∙ ap (λ (p : List Slot). take i before ++ p ∷ drop (i + 1) after) made ∙ ap (λ (l : List (List Slot)). take i before ++ l) (sym (drop_more after i d there));
    }

-- after the first piece
pub chained_all : (size : ℕ) (seen : List Seen) (i : ℕ) (lists : List (List Slot)) (m : Firsts) → i ≡ 0 → Chained size seen i lists m → lists ≡ pieces_of size (linked seen)
chained_all size seen i lists m none so = subst (λ (k : ℕ). lists ≡ take k (pieces_of size seen) ++ drop k (pieces_of size (linked seen))) none so.done
