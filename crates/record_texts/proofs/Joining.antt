-- Texts in pieces.
use Rattle.std.proofs.Common.{◌≡◌, ℕ, zero, suc, List, [], ◌∷◌, ◌++◌, length, take, drop, map, refl, sym, ap, ◌∙◌, subst, flat_map, Result, Ok, Err, IfOk, All}
use Rattle.std.specs.Prelude.{Contains, MatchResult}
use Rattle.std.specs.List.{AllZip}
use Rattle.std.proofs.lemmas.Grind.{flat_map-append}
use Rattle.std.proofs.lemmas.List.Elements.{All-cons, All-drop, All-nil, All-take}
use Rattle.rayon.specs.Lists.{chunks_from, chunks_of}

-- what holds of each item holds of each in every piece
all_in_pieces_from : {X : Type 0} (P : X → Type 0) (fuel size : ℕ) (xs : List X) → All P xs → All (λ (piece : List X). All P piece) (chunks_from fuel size xs)
all_in_pieces_from {X} P zero size xs h = All-nil (λ (piece : List X). All P piece)
all_in_pieces_from {X} P (suc n) size [] h = All-nil (λ (piece : List X). All P piece)
all_in_pieces_from {X} P (suc n) size (x ∷ xs) h =
    All-cons (λ (piece : List X). All P piece) (take size (x ∷ xs)) (chunks_from n size (drop size (x ∷ xs))) (All-take P size (x ∷ xs) h)
    (all_in_pieces_from P n size (drop size (x ∷ xs)) (All-drop P size (x ∷ xs) h))

pub all_in_pieces : {X : Type 0} (P : X → Type 0) (size : ℕ) (xs : List X) → All P xs → All (λ (piece : List X). All P piece) (chunks_of size xs)
all_in_pieces P size xs h = all_in_pieces_from P (length xs) size xs h

-- the texts of pieces, one after another, are the text of all items
pub text_of_pieces : {X : Type 0} (f : X → List ℕ) (pieces : List (List X)) → flat_map (flat_map f) pieces ≡ flat_map f (flat_map (λ piece. piece) pieces)
text_of_pieces f [] = refl
text_of_pieces f (p ∷ ps) =
    ap (λ (t : List ℕ). flat_map f p ++ t) (text_of_pieces f ps) ∙ sym (flat_map-append f p (flat_map (λ piece. piece) ps))

-- where each call succeeded, the results are what each was to give
all_made : {V X : Type 0} (E : Type 0) (items : V → List ℕ) (f : X → List ℕ) (xs : List X) (vs : List V)
    → AllZip (λ x (r : Result V E). IfOk r (λ v. items v ≡ f x)) xs (map Ok vs) → flat_map items vs ≡ flat_map f xs
all_made E items f [] [] h = refl
all_made E items f [] (v ∷ vs) h = absurd h
all_made E items f (x ∷ xs) [] h = absurd h
all_made E items f (x ∷ xs) (v ∷ vs) h = λ i. h.0 i ++ all_made E items f xs vs h.1 i

-- what is collected of calls that may fail, if none failed, is what each was to give
pub all_collected : {V W X E : Type 0} (items : V → List ℕ) (list : W → List V) (f : X → List ℕ) (xs : List X) (rs : List (Result V E)) (r : Result W E)
    → AllZip (λ x r. IfOk r (λ v. items v ≡ f x)) xs rs → MatchResult r (λ c. (vs : List V) × (rs ≡ map Ok vs) × (list c ≡ vs)) (λ e. Contains rs (Err e))
    → IfOk r (λ c. flat_map items (list c) ≡ flat_map f xs)
all_collected {V} {W} {X} {E} items list f xs rs (Ok c) each h =
    ap (flat_map items) h.2 ∙ all_made E items f xs h.0 (subst (λ l. AllZip (λ x (r : Result V E). IfOk r (λ v. items v ≡ f x)) xs l) h.1 each)
all_collected items list f xs rs (Err e) each h = tt
