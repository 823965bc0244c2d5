-- Texts that are sent one after another.
use Rattle.std.proofs.Common.{◌≡◌, ℕ, suc, ◌+◌, ◌<◌, List, ◌++◌, length, drop, get_or, flat_map, sym, ap, ◌∙◌, subst, append_assoc, drop-cons, add-one, All}
use Rattle.std.specs.declared.option.Option.{Option}
use Rattle.std.proofs.Math.Seq.{drop-append_seam}
use Rattle.std.proofs.lemmas.Grind.{flat_map-append}
use Rattle.std.proofs.lemmas.List.Elements.{All-drop, All-same}
use Rattle.suri_outside.specs.Bytes.{TakesAllBut, TakesFront}
use Rattle.suri_outside.proofs.Fronts.{front_of_more, sent_front_of_more}

-- the text of the items from one on is its own and that of those behind it
pub item_first : {X : Type 0} (f : X → List ℕ) (xs : List X) (i : ℕ) (x : X) → i < length xs → x ≡ get_or xs i x → flat_map f (drop i xs) ≡ f x ++ flat_map f (drop (i + 1) xs)
item_first f xs i x lt is =
    ap (flat_map f) (drop-cons xs i x lt) ∙ ap (λ y. f y ++ flat_map f (drop (suc i) xs)) (sym is) ∙ ap (λ n. f x ++ flat_map f (drop n xs)) (sym (add-one i))

-- the text of what is left is that of a piece and of what is left behind it
pub piece_first : {X : Type 0} (f : X → List ℕ) (left piece behind : List X) → left ≡ piece ++ behind → flat_map f left ≡ flat_map f piece ++ flat_map f behind
piece_first f left piece behind parts = ap (flat_map f) parts ∙ flat_map-append f piece behind

-- what holds of all that is left holds of what is left behind a piece
pub all_behind : {X : Type 0} (P : X → Type 0) (left piece behind : List X) → left ≡ piece ++ behind → All P left → All P behind
all_behind P left piece behind parts h =
    All-same P behind (drop (length piece) (piece ++ behind)) (sym (drop-append_seam piece behind))
    (All-drop P (length piece) (piece ++ behind) (All-same P (piece ++ behind) left (sym parts) h))

-- a text more, and what is left
pub next_text : (text piece behind left all : List ℕ) → left ≡ piece ++ behind → text ++ left ≡ all → (text ++ piece) ++ behind ≡ all
next_text text piece behind left all parts whole = append_assoc text piece behind ∙ ap (λ (t : List ℕ). text ++ t) (sym parts) ∙ whole

-- where a text could not be sent, a front of all was taken
pub front_of_all : (a b c : Option (List ℕ)) (waiting text piece behind left all : List ℕ) → TakesAllBut a b waiting text → left ≡ piece ++ behind → text ++ left ≡ all
    → TakesFront b c (waiting ++ piece) → TakesFront a c all
front_of_all a b c waiting text piece behind left all sent parts whole front =
    subst (TakesFront a c) (next_text text piece behind left all parts whole)
    (front_of_more a c (text ++ piece) behind (sent_front_of_more a b c waiting text piece sent front))
