-- The parts of one more bucket.
use Rattle.std.proofs.Common.{◌≡◌, ◌++◌, ◌∷◌, [], List, ℕ, ◌+◌, ◌<◌, suc, ap, append_assoc, arith, codes, decimal, get_or, length, map, sym, take, ◌∙◌}
use Rattle.std.proofs.lemmas.List.{length-map, length-take, map_more}
use Rattle.std.proofs.lemmas.Grind.{common_steps, flat_map-append}
use Rattle.suri_base.specs.declared.entry.BucketNote.{BucketNote}
use Rattle.suri_base.specs.declared.entry.Entry.{Entry}
use Rattle.trail_text.specs.Lines.{bucket_parts, ended, part, text_of_lines}
use Rattle.trail_text.specs.Words.{bucket_words}

abbrev History : Type 0
History = List (Entry BucketNote)

-- the part of one bucket
abbrev one : ℕ → History → List (List ℕ)
one number entries = part (codes "bucket" ∷ decimal number ∷ []) bucket_words entries

parts_more : (number place : ℕ) (hs : List History) (h : History) → place ≡ number + length hs
    → bucket_parts number (hs ++ h ∷ []) ≡ bucket_parts number hs ++ one place h
parts_more number place [] h e = let p : place ≡ number = omega arith in rw p (grind (arith, common_steps))
parts_more number place (g ∷ hs) h e = rw (parts_more (suc number) place hs h (omega arith)) (sym (append_assoc (one number g) (bucket_parts (suc number) hs) (one place h)))

texts_more : {X : Type 0} (f : X → History) (xs : List X) (i : ℕ) (x : X) → i < length xs
    → text_of_lines (bucket_parts 0 (map f (take (i + 1) xs))) ≡ text_of_lines (bucket_parts 0 (map f (take i xs))) ++ text_of_lines (one i (f (get_or xs i x)))
texts_more f xs i x lt =
    let e : i ≡ 0 + length (map f (take i xs)) = rw (length-map, length-take) (omega arith) in
    rw (map_more f xs i x lt) (rw (parts_more 0 i (map f (take i xs)) (f (get_or xs i x)) e) (flat_map-append ended (bucket_parts 0 (map f (take i xs))) (one i (f (get_or xs i x)))))

-- what stands behind a text once the part of one more bucket is put there
pub puts_more : {X : Type 0} (f : X → History) (xs : List X) (i : ℕ) (x : X) (new out old : List ℕ) → i < length xs → x ≡ get_or xs i x
    → new ≡ out ++ text_of_lines (one i (f x)) → out ≡ old ++ text_of_lines (bucket_parts 0 (map f (take i xs)))
    → new ≡ old ++ text_of_lines (bucket_parts 0 (map f (take (i + 1) xs)))
puts_more f xs i x new out old lt at e before =
    let q : List ℕ = text_of_lines (bucket_parts 0 (map f (take i xs))) in
    let p : List ℕ = text_of_lines (one i (f x)) in
    let same : text_of_lines (bucket_parts 0 (map f (take (i + 1) xs))) ≡ q ++ p = texts_more f xs i x lt ∙ ap (λ z. q ++ text_of_lines (one i (f z))) (sym at) in
    e ∙ ap (λ z. z ++ p) before ∙ append_assoc old q p ∙ ap (λ z. old ++ z) (sym same)
