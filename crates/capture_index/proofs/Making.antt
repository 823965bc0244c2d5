-- Pieces that were made in several threads: what is known of each by its number is known of all.
use Rattle.std.proofs.Common.{◌≡◌, ℕ, zero, suc, ◌+◌, ◌*◌, ◌/◌, ◌<◌, ◌≤◌, List, [], ◌∷◌, refl, ap, sym, ◌∙◌, subst, length, map, Vec, Global, get_or, arith}
use Rattle.std.proofs.Math.Nat.{div-lt_iff_lt-mul, div-mul-le_self, lt-div-mul-add}
use Rattle.std.proofs.lemmas.List.{length-map}
use Rattle.std.specs.List.{range_with_len}
use Rattle.std.specs.Prelude.{IfOk, OnOk, Result, Ok}
use Rattle.suri_base.specs.declared.frame.Frame.{Frame}
use Rattle.suri_base.specs.declared.seen.Seen.{Seen}
use Rattle.capture_index.specs.Decode.{AreRead}

-- pieces of which each is what its number says, from one number on
pub made_from : {X E : Type 0} (f : ℕ → List X) (begin : ℕ) (pieces : List (Vec X Global)) → ((i : ℕ) (d : Result (Vec X Global) E) → i < length pieces → IfOk (get_or (map Ok pieces) i d) (λ v. v.items ≡ f (begin + i)))
    → map (λ p. p.items) pieces ≡ map f (range_with_len begin (length pieces))
made_from f begin [] each = refl
made_from {X = X} {E = E} f begin (piece ∷ pieces) each =
    let here : begin + 0 ≡ begin = omega arith in
    let first : piece.items ≡ f begin = subst (λ (n : ℕ). piece.items ≡ f n) here (each 0 (Ok piece) (omega arith)) in
    ap (λ (l : List X). l ∷ map (λ p. p.items) pieces) first
    ∙ ap (λ (l : List (List X)). f begin ∷ l)
    (made_from {X = X} {E = E} f (begin + 1) pieces (λ i d low.
    let e : begin + suc i ≡ begin + 1 + i = omega arith in
    subst (λ (n : ℕ). IfOk (get_or (map Ok pieces) i d) (λ v. v.items ≡ f n)) e (each (suc i) d (omega (arith, low)))))

-- pieces of which each was made as its number says
pub made_all : {X E : Type 0} (f : ℕ → List X) (count : ℕ) (pieces : List (Vec X Global)) (made : List (Result (Vec X Global) E)) → map Ok pieces ≡ made → length made ≡ count
    → ((i : ℕ) (d : Result (Vec X Global) E) → i < count → IfOk (get_or made i d) (λ v. v.items ≡ f i)) → map (λ p. p.items) pieces ≡ map f (range_with_len 0 count)
made_all {X = X} {E = E} f count pieces made is many each =
    let same : length pieces ≡ count = sym (length-map pieces Ok) ∙ ap length is ∙ many in
    made_from {X = X} {E = E} f 0 pieces (λ i d low.
    let e : i ≡ 0 + i = omega arith in
    subst (λ (n : ℕ). IfOk (get_or (map Ok pieces) i d) (λ v. v.items ≡ f n)) e
    (subst (λ (l : List (Result (Vec X Global) E)). IfOk (get_or l i d) (λ v. v.items ≡ f i)) (sym is) (each i d (omega (arith, low, same)))))
    ∙ ap (λ (n : ℕ). map f (range_with_len 0 n)) same

-- what comes with a result is so, where all are there
ok_at : {X E : Type 0} (P : Type 0) (xs : List X) (i : ℕ) → i < length xs → ((d : Result X E) → OnOk (get_or (map Ok xs) i d) P) → P
ok_at P [] i low so = absurd (omega (arith, low))
ok_at P (x ∷ xs) zero low so = so (Ok x)
ok_at P (x ∷ xs) (suc i) low so = ok_at P xs i (omega (arith, low)) so

-- what comes with each of the pieces is so, where all were made
pub each_made : {X E : Type 0} (P : ℕ → Type 0) (count : ℕ) (pieces : List X) (made : List (Result X E)) → map Ok pieces ≡ made → length made ≡ count
    → ((i : ℕ) (d : Result X E) → i < count → OnOk (get_or made i d) (P i)) → (i : ℕ) → i < count → P i
each_made {X = X} {E = E} P count pieces made is many each i low =
    let same : length pieces ≡ count = sym (length-map pieces Ok) ∙ ap length is ∙ many in
    ok_at (P i) pieces i (omega (arith, low, same)) (λ (d : Result X E). subst (λ (l : List (Result X E)). OnOk (get_or l i d) (P i)) (sym is) (each i d low))

-- all frames are read where those of each piece are
pub read_by_pieces : (bytes size count : ℕ) (frames : List Frame) (clocks : List ℕ) (seen : List Seen) → 0 < size → length frames ≤ count * size
    → ((i : ℕ) → i < count → AreRead bytes (i * size) (i * size + size) frames clocks seen) → AreRead bytes 0 (length frames) frames clocks seen
read_by_pieces bytes size count frames clocks seen some many each k f c s after before within =
    each (k / size) ((div-lt_iff_lt-mul {x = k} some).1 (omega (arith, within, many))) k f c s (div-mul-le_self k size) (lt-div-mul-add some) within
