-- Texts and their lines.
use Rattle.std.proofs.Common.{◌≡◌, ◌≢◌, ◌++◌, ◌∷◌, [], List, ℕ, ◌+◌, ◌-◌, ◌<◌, ◌≤◌, ◌==◌, Bool, true, false, ap, arith, drop, get_or, length, refl, suc, sym, take, zero, ◌∙◌}
use Rattle.std.proofs.lemmas.Bool.Decides.{nat_tests}
use Rattle.trail_text.specs.Faults.{but_last, whole_lines}
use Rattle.trail_text.specs.Lines.{text_of_lines}
use Rattle.trail_text.specs.Pieces.{pieces, with_first}
use Rattle.trail_text.specs.Reading.{last_piece}
use Rattle.trail_text.proofs.Cuts.{left_last, left_next, some}

-- a piece more in front
front : (p : List ℕ) (ps : List (List ℕ)) → ps ≢ [] → (but_last (p ∷ ps) ≡ p ∷ but_last ps) × (last_piece (p ∷ ps) ≡ last_piece ps)
front p [] n = absurd (n refl)
front p (q ∷ qs) n = (refl, refl)

-- where no line feed is left, no line is
pub no_line : (t : List ℕ) → ((k : ℕ) → 0 ≤ k → k < length t → (get_or t k 0 == 10) ≡ true → ⊥) → whole_lines t ≡ []
no_line t none = ap (λ ps. but_last ps) (left_last false 10 t refl none)

-- else the next line ends at the first one
pub next_line : (t : List ℕ) (k : ℕ) → k < length t → (get_or t k 0 == 10) ≡ true → ((j : ℕ) → 0 ≤ j → j < k → (get_or t j 0 == 10) ≡ true → ⊥)
    → (whole_lines t ≡ take k t ∷ whole_lines (take (length t - (k + 1)) (drop (k + 1) t)))
    × (last_piece (pieces 10 (take (length t - (k + 1)) (drop (k + 1) t))) ≡ last_piece (pieces 10 t))
next_line t k lt is none =
    let r : List ℕ = take (length t - (k + 1)) (drop (k + 1) t) in
    let e : pieces 10 t ≡ take k t ∷ pieces 10 r = left_next false 10 t k refl lt is none in
    let f = front (take k t) (pieces 10 r) (some 10 r) in
    (ap (λ ps. but_last ps) e ∙ f.0, sym (ap (λ ps. last_piece ps) e ∙ f.1))

-- the text of pieces, with a line feed after each but the last

abbrev glue : List (List ℕ) → List ℕ
glue ps = text_of_lines (but_last ps) ++ last_piece ps

glue_first : (c : ℕ) (ps : List (List ℕ)) → ps ≢ [] → glue (with_first c ps) ≡ c ∷ glue ps
glue_first c [] n = absurd (n refl)
glue_first c (p ∷ []) n = refl
glue_first c (p ∷ q ∷ qs) n = refl

glue_feed : (ps : List (List ℕ)) → ps ≢ [] → glue ([] ∷ ps) ≡ 10 ∷ glue ps
glue_feed [] n = absurd (n refl)
glue_feed (q ∷ qs) n = refl

feed : (c : ℕ) → (c == 10) ≡ true → c ≡ 10
feed c is = grind (arith, nat_tests)

-- a text is that of its lines, and of what stands behind them
pub text_back : (t : List ℕ) → text_of_lines (whole_lines t) ++ last_piece (pieces 10 t) ≡ t
text_back [] = refl
text_back (c ∷ cs) = by_byte (text_back cs) (c == 10) refl
  where
    by_byte : text_of_lines (whole_lines cs) ++ last_piece (pieces 10 cs) ≡ cs → (b : Bool) → (c == 10) ≡ b → glue (pieces 10 (c ∷ cs)) ≡ c ∷ cs
    by_byte rest true is = rw is (glue_feed (pieces 10 cs) (some 10 cs) ∙ ap (λ z. 10 ∷ z) rest ∙ ap (λ z. z ∷ cs) (sym (feed c is)))
    by_byte rest false is = rw is (glue_first c (pieces 10 cs) (some 10 cs) ∙ ap (λ z. c ∷ z) rest)

-- a text is empty where it has no line and nothing behind its lines
pub empty : (t : List ℕ) → whole_lines t ≡ [] → last_piece (pieces 10 t) ≡ [] → t ≡ []
empty t lines tail = sym (text_back t) ∙ ap (λ ls. text_of_lines ls ++ last_piece (pieces 10 t)) lines ∙ tail

first_few : (c : ℕ) (ps : List (List ℕ)) (n : ℕ) → length ps ≤ suc n → length (with_first c ps) ≤ suc n
first_few c [] n le = omega arith
first_few c (p ∷ ps) n le = le

pieces_few : (t : List ℕ) → length (pieces 10 t) ≤ suc (length t)
pieces_few [] = omega arith
pieces_few (c ∷ cs) = by_byte (pieces_few cs) (c == 10) refl
  where
    by_byte : length (pieces 10 cs) ≤ suc (length cs) → (b : Bool) → (c == 10) ≡ b → length (pieces 10 (c ∷ cs)) ≤ suc (suc (length cs))
    by_byte rest true is = rw is (omega (arith, rest))
    by_byte rest false is = rw is (first_few c (pieces 10 cs) (suc (length cs)) (omega (arith, rest)))

but_last_few : (ps : List (List ℕ)) (n : ℕ) → length ps ≤ suc n → length (but_last ps) ≤ n
but_last_few [] n le = omega arith
but_last_few (p ∷ []) n le = omega arith
but_last_few (p ∷ q ∷ qs) zero le = absurd (omega (arith, le))
but_last_few (p ∷ q ∷ qs) (suc n) le = let rest = but_last_few (q ∷ qs) n (omega (arith, le)) in omega (arith, rest)

-- a text has at most as many lines as bytes
pub few_lines : (t : List ℕ) → length (whole_lines t) ≤ length t
few_lines t = but_last_few (pieces 10 t) (length t) (pieces_few t)
