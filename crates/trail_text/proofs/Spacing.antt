-- Words with spaces between them, and the pieces of a line.
use Rattle.std.proofs.Common.{◌≡◌, ◌++◌, ◌∷◌, [], List, ℕ, ◌<◌, ◌≤◌, ◌==◌, ◌^◌, Bool, true, false, ◌&&◌, not, nat_lt, codes, Option, Some, None, append-nil, ap, arith, decimal, refl, sym, ◌∙◌}
use Rattle.std.proofs.lemmas.Bool.Decides.{nat_tests}
use Rattle.std.proofs.lemmas.Fmt.{decimal_is_IsNumeral}
use Rattle.std.proofs.lemmas.Str.Parse.{tells_digits}
use Rattle.std.specs.Str.Parse.{AllDigits}
use Rattle.trail_text.specs.Pieces.{Spells, Without, pieces, with_first}
use Rattle.suri_base.specs.declared.app.App.{App}
use Rattle.suri_base.specs.declared.app.App.TheVariants as app
use Rattle.suri_base.specs.declared.stream.Offer.{Offer}
use Rattle.suri_base.specs.declared.stream.Offer.TheVariants as offer
use Rattle.trail_text.specs.Words.{app_word, behind, offer_word, spaced, truth_word}

-- none of the texts has such a byte
abbrev pub AllWithout : ℕ → List (List ℕ) → Type 0
AllWithout at [] = Unit {0}
AllWithout at (w ∷ ws) = Without at w × AllWithout at ws

pieces_word : (at : ℕ) (w : List ℕ) → Without at w → pieces at w ≡ w ∷ []
pieces_word at [] free = refl
pieces_word at (c ∷ cs) free = let here : (c == at) ≡ false = free.0 in let rest = pieces_word at cs free.1 in rw here (rw rest refl)

pub pieces_cut : (at : ℕ) (w t : List ℕ) → (at == at) ≡ true → Without at w → pieces at (w ++ at ∷ t) ≡ w ∷ pieces at t
pieces_cut at [] t self free = rw self refl
pieces_cut at (c ∷ cs) t self free = let here : (c == at) ≡ false = free.0 in let rest = pieces_cut at cs t self free.1 in rw here (rw rest refl)

-- words without spaces stand apart in their line
pub words_back : (w : List ℕ) (ws : List (List ℕ)) → Without 32 w → AllWithout 32 ws → pieces 32 (spaced (w ∷ ws)) ≡ w ∷ ws
words_back w [] free all = rw append-nil (pieces_word 32 w free)
words_back w (v ∷ vs) free all = pieces_cut 32 w (v ++ behind vs) refl free ∙ ap (λ z. w ∷ z) (words_back v vs all.0 all.1)

spaced_first : (c : ℕ) (ps : List (List ℕ)) → spaced (with_first c ps) ≡ c ∷ spaced ps
spaced_first c [] = refl
spaced_first c (p ∷ ps) = refl

behind_spaced : (c : ℕ) (ps : List (List ℕ)) → behind (with_first c ps) ≡ 32 ∷ spaced (with_first c ps)
behind_spaced c [] = refl
behind_spaced c (p ∷ ps) = refl

behind_pieces : (t : List ℕ) → behind (pieces 32 t) ≡ 32 ∷ spaced (pieces 32 t)
behind_pieces [] = refl
behind_pieces (c ∷ cs) = by_byte (c == 32) refl
  where
    by_byte : (b : Bool) → (c == 32) ≡ b → behind (pieces 32 (c ∷ cs)) ≡ 32 ∷ spaced (pieces 32 (c ∷ cs))
    by_byte true is = rw is refl
    by_byte false is = rw is (behind_spaced c (pieces 32 cs))

space : (c : ℕ) → (c == 32) ≡ true → c ≡ 32
space c is = grind (arith, nat_tests)

-- a line is that of its words
pub line_back : (t : List ℕ) → spaced (pieces 32 t) ≡ t
line_back [] = refl
line_back (c ∷ cs) = by_byte (line_back cs) (c == 32) refl
  where
    by_byte : spaced (pieces 32 cs) ≡ cs → (b : Bool) → (c == 32) ≡ b → spaced (pieces 32 (c ∷ cs)) ≡ c ∷ cs
    by_byte rest true is = rw is (behind_pieces cs ∙ ap (λ z. 32 ∷ z) rest ∙ ap (λ z. z ∷ cs) (sym (space c is)))
    by_byte rest false is = rw is (spaced_first c (pieces 32 cs) ∙ ap (λ z. c ∷ z) rest)

module _ {A : Type 0} (words : A → List (List ℕ)) (Fit : A → Type 0) (back : (a : A) → Fit a → pieces 32 (spaced (words a)) ≡ words a) (line : List ℕ) where
  -- what the words of a line spell, the line spells
  pub spells_line : (r : Option A) → Spells words Fit (pieces 32 line) r → Spells (λ a. spaced (words a)) Fit line r
  spells_line None h = record { some = tt; each = λ a f is. h.each a f (ap (λ t. pieces 32 t) is ∙ back a f) }
  spells_line (Some x) h = record {
    some = (h.some.0, sym (line_back line) ∙ ap (λ w. spaced w) h.some.1);
    each = λ a f is. h.each a f (ap (λ t. pieces 32 t) is ∙ back a f);
  }

-- no digit is a space or a line feed
other : (c at : ℕ) → at < 48 → 48 ≤ c → (c == at) ≡ false
other c at low high = grind (arith, nat_tests)

digits_free : (at : ℕ) (ds : List ℕ) → at < 48 → AllDigits 10 ds → Without at ds
digits_free at [] low p = tt
digits_free at (c ∷ cs) low p = let k = tells_digits.parts c cs p in (other c at low (omega (arith, k.0)), digits_free at cs low k.1)

pub number_free : (at n : ℕ) → at < 48 → n < 2 ^ 64 → Without at (decimal n)
number_free at n low lt = digits_free at (decimal n) low (decimal_is_IsNumeral n lt).0.1

-- whether a text has no such byte
abbrev pub is_free : ℕ → List ℕ → Bool
is_free at [] = true
is_free at (c ∷ cs) = not (c == at) && is_free at cs

pub literal_free : (at : ℕ) (w : List ℕ) → is_free at w ≡ true → Without at w
literal_free at [] h = tt
literal_free at (c ∷ cs) h = by_byte (λ k. literal_free at cs k) (c == at) refl
  where
    by_byte : (is_free at cs ≡ true → Without at cs) → (b : Bool) → (c == at) ≡ b → ((c == at) ≡ false) × Without at cs
    by_byte rest true is = let k : false ≡ true = rw is at h in cc
    by_byte rest false is = (is, rest (rw is at h))

-- whether a text has digits and letters alone, or other bytes from 48 on
abbrev pub is_high : List ℕ → Bool
is_high [] = true
is_high (c ∷ cs) = nat_lt 47 c && is_high cs

-- no such text has a space or a line feed
pub word_free : (at : ℕ) → at < 48 → (w : List ℕ) → is_high w ≡ true → Without at w
word_free at low [] h = tt
word_free at low (c ∷ cs) h = by_byte (λ k. word_free at low cs k) (nat_lt 47 c) refl
  where
    by_byte : (is_high cs ≡ true → Without at cs) → (b : Bool) → nat_lt 47 c ≡ b → ((c == at) ≡ false) × Without at cs
    by_byte rest true is = let high : 48 ≤ c = grind (arith, nat_tests) in (other c at low high, rest (rw is at h))
    by_byte rest false is = let k : false ≡ true = rw is at h in cc

-- no truth value and no name has a space or a line feed
pub truth_free : (at : ℕ) → at < 48 → (b : Bool) → Without at (truth_word b)
truth_free at low false = word_free at low (codes "0") refl
truth_free at low true = word_free at low (codes "1") refl

pub offer_free : (at : ℕ) → at < 48 → (o : Offer) → Without at (offer_word o)
offer_free at low offer.InOrder = word_free at low (codes "inorder") refl
offer_free at low offer.Nothing = word_free at low (codes "nothing") refl
offer_free at low offer.NeedsSegment = word_free at low (codes "needs") refl
offer_free at low offer.Stopped = word_free at low (codes "stopped") refl

pub app_free : (at : ℕ) → at < 48 → (a : App) → Without at (app_word a)
app_free at low app.None = word_free at low (codes "none") refl
app_free at low app.Http = word_free at low (codes "http") refl
app_free at low app.Tls = word_free at low (codes "tls") refl
app_free at low app.Ssh = word_free at low (codes "ssh") refl
app_free at low app.Dns = word_free at low (codes "dns") refl
