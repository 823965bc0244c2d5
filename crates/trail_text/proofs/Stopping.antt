-- What is read at the next line, and where a part stops that a longer one is made of.
use Rattle.std.proofs.Common.{◌≡◌, ◌++◌, ◌∷◌, [], List, ℕ, ◌+◌, None, Some, add-zero, ap, append_assoc, arith, length, length-append, refl, sym, ◌∙◌}
use Rattle.trail_text.specs.Pieces.{Spells}
use Rattle.trail_text.specs.Reading.{Reading, Stops, alone}

abbrev Lines : Type 0
Lines = List (List ℕ)

module _ {V : Type 0} (write : V → List ℕ) (Fit : V → Type 0) (some : V) (fit : Fit some) (old : Reading) where
  -- the next line is missing
  pub missing : (at : ℕ) → at ≡ old.no → old.lines ≡ [] → Stops (alone write) Fit old at
  missing at same is = record {
    done = [];
    left = [];
    lines = is;
    no = same ∙ sym (add-zero old.no);
    before = (some, fit, (write some ∷ [], refl));
    clash = λ v f p q agree e. let k : write v ∷ p ≡ [] = e ∙ agree in cc;
  }

  -- the next line can't stand there
  pub strange : (at : ℕ) → at ≡ old.no → (line : List ℕ) (rest : Lines) → old.lines ≡ line ∷ rest → Spells write Fit line None → Stops (alone write) Fit old at
  strange at same line rest is none = record {
    done = [];
    left = line ∷ rest;
    lines = is;
    no = same ∙ sym (add-zero old.no);
    before = (some, fit, (write some ∷ [], refl));
    clash = λ v f p q agree e.
        let k : write v ∷ p ≡ line ∷ agree.0 = e ∙ agree.1 in
        let l : line ≡ write v = cc in
        let n : None ≡ Some v = none.each v f l in
        cc;
  }

regroup : (a b c d : Lines) → a ++ ((b ++ c) ++ d) ≡ (a ++ b) ++ (c ++ d)
regroup a b c d = ap (λ z. a ++ z) (append_assoc b c d) ∙ sym (append_assoc a b (c ++ d))

module _ {V W : Type 0} (part : V → Lines) (Fit : V → Type 0) (whole : W → Lines) (Whole : W → Type 0) (read : Lines) (old mid : Reading) where
  -- a part stops, and so does the whole that it is a part of
  pub stops_after : (at : ℕ) → old.lines ≡ read ++ mid.lines → mid.no ≡ old.no + length read → Stops part Fit mid at
      → ((v : V) → Fit v → (w : W) × Whole w × ((more : Lines) × (whole w ≡ read ++ (part v ++ more))))
      → ((w : W) → Whole w → (p q : Lines) → whole w ++ p ≡ read ++ q → (v : V) × Fit v × ((more : Lines) × (part v ++ more ≡ q)))
      → Stops whole Whole old at
  stops_after at is same s fill split =
      let b = s.before in
      let f = fill b.0 b.1 in
      record {
        done = read ++ s.done;
        left = s.left;
        lines = is ∙ ap (λ z. read ++ z) s.lines ∙ sym (append_assoc read s.done s.left);
        no = let e = s.no in let l = length-append read s.done in omega (arith, e, same, l);
        before = (f.0, f.1, (b.2.0 ++ f.2.0, f.2.1 ∙ ap (λ z. read ++ (z ++ f.2.0)) b.2.1 ∙ regroup read s.done b.2.0 f.2.0));
        clash = λ w fit p q agree e.
            let k = split w fit p (s.done ++ q) (e ∙ append_assoc read s.done q) in s.clash k.0 k.1 k.2.0 q agree k.2.1;
      }
