-- Where a text is outside the grammar, and that it tells its trail.
use Rattle.std.proofs.Common.{◌≡◌, ◌++◌, ◌∷◌, [], List, ℕ, ◌+◌, ◌-◌, ◌≤◌, suc, zero, ap, append_assoc, append-nil, arith, length, length-append, refl, subst, sym, take, ◌∙◌}
use Rattle.suri_base.specs.Trail.{Trailed}
use Rattle.trail_text.specs.declared.fault.TrailFault.{TrailFault}
use Rattle.trail_text.specs.declared.fault.TrailFault.TheVariants as fault
use Rattle.trail_text.specs.Bounds.{IsWithin}
use Rattle.trail_text.specs.Faults.{CanStand, IsFault, IsFaultAt, whole_lines}
use Rattle.trail_text.specs.Lines.{text_of_lines, text_of_trail, trail_lines}
use Rattle.trail_text.specs.Pieces.{pieces}
use Rattle.trail_text.specs.Reading.{Agree, Faulty, Reading, Stops, Took, last_piece}
use Rattle.trail_text.proofs.Feeds.{text_back}
use Rattle.trail_text.proofs.Free.{trail_free, whole_back}

abbrev Lines : Type 0
Lines = List (List ℕ)

-- as many as the first ones
take_front : (k : ℕ) (a b : Lines) → k ≡ length a → take k (a ++ b) ≡ a
take_front zero [] b e = refl
take_front (suc k) [] b e = absurd (omega (arith, e))
take_front zero (x ∷ a) b e = absurd (omega (arith, e))
take_front (suc k) (x ∷ a) b e = ap (λ z. x ∷ z) (take_front k a b (omega (arith, e)))

-- one more line is the next one
take_next : (k : ℕ) (a : Lines) (x : List ℕ) (r : Lines) → k ≡ length a + 1 → take k (a ++ x ∷ r) ≡ a ++ x ∷ []
take_next k a x r e =
    let l = length-append a (x ∷ []) in
    ap (λ z. take k z) (sym (append_assoc a (x ∷ []) r)) ∙ take_front k (a ++ x ∷ []) r (omega (arith, l, e))

agree_self : (left : Lines) → Agree left left
agree_self [] = refl
agree_self (x ∷ r) = (r, refl)

-- the lines of a text that a trail has
told : (text : List ℕ) (u : Trailed) → IsWithin u → text_of_trail u ≡ text → (whole_lines text ≡ trail_lines u) × (last_piece (pieces 10 text) ≡ [])
told text u fit is =
    let w = whole_back (trail_lines u) (trail_free u fit) in
    (ap (λ t. whole_lines t) (sym is) ∙ w.0, ap (λ t. last_piece (pieces 10 t)) (sym is) ∙ w.1)

-- the reading of a text as it begins
abbrev begin : List ℕ → Reading
begin text = record { lines = whole_lines text; tail = last_piece (pieces 10 text); no = 1 }

-- with the next line nothing can stand there
next_stands : (text : List ℕ) (at : ℕ) (done left : Lines) → whole_lines text ≡ done ++ left → at ≡ 1 + length done → at ≤ length (whole_lines text)
    → ((t : Trailed) → IsWithin t → (x : List ℕ) (r more : Lines) → left ≡ x ∷ r → trail_lines t ≡ done ++ x ∷ more → ⊥) → CanStand (take at (whole_lines text)) → ⊥
next_stands text at done [] is same le none can =
    let l = ap (λ z. length z) is in let m = length-append done [] in omega (arith, l, m, same, le)
next_stands text at done (x ∷ r) is same le none can =
    none can.0 can.1 x r can.2.0 refl (
    can.2.1 ∙ ap (λ z. z ++ can.2.0) (ap (λ z. take at z) is ∙ take_next at done x r (omega (arith, same))) ∙ append_assoc done (x ∷ []) can.2.0
    )

stop_at : (text : List ℕ) (at : ℕ) → Stops trail_lines IsWithin (begin text) at → IsFaultAt text at
stop_at text at s =
    let whole : Lines = whole_lines text in
    let l = ap (λ z. length z) s.lines in
    let m = length-append s.done s.left in
    let same : at ≡ 1 + length s.done = s.no in
    let e : take (at - 1) whole ≡ s.done = ap (λ z. take (at - 1) z) s.lines ∙ take_front (at - 1) s.done s.left (omega (arith, same)) in
    record {
      from_one = omega (arith, same);
      within = omega (arith, same, l, m);
      before = (s.before.0, s.before.1, (s.before.2.0, s.before.2.1 ∙ ap (λ z. z ++ s.before.2.0) (sym e)));
      there = λ le can. next_stands text at s.done s.left s.lines same le (
          λ t fit x r more left is.
          s.clash t fit [] (x ∷ more) (subst (λ z. Agree z (x ∷ more)) (sym left) (more, refl)) (append-nil (trail_lines t) ∙ is)
          ) can;
      no_text = λ t fit is.
          s.clash t fit [] s.left (agree_self s.left) (append-nil (trail_lines t) ∙ sym ((told text t fit is).0) ∙ s.lines);
    }

-- where the trail stops, so does its text
pub stop_fault : (text : List ℕ) (f : TrailFault) → Faulty trail_lines IsWithin (begin text) f → IsFault text f
stop_fault text (fault.Line at) s = stop_at text at s
stop_fault text fault.NoMemory s = tt

module _ (text : List ℕ) (end : Reading) (t : Trailed) (h : Took trail_lines IsWithin (begin text) end t) where
  alike : (u : Trailed) → IsWithin u → text_of_trail u ≡ text → (u ≡ t) × ([] ≡ end.lines)
  alike u fit is = h.tells u fit [] end.lines (append-nil (trail_lines u) ∙ sym ((told text u fit is).0) ∙ h.lines)

  -- a text with more than a trail's lines is outside the grammar
  pub end_fault : ((end.lines ≡ []) × (end.tail ≡ []) → ⊥) → IsFaultAt text end.no
  end_fault more =
      let whole : Lines = whole_lines text in
      let done : Lines = trail_lines t in
      let l = ap (λ z. length z) h.lines in
      let m = length-append done end.lines in
      let same : end.no ≡ 1 + length done = h.no in
      let e : take (end.no - 1) whole ≡ done = ap (λ z. take (end.no - 1) z) h.lines ∙ take_front (end.no - 1) done end.lines (omega (arith, same)) in
      record {
        from_one = omega (arith, same);
        within = omega (arith, same, l, m);
        before = (t, h.fit, ([], sym (append-nil (take (end.no - 1) whole) ∙ e)));
        there = λ le can. next_stands text end.no done end.lines h.lines same le (
            λ u fit x r rest left is. let k = h.tells u fit [] (x ∷ rest) (append-nil (trail_lines u) ∙ is) in let n : [] ≡ x ∷ rest = k.1 in cc
            ) can;
        no_text = λ u fit is. more (sym ((alike u fit is).1), h.tail ∙ (told text u fit is).1);
      }

  -- a text with nothing more is that of the trail
  pub end_text : (end.lines ≡ []) → (end.tail ≡ []) → text_of_trail t ≡ text
  end_text lines tail =
      let whole : whole_lines text ≡ trail_lines t = h.lines ∙ ap (λ z. trail_lines t ++ z) lines ∙ append-nil (trail_lines t) in
      let last : last_piece (pieces 10 text) ≡ [] = sym h.tail ∙ tail in
      sym (append-nil (text_of_lines (trail_lines t))) ∙ ap (λ z. text_of_lines z ++ []) (sym whole) ∙ ap (λ z. text_of_lines (whole_lines text) ++ z) (sym last) ∙ text_back text

  -- and of no other one
  pub end_only : (u : Trailed) → IsWithin u → text_of_trail u ≡ text → u ≡ t
  end_only u fit is = (alike u fit is).0
