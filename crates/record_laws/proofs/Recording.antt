-- A line made of a run is its record by the whole trail. The entry where the run left stands in the whole history too; the run left the bucket of
-- its own first frame, and since then no entry changed its row. So the row that the whole trail tells is the one that the line was made of, and
-- the verdicts at its closes are those on its packets.
use Rattle.std.proofs.Common.{◌≡◌, ℕ, ◌<◌, true, false, not, List, [], ◌∷◌, ◌++◌, map, Some, refl, sym, ◌∙◌, ap, subst}
use Rattle.bucket_laws.proofs.Firsts.{named_by_first}
use Rattle.bucket_laws.proofs.Listing.{bearing_no}
use Rattle.bucket_laws.proofs.Steps.{here_made, made_split}
use Rattle.bucket_laws.proofs.Tests.{both, not_true, or_right}
use Rattle.bucket_rules.proofs.Rowing.{begins}
use Rattle.bucket_rules.proofs.Soundness.{sound}
use Rattle.bucket_rules.specs.Row.{Place, Row, has, is_here, made, row}
use Rattle.bucket_rules.specs.Rule.{IsLegal}
use Rattle.bucket_rules.specs.declared.fixed.Fixed.{Fixed}
use Rattle.flow_object.specs.Line.{line_of}
use Rattle.flow_object.specs.declared.outcome.FlowLine.{FlowLine}
use Rattle.flow_sum.specs.Run.{first_of, oldest_of}
use Rattle.record_laws.proofs.Judging.{judged_when_gone}
use Rattle.role_steps.proofs.Staying.{left_stays}
use Rattle.role_steps.specs.Items.{HasLeft, IsLine, LinesOf, row_then}
use Rattle.run_laws.proofs.Leavers.{made_own}
use Rattle.run_laws.specs.Setting.{IsSetup}
use Rattle.run_rules.specs.Growing.{HasGrown}
use Rattle.run_rules.specs.Histories.{Histories, bucket_at}
use Rattle.run_rules.specs.Lawful.{AreScripted}
use Rattle.run_rules.specs.Runs.{line_in, line_when, row_in, verdicts_on}
use Rattle.run_rules.specs.Setup.{Setup, bucket_by, bucket_for, fixed_at}
use Rattle.suri_base.proofs.Histories.{begins_through}
use Rattle.suri_base.specs.declared.app.App.{App}
use Rattle.suri_base.specs.declared.entry.BucketNote.{BucketNote}
use Rattle.suri_base.specs.declared.entry.Entry.{Entry}
use Rattle.suri_base.specs.declared.facts.Facts.{Facts}

legal_before : (s : Fixed) (since old : List (Entry BucketNote)) → IsLegal s (since ++ old) → IsLegal s old
legal_before s [] old l = l
legal_before s (e ∷ since) old l = legal_before s since old l.1

both_same : {A : Type 0} (x y : A) (xs ys : List A) → x ≡ y → xs ≡ ys → x ∷ xs ≡ y ∷ ys
both_same x y xs ys p q = cc

-- the number of the first of some members
abbrev first_number : List Facts → ℕ
first_number [] = 0
first_number (m ∷ ms) = (oldest_of m ms).no

-- where a run left, by the whole trail
module _ (w : Setup) (t : Histories) (l : AreScripted w t) (a : ℕ) (h : HasLeft w t a) where
  whole_legal : IsLegal (fixed_at w h.bucket) (h.stands.0 ++ h.at ∷ h.past)
  whole_legal = subst (λ (x : List (Entry BucketNote)). IsLegal (fixed_at w h.bucket) x) h.stands.1 (l.legal.buckets h.bucket h.real)

  legal_then : IsLegal (fixed_at w h.bucket) (h.at ∷ h.past)
  legal_then = legal_before (fixed_at w h.bucket) h.stands.0 (h.at ∷ h.past) whole_legal

  went : (is_here (row (fixed_at w h.bucket) a h.past) ≡ true) × (is_here (row_then w t a h) ≡ false)
  went = let z = both (is_here (row (fixed_at w h.bucket) a h.past)) (not (is_here (row_then w t a h))) h.left in (z.0, not_true (is_here (row_then w t a h)) z.1)

  began_then : has (made (h.at ∷ h.past)) a ≡ true
  began_then =
      made_split h.at.note (made h.past) a
      ∙ or_right (begins h.at.note a) (has (made h.past) a) (here_made (fixed_at w h.bucket) h.past a (sound (fixed_at w h.bucket) h.past legal_then.1) went.0)

  its_bucket : bucket_for w a ≡ h.bucket
  its_bucket = let o = made_own (fixed_at w h.bucket) (h.at ∷ h.past) a legal_then began_then in ap (λ o. bucket_by w.layout.rows o) o.bears ∙ o.bucket

  stays : row (fixed_at w h.bucket) a (bucket_at h.bucket t.buckets) ≡ row_then w t a h
  stays = left_stays w t a h (l.legal.buckets h.bucket h.real)

  row_is : row_in w t a ≡ row_then w t a h
  row_is = ap (λ (b : ℕ). row (fixed_at w b) a (bucket_at b t.buckets)) its_bucket ∙ stays

  judged_then : IsSetup w → (row_then w t a h).judged ≡ verdicts_on w.capture.bytes (row_then w t a h).members
  judged_then d = subst (λ (v : Row). v.judged ≡ verdicts_on w.capture.bytes v.members) stays
      (judged_when_gone w t d l h.bucket h.real a (subst (λ (v : Row). is_here v ≡ false) (sym stays) went.1))

module _ (w : Setup) (seen t : Histories) (g : HasGrown seen t) where
  -- what was seen stands in the whole trail
  abbrev left_too : (a : ℕ) → HasLeft w seen a → HasLeft w t a
  left_too a h = record {
    bucket = h.bucket;
    real = subst (λ (n : ℕ). h.bucket < n) (sym g.rows) h.real;
    at = h.at;
    past = h.past;
    stands = begins_through (h.at ∷ h.past) (bucket_at h.bucket seen.buckets) (bucket_at h.bucket t.buckets) h.stands (g.buckets h.bucket h.real);
    left = h.left;
  }

  pub lines_grow : (runs : List ℕ) (lines : List FlowLine) → LinesOf w seen runs lines → LinesOf w t runs lines
  lines_grow [] [] i = tt
  lines_grow (a ∷ runs) (x ∷ lines) i = (
    record {
      leaving = left_too a i.0.leaving;
      reason = i.0.reason;
      emergency = i.0.emergency;
      place = i.0.place;
      packets = i.0.packets;
      members = i.0.members;
      is = i.0.is;
    },
    lines_grow runs lines i.1,
  )
  lines_grow [] (x ∷ lines) i = absurd i
  lines_grow (a ∷ runs) [] i = absurd i

module _ (w : Setup) (seen t : Histories) (d : IsSetup w) (l : AreScripted w t) (g : HasGrown seen t) where
  pub line_is : (a : ℕ) (x : FlowLine) → IsLine w seen a x → line_in w t a ≡ Some x
  line_is a x i =
      let h = left_too w seen t g a i.leaving in
      let v = row_then w t a h in
      let judged : v.judged ≡ verdicts_on w.capture.bytes (i.packets.newest ∷ i.packets.older) = judged_then w t l a h d ∙ ap (λ (ms : List Facts). verdicts_on w.capture.bytes ms) i.members in
      ap (λ (r : Row). line_when w r r.members r.place) (row_is w t l a h)
      ∙ (ap (λ (ms : List Facts). line_when w v ms v.place) i.members
      ∙ (ap (λ (p : Place). line_when w v (i.packets.newest ∷ i.packets.older) p) i.place
      ∙ (ap (λ (js : List App). Some (line_of w.layout.depth v.stops w.capture.bytes i.packets js i.reason i.emergency)) (sym judged)
      ∙ ap (λ (y : FlowLine). Some y) (sym i.is))))

  pub number_is : (a : ℕ) (x : FlowLine) → IsLine w seen a x → x.sums.first_no ≡ a
  number_is a x i =
      let h = left_too w seen t g a i.leaving in
      let n = named_by_first (fixed_at w h.bucket) (h.at ∷ h.past) a (legal_then w t l a h) (began_then w t l a h) in
      ap (λ (y : FlowLine). y.sums.first_no) i.is
      ∙ (ap first_number (sym i.members ∙ n.members) ∙ bearing_no w.capture a (first_of n.run) d.capture n.first)

  pub lines_are : (runs : List ℕ) (lines : List FlowLine) → LinesOf w seen runs lines → map (λ a. line_in w t a) runs ≡ map (λ x. Some x) lines
  lines_are [] [] i = refl
  lines_are (a ∷ runs) (x ∷ lines) i = both_same (line_in w t a) (Some x) _ _ (line_is a x i.0) (lines_are runs lines i.1)
  lines_are [] (x ∷ lines) i = absurd i
  lines_are (a ∷ runs) [] i = absurd i

  pub numbers_are : (runs : List ℕ) (lines : List FlowLine) → LinesOf w seen runs lines → map (λ x. x.sums.first_no) lines ≡ runs
  numbers_are [] [] i = refl
  numbers_are (a ∷ runs) (x ∷ lines) i = both_same x.sums.first_no a _ _ (number_is a x i.0) (numbers_are runs lines i.1)
  numbers_are [] (x ∷ lines) i = absurd i
  numbers_are (a ∷ runs) [] i = absurd i
