-- The row of a run that left its bucket stays as it was.
use Rattle.std.proofs.Common.{◌≡◌, ◌==◌, ℕ, true, not, List, [], ◌∷◌, ◌++◌, ap, subst, ◌∙◌}
use Rattle.bucket_laws.proofs.Staying.{unchanged}
use Rattle.bucket_laws.proofs.Steps.{here_made}
use Rattle.bucket_laws.proofs.Tests.{both, not_true, or_right}
use Rattle.bucket_rules.specs.Row.{after, has, is_here, made, made_by, row}
use Rattle.bucket_rules.specs.Rule.{IsLegal}
use Rattle.bucket_rules.proofs.Soundness.{sound}
use Rattle.role_steps.specs.Items.{HasLeft, row_then}
use Rattle.run_rules.specs.Histories.{Histories, bucket_at}
use Rattle.run_rules.specs.Setup.{Setup, fixed_at}
use Rattle.suri_base.specs.declared.entry.BucketNote.{BucketNote}
use Rattle.suri_base.specs.declared.entry.BucketNote.TheVariants.{Found, Missing, Made, Refused, Stored, Stopped, Closed, Idle, Victim, AllInUse, Swept, Drained}
use Rattle.suri_base.specs.declared.entry.Entry.{Entry}

-- a run that began has begun after one more entry
begun_more : (n : BucketNote) (runs : List ℕ) (a : ℕ) → has runs a ≡ true → has (made_by n runs) a ≡ true
begun_more (Made f said) runs a h = or_right (f == a) (has runs a) h
begun_more (Found f emergency seen run said) runs a h = h
begun_more (Missing f emergency seen ended) runs a h = h
begun_more (Refused f) runs a h = h
begun_more (Stored f) runs a h = h
begun_more (Stopped f) runs a h = h
begun_more (Closed f app run freed ended) runs a h = h
begun_more (Idle f app) runs a h = h
begun_more (Victim f run) runs a h = h
begun_more (AllInUse f count) runs a h = h
begun_more (Swept round emergency seen count) runs a h = h
begun_more (Drained count) runs a h = h

-- so every history that has the entry with which a run left says of the run what that entry says
pub left_stays : (w : Setup) (t : Histories) (run : ℕ) (h : HasLeft w t run) → IsLegal (fixed_at w h.bucket) (bucket_at h.bucket t.buckets)
    → row (fixed_at w h.bucket) run (bucket_at h.bucket t.buckets) ≡ row_then w t run h
left_stays w t run h legal =
    let s = fixed_at w h.bucket in
    let whole = subst (λ (l : List (Entry BucketNote)). IsLegal s l) h.stands.1 legal in
    let went = both (is_here (row s run h.past)) (not (is_here (after s run h.at.note (row s run h.past)))) h.left in
    ap (row s run) h.stands.1
    ∙ unchanged s h.stands.0 (h.at ∷ h.past) run whole
    (begun_more h.at.note (made h.past) run (here_made s h.past run (sound s h.past (behind s h.stands.0 h.at h.past whole)) went.0))
    (not_true (is_here (after s run h.at.note (row s run h.past))) went.1)
  where
    behind : (s : _) (since : List (Entry BucketNote)) (e : Entry BucketNote) (past : List (Entry BucketNote)) → IsLegal s (since ++ e ∷ past) → IsLegal s past
    behind s [] e past l = l.1
    behind s (x ∷ since) e past l = behind s since e past l.1
