-- Every run has an end with its cause: the entry that detached it, in a bucket that is drained in the end, so that a look came at just the
-- next packet of its key. What the entry says of the mode, or of a full pool, the other histories show.
use Rattle.std.proofs.Common.{◌≡◌, ℕ, ◌<◌, true, List, length, sym, subst}
use Rattle.bucket_laws.proofs.Ending.{all_end, has_end}
use Rattle.bucket_laws.proofs.Following.{next_fits, next_looked}
use Rattle.bucket_laws.specs.Draining.{is_drained}
use Rattle.bucket_laws.specs.Ends.{detaches, next_of}
use Rattle.bucket_laws.specs.Places.{At}
use Rattle.bucket_rules.specs.Row.{has, made, row}
use Rattle.bucket_rules.specs.Rule.{IsLegal}
use Rattle.run_laws.proofs.Drained.{drained}
use Rattle.run_laws.proofs.Reading.{missing_read, swept_read}
use Rattle.run_laws.proofs.Refusing.{forced_for}
use Rattle.run_laws.specs.Ends.{HasCause, IsNextAt, IsShown}
use Rattle.run_laws.specs.Setting.{IsSetup}
use Rattle.run_rules.specs.Histories.{Histories, bucket_at}
use Rattle.run_rules.specs.Lawful.{AreScripted}
use Rattle.run_rules.specs.Setup.{Setup, fixed_at}
use Rattle.suri_base.specs.History.{entry}
use Rattle.suri_base.specs.declared.entry.BucketNote.{BucketNote}
use Rattle.suri_base.specs.declared.entry.BucketNote.TheVariants.{AllInUse, Closed, Drained, Found, Idle, Made, Missing, Refused, Stopped, Stored, Swept, Victim}
use Rattle.suri_base.specs.declared.entry.Entry.{Entry}
use Rattle.suri_base.specs.declared.facts.Facts.{Facts}

module _ (w : Setup) (d : IsSetup w) (t : Histories) (l : AreScripted w t) (b : ℕ) (h : b < length t.buckets) where
  legal : IsLegal (fixed_at w b) (bucket_at b t.buckets)
  legal = l.legal.buckets b h

  dry : is_drained (bucket_at b t.buckets) ≡ true
  dry = drained w t l b h

  next_at : (a role step : ℕ) (n : BucketNote) (past : List (Entry BucketNote)) → At (entry role step n) past (bucket_at b t.buckets) → detaches (fixed_at w b) past n a ≡ true
      → IsNextAt n (next_of (row (fixed_at w b) a past).members)
  next_at a role step (Missing f emergency seen ended) past p x =
      next_looked (fixed_at w b) a role step f emergency seen ended past (bucket_at b t.buckets) d.capture legal dry p x
  next_at a role step (Drained count) past p x = next_fits (fixed_at w b) a (bucket_at b t.buckets) d.capture legal (entry role step (Drained count)) past p x
  next_at a role step (Found f emergency seen run said) past p x = tt
  next_at a role step (Made f said) past p x = tt
  next_at a role step (Refused f) past p x = tt
  next_at a role step (Stored f) past p x = tt
  next_at a role step (Stopped f) past p x = tt
  next_at a role step (Closed f app run freed ended) past p x = tt
  next_at a role step (Idle f app) past p x = tt
  next_at a role step (Victim f run) past p x = tt
  next_at a role step (AllInUse f count) past p x = tt
  next_at a role step (Swept round emergency seen count) past p x = tt

  shown_at : (role step : ℕ) (n : BucketNote) (past : List (Entry BucketNote)) → At (entry role step n) past (bucket_at b t.buckets) → IsShown w t role step n
  shown_at role step (Missing f emergency seen ended) past p = missing_read w d t l b h role step f emergency seen ended past p
  shown_at role step (Swept round emergency seen count) past p = swept_read w d t l b h role step round emergency seen count past p
  shown_at role step (Victim f run) past p = forced_for w d t l b h role step f run past p
  shown_at role step (Found f emergency seen run said) past p = tt
  shown_at role step (Made f said) past p = tt
  shown_at role step (Refused f) past p = tt
  shown_at role step (Stored f) past p = tt
  shown_at role step (Stopped f) past p = tt
  shown_at role step (Closed f app run freed ended) past p = tt
  shown_at role step (Idle f app) past p = tt
  shown_at role step (AllInUse f count) past p = tt
  shown_at role step (Drained count) past p = tt

  pub has_cause : (a : ℕ) → has (made (bucket_at b t.buckets)) a ≡ true → HasCause w t b a
  has_cause a m =
      let o = all_end (fixed_at w b) a (bucket_at b t.buckets) legal dry m in
      let e = has_end (fixed_at w b) a o.0 (bucket_at b t.buckets) legal o.1 in
      record {
        off = o.0;
        is_off = o.1;
        end = e;
        next = subst (λ (ms : List Facts). IsNextAt e.note (next_of ms)) (sym e.members) (next_at a e.role e.step e.note e.past e.place e.detaches);
        shown = shown_at e.role e.step e.note e.past e.place;
      }
