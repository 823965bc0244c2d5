-- A role may still make its call after an entry of another role.
use Rattle.std.specs.Prelude.{◌≢◌, ℕ, List, ◌∷◌, Some, None}
use Rattle.suri_base.specs.declared.entry.Entry.{Entry}
use Rattle.suri_base.specs.History.{Legal}
use Rattle.bucket_rules.specs.declared.fixed.Fixed.{Fixed}
use Rattle.suri_base.specs.declared.entry.BucketNote.{BucketNote}
use Rattle.bucket_rules.proofs.Lasting.{fresh_other, awaits_other, open_other, owes_other_is, closed_other}
use Rattle.flow_bucket.specs.Stands.{BucketMay, BucketAnswers}
use Rattle.flow_bucket.specs.declared.calls.BucketCall.{BucketCall}
use Rattle.flow_bucket.specs.declared.calls.BucketCall.TheVariants as call

pub may_stays : (s : Fixed) (role : ℕ) (past : List (Entry BucketNote)) (e : Entry BucketNote) (a : BucketCall) → e.role ≢ role
    → Legal (BucketMay s) (BucketAnswers s) (e ∷ past) → BucketMay s role past a → BucketMay s role (e ∷ past) a
may_stays s role past e (call.Look f emergency seen) other legal may = record { own = may.own; fresh = fresh_other role e past other f may.fresh; settled = owes_other_is role e past other None may.settled }
may_stays s role past e (call.Make f obj) other legal may = (awaits_other role e past other f may.0, may.1, may.2)
may_stays s role past e (call.Refuse f) other legal may = awaits_other role e past other f may
may_stays s role past e (call.Segment f None) other legal may = owes_other_is role e past other (Some f) may
may_stays s role past e (call.Segment f (Some node)) other legal may = (owes_other_is role e past other (Some f) may.0, may.1)
may_stays s role past e (call.Close f app) other legal may = record { answered = open_other role e past other f may.answered; settled = owes_other_is role e past other None may.settled }
may_stays s role past e (call.Evict f) other legal may = record { worker = may.worker; settled = owes_other_is role e past other None may.settled }
may_stays s role past e (call.Sweep round emergency seen) other legal may = may
may_stays s role past e call.Drain other legal may = record { end = may.end; done = λ f t b k. closed_other role e past other f (may.done f t b k) }
