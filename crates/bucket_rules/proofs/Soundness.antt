-- Every legal history of a bucket is sound, by induction on its entries. Each of the facts has a file of its own, by cases on the newest entry.
use Rattle.std.proofs.Common.{ℕ, List, [], ◌∷◌, refl}
use Rattle.suri_base.specs.History.{entry}
use Rattle.suri_base.specs.declared.entry.BucketNote.{BucketNote}
use Rattle.suri_base.specs.declared.entry.Entry.{Entry}
use Rattle.bucket_rules.specs.declared.fixed.Fixed.{Fixed}
use Rattle.bucket_rules.specs.Rule.{Rule, IsLegal}
use Rattle.bucket_rules.specs.Sound.{IsSound}
use Rattle.bucket_rules.proofs.Beginning.{one_after, begun_after, once_after, borne_after}
use Rattle.bucket_rules.proofs.Waiting.{waits_after, fresh_after}
use Rattle.bucket_rules.proofs.Opening.{opened_after}
use Rattle.bucket_rules.proofs.Using.{uses_are}
use Rattle.bucket_rules.proofs.Newest.{newest_after}
use Rattle.bucket_rules.proofs.Settling.{owing_after, asking_after}

pub sound_after : (s : Fixed) (past : List (Entry BucketNote)) (r step : ℕ) (n : BucketNote) → IsSound s past → Rule s past r n → IsSound s (entry r step n ∷ past)
sound_after s past r step n snd rule = record {
  one = one_after s past r n snd rule;
  begun = begun_after s past r n snd rule;
  once = once_after s past r n snd rule;
  borne = borne_after s past r n snd rule;
  waits = waits_after s past r step n snd rule;
  fresh = fresh_after s past r step n snd rule;
  opened = opened_after s past r step n snd rule;
  uses = uses_are s past r step n snd rule;
  newest = newest_after s past r step n snd rule;
  owing = owing_after s past r step n snd rule;
  asking = asking_after s past r step n snd rule;
}

pub sound_empty : (s : Fixed) → IsSound s []
sound_empty s = record {
  one = λ a b k la ka lb kb. cc;
  begun = λ a h. refl;
  once = tt;
  borne = λ a h. cc;
  waits = λ r f h. cc;
  fresh = λ r f p h. record { unmade = refl; unused = λ a. refl; unclosed = refl; unrefused = refl };
  opened = λ r f h. cc;
  uses = λ a f h. cc;
  newest = λ a. tt;
  owing = λ r f h. cc;
  asking = λ w a h. cc;
}

pub sound : (s : Fixed) (past : List (Entry BucketNote)) → IsLegal s past → IsSound s past
sound s [] h = sound_empty s
sound s (e ∷ past) h = sound_after s past e.role e.step e.note (sound s past h.1) h.0
