-- What a role may do next.
use Rattle.std.specs.Prelude.{◌≡◌, ℕ, ◌<◌, true, List, length, Some}
use Rattle.suri_base.specs.declared.entry.BucketNote.{BucketNote}
use Rattle.suri_base.specs.declared.entry.Entry.{Entry}
use Rattle.bucket_rules.specs.Fixing.{Asked, asked, close, drain, evict, look, make, refuse, stop, store, sweep}
use Rattle.bucket_rules.specs.Own.{awaits, owes}
use Rattle.bucket_rules.specs.Rule.{MayClose, MayDrain, MayEvict, MayLook, MaySweep}
use Rattle.bucket_rules.specs.declared.fixed.Fixed.{Fixed}
use Rattle.run_rules.specs.Acts.{Act, on_bucket, on_pool, on_segments}
use Rattle.run_rules.specs.Histories.{Histories, bucket_at}
use Rattle.run_rules.specs.Setup.{Setup, fixed_at}

-- what a role may ask of a bucket after a history
abbrev pub MayAsk : Fixed → List (Entry BucketNote) → ℕ → Asked → Type 0
MayAsk s past role (look f emergency seen) = MayLook s past role f
MayAsk s past role (make f) = awaits role f past ≡ true
MayAsk s past role (refuse f) = awaits role f past ≡ true
MayAsk s past role (store f) = owes role past ≡ Some f
MayAsk s past role (stop f) = owes role past ≡ Some f
MayAsk s past role (close f app) = MayClose past role f
MayAsk s past role (evict f) = MayEvict s past role
MayAsk s past role (sweep round emergency seen) = MaySweep s role round
MayAsk s past role drain = MayDrain s past role

-- the call that an act answers may be made: its bucket is one of those that there are, and may be asked. The two pools ask nothing of their
-- histories
abbrev pub MayAct : Setup → Histories → ℕ → Act → Type 0
MayAct w t role (on_bucket b n left) = (b < length t.buckets) × MayAsk (fixed_at w b) (bucket_at b t.buckets) role (asked n)
MayAct w t role (on_pool n i) = Unit {0}
MayAct w t role (on_segments n) = Unit {0}
