-- Why runs end, over a whole run.
use Rattle.std.specs.Prelude.{◌≡◌, ℕ}
use Rattle.suri_base.specs.declared.entry.BucketNote.{BucketNote}
use Rattle.suri_base.specs.declared.entry.BucketNote.TheVariants.{Drained, Missing, Swept, Victim}
use Rattle.bucket_laws.specs.Ends.{HasEnd, next_of}
use Rattle.bucket_rules.specs.Row.{Off, detached, row}
use Rattle.run_laws.specs.Causes.{IsForcedFor, IsRead}
use Rattle.run_rules.specs.Histories.{Histories, bucket_at}
use Rattle.run_rules.specs.Setup.{Setup, fixed_at}

-- what comes next of the key of a run that the entry detached: a look detaches it at just this packet, and a drain after all packets.
-- Of a sweep the entry's own cause tells it
abbrev pub IsNextAt : BucketNote → ℕ → Type 0
IsNextAt (Missing f emergency seen ended) next = next ≡ f
IsNextAt (Drained count) next = next ≡ 0
IsNextAt _ next = Unit {0}

-- what the other histories say of the entry: its table is that of the mode as the role had read it, and a run is evicted where no object was left
abbrev pub IsShown : Setup → Histories → ℕ → ℕ → BucketNote → Type 0
IsShown w t role step (Missing f emergency seen ended) = IsRead t role step emergency seen
IsShown w t role step (Swept round emergency seen count) = IsRead t role step emergency seen
IsShown w t role step (Victim f run) = IsForcedFor w t role step f
IsShown w t role step _ = Unit {0}

-- the end of run a of bucket b: the entry that detached it, why, and what came next of its key
pub record HasCause (w : Setup) (t : Histories) (b a : ℕ) : Type 0 where
  pub off : Off
  pub is_off : (row (fixed_at w b) a (bucket_at b t.buckets)).place ≡ detached off
  pub end : HasEnd (fixed_at w b) a (bucket_at b t.buckets) off
  pub next : IsNextAt end.note (next_of (row (fixed_at w b) a (bucket_at b t.buckets)).members)
  pub shown : IsShown w t end.role end.step end.note
