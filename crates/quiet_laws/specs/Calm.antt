-- Entries of a bucket in a run that never was short of an object or of a node.
use Rattle.std.specs.Prelude.{◌≡◌, Bool, true, false, not, All, List}
use Rattle.suri_base.specs.declared.entry.BucketNote.{BucketNote}
use Rattle.suri_base.specs.declared.entry.BucketNote.TheVariants.{Found, Missing, Refused, Stopped, Victim, Swept}
use Rattle.suri_base.specs.declared.entry.Entry.{Entry}

-- the entry goes by the normal table, and neither refuses a packet, stops a stream nor evicts a run
abbrev pub is_calm : BucketNote → Bool
is_calm (Found f emergency seen run said) = not emergency
is_calm (Missing f emergency seen ended) = not emergency
is_calm (Swept round emergency seen count) = not emergency
is_calm (Refused f) = false
is_calm (Stopped f) = false
is_calm (Victim f run) = false
is_calm _ = true

-- every entry of a bucket's history is so
abbrev pub IsCalm : List (Entry BucketNote) → Type 0
IsCalm history = All (λ (e : Entry BucketNote). is_calm e.note ≡ true) history
