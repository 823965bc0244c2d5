-- Which notes answer one call.
use Rattle.std.specs.Prelude.{◌≡◌, ℕ, Bool}
use Rattle.suri_base.specs.declared.app.App.{App}
use Rattle.suri_base.specs.declared.entry.BucketNote.{BucketNote}
use Rattle.suri_base.specs.declared.entry.BucketNote.TheVariants.{Found, Missing, Made, Refused, Stored, Stopped, Closed, Idle, Victim, AllInUse, Swept, Drained}

-- what a role asks of a bucket, without the objects and nodes that it hands in
pub data Asked : Type 0 where
  -- whether a linked run takes the frame, by the table of an emergency or not, where so much was seen of the pool's history
  look : ℕ → Bool → ℕ → Asked
  -- to begin a run with the frame, or to refuse it
  make : ℕ → Asked
  refuse : ℕ → Asked
  -- to store the frame in a node, or to stop its stream for want of one
  store : ℕ → Asked
  stop : ℕ → Asked
  -- to end the frame's use, with the verdict on it
  close : ℕ → App → Asked
  -- to let an unused run go for the frame
  evict : ℕ → Asked
  -- to let the runs go that have expired in the round, or all
  sweep : ℕ → Bool → ℕ → Asked
  drain : Asked

-- the call that a note answers
abbrev pub asked : BucketNote → Asked
asked (Found f emergency seen run said) = look f emergency seen
asked (Missing f emergency seen ended) = look f emergency seen
asked (Made f said) = make f
asked (Refused f) = refuse f
asked (Stored f) = store f
asked (Stopped f) = stop f
asked (Closed f app run freed ended) = close f app
asked (Idle f app) = close f app
asked (Victim f run) = evict f
asked (AllInUse f count) = evict f
asked (Swept round emergency seen count) = sweep round emergency seen
asked (Drained count) = drain

-- two notes answer one call
abbrev pub SameCall : BucketNote → BucketNote → Type 0
SameCall n m = asked n ≡ asked m
