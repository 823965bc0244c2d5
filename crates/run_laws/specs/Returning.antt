-- What gets an object gives it back, after the run left its bucket.
use Rattle.std.specs.Prelude.{◌≡◌, ℕ, ◌<◌, ◌≤◌, true, List, length}
use Rattle.suri_base.specs.History.{entry}
use Rattle.suri_base.specs.declared.entry.BucketNote.{BucketNote}
use Rattle.suri_base.specs.declared.entry.Entry.{Entry}
use Rattle.bucket_laws.specs.Places.{At}
use Rattle.bucket_rules.specs.Row.{lets_go}
use Rattle.flow_pool.specs.Counting.{flows_out}
use Rattle.run_laws.specs.Counts.{gets, gives, made_in, node_took, nodes_given, tally}
use Rattle.run_rules.specs.Histories.{Histories, bucket_at}
use Rattle.run_rules.specs.Setup.{Setup, ender, fixed_at, recycler}

-- each run gets its object once and gives it back once, no other number is named, and in the end no flow is out. As many nodes were given as taken
pub record AreReturned (t : Histories) : Type 0 where
  pub once : (a : ℕ) → made_in t a ≤ 1
  pub got : (a : ℕ) → tally (gets a) t.pool ≡ made_in t a
  pub given : (a : ℕ) → tally (gives a) t.pool ≡ made_in t a
  pub none_out : flows_out t.pool ≡ 0
  pub nodes : tally node_took t.segments ≡ tally nodes_given t.segments

-- the role let the run go, at a step before this one
pub record HasLetGo (w : Setup) (t : Histories) (role step a : ℕ) : Type 0 where
  pub bucket : ℕ
  pub real : bucket < length t.buckets
  pub at_step : ℕ
  pub note : BucketNote
  pub past : List (Entry BucketNote)
  pub place : At (entry role at_step note) past (bucket_at bucket t.buckets)
  pub left : lets_go (fixed_at w bucket) past note a ≡ true
  pub earlier : at_step < step

-- who gives the object of a run back at this step: the role that had let the run go, or one of the two that finish what others let go
pub data IsGivenBack (w : Setup) (t : Histories) (role step a : ℕ) : Type 0 where
  by_itself : HasLetGo w t role step a → IsGivenBack w t role step a
  by_recycler : role ≡ recycler w → IsGivenBack w t role step a
  by_end : role ≡ ender w → IsGivenBack w t role step a
