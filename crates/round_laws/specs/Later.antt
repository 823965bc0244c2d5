-- What is given back after a round had left its bucket in that round.
use Rattle.std.specs.Prelude.{◌≡◌, ℕ, suc, ◌<◌, true, List, length}
use Rattle.bucket_laws.specs.Places.{At}
use Rattle.bucket_rules.specs.Row.{lets_go}
use Rattle.round_laws.specs.Cuts.{IsInRounds}
use Rattle.round_laws.specs.Rising.{round_in}
use Rattle.run_rules.specs.Acts.{Act}
use Rattle.run_rules.specs.Histories.{Histories, bucket_at}
use Rattle.run_rules.specs.Lawful.{AreScripted}
use Rattle.run_rules.specs.Setup.{Setup, ender, fixed_at, recycler, rounds}
use Rattle.step_laws.specs.Leaving.{HasDrained}
use Rattle.suri_base.specs.History.{Begins, entry}
use Rattle.suri_base.specs.declared.entry.BucketNote.{BucketNote}
use Rattle.suri_base.specs.declared.entry.Entry.{Entry}
use Rattle.suri_base.specs.declared.entry.PoolNote.{PoolNote}
use Rattle.suri_base.specs.declared.entry.PoolNote.TheVariants.{Put}

-- the run was let go by an entry of these histories
pub record HasGone (w : Setup) (t : Histories) (run : ℕ) : Type 0 where
  pub bucket : ℕ
  pub real : bucket < length t.buckets
  pub role : ℕ
  pub step : ℕ
  pub note : BucketNote
  pub past : List (Entry BucketNote)
  pub place : At (entry role step note) past (bucket_at bucket t.buckets)
  pub left : lets_go (fixed_at w bucket) past note run ≡ true

-- the recycler gave the object back in the round after so many, behind all that was done with the pool in these; and the run had gone in the last of them
pub record IsPutLater (w : Setup) (t : Histories) (acts : ℕ → List Act) (i : IsInRounds w t acts) (step run : ℕ) (past : List (Entry PoolNote)) : Type 0 where
  pub round : ℕ
  pub within : round < rounds w
  pub gone : HasGone w (i.cuts.cut round) run
  pub in_last : suc (round_in w gone.note) ≡ round
  pub behind : Begins (i.cuts.cut round).pool past
  pub in_next : At (entry (recycler w) step (Put run)) past (i.cuts.cut (suc round)).pool

-- a run whose object the end role gives back had gone in the last round, or the end role drained it at an earlier step
pub data HasGoneBefore (w : Setup) (t last : Histories) (step run : ℕ) : Type 0 where
  in_last_round : (g : HasGone w last run) → suc (round_in w g.note) ≡ rounds w → HasGoneBefore w t last step run
  by_drain : HasDrained w t step run → HasGoneBefore w t last step run

-- each object that the recycler or the end role gives back is that of a run which had gone in the round before, or which the end role drained
pub record ArePutLater (w : Setup) (t : Histories) (l : AreScripted w t) (i : IsInRounds w t l.acts) : Type 0 where
  pub recycler : (step run : ℕ) (past : List (Entry PoolNote)) → At (entry (recycler w) step (Put run)) past t.pool → IsPutLater w t l.acts i step run past
  -- the end role gives back behind all that was done with the pool in the rounds
  pub end : (step run : ℕ) (past : List (Entry PoolNote)) → At (entry (ender w) step (Put run)) past t.pool
      → HasGoneBefore w t i.last step run × Begins i.last.pool past
