-- Where the object of a run goes after the run left its bucket, and in which round.
use Rattle.std.specs.Prelude.{◌≡◌, ℕ, suc, ◌<◌, ◌≤◌, true, List, length}
use Rattle.bucket_laws.specs.Places.{At}
use Rattle.bucket_rules.specs.Row.{lets_go}
use Rattle.round_laws.specs.Cuts.{IsInRounds}
use Rattle.round_laws.specs.Later.{HasGone}
use Rattle.round_laws.specs.Rising.{round_in}
use Rattle.run_rules.specs.Acts.{Act}
use Rattle.run_rules.specs.Histories.{Histories, bucket_at}
use Rattle.run_rules.specs.Lawful.{AreScripted}
use Rattle.run_rules.specs.Setup.{Setup, ender, fixed_at, recycler, rounds}
use Rattle.suri_base.specs.Dealing.{round_of}
use Rattle.suri_base.specs.History.{Begins, entry}
use Rattle.suri_base.specs.declared.entry.BucketNote.{BucketNote}
use Rattle.suri_base.specs.declared.entry.Entry.{Entry}
use Rattle.suri_base.specs.declared.entry.PoolNote.{PoolNote}
use Rattle.suri_base.specs.declared.entry.PoolNote.TheVariants.{Put, Turn}

-- the entry of the pool was made in this round: behind all that was done with the pool in the rounds before it, and by its end
pub record IsInRound (w : Setup) (t : Histories) (acts : ℕ → List Act) (i : IsInRounds w t acts) (r : ℕ) (e : Entry PoolNote) (past : List (Entry PoolNote)) : Type 0 where
  pub within : r < rounds w
  pub in_pool : At e past t.pool
  pub behind : Begins (i.cuts.cut r).pool past
  pub by_end : At e past (i.cuts.cut (suc r)).pool

-- a worker turned the object to a packet of the round that it was in, and the run had gone in that round
pub record IsTurnedThen (w : Setup) (t : Histories) (acts : ℕ → List Act) (i : IsInRounds w t acts) (role step run f : ℕ) (past : List (Entry PoolNote)) : Type 0 where
  pub worker : role < w.layout.workers
  pub round : ℕ
  pub in_round : IsInRound w t acts i round (entry role step (Turn run f)) past
  pub packet : round_of f w.layout.round ≡ round
  pub gone : HasGone w (i.cuts.cut (suc round)) run
  pub gone_then : round_in w gone.note ≡ round

-- where the object of a run goes that an entry of round r let go
pub data IsNamedSoon (w : Setup) (t : Histories) (acts : ℕ → List Act) (i : IsInRounds w t acts) (r run : ℕ) : Type 0 where
  -- a worker turned it to another run in that round
  turned_in_round : (role step f : ℕ) (past : List (Entry PoolNote)) → role < w.layout.workers → IsInRound w t acts i r (entry role step (Turn run f)) past → IsNamedSoon w t acts i r run
  -- the recycler put it back in the next one
  put_in_next : (step : ℕ) (past : List (Entry PoolNote)) → IsInRound w t acts i (suc r) (entry (recycler w) step (Put run)) past → IsNamedSoon w t acts i r run
  -- the end role put it back, behind all that was done with the pool in the rounds: that round was the last, or the end role drained the run
  put_at_end : (step : ℕ) (past : List (Entry PoolNote)) → rounds w ≤ suc r → At (entry (ender w) step (Put run)) past t.pool → Begins i.last.pool past → IsNamedSoon w t acts i r run

-- each run that an entry let go is named again in the pool's history: in the round of that entry by a worker, in the next one by the recycler, or
-- after the last round by the end role
pub record AreNamedSoon (w : Setup) (t : Histories) (l : AreScripted w t) (i : IsInRounds w t l.acts) : Type 0 where
  pub turned : (role step run f : ℕ) (past : List (Entry PoolNote)) → At (entry role step (Turn run f)) past t.pool → IsTurnedThen w t l.acts i role step run f past
  pub soon : (b : ℕ) → b < length t.buckets → (e : Entry BucketNote) (past : List (Entry BucketNote)) → At e past (bucket_at b t.buckets)
      → (run : ℕ) → lets_go (fixed_at w b) past e.note run ≡ true → IsNamedSoon w t l.acts i (round_in w e.note) run
