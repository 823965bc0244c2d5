-- The cuts of a run: what its histories were at the end of each round.
use Rattle.std.specs.Prelude.{◌≡◌, ℕ, suc, ◌<◌, ◌≤◌, All, List, ◌++◌, length}
use Rattle.run_laws.specs.RoundEnd.{IsRoundEnd}
use Rattle.run_rules.specs.Acts.{Act, AreActs}
use Rattle.run_rules.specs.Growing.{HasGrown}
use Rattle.run_rules.specs.Histories.{Histories, bucket_at}
use Rattle.run_rules.specs.Setup.{Setup, ender, roles, rounds}
use Rattle.suri_base.specs.History.{Begins}
use Rattle.suri_base.specs.declared.entry.Entry.{Entry}

-- so many rounds have ended with these histories, and these are the acts by which each role had ended them: all that it did, at every lock
pub record EndsRound (w : Setup) (t : Histories) (r : ℕ) (acts : ℕ → List Act) : Type 0 where
  pub at : IsRoundEnd w t r
  pub acts_are : (role : ℕ) → at.acts role ≡ acts role
  pub own : (role : ℕ) → role < roles w → AreActs w t role (acts role)

-- there are histories for the end of each round so far: each of them begins the next, what each role had done begins what it had done one round
-- later, and the last of them are these
pub record HasCuts (w : Setup) (t : Histories) (round : ℕ) (acts : ℕ → List Act) : Type 0 where
  pub cut : ℕ → Histories
  pub did : ℕ → ℕ → List Act
  pub ends : (r : ℕ) → r ≤ round → EndsRound w (cut r) r (did r)
  pub grows : (r : ℕ) → r < round → HasGrown (cut r) (cut (suc r))
  pub goes_on : (r : ℕ) → r < round → (role : ℕ) → Begins (did r role) (did (suc r) role)
  pub last : cut round ≡ t
  pub last_did : (role : ℕ) → did round role ≡ acts role

-- the history grew, by entries of this role alone
abbrev pub GrewBy : {N : Type 0} → ℕ → List (Entry N) → List (Entry N) → Type 0
GrewBy {N} role old new = (since : List (Entry N)) × (new ≡ since ++ old) × All (λ e. e.role ≡ role) since

-- every history grew so
pub record HasGrownBy (role : ℕ) (old new : Histories) : Type 0 where
  pub pool : GrewBy role old.pool new.pool
  pub segments : GrewBy role old.segments new.segments
  pub rows : length new.buckets ≡ length old.buckets
  pub buckets : (b : ℕ) → b < length old.buckets → GrewBy role (bucket_at b old.buckets) (bucket_at b new.buckets)

-- the histories of a whole run have the cuts of all its rounds. By the last of them the roles of the rounds had done all their acts, and what
-- came after it is of the end role alone
pub record IsInRounds (w : Setup) (t : Histories) (acts : ℕ → List Act) : Type 0 where
  pub last : Histories
  pub done : ℕ → List Act
  pub cuts : HasCuts w last (rounds w) done
  pub all_done : (role : ℕ) → role < ender w → done role ≡ acts role
  pub rest : HasGrownBy (ender w) last t
