-- What the steps of a batch say.
use Rattle.std.specs.Prelude.{◌≡◌, ℕ, ◌<◌, Bool, List, ◌∷◌, ◌++◌, drop, length, reverse, Some}
use Rattle.bucket_laws.specs.Leaving.{Gone}
use Rattle.flow_object.specs.declared.outcome.FlowLine.{FlowLine}
use Rattle.flow_worker.specs.Standing.{IsAt, Moves}
use Rattle.flow_worker.specs.Telling.{AreTold}
use Rattle.role_steps.specs.Items.{Items, LinesOf}
use Rattle.role_steps.specs.Roles.{Acted, Fits, number_of, seen, setup_of}
use Rattle.role_steps.specs.declared.roles.Shared.{Shared}
use Rattle.role_steps.specs.declared.roles.Worker.{Worker}
use Rattle.run_laws.specs.Setting.{IsSetup}
use Rattle.run_rules.specs.Acts.{Act, AreActs}
use Rattle.run_rules.specs.Rounds.{ended_with}
use Rattle.run_rules.specs.Serving.{finished}
use Rattle.run_rules.specs.Setup.{work_of}
use Rattle.run_rules.specs.Worker.{Stage, Stand, between, close_on, closing, fresh, look_on, next_batch, stand_after}

-- a batch of these frames begins, by this reading of the mode
pub record is_begun (frames : List ℕ) (emergency : Bool) (n : ℕ) (st : Stand) : Type 0 where
  pub stage : st.stage ≡ look_on frames frames
  pub batch : st.batch ≡ frames
  pub mode : st.emergency ≡ emergency
  pub read : st.seen ≡ n

-- all frames of the batch were looked up
abbrev pub is_looked : List ℕ → Stand → Type 0
is_looked frames st = st.stage ≡ closing frames

-- the worker stands at such a place
pub record MayPass (s : Shared) (k : Worker) (from : Stand → Type 0) : Type 0 where
  pub before : List Act
  pub stand : Stand
  pub is : IsAt s k before stand
  pub there : from stand

-- from each such place the worker went on to that stage, and refused some frames
abbrev pub GoesTo : Shared → Worker → Worker → (Stand → Type 0) → Stage → Type 0
GoesTo s old new from to = (before : List Act) (st : Stand) → IsAt s old before st → from st → (refused : List ℕ) × Moves s old new before st to refused

-- so many frames of the batch were looked up, and of each it is told whether it was refused
pub record LookedSome (s : Shared) (old new : Worker) (frames : List ℕ) (emergency : Bool) (n k : ℕ) (refused : List Bool) : Type 0 where
  pub passes : GoesTo s old new (is_begun frames emergency n) (look_on frames (drop k frames))
  pub told : AreTold s new frames refused
  pub count : length refused ≡ k

-- so many frames of the batch were closed
pub record ClosedSome (s : Shared) (old new : Worker) (frames : List ℕ) (k : ℕ) (refused : List Bool) : Type 0 where
  pub passes : GoesTo s old new (is_looked frames) (close_on (drop k frames))
  pub told : AreTold s new frames refused

-- after its acts so far the worker stands between two batches: of this round these are to come, then the rounds after it; so far it left
-- this in its hand, and that at the end of each round before
pub record IsBetween (s : Shared) (k : Worker) (before : List Act) (batches : List (List ℕ)) (later : List (List (List ℕ))) (hand : List Gone) (hands : List (List Gone)) : Type 0 where
  pub setup : IsSetup (setup_of s)
  pub fits : Fits s k.passes
  pub worker : number_of k.passes < s.layout.workers
  pub step : length before ≡ k.passes.step
  pub own : AreActs (setup_of s) (seen k.passes) (number_of k.passes) before
  pub stand : Stand
  pub stood : stand_after (setup_of s) (fresh (work_of (setup_of s) (number_of k.passes))) before ≡ Some stand
  pub stage : stand.stage ≡ between
  pub next : (e : Bool) (n : ℕ) → next_batch e n stand.rounds stand.hand stand.hands ≡ next_batch e n (batches ∷ later) hand hands
  pub over : ended_with (length later) stand.rounds stand.hand stand.hands ≡ ended_with (length later) (batches ∷ later) hand hands
  pub items : Items (setup_of s) (seen k.passes) hand k.hand.items

-- the worker went on from those acts, until these batches of the round are to come. Its lines grew by those of the runs that it finished
pub record Reaches (s : Shared) (old new : Worker) (before : List Act) (batches : List (List ℕ)) (later : List (List (List ℕ))) (hands : List (List Gone)) : Type 0 where
  pub now : List Act
  pub acted : Acted s old.passes new.passes now
  pub lines : List FlowLine
  pub grew : new.lines.items ≡ old.lines.items ++ lines
  pub told : LinesOf (setup_of s) (seen new.passes) (reverse (finished now)) lines
  pub hand : List Gone
  pub is : IsBetween s new (now ++ before) batches later hand hands

-- a worker that may begin this batch
pub record MayBegin (s : Shared) (k : Worker) (batch : List ℕ) : Type 0 where
  pub some : 0 < length batch
  pub before : List Act
  pub batches : List (List ℕ)
  pub later : List (List (List ℕ))
  pub hand : List Gone
  pub hands : List (List Gone)
  pub is : IsBetween s k before (batch ∷ batches) later hand hands

-- wherever it could be begun, the batch is done with
abbrev pub DidBatch : Shared → Worker → Worker → List ℕ → Type 0
DidBatch s old new batch = (before : List Act) (batches : List (List ℕ)) (later : List (List (List ℕ))) (hand : List Gone) (hands : List (List Gone))
    → IsBetween s old before (batch ∷ batches) later hand hands → Reaches s old new before batches later hands
