-- What a worker's round asks and says.
use Rattle.std.specs.Prelude.{◌≡◌, ℕ, suc, ◌<◌, ◌^◌, List, [], ◌∷◌, ◌++◌, drop, length, reverse}
use Rattle.bucket_laws.specs.Leaving.{Gone}
use Rattle.capture_index.specs.Batches.{batches_of}
use Rattle.flow_object.specs.declared.outcome.FlowLine.{FlowLine}
use Rattle.flow_worker.specs.Batching.{Reaches}
use Rattle.role_steps.specs.Items.{Items, LinesOf}
use Rattle.role_steps.specs.Roles.{Acted, Fits, IsShared, number_of, seen, setup_of}
use Rattle.role_steps.specs.declared.roles.Shared.{Shared}
use Rattle.role_steps.specs.declared.roles.Worker.{Worker}
use Rattle.run_laws.specs.Setting.{IsLayout}
use Rattle.run_rules.specs.Acts.{Act, AreActs}
use Rattle.run_rules.specs.Rounds.{EndedRounds}
use Rattle.run_rules.specs.Serving.{finished}
use Rattle.run_rules.specs.Setup.{rounds, work_of}

-- what the worker did before the round: these acts, by which it ended the rounds before, with these hands
pub record HasWorked (s : Shared) (k : Worker) (round : ℕ) (before : List Act) (hands : List (List Gone)) : Type 0 where
  pub own : AreActs (setup_of s) (seen k.passes) (number_of k.passes) before
  pub step : length before ≡ k.passes.step
  pub ended : EndedRounds (setup_of s) (number_of k.passes) round before hands

-- when a round of a worker may begin: its hand was emptied
pub record MayWork (s : Shared) (k : Worker) (round : ℕ) : Type 0 where
  pub shared : IsShared s
  pub layout : IsLayout s.layout
  pub fits : Fits s k.passes
  pub worker : number_of k.passes < s.layout.workers
  pub within : round < rounds (setup_of s)
  pub hand : k.hand.items ≡ []
  pub before : List Act
  pub hands : List (List Gone)
  pub worked : HasWorked s k round before hands

-- so many batches of the round were done
abbrev pub DidSome : Shared → Worker → Worker → ℕ → ℕ → Type 0
DidSome s old new round k = (before : List Act) (hands : List (List Gone)) → HasWorked s old round before hands
    → Reaches s old new before (drop k (batches_of s.layout s.capture.now.seen (number_of old.passes) round)) (drop (suc round) (work_of (setup_of s) (number_of old.passes))) hands

-- what the round says of what the worker did before it
pub record WorkedAfter (s : Shared) (old new : Worker) (round : ℕ) (before : List Act) (hands : List (List Gone)) : Type 0 where
  -- the acts by which it went on
  pub now : List Act
  pub acted : Acted s old.passes new.passes now
  pub few : new.passes.step < 2 ^ 36
  -- by its script it ended the round
  pub left : List Gone
  pub ended : EndedRounds (setup_of s) (number_of old.passes) (suc round) (now ++ before) (left ∷ hands)
  -- with just these flows in its hand, in order
  pub items : Items (setup_of s) (seen new.passes) left new.hand.items
  -- just the lines of the runs that it finished were added, in order
  pub lines : List FlowLine
  pub grew : new.lines.items ≡ old.lines.items ++ lines
  pub told : LinesOf (setup_of s) (seen new.passes) (reverse (finished now)) lines

-- what the round says, whatever the worker did before
abbrev pub Worked : Shared → Worker → Worker → ℕ → Type 0
Worked s old new round = (before : List Act) (hands : List (List Gone)) → HasWorked s old round before hands → WorkedAfter s old new round before hands
