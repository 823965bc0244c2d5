-- What waits is finished, one flow after another.
use Rattle.std.specs.Prelude.{◌≡◌, ℕ, ◌*◌, ◌≤◌, All, List, [], ◌++◌, length, map, reverse, Some}
use Rattle.bucket_laws.specs.Leaving.{Gone}
use Rattle.flow_object.specs.Ending.{EndedFlow}
use Rattle.flow_object.specs.declared.outcome.FlowLine.{FlowLine}
use Rattle.lock_rows.specs.Rows.{Pairs}
use Rattle.role_steps.specs.Finishing.{IsLineFor, MayFinish}
use Rattle.role_steps.specs.Items.{gone_of}
use Rattle.role_steps.specs.Roles.{Acted, setup_of}
use Rattle.role_steps.specs.declared.roles.Recycler.{Recycler}
use Rattle.role_steps.specs.declared.roles.Shared.{Shared}
use Rattle.run_rules.specs.Acts.{Act}
use Rattle.run_rules.specs.Ending.{Ending, ending_after}
use Rattle.run_rules.specs.Serving.{finished, queue_after}
use Rattle.run_rules.specs.Setup.{Setup}

-- these acts finish these flows, whatever waits behind them: of a queue, and of what waits at the end of a run
pub record Serves (w : Setup) (es : List EndedFlow) (now : List Act) : Type 0 where
  pub queue : (came rest : List Gone) (before : List Act) → queue_after came before ≡ Some (map gone_of es ++ rest) → queue_after came (now ++ before) ≡ Some rest
  pub ending : (start : Ending) (k : ℕ) (rest : List Gone) (before : List Act) → ending_after w start before ≡ Some (record { queue = map gone_of es ++ rest; drained = k })
      → ending_after w start (now ++ before) ≡ Some (record { queue = rest; drained = k })
  pub finished : reverse (finished now) ≡ map (λ (e : EndedFlow). e.run) es
  pub few : length now ≤ 2 * length es

-- some of what waited was finished, by these acts
pub record Serving (s : Shared) (old new : Recycler) : Type 0 where
  pub done : List EndedFlow
  pub now : List Act
  pub waited : old.waiting.items ≡ done ++ new.waiting.items
  pub acted : Acted s old.passes new.passes now
  pub serves : Serves (setup_of s) done now
  pub lines : List FlowLine
  pub grew : new.lines.items ≡ old.lines.items ++ lines
  pub told : Pairs (λ e l. IsLineFor e l) done lines
  pub objects : All (λ (e : EndedFlow). MayFinish (setup_of s) e) new.waiting.items

-- all of it was
pub record Served (s : Shared) (old new : Recycler) : Type 0 where
  pub now : List Act
  pub acted : Acted s old.passes new.passes now
  pub serves : Serves (setup_of s) old.waiting.items now
  pub lines : List FlowLine
  pub grew : new.lines.items ≡ old.lines.items ++ lines
  pub told : Pairs (λ e l. IsLineFor e l) old.waiting.items lines
  pub waiting : new.waiting.items ≡ []
