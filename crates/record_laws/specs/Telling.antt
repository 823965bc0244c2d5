-- The records that the roles of a run told.
use Rattle.std.specs.Prelude.{ℕ, zero, suc, ◌<◌, List, [], ◌++◌, reverse}
use Rattle.flow_object.specs.declared.outcome.FlowLine.{FlowLine}
use Rattle.role_steps.specs.Items.{LinesOf}
use Rattle.run_rules.specs.Acts.{Act}
use Rattle.run_rules.specs.Histories.{Histories}
use Rattle.run_rules.specs.Serving.{finished}
use Rattle.run_rules.specs.Setup.{Setup, roles}

-- those of the roles below a number, in rising order
abbrev pub told_below : ℕ → (ℕ → List FlowLine) → List FlowLine
told_below zero told = []
told_below (suc role) told = told_below role told ++ told role

-- each role told the records of the runs that its acts finished, one for each and in the order of the acts
abbrev pub HaveTold : Setup → Histories → (ℕ → List Act) → (ℕ → List FlowLine) → Type 0
HaveTold w t acts told = (role : ℕ) → role < roles w → LinesOf w t (reverse (finished (acts role))) (told role)
