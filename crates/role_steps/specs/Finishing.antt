-- How a run that left is finished.
use Rattle.std.specs.Prelude.{◌≡◌, ℕ, zero, suc, ◌<◌, ◌^◌, List, [], ◌∷◌}
use Rattle.bucket_laws.specs.Leaving.{Gone}
use Rattle.flow_object.specs.Ending.{EndedFlow}
use Rattle.flow_object.specs.Line.{line_of}
use Rattle.flow_object.specs.Object.{nodes_in, stops_in}
use Rattle.flow_object.specs.Standing.{StandsFor}
use Rattle.flow_object.specs.declared.outcome.FlowLine.{FlowLine}
use Rattle.flow_sum.specs.Run.{Run}
use Rattle.role_steps.specs.Items.{gone_of}
use Rattle.role_steps.specs.Roles.{Acted}
use Rattle.role_steps.specs.declared.roles.Passes.{Passes}
use Rattle.role_steps.specs.declared.roles.Shared.{Shared}
use Rattle.run_rules.specs.Acts.{Act, on_pool, on_segments}
use Rattle.run_rules.specs.Setup.{Setup}
use Rattle.suri_base.specs.declared.app.App.{App}
use Rattle.suri_base.specs.declared.entry.PoolNote.TheVariants.{Put}
use Rattle.suri_base.specs.declared.entry.SegNote.TheVariants.{Gave}

-- a flow that can be finished: its nodes can be counted in a note, and the pool keeps its object
abbrev pub MayFinish : Setup → EndedFlow → Type 0
MayFinish w e = (nodes_in e.obj < 2 ^ 32) × (e.obj.depth ≡ w.layout.depth)

-- so many nodes are given back, where there are any
abbrev pub given : ℕ → List Act
given zero = []
given (suc n) = on_segments (Gave (suc n)) ∷ []

-- a run is finished: its nodes are given back, and then its object, as the pool's entry of that number
abbrev pub put_back : Gone → ℕ → List Act
put_back g at = on_pool (Put g.run) at ∷ given g.nodes

-- a flow was finished by just these acts
abbrev pub IsFinished : Shared → Passes → Passes → EndedFlow → Type 0
IsFinished s old new e = (at : ℕ) × Acted s old new (put_back (gone_of e) at)

-- the line that is made of an object: that of each run for which it stands
abbrev pub IsLineFor : EndedFlow → FlowLine → Type 0
IsLineFor e l = (bytes : List ℕ) (r : Run) (judged : List App) → StandsFor e.obj bytes r judged
    → l ≡ line_of e.obj.depth (stops_in e.obj) bytes r judged e.reason e.emergency
