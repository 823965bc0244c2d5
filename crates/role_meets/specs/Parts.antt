-- What the roles of a round hold.
use Rattle.std.specs.Prelude.{ℕ, ◌==◌, nat_lt, if◌then◌else◌, List, []}
use Rattle.flow_object.specs.Ending.{EndedFlow}
use Rattle.flow_object.specs.declared.outcome.FlowLine.{FlowLine}
use Rattle.role_meets.specs.declared.roles.Part.{Part}
use Rattle.role_meets.specs.declared.roles.Part.TheVariants.{Work, Manage, Recycle}
use Rattle.role_meets.specs.declared.roles.Role.{Role}
use Rattle.role_steps.specs.declared.roles.Passes.{Passes}

pub data Kind : Type 0 where
  works : Kind
  manages : Kind
  recycles : Kind

abbrev pub kind_of : Part → Kind
kind_of (Work k) = works
kind_of (Manage m) = manages
kind_of (Recycle r) = recycles

-- workers have the numbers from 0 on; then come the manager and the recycler
abbrev pub kind_at : ℕ → ℕ → Kind
kind_at workers k = if nat_lt k workers then works else if k == workers then manages else recycles

abbrev pub passes_in : Part → Passes
passes_in (Work k) = k.passes
passes_in (Manage m) = m.passes
passes_in (Recycle r) = r.passes

abbrev pub passes_of : Role → Passes
passes_of r = passes_in r.part

-- the flows that left and that the role hands on
abbrev pub hand_of : Part → List EndedFlow
hand_of (Work k) = k.hand.items
hand_of (Manage m) = m.hand.items
hand_of (Recycle r) = []

-- the flows that left and wait to be finished
abbrev pub waiting_of : Part → List EndedFlow
waiting_of (Work k) = []
waiting_of (Manage m) = []
waiting_of (Recycle r) = r.waiting.items

-- the lines of the flows that the role finished
abbrev pub lines_of : Part → List FlowLine
lines_of (Work k) = k.lines.items
lines_of (Manage m) = []
lines_of (Recycle r) = r.lines.items
