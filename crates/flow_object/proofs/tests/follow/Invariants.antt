use Rattle.std.proofs.Common.{◌-◌, ◌≤◌, List, length}
use Rattle.flow_object.specs.Standing.{StandsFor}
use Rattle.flow_sum.specs.Run.{Run}
use Rattle.suri_base.specs.declared.app.App.{App}
use Rattle.flow_object.proofs.tests.follow.Given as goal

-- the object stands for the packets so far
abbrev pub invariant-loop-place : goal.invariant-loop-place
invariant-loop-place g l = (l.place ≤ length l.run) × ((r : Run) × (judged : List App) × StandsFor l.obj l.capture.bytes r judged)

abbrev pub decreases-loop-place : goal.decreases-loop-place
decreases-loop-place g l = length l.run - l.place
