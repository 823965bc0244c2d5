-- How the roles of a run are taken apart at its end, and the histories of the locks put together.
use Rattle.std.specs.Prelude.{◌≡◌, ℕ, ◌<◌, List, [], ◌∷◌, ◌++◌, length, map, slice_index_or}
use Rattle.std.specs.List.Sorted.{IsPermutation}
use Rattle.end_laws.specs.Ended.{AreOwned, AreWhole, IsRunEnd, lines_in}
use Rattle.flow_object.specs.declared.outcome.FlowLine.{FlowLine}
use Rattle.role_meets.specs.Parts.{passes_of}
use Rattle.role_meets.specs.declared.roles.Role.{Role}
use Rattle.role_steps.specs.Roles.{Fits, number_of}
use Rattle.role_steps.specs.declared.roles.Passes.{Passes}
use Rattle.role_steps.specs.declared.roles.Recycler.{Recycler}
use Rattle.role_steps.specs.declared.roles.Shared.{Shared}
use Rattle.run_rules.specs.Histories.{histories_of}
use Rattle.run_rules.specs.Setup.{Setup}
use Rattle.suri_base.specs.Trail.{Trailed}

-- the passes of some roles and of the end role behind them, and the lines of all, in any order
pub record AreParted (roles : List Role) (e : Recycler) (passes : List Passes) (lines : List FlowLine) : Type 0 where
  pub passes_are : passes ≡ map (λ r. passes_of r) roles ++ e.passes ∷ []
  pub lines_are : IsPermutation (lines_in roles ++ e.lines.items) lines

-- all passes of these locks, by the numbers of their roles
abbrev pub AreAll : Shared → List Passes → Type 0
AreAll s passes = (k : ℕ) (d : Passes) → k < length passes → Fits s (slice_index_or passes k d) × (number_of (slice_index_or passes k d) ≡ k)

-- the locks ended with this trail
pub record HaveFinished (s : Shared) (passes : List Passes) (t : Trailed) : Type 0 where
  pub layout : t.layout ≡ s.layout
  pub whole : AreWhole s (histories_of t)
  pub owned : (k : ℕ) (d : Passes) → k < length passes → AreOwned k (slice_index_or passes k d) (histories_of t)

-- a run ended with this trail, and with these lines, in any order
pub record IsClosed (w : Setup) (t : Trailed) (lines : List FlowLine) : Type 0 where
  pub told : List FlowLine
  pub same : IsPermutation told lines
  pub ended : IsRunEnd w (histories_of t) told
