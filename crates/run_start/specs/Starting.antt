-- Roles that have just been made, with the locks that they share.
use Rattle.std.specs.Prelude.{◌≡◌, ℕ, ◌+◌, ◌<◌, false, All, List, [], length, map, slice_index_or}
use Rattle.hist_lock.specs.Locks.{roles_of}
use Rattle.role_meets.specs.Parts.{kind_at, kind_of, passes_of, hand_of, waiting_of, lines_of}
use Rattle.role_meets.specs.declared.roles.Role.{Role}
use Rattle.role_steps.specs.Roles.{Fits, IsShared, number_of, seen, setup_of}
use Rattle.role_steps.specs.declared.roles.Passes.{Passes}
use Rattle.role_steps.specs.declared.roles.Recycler.{Recycler}
use Rattle.role_steps.specs.declared.roles.Shared.{Shared}
use Rattle.run_rules.specs.Acts.{AreActs}
use Rattle.run_rules.specs.Histories.{Histories}
use Rattle.run_rules.specs.Setup.{Setup}

-- the histories of these locks before any call
abbrev pub blank : Shared → Histories
blank s = record { pool = []; segments = []; buckets = map (λ l. []) s.buckets.items }

-- a role of this number that has done and seen nothing
pub record IsNew (s : Shared) (role : ℕ) (p : Passes) : Type 0 where
  pub fits : Fits s p
  pub number : number_of p ≡ role
  pub step : p.step ≡ 0
  pub nothing : seen p ≡ blank s
  pub own : AreActs (setup_of s) (seen p) role []

-- new roles, from the last of so many to the first
abbrev pub AreNewBack : Shared → ℕ → List Passes → Type 0
AreNewBack s count all = (k : ℕ) (d : Passes) → k < length all → (role : ℕ) → k + role + 1 ≡ count → IsNew s role (slice_index_or all k d)

-- a role of the rounds that has done and seen nothing, of the kind that has its number
pub record IsNewRole (s : Shared) (role : ℕ) (r : Role) : Type 0 where
  pub passes : IsNew s role (passes_of r)
  pub kind : kind_of r.part ≡ kind_at s.layout.workers role
  pub hand : hand_of r.part ≡ []
  pub waiting : waiting_of r.part ≡ []
  pub lines : lines_of r.part ≡ []
  pub well : r.failed ≡ false

-- each lock has so many roles
pub record HaveRoles (s : Shared) (count : ℕ) : Type 0 where
  pub pool : roles_of s.pool ≡ count
  pub segments : roles_of s.segments ≡ count
  pub buckets : All (λ l. roles_of l ≡ count) s.buckets.items

-- a run of this capture, laid out so, that can begin
pub record IsStarted (w : Setup) (s : Shared) (all : List Role) (last : Recycler) : Type 0 where
  pub shared : IsShared s
  pub setup : setup_of s ≡ w
  pub locks : HaveRoles s (w.layout.workers + 3)
  pub count : length all ≡ w.layout.workers + 2
  pub roles : (k : ℕ) (d : Role) → k < length all → IsNewRole s k (slice_index_or all k d)
  pub ender : IsNew s (w.layout.workers + 2) last.passes
  pub waiting : last.waiting.items ≡ []
  pub lines : last.lines.items ≡ []
