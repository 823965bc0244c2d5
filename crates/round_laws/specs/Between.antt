-- What holds between two rounds.
use Rattle.std.specs.Prelude.{◌≡◌, ℕ, ◌+◌, ◌*◌, ◌^◌, ◌<◌, ◌≤◌, false, List, [], length, reverse, slice_index_or}
use Rattle.role_meets.specs.Parts.{kind_at, kind_of, passes_of, hand_of, waiting_of, lines_of}
use Rattle.role_meets.specs.declared.roles.Role.{Role}
use Rattle.role_steps.specs.Items.{Items, LinesOf}
use Rattle.role_steps.specs.Roles.{Fits, IsShared, number_of, seen, setup_of}
use Rattle.role_steps.specs.declared.roles.Recycler.{Recycler}
use Rattle.role_steps.specs.declared.roles.Shared.{Shared}
use Rattle.round_laws.specs.Cuts.{HasCuts}
use Rattle.run_laws.specs.RoundEnd.{IsRoundEnd, next_queue}
use Rattle.run_laws.specs.Setting.{IsLayout}
use Rattle.run_rules.specs.Acts.{Act, AreActs}
use Rattle.run_rules.specs.Histories.{Histories}
use Rattle.run_rules.specs.Lawful.{PutsAreDue}
use Rattle.run_rules.specs.Serving.{finished}
use Rattle.run_rules.specs.Setup.{ender, recycler, rounds}
use Rattle.run_start.specs.Starting.{HaveRoles}

-- what is shared stands, laid out within the bounds of the options, and each lock has all roles
pub record IsLaidOut (s : Shared) : Type 0 where
  pub shared : IsShared s
  pub layout : IsLayout s.layout
  pub locks : HaveRoles s (s.layout.workers + 3)
  pub few : rounds (setup_of s) * s.layout.rows ≤ 2 ^ 24

-- a role of the rounds that did these acts, and has seen just these histories. Its lines are those of the runs that it finished, in order
pub record Rests (s : Shared) (t : Histories) (k : ℕ) (acts : List Act) (r : Role) : Type 0 where
  pub fits : Fits s (passes_of r)
  pub number : number_of (passes_of r) ≡ k
  pub kind : kind_of r.part ≡ kind_at s.layout.workers k
  pub knows : seen (passes_of r) ≡ t
  pub own : AreActs (setup_of s) t k acts
  pub step : length acts ≡ (passes_of r).step
  pub hand : hand_of r.part ≡ []
  pub lines : LinesOf (setup_of s) t (reverse (finished acts)) (lines_of r.part)
  pub well : r.failed ≡ false

-- the end role has seen these histories, and done nothing
pub record IsIdle (s : Shared) (t : Histories) (e : Recycler) : Type 0 where
  pub fits : Fits s e.passes
  pub number : number_of e.passes ≡ ender (setup_of s)
  pub knows : seen e.passes ≡ t
  pub own : AreActs (setup_of s) t (ender (setup_of s)) []
  pub step : e.passes.step ≡ 0
  pub waiting : e.waiting.items ≡ []
  pub lines : e.lines.items ≡ []

-- so many rounds were ended by all roles, and all have met, after each of them at the same histories. What waits for the recycler is what the script says, item by item
pub record Between (s : Shared) (round : ℕ) (roles : List Role) (e : Recycler) : Type 0 where
  pub laid : IsLaidOut s
  pub within : round ≤ rounds (setup_of s)
  pub count : length roles ≡ s.layout.workers + 2
  pub t : Histories
  pub at : IsRoundEnd (setup_of s) t round
  pub cuts : HasCuts (setup_of s) t round at.acts
  pub rests : (k : ℕ) (d : Role) → k < length roles → Rests s t k (at.acts k) (slice_index_or roles k d)
  pub idle : IsIdle s t e
  pub puts : PutsAreDue t.pool
  pub waiting : (d : Role) → Items (setup_of s) t (next_queue (setup_of s) at.hands) (waiting_of (slice_index_or roles (recycler (setup_of s)) d).part)
