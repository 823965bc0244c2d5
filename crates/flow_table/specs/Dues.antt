-- The flow that is due first.
use Rattle.std.specs.Prelude.{◌≡◌, ℕ, ◌≤◌, Bool, true, false, List, Option, Some, None, slice_get}
use Rattle.bucket_flow.specs.Dues.{deadline_of}
use Rattle.bucket_rules.specs.Row.{is_linked}
use Rattle.bucket_flow.specs.Held.{Held}
use Rattle.flow_table.specs.declared.due.Due.{Due}

-- that of a linked flow: at most each other's deadline, and the least run among those of that deadline
pub record IsFirstDue (emergency : Bool) (flows : List Held) (d : Due) : Type 0 where
  pub place : ℕ
  pub flow : Held
  pub there : slice_get flows place ≡ Some flow
  pub linked : is_linked flow.place ≡ true
  pub deadline : d.deadline ≡ deadline_of emergency flow
  pub run : d.run ≡ flow.run
  pub first : (j : ℕ) (g : Held) → slice_get flows j ≡ Some g → is_linked g.place ≡ true
      → (d.deadline ≤ deadline_of emergency g) × (d.deadline ≡ deadline_of emergency g → d.run ≤ g.run)

-- or no flow is linked
abbrev pub IsDue : Bool → List Held → Option Due → Type 0
IsDue emergency flows None = (j : ℕ) (g : Held) → slice_get flows j ≡ Some g → is_linked g.place ≡ false
IsDue emergency flows (Some d) = IsFirstDue emergency flows d
