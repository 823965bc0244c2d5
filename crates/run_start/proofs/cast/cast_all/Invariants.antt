use Rattle.std.proofs.Common.{◌≡◌, ℕ, ◌+◌, ◌<◌, ◌≤◌, length, get_or, vec_capacity}
use Rattle.role_meets.specs.declared.roles.Role.{Role}
use Rattle.run_start.specs.Starting.{AreNewBack, IsNewRole}
use Rattle.run_start.proofs.cast.cast_all.Given as goal

-- the first roles are cast, and what the others hold is left
abbrev pub invariant-loop-number : goal.invariant-loop-number
invariant-loop-number l =
    (length l.all.items + l.number ≡ l.shared.layout.workers + 3)
    × AreNewBack l.shared (l.shared.layout.workers + 3) l.all.items
    × (length l.roles.items ≡ l.number)
    × (l.shared.layout.workers + 2 ≤ vec_capacity l.roles)
    × ((k : ℕ) (d : Role) → k < length l.roles.items → IsNewRole l.shared k (get_or l.roles.items k d))
