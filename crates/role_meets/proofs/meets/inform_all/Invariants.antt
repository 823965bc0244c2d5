use Rattle.std.proofs.Common.{◌≡◌, ℕ, ◌<◌, ◌≤◌, length, get_or}
use Rattle.role_meets.proofs.meets.inform_all.Given as goal
use Rattle.role_meets.specs.Meets.{Told, Informed}
use Rattle.role_meets.specs.declared.roles.Role.{Role}
use Rattle.role_steps.specs.Roles.{seen}

abbrev pub invariant-loop-role : goal.invariant-loop-role
invariant-loop-role l =
    (length l.roles ≡ length l.initial.roles)
    × ((k : ℕ) (d : Role) → l.role-index ≤ k → k < length l.initial.roles → get_or l.roles k d ≡ get_or l.initial.roles k d)
    × ((k : ℕ) (d : Role) → k < l.role-index → Informed l.shared (seen l.initial.ender.passes) (get_or l.initial.roles k d) (get_or l.roles k d))
    × Told l.shared l.initial.ender.passes l.ender.passes
    × (l.ender.waiting.items ≡ l.initial.ender.waiting.items)
    × (l.ender.lines.items ≡ l.initial.ender.lines.items)
