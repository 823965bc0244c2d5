use Rattle.std.proofs.Common.{◌≡◌, ℕ, ◌<◌, length, get_or}
use Rattle.role_meets.specs.Meets.{Told, Grown, SameRole}
use Rattle.role_meets.specs.Parts.{passes_of}
use Rattle.role_meets.specs.declared.roles.Role.{Role}
use Rattle.role_steps.specs.Roles.{seen}
use Rattle.run_rules.specs.Growing.{HasGrown}
use Rattle.role_meets.proofs.meets.hear_all.Given as goal

abbrev pub invariant-loop-role : goal.invariant-loop-role
invariant-loop-role l =
    (length l.roles ≡ length l.initial.roles)
    × ((k : ℕ) (d : Role) → k < length l.initial.roles → SameRole (get_or l.initial.roles k d) (get_or l.roles k d)
    × Told l.shared (passes_of (get_or l.initial.roles k d)) (passes_of (get_or l.roles k d)))
    × ((k : ℕ) (d : Role) → k < l.role-index → HasGrown (seen (passes_of (get_or l.initial.roles k d))) (seen l.ender.passes))
    × Grown l.shared l.initial.ender.passes l.ender.passes
    × (l.ender.waiting.items ≡ l.initial.ender.waiting.items)
    × (l.ender.lines.items ≡ l.initial.ender.lines.items)
