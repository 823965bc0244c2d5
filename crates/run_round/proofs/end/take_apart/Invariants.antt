use Rattle.std.proofs.Common.{◌≡◌, ◌+◌, ◌≤◌, ◌++◌, length, reverse, map, List, vec_capacity}
use Rattle.std.specs.List.Sorted.{IsPermutation}
use Rattle.end_laws.specs.Ended.{lines_in}
use Rattle.role_meets.specs.Parts.{passes_of}
use Rattle.role_meets.specs.declared.roles.Role.{Role}
use Rattle.run_round.proofs.end.take_apart.Given as goal

abbrev pub invariant-loop-role : goal.invariant-loop-role
invariant-loop-role l =
    (length l.passes.items + length l.roles.items + 1 ≤ vec_capacity l.passes)
    × ((done : List Role) × (l.fn.roles.items ≡ done ++ reverse l.roles.items) × (l.passes.items ≡ map (λ r. passes_of r) done) × IsPermutation (lines_in done) l.lines.items)

abbrev pub decreases-loop-role : goal.decreases-loop-role
decreases-loop-role l = length l.roles.items
