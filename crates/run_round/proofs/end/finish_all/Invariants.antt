use Rattle.std.proofs.Common.{◌≡◌, ◌+◌, ◌≤◌, ◌++◌, length, reverse, map, List, vec_capacity}
use Rattle.role_steps.specs.declared.roles.Passes.{Passes}
use Rattle.run_round.proofs.end.finish_all.Given as goal

abbrev pub invariant-loop-own : goal.invariant-loop-own
invariant-loop-own l =
    (length l.pools.items + length l.passes.items ≤ vec_capacity l.pools)
    × (length l.nodes.items + length l.passes.items ≤ vec_capacity l.nodes)
    × (length l.rows.items + length l.passes.items ≤ vec_capacity l.rows)
    × ((done : List Passes) × (l.fn.passes.items ≡ done ++ reverse l.passes.items) × (l.pools.items ≡ map (λ p. p.pool) done) × (l.nodes.items ≡ map (λ p. p.segments) done)
    × (map (λ r. r.items) l.rows.items ≡ map (λ p. p.buckets.items) done))

abbrev pub decreases-loop-own : goal.decreases-loop-own
decreases-loop-own l = length l.passes.items
