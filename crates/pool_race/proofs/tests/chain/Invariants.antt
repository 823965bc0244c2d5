use Rattle.std.proofs.Common.{◌≡◌, length}
use Rattle.pool_race.proofs.tests.chain.Given as goal

abbrev pub invariant-loop : goal.invariant-loop
invariant-loop l = length l.nodes ≡ l.counter
