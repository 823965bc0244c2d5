use Rattle.std.proofs.Common.{◌≡◌, vec_len}
use Rattle.capture_gen.specs.Plan.{planned}
use Rattle.capture_gen.proofs.plan.plan.Given as goal

abbrev pub invariant-loop : goal.invariant-loop
invariant-loop l = record {
  planned : planned l.seed l.counter ≡ record { x = l.x; turns = l.turns.items };
  counted : vec_len l.turns ≡ l.counter;
}
