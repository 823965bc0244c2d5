use Rattle.std.proofs.Common.{◌≡◌, ◌++◌}
use Rattle.run_round.proofs.hands.queue_up.Given as goal

abbrev pub invariant-loop-ended : goal.invariant-loop-ended
invariant-loop-ended l = l.queue.items ++ l.ended-iterator.rest.items ≡ l.fn.queue.items ++ l.fn.flows.items
