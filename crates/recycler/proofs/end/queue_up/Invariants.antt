use Rattle.std.proofs.Common.{◌≡◌, ◌++◌}
use Rattle.recycler.proofs.end.queue_up.Given as goal

abbrev pub invariant-loop-ended : goal.invariant-loop-ended
invariant-loop-ended l = l.waiting.items ++ l.ended-iterator.rest.items ≡ l.fn.waiting.items ++ l.fn.flows.items
