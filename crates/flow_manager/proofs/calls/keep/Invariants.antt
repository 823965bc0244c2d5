use Rattle.std.proofs.Common.{◌≡◌, ◌++◌}
use Rattle.flow_manager.proofs.calls.keep.Given as goal

abbrev pub invariant-loop-ended : goal.invariant-loop-ended
invariant-loop-ended l = l.hand.items ++ l.ended-iterator.rest.items ≡ l.fn.hand.items ++ l.fn.flows.items
