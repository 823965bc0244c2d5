use Rattle.std.proofs.Common.{◌≡◌, ◌++◌, length}
use Rattle.run_round.proofs.hands.empty_deque.Given as goal

abbrev pub invariant-loop-ended : goal.invariant-loop-ended
invariant-loop-ended l = l.queue.items ++ l.hand.items ≡ l.initial.queue.items ++ l.initial.hand.items

abbrev pub decreases-loop-ended : goal.decreases-loop-ended
decreases-loop-ended l = length l.hand.items
