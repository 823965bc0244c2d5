use Rattle.flow_bucket.proofs.Trying.{Built}
use Rattle.flow_bucket.proofs.tests.many.Given as goal

abbrev pub invariant-loop-at : goal.invariant-loop-at
invariant-loop-at l = Built l.at l.next l.frames.items l.clocks.items l.seen.items
