use Rattle.recycler.specs.Draining.{Draining}
use Rattle.recycler.proofs.end.drain_all.Given as goal

abbrev pub invariant-loop-at : goal.invariant-loop-at
invariant-loop-at g l = Draining l.shared l.fn.ender l.ender l.at
