use Rattle.std.proofs.Common.{[]}
use Rattle.flow_worker.specs.Places.{is_evicting, to_evicting}
use Rattle.flow_worker.specs.Standing.{Goes}
use Rattle.flow_worker.proofs.evict.evict.Given as goal

abbrev pub invariant-loop-tried : goal.invariant-loop-tried
invariant-loop-tried g l = Goes l.shared l.initial.worker l.worker (is_evicting l.shared.layout.rows 0 l.no) (to_evicting l.shared.layout.rows l.tried l.no) []
