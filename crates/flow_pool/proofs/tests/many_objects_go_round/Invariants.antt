use Rattle.flow_pool.specs.Pool.{HasFlowPast}
use Rattle.flow_pool.proofs.tests.many_objects_go_round.Given as goal

abbrev pub invariant-loop : goal.invariant-loop
invariant-loop g l = HasFlowPast l.pool
