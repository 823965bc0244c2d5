use Rattle.std.proofs.Common.{◌≡◌, All, vec_len}
use Rattle.flow_pool.specs.Counting.{IsIdle}
use Rattle.flow_pool.specs.Pool.{setting_of, HasFlowPast}
use Rattle.flow_pool.proofs.tests.put_all.Given as goal

abbrev pub invariant-loop-obj : goal.invariant-loop-obj
invariant-loop-obj l = record {
  past : HasFlowPast l.pool;
  setting : setting_of l.pool ≡ setting_of l.initial.pool;
  idle : All (λ o. IsIdle (setting_of l.initial.pool) o.value) l.objects.items;
}

abbrev pub decreases-loop-obj : goal.decreases-loop-obj
decreases-loop-obj l = vec_len l.objects
