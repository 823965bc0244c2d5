use Rattle.std.proofs.Common.{◌≡◌, All}
use Rattle.flow_pool.specs.Counting.{IsIdle}
use Rattle.flow_pool.specs.Pool.{setting_of, HasFlowPast}
use Rattle.flow_pool.proofs.tests.take_many.Given as goal

abbrev pub invariant-loop-no : goal.invariant-loop-no
invariant-loop-no l = record {
  past : HasFlowPast l.pool;
  setting : setting_of l.pool ≡ setting_of l.initial.pool;
  idle : All (λ o. IsIdle (setting_of l.initial.pool) o.value) l.objects.items;
}
