use Rattle.std.proofs.Common.{◌≡◌, ◌≤◌, All, vec_len, vec_capacity}
use Rattle.flow_object.specs.Object.{nodes_in}
use Rattle.flow_pool.proofs.pool.FlowPool.new.Given as goal

abbrev pub invariant-loop : goal.invariant-loop
invariant-loop l = record {
  made : vec_len l.objects ≡ l.counter;
  places : l.made ≤ vec_capacity l.objects;
  settings : All (λ o. o.value.depth ≡ l.depth) l.objects.items;
  no_nodes : All (λ o. nodes_in o.value ≡ 0) l.objects.items;
}
