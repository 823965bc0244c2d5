use Rattle.std.proofs.Common.{arith, ap, refl, subst, ◌∙◌}
use Rattle.flow_pool.specs.declared.calls.PoolCall.TheVariants.{Take}
use Rattle.flow_pool.specs.declared.calls.PoolReply.{PoolReply}
use Rattle.flow_worker.proofs.Allowed.{few_steps}
use Rattle.flow_worker.proofs.Steps.{took_none, took_object}
use Rattle.flow_worker.proofs.object.take.Goals as goal
use Rattle.role_steps.specs.Calls.{CalledPool}

pub call_pool-requires-clause-steps : goal.call_pool-requires-clause-steps
call_pool-requires-clause-steps g c = let m = c.requires.stands in omega (arith, few_steps c.args.shared.now c.args.worker.now c.requires.shared m.before m.stand m.is)

pub returns-in-Obj : goal.returns-in-Obj
returns-in-Obj g c =
    let called = subst (λ (r : PoolReply). CalledPool c.args.shared.now c.args.worker.now.passes c.call_pool.new.passes (Take c.args.no) r) c.in-Obj.is c.in_ok-obj.ensures in
    ((called.answer.1.0, called.answer.1.1 ∙ ap (λ x. x.depth) c.requires.shared.pool), took_object c.args.shared.now c.args.worker.now _ c.args.no c.in-Obj.obj called refl refl)

pub returns-in-Full : goal.returns-in-Full
returns-in-Full g c = (
  refl,
  took_none c.args.shared.now c.args.worker.now _ c.args.no c.in-Full.out c.in-Full.limit
      (subst (λ (r : PoolReply). CalledPool c.args.shared.now c.args.worker.now.passes c.call_pool.new.passes (Take c.args.no) r) c.in-Full.is c.in_ok-obj.ensures) refl refl,
)
