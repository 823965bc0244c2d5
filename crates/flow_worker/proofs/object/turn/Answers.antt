use Rattle.std.proofs.Common.{arith, ap, subst, sym, ◌∙◌}
use Rattle.flow_object.specs.Ending.{EndedFlow}
use Rattle.flow_object.specs.Object.{nodes_in}
use Rattle.flow_pool.specs.declared.calls.PoolCall.TheVariants.{Turn}
use Rattle.flow_pool.specs.declared.calls.PoolReply.{PoolReply}
use Rattle.flow_worker.proofs.Allowed.{few_given, few_steps, may_finish}
use Rattle.flow_worker.proofs.Turning.{turned}
use Rattle.flow_worker.proofs.object.turn.Goals as goal
use Rattle.role_steps.specs.Calls.{CalledPool}

pub close_out-requires-clause-few : goal.close_out-requires-clause-few
close_out-requires-clause-few g c =
    let m = c.requires.stands in
    (may_finish c.args.shared.now c.args.worker.now c.requires.shared m.before m.stand m.is c.in-Some.ended _ c.in-Some.ensures.items).0

pub close_out-requires-clause-steps : goal.close_out-requires-clause-steps
close_out-requires-clause-steps g c = let m = c.requires.stands in omega (arith, few_steps c.args.shared.now c.args.worker.now c.requires.shared m.before m.stand m.is)

pub call_pool-requires-clause-may : goal.call_pool-requires-clause-may
call_pool-requires-clause-may g c =
    let m = c.requires.stands in
    let f = may_finish c.args.shared.now c.args.worker.now c.requires.shared m.before m.stand m.is c.in-Some.ended _ c.in-Some.ensures.items in
    (c.in_ok-obj.ensures.object.0, c.in_ok-obj.ensures.object.1 ∙ (f.1 ∙ sym (ap (λ x. x.depth) c.requires.shared.pool)))

pub call_pool-requires-clause-steps : goal.call_pool-requires-clause-steps
call_pool-requires-clause-steps g c =
    let m = c.requires.stands in
    omega (arith, few_steps c.args.shared.now c.args.worker.now c.requires.shared m.before m.stand m.is, c.in_ok-obj.ensures.acted.step, few_given (nodes_in c.in-Some.ended.obj))

pub returns-clause-goes : goal.returns-clause-goes
returns-clause-goes g c =
    turned c.args.shared.now c.args.worker.now _ c.close_out.new.passes c.args.no _ c.in-Some.ended c.in_ok-obj.obj c.in-Turned.obj c.in-Some.ensures.items (ap (λ (e : EndedFlow). e.run) c.ended.view_is) c.in_ok-obj.ensures.acted
    (subst (λ (r : PoolReply). CalledPool c.args.shared.now c.close_out.new.passes c.call_pool.new.passes (Turn c.ended.inside.run c.args.no c.in_ok-obj.obj) r) c.in-Turned.is c.in_ok-obj-2.ensures) c.in_ok-obj.ensures.line
