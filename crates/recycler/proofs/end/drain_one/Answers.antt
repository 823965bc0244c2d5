use Rattle.std.proofs.Common.{List, ◌++◌, ◌∙◌, ap, refl, subst}
use Rattle.flow_bucket.specs.declared.calls.BucketCall.TheVariants.{Drain}
use Rattle.flow_bucket.specs.declared.calls.BucketReply.{BucketReply}
use Rattle.flow_object.specs.Ending.{EndedFlow}
use Rattle.recycler.proofs.Draining.{drained_finish, drained_one}
use Rattle.role_steps.specs.Calls.{CalledBucket}
use Rattle.recycler.proofs.end.drain_one.Goals as goal

pub serve-requires-clause-objects : goal.serve-requires-clause-objects
serve-requires-clause-objects g c =
    let call = subst (λ (r : BucketReply). CalledBucket c.args.shared.now c.args.ender.now.passes c.call_bucket.new.passes c.args.at Drain r) c.in-Drained.is c.in_ok-flows.ensures in
    drained_finish c.args.shared.now c.args.ender.now.passes c.call_bucket.new.passes c.args.at c.in-Drained.flows c.queue_up.new.waiting.items c.requires.shared c.requires.at call
    (c.in_ok-queue_up-in-Drained.ensures ∙ ap (λ (l : List EndedFlow). l ++ c.in-Drained.flows.items) c.requires.waiting)

pub returns : goal.returns
returns g c =
    let call = subst (λ (r : BucketReply). CalledBucket c.args.shared.now c.args.ender.now.passes c.call_bucket.new.passes c.args.at Drain r) c.in-Drained.is c.in_ok-flows.ensures in
    drained_one c.args.shared.now c.args.ender.now _ c.serve.new.recycler c.args.at c.in-Drained.flows c.requires.shared c.requires.at call refl
    (c.in_ok-queue_up-in-Drained.ensures ∙ ap (λ (l : List EndedFlow). l ++ c.in-Drained.flows.items) c.requires.waiting)
    c.in_ok-serve-in-Drained.ensures
