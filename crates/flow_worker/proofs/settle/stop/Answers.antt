use Rattle.std.proofs.Common.{arith, refl, subst, sym, false, None}
use Rattle.flow_bucket.specs.declared.calls.BucketCall.TheVariants as call
use Rattle.flow_bucket.specs.declared.calls.BucketReply.{BucketReply}
use Rattle.role_steps.specs.Calls.{CalledBucket}
use Rattle.flow_worker.proofs.Words.{nil_end}
use Rattle.flow_worker.proofs.Allowed.{few_steps, owes_it}
use Rattle.flow_worker.proofs.Steps.{stopped}
use Rattle.flow_worker.proofs.settle.stop.Goals as goal

pub call_bucket-requires-clause-may : goal.call_bucket-requires-clause-may
call_bucket-requires-clause-may g c =
    let m = c.requires.stands in
    owes_it c.args.shared.now c.args.worker.now c.requires.shared m.before m.stand m.is c.args.no c.args.at false m.todo m.there c.requires.at.1

pub call_bucket-requires-clause-steps : goal.call_bucket-requires-clause-steps
call_bucket-requires-clause-steps g c = let m = c.requires.stands in omega (arith, few_steps c.args.shared.now c.args.worker.now c.requires.shared m.before m.stand m.is)

pub returns : goal.returns
returns g c =
    stopped c.args.shared.now c.args.worker.now _ c.requires.shared c.args.at c.args.no c.requires.at.0 c.requires.at.1 (subst (λ (r : BucketReply). CalledBucket c.args.shared.now c.args.worker.now.passes c.call_bucket.new.passes c.args.at (call.Segment c.args.no None) r) c.in-Stopped.is c.in_ok-call_bucket.ensures) (sym (nil_end c.args.worker.now.hand.items)) refl
