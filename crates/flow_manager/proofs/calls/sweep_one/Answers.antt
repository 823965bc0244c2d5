use Rattle.std.proofs.Common.{subst}
use Rattle.flow_bucket.specs.declared.calls.BucketCall.TheVariants.{Sweep}
use Rattle.flow_bucket.specs.declared.calls.BucketReply.{BucketReply}
use Rattle.flow_manager.proofs.Sweeping.{swept_one}
use Rattle.role_steps.specs.Calls.{CalledBucket}
use Rattle.flow_manager.proofs.calls.sweep_one.Goals as goal

pub returns : goal.returns
returns g c =
    swept_one c.args.shared.now c.args.manager.now _ c.args.at c.args.round c.args.seen c.args.emergency c.in-Swept.flows c.requires.shared c.requires.at
    (subst (λ (r : BucketReply). CalledBucket c.args.shared.now c.args.manager.now.passes c.call_bucket.new.passes c.args.at (Sweep c.args.round c.args.emergency c.args.seen) r)
    c.in-Swept.is c.in_ok-flows.ensures)
    c.in_ok-keep-in-Swept.ensures
