use Rattle.std.proofs.Common.{arith, refl, subst, sym}
use Rattle.flow_bucket.specs.declared.calls.BucketCall.TheVariants as call
use Rattle.flow_bucket.specs.declared.calls.BucketReply.{BucketReply}
use Rattle.role_steps.specs.Calls.{CalledBucket}
use Rattle.flow_worker.proofs.Telling.{tells_made, told_by}
use Rattle.flow_bucket.specs.declared.calls.BucketReply.TheVariants as reply
use Rattle.suri_base.specs.declared.entry.BucketNote.TheVariants.{Made}
use Rattle.std.proofs.Common.{false}
use Rattle.role_steps.specs.Roles.{number_of, setup_of}
use Rattle.run_rules.specs.Setup.{fixed_at}
use Rattle.flow_worker.proofs.Words.{nil_end}
use Rattle.flow_worker.proofs.Allowed.{few_steps, waits_granted}
use Rattle.flow_worker.proofs.Steps.{begun}
use Rattle.flow_worker.proofs.look.make.Goals as goal

pub call_bucket-requires-clause-may : goal.call_bucket-requires-clause-may
call_bucket-requires-clause-may g c =
    let m = c.requires.stands in
    (waits_granted c.args.shared.now c.args.worker.now c.requires.shared m.before m.stand m.is c.args.no c.args.at m.todo m.there c.requires.at.1, c.requires.object.0, c.requires.object.1)

pub call_bucket-requires-clause-steps : goal.call_bucket-requires-clause-steps
call_bucket-requires-clause-steps g c = let m = c.requires.stands in omega (arith, few_steps c.args.shared.now c.args.worker.now c.requires.shared m.before m.stand m.is)

pub returns : goal.returns
returns g c = (
  begun c.args.shared.now c.args.worker.now _ c.requires.shared c.args.at c.args.no c.requires.at.0 c.args.obj c.in-Made.offer c.requires.at.1
      (subst (λ (r : BucketReply). CalledBucket c.args.shared.now c.args.worker.now.passes c.call_bucket.new.passes c.args.at (call.Make c.args.no c.args.obj) r) c.in-Made.is c.in_ok-offer.ensures) (sym (nil_end c.args.worker.now.hand.items)) refl,
  told_by c.args.shared.now c.args.worker.now (record { passes = c.call_bucket.new.passes; hand = c.args.worker.now.hand; lines = c.args.worker.now.lines }) c.args.at c.args.no (call.Make c.args.no c.args.obj) (reply.Made c.in-Made.offer) false c.requires.shared c.requires.at.1
      (subst (λ (r : BucketReply). CalledBucket c.args.shared.now c.args.worker.now.passes c.call_bucket.new.passes c.args.at (call.Make c.args.no c.args.obj) r) c.in-Made.is c.in_ok-offer.ensures) (Made c.args.no c.in-Made.offer) (subst (λ (r : BucketReply). CalledBucket c.args.shared.now c.args.worker.now.passes c.call_bucket.new.passes c.args.at (call.Make c.args.no c.args.obj) r) c.in-Made.is c.in_ok-offer.ensures).answer.noted (λ past legal rule. tells_made (fixed_at (setup_of c.args.shared.now) c.args.at) past (number_of c.args.worker.now.passes) c.args.worker.now.passes.step c.args.no c.in-Made.offer legal rule),
)
