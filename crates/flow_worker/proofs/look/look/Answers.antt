use Rattle.std.proofs.Common.{arith, refl, subst, sym}
use Rattle.flow_bucket.specs.declared.calls.BucketCall.TheVariants as call
use Rattle.flow_bucket.specs.declared.calls.BucketReply.{BucketReply}
use Rattle.role_steps.specs.Calls.{CalledBucket}
use Rattle.flow_worker.proofs.Telling.{tells_found, told_by}
use Rattle.flow_bucket.specs.declared.calls.BucketReply.TheVariants as reply
use Rattle.suri_base.specs.declared.entry.BucketNote.TheVariants.{Found}
use Rattle.std.proofs.Common.{false}
use Rattle.role_steps.specs.Roles.{number_of, setup_of}
use Rattle.run_rules.specs.Setup.{fixed_at}
use Rattle.flow_worker.proofs.Words.{nil_end}
use Rattle.flow_worker.proofs.Allowed.{few_steps, may_look}
use Rattle.flow_worker.proofs.Steps.{found, missing}
use Rattle.flow_worker.proofs.look.look.Goals as goal

pub call_bucket-requires-clause-may : goal.call_bucket-requires-clause-may
call_bucket-requires-clause-may g c =
    let m = c.requires.stands in
    may_look c.args.shared.now c.args.worker.now c.requires.shared m.before m.stand m.is c.args.no c.args.at c.args.emergency c.args.seen m.todo m.there.stage c.requires.at.1

pub call_bucket-requires-clause-steps : goal.call_bucket-requires-clause-steps
call_bucket-requires-clause-steps g c = let m = c.requires.stands in omega (arith, few_steps c.args.shared.now c.args.worker.now c.requires.shared m.before m.stand m.is)

pub returns-in-Found : goal.returns-in-Found
returns-in-Found g c = (
  found c.args.shared.now c.args.worker.now _ c.requires.shared c.args.at c.args.no c.requires.at.0 c.args.emergency c.args.seen c.in-Found.run' c.in-Found.offer c.requires.at.1
      (subst (λ (r : BucketReply). CalledBucket c.args.shared.now c.args.worker.now.passes c.call_bucket.new.passes c.args.at (call.Look c.args.no c.args.emergency c.args.seen) r) c.in-Found.is c.in_ok-offer.ensures) (sym (nil_end c.args.worker.now.hand.items)) refl,
  told_by c.args.shared.now c.args.worker.now (record { passes = c.call_bucket.new.passes; hand = c.args.worker.now.hand; lines = c.args.worker.now.lines }) c.args.at c.args.no (call.Look c.args.no c.args.emergency c.args.seen) (reply.Found c.in-Found.run' c.in-Found.offer) false c.requires.shared c.requires.at.1
      (subst (λ (r : BucketReply). CalledBucket c.args.shared.now c.args.worker.now.passes c.call_bucket.new.passes c.args.at (call.Look c.args.no c.args.emergency c.args.seen) r) c.in-Found.is c.in_ok-offer.ensures) (Found c.args.no c.args.emergency c.args.seen c.in-Found.run' c.in-Found.offer) (subst (λ (r : BucketReply). CalledBucket c.args.shared.now c.args.worker.now.passes c.call_bucket.new.passes c.args.at (call.Look c.args.no c.args.emergency c.args.seen) r) c.in-Found.is c.in_ok-offer.ensures).answer.noted (λ past legal rule. tells_found (fixed_at (setup_of c.args.shared.now) c.args.at) past (number_of c.args.worker.now.passes) c.args.worker.now.passes.step c.args.no c.args.emergency c.args.seen c.in-Found.run' c.in-Found.offer legal rule),
)

pub returns-in_ok-keep-in-Missing : goal.returns-in_ok-keep-in-Missing
returns-in_ok-keep-in-Missing g c =
    missing c.args.shared.now c.args.worker.now _ c.requires.shared c.args.at c.args.no c.requires.at.0 c.args.emergency c.args.seen c.in-Missing.ended c.requires.at.1
    (subst (λ (r : BucketReply). CalledBucket c.args.shared.now c.args.worker.now.passes c.call_bucket.new.passes c.args.at (call.Look c.args.no c.args.emergency c.args.seen) r) c.in-Missing.is c.in_ok-offer.ensures) c.in_ok-keep-in-Missing.ensures refl
