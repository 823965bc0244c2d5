use Rattle.std.proofs.Common.{arith, refl, subst, sym}
use Rattle.flow_bucket.specs.declared.calls.BucketCall.TheVariants as call
use Rattle.flow_bucket.specs.declared.calls.BucketReply.{BucketReply}
use Rattle.role_steps.specs.Calls.{CalledBucket}
use Rattle.flow_worker.proofs.Telling.{tells_refused, told_by}
use Rattle.flow_bucket.specs.declared.calls.BucketReply.TheVariants as reply
use Rattle.suri_base.specs.declared.entry.BucketNote.TheVariants.{Refused}
use Rattle.std.proofs.Common.{true}
use Rattle.role_steps.specs.Roles.{number_of, setup_of}
use Rattle.run_rules.specs.Setup.{fixed_at}
use Rattle.flow_worker.proofs.Words.{nil_end}
use Rattle.flow_worker.proofs.Allowed.{few_steps, waits_denied}
use Rattle.flow_worker.proofs.Steps.{refused}
use Rattle.flow_worker.proofs.look.refuse.Goals as goal

pub call_bucket-requires-clause-may : goal.call_bucket-requires-clause-may
call_bucket-requires-clause-may g c =
    let m = c.requires.stands in
    waits_denied c.args.shared.now c.args.worker.now c.requires.shared m.before m.stand m.is c.args.no c.args.at m.todo m.there c.requires.at.1

pub call_bucket-requires-clause-steps : goal.call_bucket-requires-clause-steps
call_bucket-requires-clause-steps g c = let m = c.requires.stands in omega (arith, few_steps c.args.shared.now c.args.worker.now c.requires.shared m.before m.stand m.is)

pub returns : goal.returns
returns g c = (
  refused c.args.shared.now c.args.worker.now _ c.requires.shared c.args.at c.args.no c.requires.at.0 c.requires.at.1 (subst (λ (r : BucketReply). CalledBucket c.args.shared.now c.args.worker.now.passes c.call_bucket.new.passes c.args.at (call.Refuse c.args.no) r) c.in-Refused.is c.in_ok-call_bucket.ensures) (sym (nil_end c.args.worker.now.hand.items)) refl,
  told_by c.args.shared.now c.args.worker.now (record { passes = c.call_bucket.new.passes; hand = c.args.worker.now.hand; lines = c.args.worker.now.lines }) c.args.at c.args.no (call.Refuse c.args.no) reply.Refused true c.requires.shared c.requires.at.1
      (subst (λ (r : BucketReply). CalledBucket c.args.shared.now c.args.worker.now.passes c.call_bucket.new.passes c.args.at (call.Refuse c.args.no) r) c.in-Refused.is c.in_ok-call_bucket.ensures) (Refused c.args.no) (subst (λ (r : BucketReply). CalledBucket c.args.shared.now c.args.worker.now.passes c.call_bucket.new.passes c.args.at (call.Refuse c.args.no) r) c.in-Refused.is c.in_ok-call_bucket.ensures).answer.noted (λ past legal rule. tells_refused (fixed_at (setup_of c.args.shared.now) c.args.at) past (number_of c.args.worker.now.passes) c.args.worker.now.passes.step c.args.no legal rule),
)
