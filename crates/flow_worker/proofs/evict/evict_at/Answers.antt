use Rattle.std.proofs.Common.{arith, ap, refl, subst, sym, ◌∙◌}
use Rattle.flow_bucket.specs.declared.calls.BucketCall.TheVariants as call
use Rattle.flow_bucket.specs.declared.calls.BucketReply.{BucketReply}
use Rattle.role_steps.specs.Calls.{CalledBucket}
use Rattle.flow_worker.proofs.Words.{nil_end}
use Rattle.flow_worker.proofs.Allowed.{few_steps, may_evict}
use Rattle.flow_worker.proofs.Steps.{all_in_use, evicting_at, victim}
use Rattle.flow_worker.proofs.evict.evict_at.Goals as goal
use Rattle.std.proofs.Common.{[], ◌∷◌, length, length-append}

pub call_bucket-requires-clause-may : goal.call_bucket-requires-clause-may
call_bucket-requires-clause-may g c =
    let m = c.requires.stands in
    may_evict c.args.shared.now c.args.worker.now c.requires.shared m.before m.stand m.is c.args.no c.args.tried c.args.at m.todo c.requires.at
    (m.there ∙ evicting_at c.args.shared.now.layout.rows c.args.tried c.args.no m.todo c.requires.turn.0)

pub call_bucket-requires-clause-steps : goal.call_bucket-requires-clause-steps
call_bucket-requires-clause-steps g c = let m = c.requires.stands in omega (arith, few_steps c.args.shared.now c.args.worker.now c.requires.shared m.before m.stand m.is)

pub returns-in_ok-push_back-in-Victim : goal.returns-in_ok-push_back-in-Victim
returns-in_ok-push_back-in-Victim g c = (
  omega (arith, ap length c.in_ok-push_back-in-Victim.ensures.items, length-append c.args.worker.now.hand.items (c.in-Victim.ended ∷ [])),
  victim c.args.shared.now c.args.worker.now _ c.requires.shared c.args.at c.args.no c.requires.at c.args.tried c.in-Victim.ended c.requires.turn.0 c.requires.turn.1
      (subst (λ (r : BucketReply). CalledBucket c.args.shared.now c.args.worker.now.passes c.call_bucket.new.passes c.args.at (call.Evict c.args.no) r) c.in-Victim.is c.in_ok-ended.ensures) c.in_ok-push_back-in-Victim.ensures.items refl,
)

pub returns-in-AllInUse : goal.returns-in-AllInUse
returns-in-AllInUse g c =
    all_in_use c.args.shared.now c.args.worker.now _ c.requires.shared c.args.at c.args.no c.requires.at c.args.tried c.in-AllInUse.field-0 c.requires.turn.0 c.requires.turn.1
    (subst (λ (r : BucketReply). CalledBucket c.args.shared.now c.args.worker.now.passes c.call_bucket.new.passes c.args.at (call.Evict c.args.no) r) c.in-AllInUse.is c.in_ok-ended.ensures) (sym (nil_end c.args.worker.now.hand.items)) refl
