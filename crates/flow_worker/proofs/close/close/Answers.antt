use Rattle.std.proofs.Common.{[], length, true, false, arith, refl, subst, sym}
use Rattle.flow_bucket.specs.declared.calls.BucketCall.TheVariants as call
use Rattle.flow_bucket.specs.declared.calls.BucketReply.{BucketReply}
use Rattle.flow_worker.proofs.Allowed.{few_steps, may_close, refused_stays}
use Rattle.flow_worker.proofs.Closing.{closed, few_freed, gave_back, idled, is_verdict, legal_before, rule_of}
use Rattle.flow_worker.proofs.Steps.{goes_on}
use Rattle.flow_worker.proofs.Words.{nil_end}
use Rattle.flow_worker.specs.Places.{is_closing, is_freeing, to_closing, to_freeing}
use Rattle.std.specs.Option.{is_some}
use Rattle.suri_base.specs.declared.entry.BucketNote.TheVariants.{Closed, Idle}
use Rattle.flow_bucket.specs.declared.calls.BucketReply.TheVariants as reply
use Rattle.flow_worker.proofs.close.close.Goals as goal
use Rattle.role_steps.specs.Calls.{CalledBucket}

pub call_bucket-requires-clause-may : goal.call_bucket-requires-clause-may
call_bucket-requires-clause-may g c =
    let m = c.requires.stands in
    may_close c.args.shared.now c.args.worker.now c.requires.shared m.before m.stand m.is c.args.no c.args.at c.args.app m.todo m.there c.requires.at.1

pub call_bucket-requires-clause-steps : goal.call_bucket-requires-clause-steps
call_bucket-requires-clause-steps g c = let m = c.requires.stands in omega (arith, few_steps c.args.shared.now c.args.worker.now c.requires.shared m.before m.stand m.is)

pub give_back-requires-clause-few : goal.give_back-requires-clause-few
give_back-requires-clause-few g c =
    let called = (subst (λ (r : BucketReply). CalledBucket c.args.shared.now c.args.worker.now.passes c.call_bucket.new.passes c.args.at (call.Close c.args.no c.args.app) r) c.in-Closed.is c.in_ok-freed.ensures) in
    few_freed c.args.shared.now c.args.worker.now.passes c.call_bucket.new.passes c.args.at c.args.no c.args.app (reply.Closed c.in-Closed.run' c.in-Closed.freed c.in-Closed.ended) c.requires.shared called c.in-Closed.run' (length c.in-Closed.freed) (is_some c.in-Closed.ended) called.answer.noted

pub give_back-requires-clause-steps : goal.give_back-requires-clause-steps
give_back-requires-clause-steps g c =
    let called = (subst (λ (r : BucketReply). CalledBucket c.args.shared.now c.args.worker.now.passes c.call_bucket.new.passes c.args.at (call.Close c.args.no c.args.app) r) c.in-Closed.is c.in_ok-freed.ensures) in
    let m = c.requires.stands in omega (arith, called.step, few_steps c.args.shared.now c.args.worker.now c.requires.shared m.before m.stand m.is)

pub returns-in_ok-give_back-in-Closed : goal.returns-in_ok-give_back-in-Closed
returns-in_ok-give_back-in-Closed g c =
    let called = (subst (λ (r : BucketReply). CalledBucket c.args.shared.now c.args.worker.now.passes c.call_bucket.new.passes c.args.at (call.Close c.args.no c.args.app) r) c.in-Closed.is c.in_ok-freed.ensures) in
    let m = c.requires.stands in
    let legal = legal_before c.args.shared.now c.args.worker.now.passes c.call_bucket.new.passes c.args.at c.args.no c.args.app (reply.Closed c.in-Closed.run' c.in-Closed.freed c.in-Closed.ended) c.requires.shared called in
    let stays = refused_stays c.args.shared.now c.args.worker.now c.requires.shared m.before m.stand m.is c.args.no c.args.at m.todo called.stepped.before m.there c.requires.at.1 called.stepped.grew legal in
    let rule = rule_of c.args.shared.now c.args.worker.now.passes c.call_bucket.new.passes c.args.at c.args.no c.args.app (reply.Closed c.in-Closed.run' c.in-Closed.freed c.in-Closed.ended) c.requires.shared called (Closed c.args.no c.args.app c.in-Closed.run' (length c.in-Closed.freed) (is_some c.in-Closed.ended)) called.answer.noted in
    let verdict = is_verdict c.args.shared.now c.args.worker.now c.call_bucket.new.passes c.args.at c.args.no c.args.app (reply.Closed c.in-Closed.run' c.in-Closed.freed c.in-Closed.ended) false called stays rule.1 c.requires.verdict in
    goes_on c.args.shared.now c.args.worker.now (record { passes = c.call_bucket.new.passes; hand = c.keep.new.hand; lines = c.args.worker.now.lines }) _ (is_closing c.args.no) (is_freeing (length c.in-Closed.freed)) (to_freeing (length c.in-Closed.freed)) to_closing [] []
    (closed c.args.shared.now c.args.worker.now _ c.requires.shared c.args.at c.args.no c.requires.at.0 c.requires.at.1 c.args.app c.in-Closed.run' c.in-Closed.freed c.in-Closed.ended verdict called c.in_ok-keep-in-Closed.ensures refl)
    (gave_back c.args.shared.now _ _ (length c.in-Closed.freed) c.in_ok-give_back-in-Closed.ensures refl refl) (λ before st todo hand is there. refl) (λ st todo p hand. refl)

pub returns-in-Idle : goal.returns-in-Idle
returns-in-Idle g c =
    let called = (subst (λ (r : BucketReply). CalledBucket c.args.shared.now c.args.worker.now.passes c.call_bucket.new.passes c.args.at (call.Close c.args.no c.args.app) r) c.in-Idle.is c.in_ok-freed.ensures) in
    let m = c.requires.stands in
    let legal = legal_before c.args.shared.now c.args.worker.now.passes c.call_bucket.new.passes c.args.at c.args.no c.args.app reply.Idle c.requires.shared called in
    let stays = refused_stays c.args.shared.now c.args.worker.now c.requires.shared m.before m.stand m.is c.args.no c.args.at m.todo called.stepped.before m.there c.requires.at.1 called.stepped.grew legal in
    let rule = rule_of c.args.shared.now c.args.worker.now.passes c.call_bucket.new.passes c.args.at c.args.no c.args.app reply.Idle c.requires.shared called (Idle c.args.no c.args.app) called.answer.noted in
    let verdict = is_verdict c.args.shared.now c.args.worker.now c.call_bucket.new.passes c.args.at c.args.no c.args.app reply.Idle true called stays rule.1 c.requires.verdict in
    idled c.args.shared.now c.args.worker.now _ c.requires.shared c.args.at c.args.no c.requires.at.0 c.requires.at.1 c.args.app verdict called (sym (nil_end c.args.worker.now.hand.items)) refl
