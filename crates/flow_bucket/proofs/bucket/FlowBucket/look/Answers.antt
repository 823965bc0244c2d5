use Rattle.std.proofs.Common.{◌≡◌, ◌∙◌, ap, sym}
use Rattle.bucket_rules.specs.Row.{row}
use Rattle.bucket_flow.specs.Held.{Held, cut_at}
use Rattle.flow_table.specs.Slots.{filled, rank}
use Rattle.flow_table.proofs.Slots.{get_rank, one_in}
use Rattle.flow_bucket.specs.Bucket.{fixed_of}
use Rattle.flow_bucket.proofs.Looking.{Target, target}
use Rattle.flow_bucket.proofs.LookCalls.{done_at, known, later, look_none, unused}
use Rattle.flow_bucket.proofs.Slotted.{cut_done, join_done}
use Rattle.flow_bucket.proofs.bucket.FlowBucket.look.Goals as goal

pub returns-in_default-linked-clause-done : goal.returns-in_default-linked-clause-done
returns-in_default-linked-clause-done c = λ past st may.
    done_at (fixed_of c.args.self.now) past c.args.role _ c.missing.result.0 _ c.missing.result.1 _ _ c.missing.ensures.reply c.missing.ensures.note
    (look_none (fixed_of c.args.self.now) past (filled c.args.self.now.flows.slots) c.args.no c.in-Some.facts st (sym c.in-Some.ensures.value) c.args.role may c.args.emergency c.args.seen c.in_default-linked.ensures)

goal_of : (c : goal.After-facts-in-None-1) → Target (fixed_of c.args.self.now) c.requires.may.0 (filled c.args.self.now.flows.slots) c.args.no c.in-Some.facts c.requires.may.1 (sym c.in-Some.ensures.value) c.in-Some-linked.ensures.flow
goal_of c =
    let slots = c.args.self.now.flows.slots in
    let u = c.in-Some-linked.ensures in
    target (fixed_of c.args.self.now) c.requires.may.0 (filled slots) c.args.no c.in-Some.facts c.requires.may.1 (sym c.in-Some.ensures.value) (rank slots c.in-Some-linked.slot) u.flow (get_rank slots c.in-Some-linked.slot u.flow u.there) u.passes

pub join-offer-requires-clause-room : goal.join-offer-requires-clause-room
join-offer-requires-clause-room c =
    let u = c.in-Some-linked.ensures in
    (c.requires.room c.requires.may.0 c.requires.may.1 c.in-Some.facts c.in-Some-linked.slot u.flow (sym c.in-Some.ensures.value) u.there u.passes).1

pub join-offer-requires-clause-flow : goal.join-offer-requires-clause-flow
join-offer-requires-clause-flow c =
    let s = fixed_of c.args.self.now in
    let past = c.requires.may.0 in
    let flows = filled c.args.self.now.flows.slots in
    let u = c.in-Some-linked.ensures in
    let b = sym c.in-Some.ensures.value in
    record {
      flow = u.flow;
      there = u.there;
      holds = record {
        key = sym (goal_of c).same;
        later = later s past flows c.args.no c.in-Some.facts c.requires.may.1 b c.args.role c.requires.may.2 c.count-frames.ensures.fits u.flow (goal_of c) c.in-Some.ensures.fine.number;
        room = (c.requires.room past c.requires.may.1 c.in-Some.facts c.in-Some-linked.slot u.flow b u.there u.passes).0;
        known = ((goal_of c).flow.object.run, (row s u.flow.run past).judged, known s past flows c.args.no c.in-Some.facts c.requires.may.1 b c.args.role c.requires.may.2 u.flow (goal_of c));
      };
    }

pub join-offer-requires-clause-unused : goal.join-offer-requires-clause-unused
join-offer-requires-clause-unused c =
    unused (fixed_of c.args.self.now) c.requires.may.0 (filled c.args.self.now.flows.slots) c.args.no c.in-Some.facts c.requires.may.1 (sym c.in-Some.ensures.value) c.args.role c.requires.may.2 c.in-Some.ensures.fine.number

pub returns-in-None-clause-done : goal.returns-in-None-clause-done
returns-in-None-clause-done c = λ past st may.
    let slots = c.args.self.now.flows.slots in
    let u = c.in-Some-linked.ensures in
    let read : c.flow.result.now ≡ u.flow = one_in slots c.in-Some-linked.slot c.flow.result.now u.flow c.flow.ensures u.there in
    let again : c.flow-in-None.result.now ≡ u.flow = one_in slots c.in-Some-linked.slot c.flow-in-None.result.now u.flow c.flow-in-None.ensures u.there in
    join_done (fixed_of c.args.self.now) past slots c.join-offer.new.self.slots st c.args.role c.args.no c.in-Some.facts (sym c.in-Some.ensures.value) may c.args.emergency c.args.seen c.in-Some-linked.slot u c.run-run.result c.join-offer.result
    (ap (λ (x : Held). cut_at x.obj c.in-Some.facts c.args.emergency) (sym read) ∙ sym c.in-None.ensures) c.in-Some.ensures.fine.number c.join-offer.ensures (c.run-run.ensures ∙ ap (λ (x : Held). x.run) again)

pub returns-in-Some-cut-clause-done : goal.returns-in-Some-cut-clause-done
returns-in-Some-cut-clause-done c = λ past st may.
    let slots = c.args.self.now.flows.slots in
    let u = c.in-Some-linked.ensures in
    let read : c.flow.result.now ≡ u.flow = one_in slots c.in-Some-linked.slot c.flow.result.now u.flow c.flow.ensures u.there in
    done_at (fixed_of c.args.self.now) past c.args.role _ c.missing-in-Some-cut.result.0 _ c.missing-in-Some-cut.result.1 _ _ c.missing-in-Some-cut.ensures.reply c.missing-in-Some-cut.ensures.note
    (cut_done (fixed_of c.args.self.now) past slots c.detach-ended.new.flows.slots st c.args.role c.args.no c.in-Some.facts (sym c.in-Some.ensures.value) may c.args.emergency c.args.seen c.in-Some-linked.slot u c.in-Some-cut.cause c.detach-ended.result
    (ap (λ (x : Held). cut_at x.obj c.in-Some.facts c.args.emergency) (sym read) ∙ sym c.in-Some-cut.ensures) c.detach-ended.ensures.leaves c.detach-ended.ensures.stays)
