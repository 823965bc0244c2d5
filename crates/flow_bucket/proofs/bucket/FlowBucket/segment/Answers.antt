use Rattle.std.proofs.Common.{Option, sym, subst}
use Rattle.std.specs.Prelude.{Box}
use Rattle.std.specs.declared.alloc.Global.{Global}
use Rattle.suri_base.specs.Linked.{Linked}
use Rattle.bucket_rules.specs.Row.{row}
use Rattle.flow_table.specs.Slots.{filled, rank}
use Rattle.flow_table.proofs.Slots.{get_rank}
use Rattle.flow_bucket.specs.Bucket.{fixed_of}
use Rattle.flow_bucket.specs.Stands.{Done, MaySettle}
use Rattle.flow_bucket.specs.declared.calls.BucketCall.TheVariants as call
use Rattle.flow_bucket.specs.declared.calls.BucketReply.TheVariants as reply
use Rattle.suri_base.specs.declared.entry.BucketNote.TheVariants as note
use Rattle.flow_bucket.proofs.Closing.{asks_for, may_owes, own, unsettled}
use Rattle.flow_bucket.proofs.Slotted.{settle_stopped, settle_stored}
use Rattle.flow_bucket.proofs.bucket.FlowBucket.segment.Goals as goal

pub unreachable-requires : goal.unreachable-requires
unreachable-requires c =
    unsettled (fixed_of c.args.self.now) c.requires.may.0 (filled c.args.self.now.flows.slots) c.requires.may.1 c.args.no c.in_default.ensures c.args.role c.args.node c.requires.may.2

pub settle-requires-clause-flow : goal.settle-requires-clause-flow
settle-requires-clause-flow c =
    let s = fixed_of c.args.self.now in
    let past = c.requires.may.0 in
    let st = c.requires.may.1 in
    let slots = c.args.self.now.flows.slots in
    let u = c.in-Some.ensures in
    let at = rank slots c.in-Some.slot in
    let there = get_rank slots c.in-Some.slot u.flow u.there in
    record {
      flow = u.flow;
      there = u.there;
      holds = (
        s.capture.bytes,
        (own s past (filled slots) st c.args.no at u.flow u.flow there u.passes).object.run,
        (row s u.flow.run past).judged,
        asks_for s past (filled slots) st c.args.no at u.flow u.flow there u.passes c.args.role (may_owes past c.args.role c.args.no c.args.node c.requires.may.2),
      );
    }

pub settle-requires-in-None-clause-flow : goal.settle-requires-in-None-clause-flow
settle-requires-in-None-clause-flow c =
    let s = fixed_of c.args.self.now in
    let past = c.requires.may.0 in
    let st = c.requires.may.1 in
    let slots = c.args.self.now.flows.slots in
    let u = c.in-Some.ensures in
    let at = rank slots c.in-Some.slot in
    let there = get_rank slots c.in-Some.slot u.flow u.there in
    record {
      flow = u.flow;
      there = u.there;
      holds = (
        s.capture.bytes,
        (own s past (filled slots) st c.args.no at u.flow u.flow there u.passes).object.run,
        (row s u.flow.run past).judged,
        asks_for s past (filled slots) st c.args.no at u.flow u.flow there u.passes c.args.role (may_owes past c.args.role c.args.no c.args.node c.requires.may.2),
      );
    }

pub returns-in-Some-node-clause-done : goal.returns-in-Some-node-clause-done
returns-in-Some-node-clause-done c = λ past st may.
    let s = fixed_of c.args.self.now in
    let node = c.in-Some-node.node in
    subst (λ (n : Option (Box Linked Global)). Done s past c.args.role (call.Segment c.args.no n) reply.Stored (note.Stored c.args.no) (filled c.settle.new.self.slots)) (sym c.in-Some-node.is)
    (settle_stored s past c.args.self.now.flows.slots c.settle.new.self.slots st c.args.role c.args.no c.in-Some.slot c.in-Some.ensures node (may_owes past c.args.role c.args.no c.args.node may)
    (subst (λ (n : Option (Box Linked Global)). MaySettle past c.args.role c.args.no n) c.in-Some-node.is may) c.settle.ensures)

pub returns-in-None-clause-done : goal.returns-in-None-clause-done
returns-in-None-clause-done c = λ past st may.
    let s = fixed_of c.args.self.now in
    subst (λ (n : Option (Box Linked Global)). Done s past c.args.role (call.Segment c.args.no n) reply.Stopped (note.Stopped c.args.no) (filled c.settle-in-None.new.self.slots)) (sym c.in-None.is)
    (settle_stopped s past c.args.self.now.flows.slots c.settle-in-None.new.self.slots st c.args.role c.args.no c.in-Some.slot c.in-Some.ensures (may_owes past c.args.role c.args.no c.args.node may)
    (subst (λ (n : Option (Box Linked Global)). MaySettle past c.args.role c.args.no n) c.in-None.is may) c.settle-in-None.ensures)
