use Rattle.flow_table.specs.Slots.{filled}
use Rattle.flow_bucket.specs.Bucket.{fixed_of}
use Rattle.std.proofs.Common.{ℕ, ap, subst, sym}
use Rattle.suri_base.specs.declared.entry.BucketNote.TheVariants as note
use Rattle.flow_object.specs.Ending.{EndedFlow}
use Rattle.flow_bucket.specs.Stands.{Done}
use Rattle.flow_bucket.specs.declared.calls.BucketCall.TheVariants as call
use Rattle.flow_bucket.specs.declared.calls.BucketReply.TheVariants as reply
use Rattle.flow_bucket.proofs.Ending.{evict_none}
use Rattle.flow_bucket.proofs.Slotted.{evict_done}
use Rattle.flow_bucket.proofs.Taking.{victim_free}
use Rattle.flow_bucket.proofs.bucket.FlowBucket.evict.Goals as goal

pub take_out-ended-requires : goal.take_out-ended-requires
take_out-ended-requires c = victim_free c.args.self.now.flows.slots c.in-Some.slot c.in-Some.ensures

pub returns-in-None-clause-done : goal.returns-in-None-clause-done
returns-in-None-clause-done c = λ past st may.
    evict_none (fixed_of c.args.self.now) past c.args.role c.args.no (filled c.args.self.now.flows.slots) c.count-count.result st may c.in-None.ensures c.count-count.ensures

pub returns-in-Some-clause-done : goal.returns-in-Some-clause-done
returns-in-Some-clause-done c = λ past st may.
    let base = evict_done (fixed_of c.args.self.now) past c.args.self.now.flows.slots c.take_out-ended.new.self.slots st c.args.role c.args.no c.in-Some.slot c.take_out-ended.result may c.in-Some.ensures.1 c.take_out-ended.ensures in
    subst (λ (n : ℕ). Done (fixed_of c.args.self.now) past c.args.role (call.Evict c.args.no) (reply.Victim c.take_out-ended.result) (note.Victim c.args.no n) (filled c.take_out-ended.new.self.slots)) (ap (λ (e : EndedFlow). e.run) (sym c.ended.view_is)) base
