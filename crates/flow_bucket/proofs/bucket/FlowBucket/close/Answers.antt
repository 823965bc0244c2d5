use Rattle.std.proofs.Common.{sym}
use Rattle.flow_table.specs.Slots.{filled}
use Rattle.flow_bucket.specs.Bucket.{fixed_of}
use Rattle.flow_bucket.proofs.Closing.{close_idle}
use Rattle.flow_bucket.proofs.LookCalls.{done_at}
use Rattle.flow_bucket.proofs.Slotted.{slot_leaves, slot_stays}
use Rattle.flow_bucket.proofs.Taking.{gone_free}
use Rattle.flow_bucket.proofs.bucket.FlowBucket.close.Goals as goal

pub take_out-ended-requires : goal.take_out-ended-requires
take_out-ended-requires c = record { flow = c.flow-2.result.now; there = c.flow-2.ensures; holds = gone_free c.flow-2.result.now c.in-Some-gone.cause (sym c.in-Some-gone.ensures) }

pub returns-in_default-clause-done : goal.returns-in_default-clause-done
returns-in_default-clause-done c = λ past st may.
    close_idle (fixed_of c.args.self.now) past (filled c.args.self.now.flows.slots) st c.args.no c.in_default.ensures c.args.role c.args.app may

pub returns-in_default-gone-clause-done : goal.returns-in_default-gone-clause-done
returns-in_default-gone-clause-done c = λ past st may.
    done_at (fixed_of c.args.self.now) past c.args.role _ c.closed.result.0 _ c.closed.result.1 _ _ c.closed.ensures.reply c.closed.ensures.note
    (slot_stays (fixed_of c.args.self.now) past c.args.self.now.flows.slots c.close-freed.new.self.slots st c.args.role c.args.no c.in-Some.slot c.in-Some.ensures c.args.app c.close-freed.result may c.close-freed.ensures.flow
    c.run-run.result c.flow.result.now c.flow.ensures c.run-run.ensures c.flow-2.result.now c.flow-2.ensures (sym c.in_default-gone.ensures))

pub returns-clause-done : goal.returns-clause-done
returns-clause-done c = λ past st may.
    done_at (fixed_of c.args.self.now) past c.args.role _ c.closed-2.result.0 _ c.closed-2.result.1 _ _ c.closed-2.ensures.reply c.closed-2.ensures.note
    (slot_leaves (fixed_of c.args.self.now) past c.args.self.now.flows.slots c.close-freed.new.self.slots st c.args.role c.args.no c.in-Some.slot c.in-Some.ensures c.args.app c.close-freed.result may c.close-freed.ensures.flow
    c.run-run.result c.flow.result.now c.flow.ensures c.run-run.ensures c.flow-2.result.now c.flow-2.ensures c.in-Some-gone.cause c.take_out-ended.new.self.slots c.take_out-ended.result (sym c.in-Some-gone.ensures) c.take_out-ended.ensures)
