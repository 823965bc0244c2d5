use Rattle.std.proofs.Common.{refl, subst}
use Rattle.flow_table.specs.Slots.{filled}
use Rattle.flow_bucket.specs.Bucket.{fixed_of}
use Rattle.flow_bucket.specs.Stands.{BucketMay}
use Rattle.flow_bucket.specs.declared.calls.BucketCall.{BucketCall}
use Rattle.flow_bucket.proofs.Closing.{refuse_done}
use Rattle.flow_bucket.proofs.Reserving.{step_stands}
use Rattle.flow_bucket.proofs.bucket.FlowBucketMachine.step.Goals as goal

pub returns-in-Look-clause-stands : goal.returns-in-Look-clause-stands
returns-in-Look-clause-stands c = λ past st may step.
    step_stands (fixed_of c.args.self.now) (fixed_of c.look.new.self) past c.args.role step _ c.look.result.0 c.look.result.1 (filled c.args.self.now.flows.slots) (filled c.look.new.self.flows.slots) c.look.ensures.fixed st
    (c.look.ensures.done past st (subst (λ (x : BucketCall). BucketMay (fixed_of c.args.self.now) c.args.role past x) c.in-Look.is may))

pub returns-in-Make-clause-stands : goal.returns-in-Make-clause-stands
returns-in-Make-clause-stands c = λ past st may step.
    step_stands (fixed_of c.args.self.now) (fixed_of c.make.new.self) past c.args.role step _ c.make.result.0 c.make.result.1 (filled c.args.self.now.flows.slots) (filled c.make.new.self.flows.slots) c.make.ensures.fixed st
    (c.make.ensures.done past st (subst (λ (x : BucketCall). BucketMay (fixed_of c.args.self.now) c.args.role past x) c.in-Make.is may))

pub returns-in-Close-clause-stands : goal.returns-in-Close-clause-stands
returns-in-Close-clause-stands c = λ past st may step.
    step_stands (fixed_of c.args.self.now) (fixed_of c.close.new.self) past c.args.role step _ c.close.result.0 c.close.result.1 (filled c.args.self.now.flows.slots) (filled c.close.new.self.flows.slots) c.close.ensures.fixed st
    (c.close.ensures.done past st (subst (λ (x : BucketCall). BucketMay (fixed_of c.args.self.now) c.args.role past x) c.in-Close.is may))

pub returns-in-Evict-clause-stands : goal.returns-in-Evict-clause-stands
returns-in-Evict-clause-stands c = λ past st may step.
    step_stands (fixed_of c.args.self.now) (fixed_of c.evict.new.self) past c.args.role step _ c.evict.result.0 c.evict.result.1 (filled c.args.self.now.flows.slots) (filled c.evict.new.self.flows.slots) c.evict.ensures.fixed st
    (c.evict.ensures.done past st (subst (λ (x : BucketCall). BucketMay (fixed_of c.args.self.now) c.args.role past x) c.in-Evict.is may))

pub returns-in-Sweep-clause-stands : goal.returns-in-Sweep-clause-stands
returns-in-Sweep-clause-stands c = λ past st may step.
    step_stands (fixed_of c.args.self.now) (fixed_of c.sweep.new.self) past c.args.role step _ c.sweep.result.0 c.sweep.result.1 (filled c.args.self.now.flows.slots) (filled c.sweep.new.self.flows.slots) c.sweep.ensures.fixed st
    (c.sweep.ensures.done past st (subst (λ (x : BucketCall). BucketMay (fixed_of c.args.self.now) c.args.role past x) c.in-Sweep.is may))

pub returns-in-Drain-clause-stands : goal.returns-in-Drain-clause-stands
returns-in-Drain-clause-stands c = λ past st may step.
    step_stands (fixed_of c.args.self.now) (fixed_of c.drain.new.self) past c.args.role step _ c.drain.result.0 c.drain.result.1 (filled c.args.self.now.flows.slots) (filled c.drain.new.self.flows.slots) c.drain.ensures.fixed st
    (c.drain.ensures.done past st (subst (λ (x : BucketCall). BucketMay (fixed_of c.args.self.now) c.args.role past x) c.in-Drain.is may))

pub returns-in-Refuse-clause-stands : goal.returns-in-Refuse-clause-stands
returns-in-Refuse-clause-stands c = λ past st may step.
    step_stands (fixed_of c.args.self.now) (fixed_of c.args.self.now) past c.args.role step _ _ _ (filled c.args.self.now.flows.slots) (filled c.args.self.now.flows.slots) refl st
    (refuse_done (fixed_of c.args.self.now) past (filled c.args.self.now.flows.slots) st c.args.role c.in-Refuse.no (subst (λ (x : BucketCall). BucketMay (fixed_of c.args.self.now) c.args.role past x) c.in-Refuse.is may))

pub returns-in-Segment-clause-stands : goal.returns-in-Segment-clause-stands
returns-in-Segment-clause-stands c = λ past st may step.
    step_stands (fixed_of c.args.self.now) (fixed_of c.segment.new.self) past c.args.role step _ c.segment.result.0 c.segment.result.1 (filled c.args.self.now.flows.slots) (filled c.segment.new.self.flows.slots) c.segment.ensures.fixed st
    (c.segment.ensures.done past st (subst (λ (x : BucketCall). BucketMay (fixed_of c.args.self.now) c.args.role past x) c.in-Segment.is may))
