use Rattle.std.proofs.Common.{sym}
use Rattle.flow_table.specs.Slots.{filled}
use Rattle.flow_bucket.specs.Bucket.{fixed_of}
use Rattle.flow_bucket.proofs.Closing.{made_bears, new_run}
use Rattle.flow_bucket.proofs.Slotted.{begin_done}
use Rattle.flow_bucket.proofs.bucket.FlowBucket.make.Goals as goal

pub unreachable-requires : goal.unreachable-requires
unreachable-requires c = made_bears (fixed_of c.args.self.now) c.requires.may.0 (filled c.args.self.now.flows.slots) c.requires.may.1 c.args.role c.args.no c.requires.may.2.0 (sym c.in_default.ensures.value)

pub begin-offer-requires-clause-new : goal.begin-offer-requires-clause-new
begin-offer-requires-clause-new c =
    new_run (fixed_of c.args.self.now) c.requires.may.0 (filled c.args.self.now.flows.slots) c.requires.may.1 c.args.role c.args.no c.in-Some.facts c.requires.may.2.0 (sym c.in-Some.ensures.value) c.in-Some.ensures.fine.number

pub returns-clause-done : goal.returns-clause-done
returns-clause-done c = λ past st may.
    begin_done (fixed_of c.args.self.now) past c.args.self.now.flows.slots c.begin-offer.new.self.slots st c.args.role c.args.no c.in-Some.facts c.begin-offer.result c.args.obj may (sym c.in-Some.ensures.value) c.in-Some.ensures.fine.number c.begin-offer.ensures
