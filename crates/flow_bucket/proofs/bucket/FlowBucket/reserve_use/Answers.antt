use Rattle.std.proofs.Common.{arith, sym}
use Rattle.std.proofs.lemmas.Result.{on_ok_weaker}
use Rattle.flow_bucket.specs.Bucket.{fixed_of}
use Rattle.flow_bucket.proofs.Reserving.{roomier_back, roomier_count, roomier_stands, room_kept, use_kept, use_none, use_reserved}
use Rattle.flow_bucket.proofs.bucket.FlowBucket.reserve_use.Goals as goal

pub returns-in_default-linked-clause-room : goal.returns-in_default-linked-clause-room
returns-in_default-linked-clause-room c = use_none (fixed_of c.args.self.now) c.args.no c.in-Some.facts c.args.self.now.flows (sym c.in-Some.ensures.value) c.in_default-linked.ensures

pub returns-clause-room : goal.returns-clause-room
returns-clause-room c =
    on_ok_weaker c.reserve_join.result
    (λ room. use_reserved (fixed_of c.args.self.now) c.args.no c.in-Some.facts c.args.self.now.flows.slots c.reserve_join.new.self c.in-Some-linked.slot (sym c.in-Some.ensures.value) c.in-Some-linked.ensures c.reserve_join.ensures.flow room)
    c.reserve_join.ensures.room

pub returns-clause-stands : goal.returns-clause-stands
returns-clause-stands c = λ past st. roomier_stands (fixed_of c.args.self.now) past c.args.self.now.flows.slots c.reserve_join.new.self.slots c.in-Some-linked.slot c.reserve_join.ensures.flow st

pub returns-clause-back : goal.returns-clause-back
returns-clause-back c = λ past st. roomier_back (fixed_of c.args.self.now) past c.args.self.now.flows.slots c.reserve_join.new.self.slots c.in-Some-linked.slot c.reserve_join.ensures.flow st

pub returns-clause-kept : goal.returns-clause-kept
returns-clause-kept c =
    room_kept c.args.self.now (record c.args.self.now { flows = c.reserve_join.new.self })
    (λ f had. use_kept (fixed_of c.args.self.now) f c.args.self.now.flows c.reserve_join.new.self c.in-Some-linked.slot c.reserve_join.ensures.flow c.reserve_join.ensures.joins had)
    (roomier_count c.args.self.now.flows.slots c.reserve_join.new.self.slots c.in-Some-linked.slot c.reserve_join.ensures.flow) c.reserve_join.ensures.begins (omega arith) (omega arith)
