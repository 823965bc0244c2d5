use Rattle.std.proofs.Common.{[], Box, Global, Option, ap, map, subst, sym}
use Rattle.flow_object.specs.Object.{Object}
use Rattle.flow_worker.specs.Looking.{TookObject}
use Rattle.flow_worker.specs.Places.{is_missed, is_taken, to_taken}
use Rattle.flow_worker.proofs.Finding.{freed_on}
use Rattle.flow_worker.proofs.Steps.{may_on}
use Rattle.flow_worker.proofs.look.find_object.Goals as goal
use Rattle.role_steps.specs.Items.{gone_of}
use Rattle.run_rules.specs.Worker.{takes_on}

pub free_one-requires-clause-stands : goal.free_one-requires-clause-stands
free_one-requires-clause-stands g c =
    let t = subst (λ (o : Option (Box Object Global)). TookObject c.args.shared.now c.args.worker.now c.take.new.worker c.args.no o) c.in-None.is c.in_ok-obj.ensures in
    may_on c.args.shared.now c.args.worker.now c.take.new.worker (is_missed c.args.no) (is_taken c.take.new.worker.hand.items c.args.no) (to_taken c.args.worker.now.hand.items c.args.no) [] c.requires.stands t.1
    (λ before st todo hand is there. ap (λ h. takes_on (map gone_of h.items) c.args.no todo) (sym t.0))

pub returns-in-Some : goal.returns-in-Some
returns-in-Some g c = subst (λ (o : Option (Box Object Global)). TookObject c.args.shared.now c.args.worker.now c.take.new.worker c.args.no o) c.in-Some.is c.in_ok-obj.ensures

pub returns-in_ok-freed-in-None : goal.returns-in_ok-freed-in-None
returns-in_ok-freed-in-None g c =
    let t = subst (λ (o : Option (Box Object Global)). TookObject c.args.shared.now c.args.worker.now c.take.new.worker c.args.no o) c.in-None.is c.in_ok-obj.ensures in
    freed_on c.args.shared.now c.args.worker.now c.take.new.worker c.free_one.new.worker (is_missed c.args.no) (is_taken c.take.new.worker.hand.items c.args.no) (to_taken c.args.worker.now.hand.items c.args.no) c.args.no c.in_ok-freed-in-None.freed t.1 c.in_ok-freed-in-None.ensures
    (λ before st todo hand is there. ap (λ h. takes_on (map gone_of h.items) c.args.no todo) (sym t.0))
