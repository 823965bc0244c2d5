use Rattle.std.proofs.Common.{arith, refl, subst, true, false, []}
use Rattle.flow_worker.specs.Places.{is_asking, is_settling, to_next, to_settling_it}
use Rattle.flow_worker.proofs.Allowed.{few_steps}
use Rattle.flow_worker.proofs.Steps.{goes_on, had_node, had_none, may_on}
use Rattle.flow_worker.proofs.settle.settle.Goals as goal
use Rattle.role_steps.specs.Calls.{CalledSegments}
use Rattle.segment_pool.specs.declared.calls.SegCall.TheVariants.{Take}
use Rattle.segment_pool.specs.declared.calls.SegReply.{SegReply}

pub call_segments-requires-clause-steps : goal.call_segments-requires-clause-steps
call_segments-requires-clause-steps g c = let m = c.requires.stands in omega (arith, few_steps c.args.shared.now c.args.worker.now c.requires.shared m.before m.stand m.is)

pub store-requires-clause-stands : goal.store-requires-clause-stands
store-requires-clause-stands g c =
    may_on c.args.shared.now c.args.worker.now _ (is_asking c.args.no) (is_settling true c.args.no) (to_settling_it true c.args.no) [] c.requires.stands (had_node c.args.shared.now c.args.worker.now _ c.args.no c.in-Node.node (subst (λ (r : SegReply). CalledSegments c.args.shared.now c.args.worker.now.passes c.call_segments.new.passes (Take c.args.no) r) c.in-Node.is c.in_ok-node.ensures) refl refl) (λ before st todo hand is there. refl)

pub stop-requires-clause-stands : goal.stop-requires-clause-stands
stop-requires-clause-stands g c =
    may_on c.args.shared.now c.args.worker.now _ (is_asking c.args.no) (is_settling false c.args.no) (to_settling_it false c.args.no) [] c.requires.stands (had_none c.args.shared.now c.args.worker.now _ c.args.no c.in-Full.out c.in-Full.limit (subst (λ (r : SegReply). CalledSegments c.args.shared.now c.args.worker.now.passes c.call_segments.new.passes (Take c.args.no) r) c.in-Full.is c.in_ok-node.ensures) refl refl) (λ before st todo hand is there. refl)

pub returns-in_ok-store-in-Node : goal.returns-in_ok-store-in-Node
returns-in_ok-store-in-Node g c =
    goes_on c.args.shared.now c.args.worker.now (record { passes = c.call_segments.new.passes; hand = c.args.worker.now.hand; lines = c.args.worker.now.lines }) c.store.new.worker (is_asking c.args.no) (is_settling true c.args.no) (to_settling_it true c.args.no) to_next [] []
    (had_node c.args.shared.now c.args.worker.now _ c.args.no c.in-Node.node (subst (λ (r : SegReply). CalledSegments c.args.shared.now c.args.worker.now.passes c.call_segments.new.passes (Take c.args.no) r) c.in-Node.is c.in_ok-node.ensures) refl refl) c.in_ok-store-in-Node.ensures (λ before st todo hand is there. refl) (λ st todo p hand. refl)

pub returns-in_ok-stop-in-Full : goal.returns-in_ok-stop-in-Full
returns-in_ok-stop-in-Full g c =
    goes_on c.args.shared.now c.args.worker.now (record { passes = c.call_segments.new.passes; hand = c.args.worker.now.hand; lines = c.args.worker.now.lines }) c.stop.new.worker (is_asking c.args.no) (is_settling false c.args.no) (to_settling_it false c.args.no) to_next [] []
    (had_none c.args.shared.now c.args.worker.now _ c.args.no c.in-Full.out c.in-Full.limit (subst (λ (r : SegReply). CalledSegments c.args.shared.now c.args.worker.now.passes c.call_segments.new.passes (Take c.args.no) r) c.in-Full.is c.in_ok-node.ensures) refl refl) c.in_ok-stop-in-Full.ensures (λ before st todo hand is there. refl) (λ st todo p hand. refl)
