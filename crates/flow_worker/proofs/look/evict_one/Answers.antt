use Rattle.std.proofs.Common.{Bool, [], refl, subst}
use Rattle.flow_worker.specs.Looking.{Evicted}
use Rattle.flow_worker.specs.Places.{is_evicting, is_turning, to_granted, to_turning}
use Rattle.flow_worker.proofs.Steps.{goes_on, may_on}
use Rattle.flow_worker.proofs.look.evict_one.Goals as goal

pub returns-then-not-found : goal.returns-then-not-found
returns-then-not-found g c = subst (λ (b : Bool). Evicted c.args.shared.now c.args.worker.now c.evict.new.worker c.args.no b) c.if-not-found.true c.in_ok-found.ensures

pub turn-requires-clause-waits : goal.turn-requires-clause-waits
turn-requires-clause-waits g c = let e = subst (λ (b : Bool). Evicted c.args.shared.now c.args.worker.now c.evict.new.worker c.args.no b) c.if-not-found.false c.in_ok-found.ensures in e.0

pub turn-requires-clause-stands : goal.turn-requires-clause-stands
turn-requires-clause-stands g c =
    let e = subst (λ (b : Bool). Evicted c.args.shared.now c.args.worker.now c.evict.new.worker c.args.no b) c.if-not-found.false c.in_ok-found.ensures in
    may_on c.args.shared.now c.args.worker.now c.evict.new.worker (is_evicting c.args.shared.now.layout.rows 0 c.args.no) (is_turning c.args.no) (to_turning c.args.no) [] c.requires.stands e.1 (λ before st todo hand is there. refl)

pub returns : goal.returns
returns g c =
    let e = subst (λ (b : Bool). Evicted c.args.shared.now c.args.worker.now c.evict.new.worker c.args.no b) c.if-not-found.false c.in_ok-found.ensures in
    (c.in_ok-obj.ensures.object, goes_on c.args.shared.now c.args.worker.now c.evict.new.worker c.turn.new.worker (is_evicting c.args.shared.now.layout.rows 0 c.args.no) (is_turning c.args.no) (to_turning c.args.no) (to_granted c.args.no) [] [] e.1 c.in_ok-obj.ensures.goes (λ before st todo hand is there. refl) (λ st todo p hand. refl))
