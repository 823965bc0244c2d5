use Rattle.std.proofs.Common.{[], ◌∙◌, arith, sym}
use Rattle.flow_worker.specs.Places.{is_evicting, is_taken, is_turning, to_granted}
use Rattle.flow_worker.proofs.Finding.{freed_from, goes_from, may_as, none_there, some_there, to_evict, to_turn}
use Rattle.flow_worker.proofs.look.free_one.Goals as goal

pub evict_one-requires-clause-stands : goal.evict_one-requires-clause-stands
evict_one-requires-clause-stands g c =
    may_as c.args.shared.now c.args.worker.now (is_taken c.args.worker.now.hand.items c.args.no) (is_evicting c.args.shared.now.layout.rows 0 c.args.no) c.requires.stands (λ st todo there. to_evict c.args.shared.now.layout.rows c.args.no c.args.worker.now.hand.items st todo (omega (arith, c.requires.home.0)) (none_there _ _ c.args.worker.now.hand.ok.0 (sym c.is_empty.ensures ∙ c.if-is_empty.true)) there)

pub returns-then-is_empty : goal.returns-then-is_empty
returns-then-is_empty g c =
    freed_from c.args.shared.now c.args.worker.now c.evict_one.new.worker (is_taken c.args.worker.now.hand.items c.args.no) (is_evicting c.args.shared.now.layout.rows 0 c.args.no) c.args.no c.in_ok-evicted.evicted c.in_ok-evicted.ensures
    (λ st todo there. to_evict c.args.shared.now.layout.rows c.args.no c.args.worker.now.hand.items st todo (omega (arith, c.requires.home.0)) (none_there _ _ c.args.worker.now.hand.ok.0 (sym c.is_empty.ensures ∙ c.if-is_empty.true)) there)

pub turn-requires-clause-waits : goal.turn-requires-clause-waits
turn-requires-clause-waits g c = (some_there _ _ c.args.worker.now.hand.ok.0 (sym c.is_empty.ensures ∙ c.if-is_empty.false))

pub turn-requires-clause-stands : goal.turn-requires-clause-stands
turn-requires-clause-stands g c = may_as c.args.shared.now c.args.worker.now (is_taken c.args.worker.now.hand.items c.args.no) (is_turning c.args.no) c.requires.stands (λ st todo there. to_turn c.args.no c.args.worker.now.hand.items st todo (some_there _ _ c.args.worker.now.hand.ok.0 (sym c.is_empty.ensures ∙ c.if-is_empty.false)) there)

pub returns : goal.returns
returns g c =
    (c.in_ok-obj.ensures.object, goes_from c.args.shared.now c.args.worker.now c.turn.new.worker (is_taken c.args.worker.now.hand.items c.args.no) (is_turning c.args.no) (to_granted c.args.no) [] c.in_ok-obj.ensures.goes (λ st todo there. to_turn c.args.no c.args.worker.now.hand.items st todo (some_there _ _ c.args.worker.now.hand.ok.0 (sym c.is_empty.ensures ∙ c.if-is_empty.false)) there))
