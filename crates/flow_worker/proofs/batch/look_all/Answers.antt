use Rattle.std.proofs.Common.{◌+◌, Bool, List, arith, subst, sym}
use Rattle.flow_worker.specs.Batching.{LookedSome}
use Rattle.flow_worker.proofs.Batching.{look_done, look_may, look_more, look_start}
use Rattle.flow_worker.proofs.batch.look_all.Goals as goal

pub loop-place-init : goal.loop-place-init
loop-place-init g c =
    subst (λ (ts : List Bool). LookedSome c.args.shared.now c.args.worker.now c.args.worker.now c.args.batch.now c.args.emergency c.args.seen 0 ts) (sym c.in_ok-refused.ensures.items)
    (look_start c.args.shared.now c.requires.shared c.args.worker.now c.args.batch.now c.args.emergency c.args.seen c.requires.stands)

pub look_up-requires-clause-stands : goal.look_up-requires-clause-stands
look_up-requires-clause-stands g c =
    look_may c.args.shared.now c.requires.shared c.args.worker.now c.args.batch.now c.args.emergency c.args.seen c.requires.stands c.loop-place.worker c.loop-place.place c.loop-place.refused.items c.loop-place-test.true c.loop-place.invariant

pub loop-place-preserved : goal.loop-place-preserved
loop-place-preserved g c =
    subst (λ (ts : List Bool). LookedSome c.args.shared.now c.args.worker.now c.look_up.new.worker c.args.batch.now c.args.emergency c.args.seen (c.loop-place.place + 1) ts) (sym c.in_ok-push.ensures.items)
    (look_more c.args.shared.now c.requires.shared c.args.worker.now c.args.batch.now c.args.emergency c.args.seen c.requires.stands c.loop-place.worker c.look_up.new.worker c.loop-place.place c.loop-place.refused.items
    c.in_ok-was_refused.was_refused c.loop-place-test.true c.loop-place.invariant c.in_ok-was_refused.ensures)

pub returns : goal.returns
returns g c =
    look_done c.args.shared.now c.requires.shared c.args.worker.now c.loop-place.worker c.args.batch.now c.args.emergency c.args.seen c.loop-place.place c.loop-place.refused.items
    (omega (arith, c.loop-place-test.false, c.loop-place.auto.place-end)) c.loop-place.invariant
