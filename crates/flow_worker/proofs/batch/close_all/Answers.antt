use Rattle.std.proofs.Common.{arith}
use Rattle.flow_worker.proofs.Batching.{close_done, close_may, close_more, close_start}
use Rattle.flow_worker.proofs.Telling.{told_at}
use Rattle.flow_worker.proofs.batch.close_all.Goals as goal

pub loop-place-init : goal.loop-place-init
loop-place-init g c = close_start c.args.shared.now c.requires.shared c.args.worker.now c.args.batch.now c.requires.some c.requires.stands c.args.refused.now c.requires.told

pub close_one-requires-clause-stands : goal.close_one-requires-clause-stands
close_one-requires-clause-stands g c =
    close_may c.args.shared.now c.requires.shared c.args.worker.now c.args.batch.now c.requires.some c.requires.stands c.loop-place.worker c.loop-place.place c.args.refused.now c.loop-place-test.true c.loop-place.invariant

pub close_one-requires-clause-told : goal.close_one-requires-clause-told
close_one-requires-clause-told g c = told_at c.args.shared.now c.loop-place.worker c.args.batch.now c.args.refused.now c.loop-place.place (omega (arith, c.loop-place-test.true, c.requires.count)) c.loop-place.invariant.told

pub loop-place-preserved : goal.loop-place-preserved
loop-place-preserved g c =
    close_more c.args.shared.now c.requires.shared c.args.worker.now c.args.batch.now c.requires.some c.requires.stands c.loop-place.worker c.close_one.new.worker c.loop-place.place c.args.refused.now c.loop-place-test.true
    c.loop-place.invariant c.in_ok-close_one.ensures

pub returns : goal.returns
returns g c =
    close_done c.args.shared.now c.requires.shared c.args.worker.now c.loop-place.worker c.args.batch.now c.loop-place.place c.args.refused.now
    (omega (arith, c.loop-place-test.false, c.loop-place.auto.place-end)) c.loop-place.invariant
