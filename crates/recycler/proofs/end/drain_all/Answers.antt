use Rattle.std.proofs.Common.{arith}
use Rattle.recycler.proofs.Draining.{drained_all, draining_next, draining_start, may_drain, seen_finish}
use Rattle.recycler.proofs.end.drain_all.Goals as goal

pub serve-requires-clause-objects : goal.serve-requires-clause-objects
serve-requires-clause-objects g c =
    let m = c.requires in
    seen_finish c.args.shared.now c.args.ender.now.passes m.queue c.args.ender.now.waiting.items m.shared m.fits m.items

pub loop-at-init : goal.loop-at-init
loop-at-init g c = draining_start c.args.shared.now c.args.ender.now c.serve.new.recycler c.requires c.in_ok-serve.ensures

pub drain_one-requires-clause-may : goal.drain_one-requires-clause-may
drain_one-requires-clause-may g c =
    may_drain c.args.shared.now c.args.ender.now c.loop-at.ender c.loop-at.at c.requires c.loop-at.invariant c.loop-at.at
    (omega (arith, c.loop-at-test.true, c.len-at-end.ensures, c.args.shared.now.buckets.ok))

pub loop-at-preserved : goal.loop-at-preserved
loop-at-preserved g c =
    draining_next c.args.shared.now c.args.ender.now c.loop-at.ender c.drain_one.new.ender c.loop-at.at c.loop-at.invariant c.in_ok-drain_one.ensures

pub returns-clause-drained : goal.returns-clause-drained
returns-clause-drained g c =
    drained_all c.args.shared.now c.args.ender.now c.loop-at.ender c.loop-at.at c.requires c.loop-at.invariant
    (omega (arith, c.loop-at-test.false, c.loop-at.auto.at-end, c.len-at-end.ensures, c.args.shared.now.buckets.ok))
