use Rattle.std.proofs.Common.{arith, refl}
use Rattle.flow_manager.proofs.Sweeping.{may_sweep, swept_all, sweeping_next, sweeping_start}
use Rattle.flow_manager.proofs.round.sweep_all.Goals as goal

pub loop-at-init : goal.loop-at-init
loop-at-init g c =
    sweeping_start c.args.shared.now c.args.manager.now _ c.args.round c.in_ok-emergency.seen c.in_ok-emergency.emergency c.requires c.in_ok-emergency.ensures c.requires.hand

pub sweep_one-requires-clause-may : goal.sweep_one-requires-clause-may
sweep_one-requires-clause-may g c =
    may_sweep c.args.shared.now c.args.manager.now c.loop-at.manager c.args.round c.in_ok-emergency.seen c.in_ok-emergency.emergency c.loop-at.at c.requires
    c.loop-at.invariant.acted.number

pub loop-at-preserved : goal.loop-at-preserved
loop-at-preserved g c =
    sweeping_next c.args.shared.now c.args.manager.now c.loop-at.manager c.sweep_one.new.manager c.args.round c.in_ok-emergency.seen c.loop-at.at c.in_ok-emergency.emergency
    c.loop-at.invariant c.in_ok-sweep_one.ensures
    (omega (arith, c.loop-at-test.true, c.len-at-end.ensures, c.args.shared.now.buckets.ok, c.requires.shared.rows))

pub returns : goal.returns
returns g c =
    swept_all c.args.shared.now c.args.manager.now c.loop-at.manager _ c.args.round c.in_ok-emergency.seen c.loop-at.at c.in_ok-emergency.emergency c.requires c.loop-at.invariant
    (omega (arith, c.loop-at-test.false, c.loop-at.auto.at-end, c.len-at-end.ensures, c.args.shared.now.buckets.ok))
    c.in_ok-end_round.ensures refl
