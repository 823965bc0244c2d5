use Rattle.std.proofs.Common.{arith, refl}
use Rattle.flow_worker.proofs.Batching.{all_closed, all_looked}
use Rattle.flow_worker.proofs.Rounding.{did_batch, few_between, may_close_all, may_look_all}
use Rattle.role_steps.specs.declared.roles.Worker.{Worker}
use Rattle.flow_worker.proofs.batch.run_batch.Goals as goal

pub read_mode-requires-clause-steps : goal.read_mode-requires-clause-steps
read_mode-requires-clause-steps g c = let m = c.requires.begins in omega (arith, few_between c.args.shared.now c.args.worker.now m.before _ m.later m.hand m.hands m.is)

pub look_all-requires-clause-stands : goal.look_all-requires-clause-stands
look_all-requires-clause-stands g c =
    may_look_all c.args.shared.now c.args.worker.now (record { passes = c.read_mode.new.passes; hand = c.args.worker.now.hand; lines = c.args.worker.now.lines }) c.args.batch.now c.in_ok-emergency.emergency c.in_ok-emergency.seen
    c.requires.begins c.in_ok-emergency.ensures refl

pub close_all-requires-clause-stands : goal.close_all-requires-clause-stands
close_all-requires-clause-stands g c =
    let mid : Worker = record { passes = c.read_mode.new.passes; hand = c.args.worker.now.hand; lines = c.args.worker.now.lines } in
    may_close_all c.args.shared.now mid c.look_all.new.worker c.args.batch.now c.in_ok-emergency.emergency c.in_ok-emergency.seen
    (may_look_all c.args.shared.now c.args.worker.now mid c.args.batch.now c.in_ok-emergency.emergency c.in_ok-emergency.seen c.requires.begins c.in_ok-emergency.ensures refl)
    (all_looked c.args.shared.now c.requires.shared mid c.look_all.new.worker c.args.batch.now c.in_ok-emergency.emergency c.in_ok-emergency.seen c.in_ok-refused.refused.items c.in_ok-refused.ensures)

pub returns : goal.returns
returns g c =
    let mid : Worker = record { passes = c.read_mode.new.passes; hand = c.args.worker.now.hand; lines = c.args.worker.now.lines } in
    did_batch c.args.shared.now c.args.worker.now mid c.look_all.new.worker c.close_all.new.worker c.args.batch.now c.in_ok-emergency.emergency c.in_ok-emergency.seen c.in_ok-emergency.ensures refl refl
    (all_looked c.args.shared.now c.requires.shared mid c.look_all.new.worker c.args.batch.now c.in_ok-emergency.emergency c.in_ok-emergency.seen c.in_ok-refused.refused.items c.in_ok-refused.ensures)
    (all_closed c.args.shared.now c.requires.shared c.look_all.new.worker c.close_all.new.worker c.args.batch.now c.deref.result.now c.in_ok-close_all.ensures)
