use Rattle.std.proofs.Common.{◌≤◌, length, arith}
use Rattle.run_counts.proofs.Recording.{bytes_fit, emergencies_few, ended_few, next_records, packets_fit}
use Rattle.run_counts.proofs.records.count_records.Goals as goal

pub add-requires-clause-packets : goal.add-requires-clause-packets
add-requires-clause-packets c = packets_fit c.args.lines.now c.loop-line.line-index _ c.loop-line.counts c.loop-line-test.true c.loop-line.invariant c.requires.packets

pub add-requires-clause-bytes : goal.add-requires-clause-bytes
add-requires-clause-bytes c = bytes_fit c.args.lines.now c.loop-line.line-index _ c.loop-line.counts c.loop-line-test.true c.loop-line.invariant c.requires.bytes

pub add-requires-clause-ended : goal.add-requires-clause-ended
add-requires-clause-ended c =
    let before : c.loop-line.line-index ≤ length c.args.lines.now = omega arith in
    omega (arith, ended_few c.args.lines.now c.loop-line.line-index c.loop-line.counts c.loop-line.invariant before)

pub add-requires-clause-emergency : goal.add-requires-clause-emergency
add-requires-clause-emergency c = emergencies_few _ c.loop-line.counts c.loop-line.invariant

pub loop-line-preserved : goal.loop-line-preserved
loop-line-preserved c =
    next_records c.args.lines.now c.loop-line.line-index _ c.loop-line.counts c.add.new.self c.loop-line-test.true c.loop-line.invariant c.add.ensures
