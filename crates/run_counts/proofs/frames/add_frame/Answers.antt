use Rattle.std.proofs.Common.{sym, ◌∙◌}
use Rattle.run_counts.proofs.Counting.{counted_one}
use Rattle.run_counts.proofs.frames.add_frame.Goals as goal

pub returns-in-Some : goal.returns-in-Some
returns-in-Some c seen found = counted_one seen c.args.counts.now c.add.new.self c.in-Some.counter (sym c.in-Some.is ∙ c.counter.ensures.value seen found) c.add.ensures
