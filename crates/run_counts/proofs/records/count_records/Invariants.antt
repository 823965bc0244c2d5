use Rattle.std.proofs.Common.{◌≡◌, take}
use Rattle.run_counts.specs.Records.{records_of}
use Rattle.run_counts.proofs.records.count_records.Given as goal

abbrev pub invariant-loop-line : goal.invariant-loop-line
invariant-loop-line l = l.counts ≡ records_of (take l.line-index l.lines)
