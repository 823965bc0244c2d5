use Rattle.std.proofs.Common.{◌≡◌, take}
use Rattle.std.specs.Prelude.{sum_by}
use Rattle.run_counts.specs.Counting.{refusals}
use Rattle.run_counts.proofs.histories.all_refusals.Given as goal

abbrev pub invariant-loop-history : goal.invariant-loop-history
invariant-loop-history l = l.count ≡ sum_by (λ v. refusals v.items) (take l.history-index l.history-items)
