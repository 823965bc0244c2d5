use Rattle.std.proofs.Common.{◌≡◌, ◌≤◌, take, reverse}
use Rattle.std.specs.Prelude.{count_by}
use Rattle.run_counts.specs.Counting.{emergencies_begun}
use Rattle.flow_pool.specs.Counting.{is_on}
use Rattle.run_rules.specs.Quiet.{is_full}
use Rattle.run_counts.proofs.histories.count_pool.Given as goal

abbrev pub invariant-loop-entry : goal.invariant-loop-entry
invariant-loop-entry l = record {
  mode : l.on ≡ is_on (reverse (take l.entry-index l.history));
  full : l.full ≡ count_by (λ e. is_full e.note) (take l.entry-index l.history);
  begun : l.begun ≡ emergencies_begun (reverse (take l.entry-index l.history));
  full_within : l.full ≤ l.entry-index;
  begun_within : l.begun ≤ l.entry-index;
}
