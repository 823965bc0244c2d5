use Rattle.std.proofs.Common.{All}
use Rattle.suri_base.specs.Keys.{IsNameable}
use Rattle.record_texts.proofs.tests.records.Given as goal

abbrev pub invariant-loop-k : goal.invariant-loop-k
invariant-loop-k l = record {
  named : All (λ line. IsNameable line.sums.key) l.lines.items;
}
