use Rattle.std.proofs.Common.{◌≡◌, ◌++◌, All, List, ℕ}
use Rattle.std.specs.Slice.Iter.{chunks_rest}
use Rattle.suri_base.specs.Keys.{IsNameable}
use Rattle.eve_record.specs.SummaryLine.{Tallies}
use Rattle.record_texts.specs.Lines.{lines_of}
use Rattle.suri_run.proofs.summing.tally_lines.Given as goal

abbrev pub invariant-loop-round : goal.invariant-loop-round
invariant-loop-round g l = record {
  next : (goal.iterator-loop-round g).can_next l.round-iterator;
  finite : (goal.iterator-loop-round g).is_finite l.round-iterator;
  named : All (λ line. IsNameable line.sums.key) (chunks_rest l.round-iterator);
  -- the lines so far
  text : List ℕ;
  sums : Tallies l.tally text;
  rest : text ++ lines_of l.options.seed l.options.netflow (chunks_rest l.round-iterator) ≡ lines_of l.options.seed l.options.netflow l.lines;
}
