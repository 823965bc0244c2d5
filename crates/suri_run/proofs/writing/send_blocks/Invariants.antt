use Rattle.std.proofs.Common.{◌≡◌, ◌++◌, List, ℕ}
use Rattle.std.specs.Slice.Iter.{chunks_rest}
use Rattle.suri_outside.specs.Bytes.{TakesAllBut}
use Rattle.suri_run.proofs.writing.send_blocks.Given as goal

abbrev pub invariant-loop-block : goal.invariant-loop-block
invariant-loop-block g l = record {
  next : (goal.iterator-loop-block g).can_next l.block-iterator;
  finite : (goal.iterator-loop-block g).is_finite l.block-iterator;
  -- what waited, and the blocks so far, of which some bytes wait
  bytes : List ℕ;
  sent : TakesAllBut (g.K.Sink.taken l.fn.sink) (g.K.Sink.taken l.sink) l.gathered bytes;
  rest : bytes ++ chunks_rest l.block-iterator ≡ l.fn.gathered ++ l.text;
  quiet : g.K.Sink.faults l.sink ≡ g.K.Sink.faults l.fn.sink;
}
