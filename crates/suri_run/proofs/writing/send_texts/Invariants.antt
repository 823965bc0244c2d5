use Rattle.std.proofs.Common.{◌≡◌, ◌++◌, List, ℕ, drop, flat_map}
use Rattle.suri_outside.specs.Bytes.{TakesAllBut}
use Rattle.suri_run.proofs.writing.send_texts.Given as goal

abbrev pub invariant-loop-text : goal.invariant-loop-text
invariant-loop-text g l = record {
  -- what waited, and the texts so far, of which some bytes wait
  bytes : List ℕ;
  sent : TakesAllBut (g.K.Sink.taken l.fn.sink) (g.K.Sink.taken l.sink) l.gathered bytes;
  rest : bytes ++ flat_map (λ t. t.items) (drop l.text-index l.texts) ≡ l.fn.gathered ++ flat_map (λ t. t.items) l.texts;
  quiet : g.K.Sink.faults l.sink ≡ g.K.Sink.faults l.fn.sink;
}
