use Rattle.std.proofs.Common.{◌≡◌, map}
use Rattle.std.specs.Fork.{slice_chunk}
use Rattle.std.specs.List.{range_with_len}
use Rattle.capture_index.proofs.dealing.cut.Given as goal

abbrev pub invariant-loop-piece : goal.invariant-loop-piece
invariant-loop-piece l = map (λ p. p.items) l.pieces.items ≡ map (λ i. slice_chunk l.numbers l.size i) (range_with_len 0 l.piece)
