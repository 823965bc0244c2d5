use Rattle.std.proofs.Common.{◌≡◌, Ok, map}
use Rattle.capture_index.proofs.pieces.all_made.Given as goal

abbrev pub invariant-loop-piece : goal.invariant-loop-piece
invariant-loop-piece l = map Ok l.pieces.items ≡ l.yielded
