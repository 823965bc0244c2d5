use Rattle.std.proofs.Common.{◌≡◌, ◌≤◌, List, length, map}
use Rattle.suri_base.specs.declared.seen.Seen.{Seen}
use Rattle.capture_index.specs.Links.{AreAt}
use Rattle.capture_index.specs.Pieces.{pieces_of}
use Rattle.capture_index.proofs.Chaining.{Chained}
use Rattle.capture_index.proofs.links.link.Given as goal

abbrev pub invariant-loop-piece : goal.invariant-loop-piece
invariant-loop-piece l = record {
  within : l.piece ≤ length l.fn.pieces.items;
  count : length l.pieces.items ≡ length l.fn.pieces.items;
  chained : (seen : List Seen) → map (λ p. p.items) l.fn.pieces.items ≡ pieces_of l.size seen → AreAt 1 seen → Chained l.size seen l.piece (map (λ p. p.items) l.pieces.items) l.firsts;
}

abbrev pub decreases-loop-piece : goal.decreases-loop-piece
decreases-loop-piece l = l.piece
