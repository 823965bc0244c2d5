use Rattle.std.proofs.Common.{◌≡◌, ◌≤◌, ◌+◌, ◌-◌, ◌++◌, ◌∷◌, ℕ, List, length}
use Rattle.sha1.specs.Sha1.{Holds}
use Rattle.segment_tree.specs.Order.{newest_first}
use Rattle.reassembly.specs.Nodes.{parts_at}
use Rattle.reassembly.specs.Parts.{bytes_from, byte_at, part}
use Rattle.reassembly.proofs.stretch.take_stretches.Given as goal

-- what was taken in, and what is still to come, is all that comes next
abbrev pub invariant-loop-stretch : goal.invariant-loop-stretch
invariant-loop-stretch l =
    (taken : List ℕ) × (l.at ≡ l.frontier + length taken) × (l.at ≤ l.depth)
    × (bytes_from (byte_at (part 0 l.first 0 l.packet ∷ parts_at l.bytes (newest_first l.waiting))) l.frontier (l.depth - l.frontier)
    ≡ taken ++ bytes_from (byte_at (part 0 l.first 0 l.packet ∷ parts_at l.bytes (newest_first l.waiting))) l.at (l.depth - l.at))
    × ((m : List ℕ) → Holds l.fn.hasher m → Holds l.hasher (m ++ taken))

abbrev pub decreases-loop-stretch : goal.decreases-loop-stretch
decreases-loop-stretch l = l.depth - l.at
