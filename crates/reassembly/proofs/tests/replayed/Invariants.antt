use Rattle.std.proofs.Common.{◌≡◌, ◌-◌, ◌≤◌, List, length}
use Rattle.reassembly.specs.Kept.{AllLieIn, Stands, newest_of}
use Rattle.reassembly.specs.Members.{Member}
use Rattle.reassembly.proofs.tests.replayed.Given as goal

-- the stream is that of the segments so far
abbrev pub invariant-loop-no : goal.invariant-loop-no
invariant-loop-no g l =
    (l.no ≤ length l.rows) × ((members : List Member) × Stands l.stream members × AllLieIn l.bytes members × (newest_of members ≡ l.no))

abbrev pub decreases-loop-no : goal.decreases-loop-no
decreases-loop-no g l = length l.rows - l.no
