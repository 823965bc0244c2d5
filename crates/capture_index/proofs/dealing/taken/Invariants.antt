use Rattle.std.proofs.Common.{◌≡◌, ◌-◌, ◌≤◌, drop, take}
use Rattle.capture_index.specs.Batches.{taken_among}
use Rattle.capture_index.proofs.dealing.taken.Given as goal

abbrev pub invariant-loop-place : goal.invariant-loop-place
invariant-loop-place l = (l.from ≤ l.place) × (l.numbers.items ≡ taken_among l.layout l.worker (take (l.place - l.from) (drop l.from l.capture.seen)))
