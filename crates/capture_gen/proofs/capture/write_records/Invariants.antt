use Rattle.std.proofs.Common.{◌≡◌, ◌++◌, drop}
use Rattle.capture_gen.specs.Capture.{records_from}
use Rattle.capture_gen.proofs.capture.write_records.Given as goal

-- with what is still to be written it is the whole
abbrev pub invariant-loop-place : goal.invariant-loop-place
invariant-loop-place l = l.out.items ++ records_from l.place (drop l.place l.turns) ≡ l.initial.out.items ++ records_from 0 l.turns
