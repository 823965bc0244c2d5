use Rattle.std.proofs.Common.{◌≡◌, ◌≤◌, ◌+◌, ◌*◌, length, drop}
use Rattle.capture_gen.specs.Capture.{records_from}
use Rattle.capture_gen.proofs.capture.room.Given as goal

-- with what is still to be counted it is the whole
abbrev pub invariant-loop-place : goal.invariant-loop-place
invariant-loop-place l = record {
  counted : l.room + length (records_from l.place (drop l.place l.turns)) ≡ 24 + length (records_from 0 l.turns);
  small : l.room ≤ 24 + l.place * 1000;
}
