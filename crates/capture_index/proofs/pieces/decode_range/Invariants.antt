use Rattle.std.proofs.Common.{◌≡◌, ◌-◌, ◌≤◌, drop, length, map, take}
use Rattle.suri_base.specs.Slot.{packed}
use Rattle.capture_index.specs.Decode.{AreRead, all_seen}
use Rattle.capture_index.proofs.pieces.decode_range.Given as goal

abbrev pub invariant-loop-no : goal.invariant-loop-no
invariant-loop-no l = record {
  after : l.from ≤ l.no;
  value : l.slots.items ≡ map packed (take (l.no - l.from) (drop l.from (all_seen l.link l.bytes l.frames l.clocks)));
  read : AreRead (length l.bytes) l.from l.no l.frames l.clocks (all_seen l.link l.bytes l.frames l.clocks);
}
