use Rattle.std.proofs.Common.{◌≡◌, map, take}
use Rattle.suri_base.specs.Slot.{packed}
use Rattle.suri_base.proofs.slots.Slots.pack.Given as goal

abbrev pub invariant-loop-one : goal.invariant-loop-one
invariant-loop-one l = l.piece.items ≡ map packed (take l.one-index l.seen)
