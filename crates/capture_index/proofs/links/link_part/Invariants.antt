use Rattle.std.proofs.Common.{◌≡◌, ◌≤◌, List, length, map}
use Rattle.suri_base.specs.Slot.{packed}
use Rattle.suri_base.specs.declared.seen.Seen.{Seen}
use Rattle.capture_index.specs.Links.{AreAt, Tells}
use Rattle.capture_index.proofs.Nexts.{Linking}
use Rattle.capture_index.proofs.links.link_part.Given as goal

abbrev pub invariant-loop-place : goal.invariant-loop-place
invariant-loop-place l = record {
  within : l.place ≤ length l.fn.slots;
  count : length l.slots ≡ length l.fn.slots;
  linking : (seen behind : List Seen) → l.fn.slots ≡ map packed seen → AreAt l.first seen → Tells l.fn.firsts behind → Linking behind seen l.place l.slots l.firsts;
}

abbrev pub decreases-loop-place : goal.decreases-loop-place
decreases-loop-place l = l.place
