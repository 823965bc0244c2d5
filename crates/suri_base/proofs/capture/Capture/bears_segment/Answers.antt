use Rattle.std.proofs.Common.{◌-◌, length, ap, ◌∙◌, subst, arith}
use Rattle.std.specs.Prelude.{slice_get}
use Rattle.suri_base.specs.Capture.{Captured, IsCapture, bears_segment}
use Rattle.suri_base.proofs.Captures.{as_many_seen}
use Rattle.suri_base.proofs.Packings.{enough_slots, slot_at}
use Rattle.suri_base.proofs.capture.Capture.bears_segment.Goals as goal

pub get-requires : goal.get-requires
get-requires c =
    let is : IsCapture c.args.self.now = subst IsCapture c.self.view_is c.self.invariant.0 in
    let many = as_many_seen c.args.self.now is in
    let seen = ap (λ (v : Captured). length v.seen) c.self.view_is in
    let enough = enough_slots c.self.inside.frames.items c.self.inside.clocks.items c.self.inside.slots in
    omega (arith, many, seen, enough)

pub returns : goal.returns
returns c seen has =
    let place = c.args.no - 1 in
    let slot = c.get.result.now in
    let at = slot_at c.self.inside.frames.items c.self.inside.clocks.items c.self.inside.slots place slot seen (ap (λ (v : Captured). slice_get v.seen place) c.self.view_is ∙ has) c.get.ensures in
    c.bears_segment.ensures at.0 at.1 ∙ ap bears_segment at.2
