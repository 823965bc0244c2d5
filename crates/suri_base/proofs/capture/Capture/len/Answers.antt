use Rattle.std.proofs.Common.{◌-◌, length, ap, ◌∙◌, subst, arith}
use Rattle.std.specs.Prelude.{slice_get}
use Rattle.suri_base.specs.Capture.{Captured, IsCapture}
use Rattle.suri_base.specs.declared.facts.Facts.{Facts}
use Rattle.suri_base.specs.declared.seen.Seen.TheVariants.{Bears}
use Rattle.suri_base.proofs.Captures.{as_many_seen, facts_within}
use Rattle.suri_base.proofs.Packings.{borne, enough_slots, slot_at}
use Rattle.suri_base.proofs.capture.Capture.len.Goals as goal

pub get-requires : goal.get-requires
get-requires c =
    let is : IsCapture c.args.self.now = subst IsCapture c.self.view_is c.self.invariant.0 in
    let many = as_many_seen c.args.self.now is in
    let seen = ap (λ (v : Captured). length v.seen) c.self.view_is in
    let enough = enough_slots c.self.inside.frames.items c.self.inside.clocks.items c.self.inside.slots in
    let within = facts_within c.args.self.now is c.args.no c.requires.0 c.requires.1 in
    let above = c.requires.1.0 in
    omega (arith, many, seen, enough, within, above)

pub returns : goal.returns
returns c f has =
    let place = c.args.no - 1 in
    let slot = c.get.result.now in
    let at = slot_at c.self.inside.frames.items c.self.inside.clocks.items c.self.inside.slots place slot (Bears f) (ap (λ (v : Captured). slice_get v.seen place) c.self.view_is ∙ has.1) c.get.ensures in
    ap (λ (g : Facts). g.len) (borne at.0 at.1 slot f at.2).1
