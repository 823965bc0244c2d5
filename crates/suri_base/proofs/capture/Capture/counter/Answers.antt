use Rattle.std.proofs.Common.{◌-◌, length, get_or, ap, sym, ◌∙◌, subst, arith}
use Rattle.std.specs.Prelude.{Some, slice_get}
use Rattle.std.proofs.lemmas.Option.{slice_get-get_or}
use Rattle.suri_base.specs.Capture.{Captured, IsCapture, counter_in}
use Rattle.suri_base.specs.declared.counter.Counter.TheVariants.{LinkSmall}
use Rattle.suri_base.specs.declared.seen.Seen.TheVariants.{Counted}
use Rattle.suri_base.proofs.Captures.{as_many_seen}
use Rattle.suri_base.proofs.Packings.{bears_of, counter_is, enough_slots, slot_at}
use Rattle.suri_base.proofs.capture.Capture.counter.Goals as goal

pub get-requires : goal.get-requires
get-requires c =
    let is : IsCapture c.args.self.now = subst IsCapture c.self.view_is c.self.invariant.0 in
    let many = as_many_seen c.args.self.now is in
    let seen = ap (λ (v : Captured). length v.seen) c.self.view_is in
    let enough = enough_slots c.self.inside.frames.items c.self.inside.clocks.items c.self.inside.slots in
    omega (arith, many, seen, enough)

pub returns-clause-value : goal.returns-clause-value
returns-clause-value c seen has =
    let place = c.args.no - 1 in
    let slot = c.get.result.now in
    let at = slot_at c.self.inside.frames.items c.self.inside.clocks.items c.self.inside.slots place slot seen (ap (λ (v : Captured). slice_get v.seen place) c.self.view_is ∙ has) c.get.ensures in
    counter_is at.0 at.1 slot ∙ ap counter_in at.2

pub returns-clause-bears : goal.returns-clause-bears
returns-clause-bears c none =
    let is : IsCapture c.args.self.now = subst IsCapture c.self.view_is c.self.invariant.0 in
    let many = as_many_seen c.args.self.now is in
    let place = c.args.no - 1 in
    let found = slice_get-get_or c.args.self.now.seen place (Counted LinkSmall) (omega (arith, many)) in
    let bears = bears_of (get_or c.args.self.now.seen place (Counted LinkSmall)) (sym (returns-clause-value c _ found) ∙ none) in
    (bears.0, (c.requires.0, found ∙ ap Some bears.1))
