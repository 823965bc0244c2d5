use Rattle.std.proofs.Common.{ap, sym, ◌∙◌}
use Rattle.suri_base.specs.Slot.{packed, unpacked}
use Rattle.suri_base.specs.declared.slot.Slot.{Slot}
use Rattle.suri_base.proofs.Packings.{kept}
use Rattle.suri_base.proofs.slot.Slot.of.Goals as goal

pub returns-in-Bears-clause-kept : goal.returns-in-Bears-clause-kept
returns-in-Bears-clause-kept c size frame clock are =
    ap (λ (s : Slot). unpacked frame clock s) (c.filled.ensures ∙ ap packed (sym c.in-Bears.is)) ∙ kept size frame clock c.args.seen.now are

pub returns-in-Counted-clause-kept : goal.returns-in-Counted-clause-kept
returns-in-Counted-clause-kept c size frame clock are =
    ap (λ (s : Slot). unpacked frame clock s) (c.blank.ensures ∙ ap packed (sym c.in-Counted.is)) ∙ kept size frame clock c.args.seen.now are
