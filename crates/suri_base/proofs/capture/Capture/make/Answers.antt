use Rattle.std.proofs.Common.{◌≡◌, List, ap, sym, ◌∙◌, subst}
use Rattle.std.specs.Prelude.{length}
use Rattle.suri_base.specs.Capture.{IsCapture}
use Rattle.suri_base.specs.Slot.{all_unpacked, AreHashed}
use Rattle.suri_base.specs.declared.seen.Seen.{Seen}
use Rattle.suri_base.specs.declared.slot.Slot.{Slot}
use Rattle.suri_base.proofs.Packings.{all_hashed, all_kept}
use Rattle.suri_base.proofs.capture.Capture.make.Goals as goal

pub invariant_of-result : goal.invariant_of-result
invariant_of-result c =
    let seen = c.requires.0 in
    let slots = c.requires.1 in
    let is = c.requires.2 in
    let back : seen ≡ all_unpacked c.args.frames.items c.args.clocks.items c.args.slots =
    sym (ap (λ (l : List Slot). all_unpacked c.args.frames.items c.args.clocks.items l) slots ∙ all_kept (length c.args.bytes.items) c.args.frames.items c.args.clocks.items seen is.seen) in (
      subst (λ (l : List Seen). IsCapture (record { bytes = c.args.bytes.items; frames = c.args.frames.items; clocks = c.args.clocks.items; seen = l; cut_bytes = c.args.cut_bytes })) back is,
      subst AreHashed (sym slots) (all_hashed seen),
    )

pub returns : goal.returns
returns c seen slots is =
    let back : all_unpacked c.args.frames.items c.args.clocks.items c.args.slots ≡ seen =
    ap (λ (l : List Slot). all_unpacked c.args.frames.items c.args.clocks.items l) slots ∙ all_kept (length c.args.bytes.items) c.args.frames.items c.args.clocks.items seen is.seen in
    ap (λ (l : List Seen). record { bytes = c.args.bytes.items; frames = c.args.frames.items; clocks = c.args.clocks.items; seen = l; cut_bytes = c.args.cut_bytes }) back
