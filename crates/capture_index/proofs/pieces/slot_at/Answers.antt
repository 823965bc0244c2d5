use Rattle.std.proofs.Common.{◌∙◌, ap, length, subst, List, ℕ}
use Rattle.suri_base.specs.Slot.{packed}
use Rattle.capture_index.proofs.Parts.{captured, is_read, near_fits}
use Rattle.capture_index.specs.Decode.{IsRead, seen_of}
use Rattle.capture_index.proofs.pieces.slot_at.Goals as goal

pub returns-clause-value : goal.returns-clause-value
returns-clause-value c =
    c.slot_in.ensures.value ∙ ap (λ (l : List ℕ). packed (seen_of c.args.link c.args.frame.now c.args.clock l)) (captured c.args.bytes.now c.args.frame.now.at c.args.frame.now.len)

pub returns-clause-read : goal.returns-clause-read
returns-clause-read c =
    subst (λ (l : List ℕ). IsRead (length c.args.bytes.now) c.args.frame.now c.args.clock (seen_of c.args.link c.args.frame.now c.args.clock l)) (captured c.args.bytes.now c.args.frame.now.at c.args.frame.now.len)
    (is_read _ _ c.args.link c.args.frame.now c.args.clock _ (near_fits c.args.bytes.now c.args.frame.now.at c.args.frame.now.len c.requires.inside) c.slot_in.ensures.own c.slot_in.ensures.nameable)
