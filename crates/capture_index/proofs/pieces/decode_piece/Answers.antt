use Rattle.std.proofs.Common.{◌≡◌, ◌*◌, refl, subst, arith, List, map}
use Rattle.std.specs.Prelude.{IfOk}
use Rattle.suri_base.specs.Slot.{packed}
use Rattle.suri_base.specs.declared.seen.Seen.{Seen}
use Rattle.capture_index.specs.Decode.{AreRead, all_seen}
use Rattle.capture_index.proofs.Parts.{ok_then, piece_is, seen_count}
use Rattle.capture_index.proofs.pieces.decode_piece.Goals as goal

pub returns-clause-value : goal.returns-clause-value
returns-clause-value c =
    let whole = all_seen c.args.link c.args.bytes.now c.args.frames.now c.args.clocks.now in
    let count = seen_count c.args.link c.args.bytes.now c.args.frames.now c.args.clocks.now c.requires.as_many in
    subst (λ (l : List Seen). IfOk c.decode_range.result (λ v. v.items ≡ map packed l))
    (piece_is whole c.args.size (c.args.piece * c.args.size) (c.args.piece * c.args.size) c.min-to.result (λ h. refl) (λ h. absurd (omega (arith, h, count, c.requires.begins)))
    (λ h. omega (arith, h, count, c.saturating_add.ensures, c.min-to.ensures)) (λ h. omega (arith, h, count, c.saturating_add.ensures, c.min-to.ensures))) c.decode_range.ensures.value

pub returns-clause-read : goal.returns-clause-read
returns-clause-read c =
    ok_then c.decode_range.result (λ (are : AreRead _ _ _ _ _ _). λ k f b s after before within. are k f b s after (omega (arith, before, within, c.saturating_add.ensures, c.min-to.ensures)) within) c.decode_range.ensures.read
