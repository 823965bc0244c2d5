use Rattle.std.proofs.Common.{◌*◌, ◌∙◌, refl, arith, length}
use Rattle.std.specs.Fork.{slice_chunk}
use Rattle.capture_index.proofs.Parts.{piece_is}
use Rattle.capture_index.proofs.Piecing.{begins_within, lists_more}
use Rattle.capture_index.proofs.dealing.cut.Goals as goal

pub loop-piece-preserved : goal.loop-piece-preserved
loop-piece-preserved c =
    let numbers = c.args.numbers.now in
    let begins = begins_within (length numbers) c.args.size c.loop-piece.piece c.div_ceil-count.result c.requires c.div_ceil-count.ensures c.loop-piece-test.true in
    lists_more (λ i. slice_chunk numbers c.args.size i) c.loop-piece.pieces.items c.push.new.self.items c.loop-piece.piece c.in_ok-from_slice.field-0 c.loop-piece.invariant
    (c.in_ok-from_slice.ensures.items ∙ piece_is numbers c.args.size (c.loop-piece.piece * c.args.size) (c.loop-piece.piece * c.args.size) c.min-end.result (λ h. refl) (λ h. absurd (omega (arith, h, begins)))
    (λ h. omega (arith, h, c.saturating_add.ensures, c.min-end.ensures)) (λ h. omega (arith, h, c.saturating_add.ensures, c.min-end.ensures))) c.in_ok-push.ensures.items
