use Rattle.std.proofs.Common.{◌≡◌, ◌∙◌, ◌*◌, ◌+◌, ap, arith, sym, length, map, ℕ}
use Rattle.std.proofs.lemmas.Result.{IfOk-weaker}
use Rattle.std.specs.Int.{div_ceil}
use Rattle.std.specs.List.{range_with_len}
use Rattle.capture_index.specs.Decode.{AreRead, all_seen}
use Rattle.capture_index.specs.Pieces.{piece_of}
use Rattle.capture_index.proofs.Making.{each_made, made_all, read_by_pieces}
use Rattle.capture_index.proofs.Parts.{seen_count}
use Rattle.capture_index.proofs.Piecing.{holds_all}
use Rattle.capture_index.proofs.pieces.decode_pieces.Goals as goal

pub returns-clause-value : goal.returns-clause-value
returns-clause-value g c =
    let whole = all_seen c.args.link c.args.bytes.now c.args.frames.now c.args.clocks.now in
    let many : c.div_ceil-count.result ≡ div_ceil (length whole) c.args.size =
    c.div_ceil-count.ensures ∙ ap (λ (n : ℕ). div_ceil n c.args.size) (sym (seen_count c.args.link c.args.bytes.now c.args.frames.now c.args.clocks.now c.requires.as_many)) in
    IfOk-weaker c.all_made.result _ _ (λ pieces is. made_all (piece_of c.args.size whole) c.div_ceil-count.result pieces.items c.in_ok-made.made.items is (omega (arith, c.in_ok-made.ensures.len)) (λ i d low. (c.in_ok-made.ensures.each i d low).1.met.0)
    ∙ ap (λ (n : ℕ). map (piece_of c.args.size whole) (range_with_len 0 n)) many) c.all_made.ensures

pub returns-clause-read : goal.returns-clause-read
returns-clause-read g c =
    let whole = all_seen c.args.link c.args.bytes.now c.args.frames.now c.args.clocks.now in
    IfOk-weaker c.all_made.result _ (λ _. AreRead (length c.args.bytes.now) 0 (length c.args.frames.now) c.args.frames.now c.args.clocks.now whole) (λ pieces is.
    read_by_pieces (length c.args.bytes.now) c.args.size c.div_ceil-count.result c.args.frames.now c.args.clocks.now whole c.requires.size (holds_all (length c.args.frames.now) c.args.size c.div_ceil-count.result c.requires.size (omega (arith, c.div_ceil-count.ensures)))
    (each_made (λ i. AreRead (length c.args.bytes.now) (i * c.args.size) (i * c.args.size + c.args.size) c.args.frames.now c.args.clocks.now whole) c.div_ceil-count.result pieces.items c.in_ok-made.made.items is (omega (arith, c.in_ok-made.ensures.len)) (λ i d low. (c.in_ok-made.ensures.each i d low).1.met.1))) c.all_made.ensures
