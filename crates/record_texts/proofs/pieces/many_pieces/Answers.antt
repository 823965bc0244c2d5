use Rattle.std.proofs.Common.{◌≡◌, sym, subst, ap, ◌∙◌, All, IfOk, max, arith}
use Rattle.std.proofs.lemmas.Result.{IfOk-weaker}
use Rattle.flow_object.specs.declared.outcome.FlowLine.{FlowLine}
use Rattle.suri_base.specs.Keys.{IsNameable}
use Rattle.rayon.specs.Lists.{chunks_of, chunks_size, chunks_slice, map_base, min_len_base}
use Rattle.rayon.proofs.ToStd.{chunks_of-concat, slice-AllZip}
use Rattle.record_texts.specs.Lines.{lines_of, record_lines}
use Rattle.record_texts.proofs.Joining.{all_collected, all_in_pieces, text_of_pieces}
use Rattle.record_texts.proofs.pieces.many_pieces.Goals as goal

pub collect-requires-clause-ready : goal.collect-requires-clause-ready
collect-requires-clause-ready g c κs within =
    let P = λ (line : FlowLine). IsNameable line.sums.key in
    let slice = ap (λ m. chunks_slice (min_len_base m)) c.map.ensures.base ∙ ap (λ m. chunks_slice m) c.with_min_len.ensures.base ∙ c.par_chunks.ensures.slice in
    let pieces = all_in_pieces P _ _ (subst (All P) (sym slice) c.requires.named) in
    λ k d lt x is. (subst (All P) (sym is) (pieces k d lt), λ y p. tt)

pub returns : goal.returns
returns g c =
    let seed = c.args.seed in
    let netflow = c.args.netflow in
    let base = min_len_base (map_base c.map.result) in
    let slice : chunks_slice base ≡ c.args.lines.now =
    ap (λ m. chunks_slice (min_len_base m)) c.map.ensures.base ∙ ap (λ m. chunks_slice m) c.with_min_len.ensures.base ∙ c.par_chunks.ensures.slice in
    let size = max (chunks_size base) 1 in
    let pieces = chunks_of size (chunks_slice base) in
    let h = c.in_ok-collect.ensures in
    let chain = rw c.map.ensures.f at h.1 in
    let each = slice-AllZip chain.0 pieces chain.1 (λ piece r. IfOk r (λ t. t.items ≡ lines_of seed netflow piece)) h.0 chain.2 in
    IfOk-weaker c.in_ok-collect.field-0 _ _
    (λ t same. same ∙ text_of_pieces (record_lines seed netflow) pieces ∙ ap (lines_of seed netflow) (chunks_of-concat size (chunks_slice base) (omega arith) ∙ slice))
    (all_collected (λ t. t.items) (λ ts. ts.items) (lines_of seed netflow) pieces h.0 c.in_ok-collect.field-0 each h.2)
