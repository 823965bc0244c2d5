use Rattle.std.proofs.Common.{◌≡◌, ◌-◌, ◌<◌, ◌∙◌, ap, arith, length, length-set, List, map, refl, sym, Vec, Global}
use Rattle.std.proofs.Math.ListN.{set}
use Rattle.std.proofs.lemmas.List.{get_or-map, length-map, map-set}
use Rattle.std.specs.Vec.{with_items}
use Rattle.suri_base.specs.declared.slot.Slot.{Slot}
use Rattle.capture_index.specs.Pieces.{piece_of}
use Rattle.capture_index.proofs.Chaining.{begins_at, chained_all, chained_more, chained_none, pieces_count, reaches, still}
use Rattle.capture_index.proofs.Parts.{whole_back}
use Rattle.capture_index.proofs.links.link.Goals as goal

pub overflow_mul-first : goal.overflow_mul-first
overflow_mul-first c = record { fits = omega (arith, begins_at c.args.size c.requires.kept.0 c.args.pieces.items c.loop-piece.piece c.requires.size c.requires.kept.1 c.loop-piece-test.true c.loop-piece.invariant.within, c.requires.kept.2) }

pub overflow_cast-first : goal.overflow_cast-first
overflow_cast-first c = record { fits = omega (arith, begins_at c.args.size c.requires.kept.0 c.args.pieces.items c.loop-piece.piece c.requires.size c.requires.kept.1 c.loop-piece-test.true c.loop-piece.invariant.within, c.requires.kept.2) }

pub overflow_add-first : goal.overflow_add-first
overflow_add-first c = record { fits = omega (arith, begins_at c.args.size c.requires.kept.0 c.args.pieces.items c.loop-piece.piece c.requires.size c.requires.kept.1 c.loop-piece-test.true c.loop-piece.invariant.within, c.requires.kept.2) }

pub link_part-requires : goal.link_part-requires
link_part-requires c =
    let seen = c.requires.kept.0 in
    let i = c.loop-piece.piece - 1 in
    let many = pieces_count c.args.size seen c.args.pieces.items c.requires.kept.1 in
    let low : i < length c.loop-piece.pieces.items = omega (arith, c.loop-piece-test.true, c.loop-piece.invariant.within, c.loop-piece.invariant.count) in
    let was : c.deref_mut.result.now ≡ piece_of c.args.size seen i =
    c.deref_mut.ensures.value ∙ ap (λ (v : Vec Slot Global). v.items) c.index_mut.ensures.value ∙ sym (get_or-map (λ p. p.items) c.loop-piece.pieces.items i _ c.deref_mut.result.now low)
    ∙ still c.args.size seen i c.loop-piece.piece (map (λ p. p.items) c.loop-piece.pieces.items) c.loop-piece.firsts c.deref_mut.result.now (omega (arith, c.loop-piece-test.true))
    (omega (arith, many, low, c.loop-piece.invariant.count)) (c.loop-piece.invariant.chained seen c.requires.kept.1 c.requires.kept.3) in
    record { few = omega (arith, ap (length {A = Slot}) was, reaches c.args.size i seen (begins_at c.args.size c.requires.kept.0 c.args.pieces.items c.loop-piece.piece c.requires.size c.requires.kept.1 c.loop-piece-test.true c.loop-piece.invariant.within), c.requires.kept.2) }

pub loop-piece-init : goal.loop-piece-init
loop-piece-init c = record {
  within = omega (arith, c.len-piece.ensures);
  count = refl;
  chained = λ seen kept at.
      let all : c.len-piece.result ≡ length c.args.pieces.items = omega (arith, c.len-piece.ensures) in
      chained_none c.args.size seen c.len-piece.result _ c.new-firsts.result c.requires.size (all ∙ sym (length-map c.args.pieces.items (λ p. p.items))) kept c.new-firsts.ensures;
}

pub loop-piece-preserved : goal.loop-piece-preserved
loop-piece-preserved c = record {
  within = omega (arith, c.loop-piece.invariant.within);
  count = length-set c.loop-piece.pieces.items (c.loop-piece.piece - 1) _ ∙ c.loop-piece.invariant.count;
  chained = λ seen kept at.
      let i = c.loop-piece.piece - 1 in
      let many = pieces_count c.args.size seen c.args.pieces.items kept in
      let low : i < length c.loop-piece.pieces.items = omega (arith, c.loop-piece-test.true, c.loop-piece.invariant.within, c.loop-piece.invariant.count) in
      let was : length c.index_mut.result.now.items ≡ c.index_mut.result.now.len = ap (length {A = Slot}) (sym c.deref_mut.ensures.value) ∙ c.deref_mut.ensures.len in
      let back : length c.link_part.new.slots ≡ c.index_mut.result.now.len = c.link_part.auto.slots ∙ c.deref_mut.ensures.len in
      chained_more c.args.size seen i c.loop-piece.piece _ (map (λ p. p.items) c.loop-piece.pieces.items) _ c.loop-piece.firsts c.link_part.new.firsts c.deref_mut.result.now c.deref_mut.result.now c.link_part.new.slots
      (omega (arith, c.loop-piece-test.true)) (omega (arith, many, low, c.loop-piece.invariant.count)) refl at (c.loop-piece.invariant.chained seen kept at)
      (c.deref_mut.ensures.value ∙ ap (λ (v : Vec Slot Global). v.items) c.index_mut.ensures.value ∙ sym (get_or-map (λ p. p.items) c.loop-piece.pieces.items i _ c.deref_mut.result.now low))
      c.in_ok-link_part.ensures.value c.in_ok-link_part.ensures.told (map-set (λ p. p.items) c.loop-piece.pieces.items i (with_items c.index_mut.result.now c.link_part.new.slots)
      ∙ ap (λ (l : List Slot). set (map (λ p. p.items) c.loop-piece.pieces.items) i l) (whole_back _ c.link_part.new.slots c.index_mut.result.now.items was back));
}

pub returns : goal.returns
returns c = λ seen kept at. chained_all c.args.size seen c.loop-piece.piece _ c.loop-piece.firsts (omega (arith, c.loop-piece-test.false)) (c.loop-piece.invariant.chained seen kept at)
