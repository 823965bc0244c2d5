use Rattle.std.proofs.Common.{arith, ap, sym, ◌∙◌, ◌≡◌, ℕ, ◌<◌, ◌≤◌, length, remove, subst}
use Rattle.std.specs.List.{All}
use Rattle.slot_order.specs.Rows.{IsChunk, items_at, joined, place_in}
use Rattle.slot_order.proofs.Rows.{at_read, remove_joined, drop_joined, all_remove}
use Rattle.slot_order.proofs.chunks.take_pair.Goals as goal

pub remove-requires : goal.remove-requires
remove-requires g c =
    let e = at_read c.args.chunks.now.items c.args.home c.index_mut.result.now c.index_mut.ensures.value c.requires.home in
    omega (arith, ap length e, c.requires.at, c.index_mut.result.now.ok.0)

pub returns-then-len-gt1-clause-pairs : goal.returns-then-len-gt1-clause-pairs
returns-then-len-gt1-clause-pairs g c =
    let e = at_read c.args.chunks.now.items c.args.home c.index_mut.result.now c.index_mut.ensures.value c.requires.home in
    c.join_small.ensures.pairs ∙ remove_joined c.args.chunks.now.items c.args.home c.args.at c.remove.new.self c.requires.home c.requires.at (c.remove.ensures.items ∙ ap (λ es. remove es c.args.at) (sym e))

first : (i n : ℕ) → i < n → n ≤ 1 → 0 ≡ i
first i n l m = omega (arith, l, m)

pub returns-else-len-gt1-clause-pairs : goal.returns-else-len-gt1-clause-pairs
returns-else-len-gt1-clause-pairs g c =
    let cs = c.args.chunks.now.items in
    let e = at_read cs c.args.home c.index.result.now c.index.ensures c.requires.home in
    let few : length (items_at cs c.args.home) ≤ 1 = omega (arith, ap length e, c.if-len-gt1.false, c.len.ensures, c.index.result.now.ok.0) in
    let z : 0 ≡ c.args.at = first c.args.at (length (items_at cs c.args.home)) c.requires.at few in
    ap joined c.remove-chunk.ensures.items ∙ drop_joined cs c.args.home c.requires.home (omega (arith, few, c.requires.at)) ∙ ap (λ (i : ℕ). remove (joined cs) (place_in cs c.args.home i)) z

pub returns-else-len-gt1-clause-row : goal.returns-else-len-gt1-clause-row
returns-else-len-gt1-clause-row g c = record {
  chunks = subst (All IsChunk) (sym c.remove-chunk.ensures.items) (all_remove IsChunk c.args.chunks.now.items c.args.home c.requires.row.chunks);
  spares = c.give_back.ensures.spares;
}
