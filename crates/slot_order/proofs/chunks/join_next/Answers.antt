use Rattle.std.proofs.Common.{arith, ap, sym, ◌∙◌, ◌≡◌, ◌<◌, ◌+◌, ◌++◌, length, subst, remove, get_or}
use Rattle.std.proofs.lemmas.List.{length-append}
use Rattle.std.proofs.Math.ListN.{set}
use Rattle.std.proofs.lemmas.List.Edits.{length-remove}
use Rattle.std.proofs.lemmas.List.Elements.{All-set}
use Rattle.std.specs.List.{All}
use Rattle.slot_order.specs.Rows.{IsChunk, items_at, joined}
use Rattle.slot_order.proofs.Rows.{at_read, all_at, read_before, merge_joined, all_remove}
use Rattle.slot_order.proofs.chunks.join_next.Goals as goal

pub put_all-requires : goal.put_all-requires
put_all-requires g c =
    let cs = c.args.chunks.now.items in
    let r = length-remove cs (c.args.at + 1) c.requires.at in
    let m : c.args.at < length (remove cs (c.args.at + 1)) = omega (arith, r, c.requires.at) in
    let e = read_before cs c.remove-next.new.self.items c.args.at c.index_mut.result.now c.remove-next.ensures.items c.index_mut.ensures.value c.requires.at m in
    let next = at_read cs (c.args.at + 1) c.remove-next.result c.remove-next.ensures.value c.requires.at in
    let w = all_at IsChunk (remove cs (c.args.at + 1)) c.args.at c.index_mut.result.now (all_remove IsChunk cs (c.args.at + 1) c.requires.row.chunks)
    (subst (λ vs. c.index_mut.result.now ≡ get_or vs c.args.at c.index_mut.result.now) c.remove-next.ensures.items c.index_mut.ensures.value) m in
    record { room = omega (arith, ap length e, ap length next, c.requires.few, c.deref.ensures.len, c.index_mut.result.now.ok.0, c.remove-next.result.ok.0, w.wide) }

pub returns-clause-pairs : goal.returns-clause-pairs
returns-clause-pairs g c =
    let cs = c.args.chunks.now.items in
    let r = length-remove cs (c.args.at + 1) c.requires.at in
    let m : c.args.at < length (remove cs (c.args.at + 1)) = omega (arith, r, c.requires.at) in
    let e = read_before cs c.remove-next.new.self.items c.args.at c.index_mut.result.now c.remove-next.ensures.items c.index_mut.ensures.value c.requires.at m in
    let next = at_read cs (c.args.at + 1) c.remove-next.result c.remove-next.ensures.value c.requires.at in
    ap (λ vs. joined (set vs c.args.at c.put_all.new.pairs)) c.remove-next.ensures.items
    ∙ merge_joined cs c.args.at c.put_all.new.pairs c.requires.at
    (c.put_all.ensures.items ∙ ap (λ es. es ++ c.deref.result.now) (sym e) ∙ ap (λ es. items_at cs c.args.at ++ es) (c.deref.ensures.value ∙ sym next))

pub returns-clause-row : goal.returns-clause-row
returns-clause-row g c =
    let cs = c.args.chunks.now.items in
    let r = length-remove cs (c.args.at + 1) c.requires.at in
    let m : c.args.at < length (remove cs (c.args.at + 1)) = omega (arith, r, c.requires.at) in
    let e = read_before cs c.remove-next.new.self.items c.args.at c.index_mut.result.now c.remove-next.ensures.items c.index_mut.ensures.value c.requires.at m in
    let next = at_read cs (c.args.at + 1) c.remove-next.result c.remove-next.ensures.value c.requires.at in
    let w = all_at IsChunk (remove cs (c.args.at + 1)) c.args.at c.index_mut.result.now (all_remove IsChunk cs (c.args.at + 1) c.requires.row.chunks)
    (subst (λ vs. c.index_mut.result.now ≡ get_or vs c.args.at c.index_mut.result.now) c.remove-next.ensures.items c.index_mut.ensures.value) m in
    let n = ap length c.put_all.ensures.items ∙ length-append c.index_mut.result.now.items c.deref.result.now in
    let k : IsChunk c.put_all.new.pairs = record {
      some = omega (arith, n, w.some);
      few = omega (arith, n, ap length e, ap length next, c.requires.few, c.deref.ensures.len, c.remove-next.result.ok.0);
      wide = omega (arith, w.wide, c.put_all.ensures.capacity);
    } in
    record {
      chunks = subst (λ vs. All IsChunk (set vs c.args.at c.put_all.new.pairs)) (sym c.remove-next.ensures.items) (All-set IsChunk (remove cs (c.args.at + 1)) c.args.at c.put_all.new.pairs k (all_remove IsChunk cs (c.args.at + 1) c.requires.row.chunks));
      spares = c.give_back.ensures.spares;
    }
