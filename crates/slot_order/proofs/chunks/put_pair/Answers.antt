use Rattle.std.proofs.Common.{arith, ap, sym, ◌∙◌, ◌<◌, ◌+◌, ◌∷◌, [], length, insert, subst}
use Rattle.std.proofs.Math.ListN.{set}
use Rattle.std.proofs.lemmas.List.{length-set}
use Rattle.std.specs.List.{All}
use Rattle.std.proofs.lemmas.List.Elements.{All-set}
use Rattle.slot_order.specs.Rows.{IsChunk, IsSpare, joined}
use Rattle.slot_order.proofs.Rows.{at_read, insert_joined, split_joined, all_insert, all_front, all_last, set_twice}
use Rattle.slot_order.proofs.chunks.put_pair.Goals as goal

pub put-requires-clause-at : goal.put-requires-clause-at
put-requires-clause-at g c =
    let e = at_read c.args.chunks.now.items c.args.home c.index_mut.result.now c.index_mut.ensures.value c.requires.home in
    omega (arith, ap length e, c.requires.at, c.index_mut.result.now.ok.0)

pub returns-then-len-lt-MOST-clause-pairs : goal.returns-then-len-lt-MOST-clause-pairs
returns-then-len-lt-MOST-clause-pairs g c =
    let e = at_read c.args.chunks.now.items c.args.home c.index_mut.result.now c.index_mut.ensures.value c.requires.home in
    insert_joined c.args.chunks.now.items c.args.home c.args.at c.args.pair c.put.new.items c.requires.home c.requires.at (c.put.ensures.items ∙ ap (λ es. insert es c.args.at c.args.pair) (sym e))

pub move_from-requires-clause-other : goal.move_from-requires-clause-other
move_from-requires-clause-other g c = all_last IsSpare c.pop.new.self.items c.args.spares.now.items c.in-Some.other c.in-Some.ensures.items c.requires.row.spares

pub returns-in-Some-clause-pairs : goal.returns-in-Some-clause-pairs
returns-in-Some-clause-pairs g c =
    let e = at_read c.args.chunks.now.items c.args.home c.index_mut.result.now c.index_mut.ensures.value c.requires.home in
    let cs = set c.args.chunks.now.items c.args.home c.put.new.items in
    let l = length-set c.args.chunks.now.items c.args.home c.put.new.items in
    let m : c.args.home < length cs = omega (arith, l, c.requires.home) in
    let f = at_read cs c.args.home c.index_mut-in-Some.result.now c.index_mut-in-Some.ensures.value m in
    ap joined c.put-in-Some.ensures.items
    ∙ split_joined cs c.args.home c.move_from.new.chunk c.move_from.new.other m (f ∙ c.move_from.ensures.items)
    ∙ insert_joined c.args.chunks.now.items c.args.home c.args.at c.args.pair c.put.new.items c.requires.home c.requires.at (c.put.ensures.items ∙ ap (λ es. insert es c.args.at c.args.pair) (sym e))

pub returns-in-Some-clause-row : goal.returns-in-Some-clause-row
returns-in-Some-clause-row g c =
    let cs = c.args.chunks.now.items in
    let ws = set cs c.args.home c.move_from.new.chunk in
    let l = length-set cs c.args.home c.move_from.new.chunk in
    let twice = set_twice cs c.args.home c.put.new.items c.move_from.new.chunk in
    let all : All IsChunk ws = All-set IsChunk cs c.args.home c.move_from.new.chunk c.move_from.ensures.chunk c.requires.row.chunks in
    record {
      chunks = subst (All IsChunk) (sym (c.put-in-Some.ensures.items ∙ ap (λ vs. insert vs (c.args.home + 1) c.move_from.new.other) twice)) (all_insert IsChunk ws (c.args.home + 1) c.move_from.new.other (omega (arith, l, c.requires.home)) all c.move_from.ensures.other);
      spares = all_front IsSpare c.pop.new.self.items (c.in-Some.other ∷ []) c.args.spares.now.items c.in-Some.ensures.items c.requires.row.spares;
    }
