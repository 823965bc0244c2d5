use Rattle.std.proofs.Common.{arith, sym, ap, subst, ◌∙◌, ◌<◌, length}
use Rattle.slot_order.specs.Order.{slot_of}
use Rattle.slot_order.specs.Rows.{joined, place_in}
use Rattle.slot_order.proofs.Sorted.{slot_read, slot_in_gap}
use Rattle.slot_order.proofs.Rows.{at_read, pair_read, found_in, missing_in}
use Rattle.slot_order.proofs.row.Row.find.Goals as goal

pub index-requires-in-Ok : goal.index-requires-in-Ok
index-requires-in-Ok g c =
    let m = subst (λ ds. c.locate-home.result.0 < length ds) c.deref.ensures.value c.locate-home.ensures.home in
    let f = found_in g.K.Ord.cmp c.deref.result.now c.self.inside.chunks.items c.locate-home.result.0 c.in-Ok.at c.args.key c.locate-home.result.1 c.deref.ensures.value c.in-Ok.is c.locate-home.ensures.found in
    let e = at_read c.self.inside.chunks.items c.locate-home.result.0 c.index.result.now c.index.ensures m in
    omega (arith, ap length e, f.within, c.index.result.now.ok.0)

pub returns-in-Ok : goal.returns-in-Ok
returns-in-Ok g c =
    let cs = c.self.inside.chunks.items in
    let m = subst (λ ds. c.locate-home.result.0 < length ds) c.deref.ensures.value c.locate-home.ensures.home in
    let f = found_in g.K.Ord.cmp c.deref.result.now c.self.inside.chunks.items c.locate-home.result.0 c.in-Ok.at c.args.key c.locate-home.result.1 c.deref.ensures.value c.in-Ok.is c.locate-home.ensures.found in
    let p = pair_read cs c.locate-home.result.0 c.in-Ok.at c.index.result.now c.index-in-Ok.result.now c.index.ensures c.index-in-Ok.ensures m f.within in
    slot_read g.met.K.Ord.total (joined cs) c.args.key (place_in cs c.locate-home.result.0 c.in-Ok.at) c.index-in-Ok.result.now c.self.invariant.0 f.there p
    ∙ ap (λ s. slot_of g.K.Ord.cmp s.pairs c.args.key) c.self.view_is

pub returns-in-Err : goal.returns-in-Err
returns-in-Err g c =
    let cs = c.self.inside.chunks.items in
    let f = missing_in g.K.Ord.cmp c.deref.result.now c.self.inside.chunks.items c.locate-home.result.0 c.in-Err.field-0 c.args.key c.locate-home.result.1 c.deref.ensures.value c.in-Err.is c.locate-home.ensures.absent in
    sym (slot_in_gap g.met.K.Ord.total (joined cs) c.args.key (place_in cs c.locate-home.result.0 c.in-Err.field-0) f.between)
    ∙ ap (λ s. slot_of g.K.Ord.cmp s.pairs c.args.key) c.self.view_is
