use Rattle.std.proofs.Common.{sym, subst, ◌∙◌}
use Rattle.slot_order.specs.Order.{AreSorted}
use Rattle.slot_order.proofs.Rows.{at_read, sorted_items, located}
use Rattle.slot_order.proofs.chunks.locate.Goals as goal

pub search-place-requires : goal.search-place-requires
search-place-requires g c =
    let e = at_read c.args.chunks.now c.home_of-home.result c.index-chunks-home.result c.index-chunks-home.is c.home_of-home.ensures.within in
    subst (AreSorted g.K.Ord.cmp) (e ∙ sym c.deref.ensures.value) (sorted_items g.met.K.Ord.total c.args.chunks.now c.home_of-home.result c.requires.sorted)

pub returns : goal.returns
returns g c =
    let e = at_read c.args.chunks.now c.home_of-home.result c.index-chunks-home.result c.index-chunks-home.is c.home_of-home.ensures.within in
    let r = located g.met.K.Ord.total c.args.chunks.now c.home_of-home.result c.args.key c.deref.result.now c.search-place.result (e ∙ sym c.deref.ensures.value) c.requires.chunks c.requires.sorted c.home_of-home.ensures c.search-place.ensures.found c.search-place.ensures.absent in
    record { home = c.home_of-home.ensures.within; found = r.found; absent = r.absent }
