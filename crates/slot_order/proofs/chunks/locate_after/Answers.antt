use Rattle.std.proofs.Common.{arith, sym, subst, refl}
use Rattle.slot_order.specs.Rows.{joined, place_in}
use Rattle.slot_order.specs.Next.{IsCut}
use Rattle.slot_order.proofs.Rows.{found_in}
use Rattle.slot_order.proofs.Next.{cut_of_at, few_at, place_after}
use Rattle.slot_order.proofs.chunks.locate_after.Goals as goal

pub overflow_add-result : goal.overflow_add-result
overflow_add-result g c =
    let f = found_in g.K.Ord.cmp c.args.chunks.now c.args.chunks.now c.locate-home.result.0 c.in-Ok.at c.args.key c.locate-home.result.1 refl c.in-Ok.is c.locate-home.ensures.found in
    let few = (few_at c.args.chunks.now c.locate-home.result.0 c.requires.chunks c.locate-home.ensures.home).1 in
    omega (arith, f.within, few)

pub returns-in-Ok-clause-cut : goal.returns-in-Ok-clause-cut
returns-in-Ok-clause-cut g c =
    let f = found_in g.K.Ord.cmp c.args.chunks.now c.args.chunks.now c.locate-home.result.0 c.in-Ok.at c.args.key c.locate-home.result.1 refl c.in-Ok.is c.locate-home.ensures.found in
    subst (IsCut g.K.Ord.cmp (joined c.args.chunks.now) c.args.key) (sym (place_after c.args.chunks.now c.locate-home.result.0 c.in-Ok.at)) (cut_of_at g.met.K.Ord.total (joined c.args.chunks.now) c.args.key (place_in c.args.chunks.now c.locate-home.result.0 c.in-Ok.at) c.requires.sorted f.there)
