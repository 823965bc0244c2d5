use Rattle.std.proofs.Common.{sym, ap, subst, ◌≡◌, get_or}
use Rattle.slot_order.specs.Order.{AreSorted}
use Rattle.slot_order.proofs.Sorted.{slot_read, slot_in_gap}
use Rattle.slot_order.proofs.few.Few.find.Goals as goal

pub returns-in-Ok : goal.returns-in-Ok
returns-in-Ok g c =
    let v = ap (λ p. p.pairs) c.self.view_is in
    slot_read g.met.K.Ord.total _ _ _ _ (subst (AreSorted g.K.Ord.cmp) v c.self.invariant) c.in-Ok.ensures.found (subst (λ es. c.index.result.now ≡ get_or es c.in-Ok.at c.index.result.now) v c.index.ensures)

pub returns-in-Err : goal.returns-in-Err
returns-in-Err g c = sym (slot_in_gap g.met.K.Ord.total _ _ _ c.in-Err.ensures.absent)
