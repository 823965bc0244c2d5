use Rattle.std.proofs.Common.{sym, ap, subst, ◌∙◌}
use Rattle.slot_order.specs.Order.{IsAt, slot_of}
use Rattle.slot_order.proofs.Sorted.{slot_read, slot_in_gap, sorted_remove, slot_remove, slot_absent}
use Rattle.slot_order.proofs.few.Few.remove.Goals as goal

pub invariant_of-self : goal.invariant_of-self
invariant_of-self g c = rw c.remove-pair.ensures.items (sorted_remove g.met.K.Ord.total _ _ c.self.invariant)

pub returns-in-Ok-clause-was : goal.returns-in-Ok-clause-was
returns-in-Ok-clause-was g c =
    let v = ap (λ p. p.pairs) c.self.view_is in
    slot_read g.met.K.Ord.total _ _ _ _ c.self.invariant (subst (λ es. IsAt g.K.Ord.cmp es c.args.key c.in-Ok.at) (sym v) c.in-Ok.ensures.found) c.remove-pair.ensures.value
    ∙ ap (λ es. slot_of g.K.Ord.cmp es c.args.key) v

pub returns-in-Ok-clause-rest : goal.returns-in-Ok-clause-rest
returns-in-Ok-clause-rest g c =
    let v = ap (λ p. p.pairs) c.self.view_is in
    λ q. rw (c.remove-pair.ensures.items, ← c.self.view_is) (slot_remove g.met.K.Ord.total _ _ _ c.self.invariant (subst (λ es. IsAt g.K.Ord.cmp es c.args.key c.in-Ok.at) (sym v) c.in-Ok.ensures.found) q)

pub returns-in-Err-clause-was : goal.returns-in-Err-clause-was
returns-in-Err-clause-was g c = sym (slot_in_gap g.met.K.Ord.total _ _ _ c.in-Err.ensures.absent)

pub returns-in-Err-clause-rest : goal.returns-in-Err-clause-rest
returns-in-Err-clause-rest g c = slot_absent g.met.K.Ord.total _ _ (slot_in_gap g.met.K.Ord.total _ _ _ c.in-Err.ensures.absent)
