use Rattle.std.proofs.Common.{sym, ap, subst, Some, None, ◌≡◌, ℕ, Option}
use Rattle.slot_order.specs.Order.{IsGap}
use Rattle.slot_order.proofs.Sorted.{slot_at, sorted_insert, slot_insert}
use Rattle.slot_order.proofs.few.Few.insert.Goals as goal

differ : (r : Option ℕ) (s : ℕ) → r ≡ None → r ≡ Some s → ⊥
differ r s n h = cc

pub invariant_of-self : goal.invariant_of-self
invariant_of-self g c =
    let v = ap (λ p. p.pairs) c.self.view_is in
    rw c.put.ensures.items (sorted_insert g.met.K.Ord.total _ _ _ _ (subst (λ es. IsGap g.K.Ord.cmp es c.args.key c.in-Err.at) (sym v) c.in-Err.ensures.absent) c.self.invariant)

pub returns-in-Err-clause-slots : goal.returns-in-Err-clause-slots
returns-in-Err-clause-slots g c =
    let v = ap (λ p. p.pairs) c.self.view_is in
    λ q. rw (c.put.ensures.items, ← c.self.view_is) (slot_insert g.met.K.Ord.total _ _ _ _ (subst (λ es. IsGap g.K.Ord.cmp es c.args.key c.in-Err.at) (sym v) c.in-Err.ensures.absent) q)

pub returns-in_default-clause-slots : goal.returns-in_default-clause-slots
returns-in_default-clause-slots g c =
    let v = ap (λ p. p.pairs) c.self.view_is in
    absurd (differ _ _ c.requires.new (slot_at g.met.K.Ord.total _ c.args.key c.in_default.field-0 (c.args.key, 0) c.place_of_new.ensures.sorted c.in_default.ensures.found))

pub returns-in_default-clause-len : goal.returns-in_default-clause-len
returns-in_default-clause-len g c =
    let v = ap (λ p. p.pairs) c.self.view_is in
    absurd (differ _ _ c.requires.new (slot_at g.met.K.Ord.total _ c.args.key c.in_default.field-0 (c.args.key, 0) c.place_of_new.ensures.sorted c.in_default.ensures.found))
