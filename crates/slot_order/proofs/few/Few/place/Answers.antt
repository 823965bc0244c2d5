use Rattle.std.proofs.Common.{ap, subst, ◌∙◌}
use Rattle.std.specs.Result.{IfErr, IfOk}
use Rattle.slot_order.specs.Order.{AreSorted, IsAt, IsGap}
use Rattle.slot_order.proofs.few.Few.place.Goals as goal

pub search-requires : goal.search-requires
search-requires g c = rw c.deref.ensures.value c.self.invariant

pub returns-clause-found : goal.returns-clause-found
returns-clause-found g c = subst (λ es. IfOk c.search.result (IsAt g.K.Ord.cmp es c.args.key)) (c.deref.ensures.value ∙ ap (λ s. s.pairs) c.self.view_is) c.search.ensures.found

pub returns-clause-absent : goal.returns-clause-absent
returns-clause-absent g c = subst (λ es. IfErr c.search.result (IsGap g.K.Ord.cmp es c.args.key)) (c.deref.ensures.value ∙ ap (λ s. s.pairs) c.self.view_is) c.search.ensures.absent

pub returns-clause-sorted : goal.returns-clause-sorted
returns-clause-sorted g c = subst (AreSorted g.K.Ord.cmp) (ap (λ s. s.pairs) c.self.view_is) c.self.invariant
