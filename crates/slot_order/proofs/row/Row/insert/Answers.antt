use Rattle.std.proofs.Common.{sym, ap, subst, ◌∙◌, ◌≡◌, ℕ, Option, Some, None}
use Rattle.slot_order.specs.Order.{AreSorted, slot_of}
use Rattle.slot_order.specs.Rows.{joined, place_in}
use Rattle.slot_order.proofs.Sorted.{slot_at, slot_insert, sorted_insert}
use Rattle.slot_order.proofs.Rows.{found_in, missing_in}
use Rattle.slot_order.proofs.row.Row.insert.Goals as goal

differ : (r : Option ℕ) (s : ℕ) → r ≡ None → r ≡ Some s → ⊥
differ r s n h = cc

pub invariant_of-self-in-Err : goal.invariant_of-self-in-Err
invariant_of-self-in-Err g c =
    let cs = c.self.inside.chunks.items in
    let f = missing_in g.K.Ord.cmp c.deref.result.now c.self.inside.chunks.items c.locate_new-home.result.0 c.in-Err.at c.args.key c.locate_new-home.result.1 c.deref.ensures.value c.in-Err.is c.locate_new-home.ensures.absent in
    (subst (AreSorted g.K.Ord.cmp) (sym c.put_pair.ensures.pairs) (sorted_insert g.met.K.Ord.total (joined cs) c.args.key c.args.slot (place_in cs c.locate_new-home.result.0 c.in-Err.at) f.between c.self.invariant.0), c.put_pair.ensures.row)

pub returns-in-Err-clause-slots : goal.returns-in-Err-clause-slots
returns-in-Err-clause-slots g c =
    let cs = c.self.inside.chunks.items in
    let f = missing_in g.K.Ord.cmp c.deref.result.now c.self.inside.chunks.items c.locate_new-home.result.0 c.in-Err.at c.args.key c.locate_new-home.result.1 c.deref.ensures.value c.in-Err.is c.locate_new-home.ensures.absent in
    λ q. rw (c.put_pair.ensures.pairs, ← c.self.view_is) (slot_insert g.met.K.Ord.total (joined cs) c.args.key c.args.slot (place_in cs c.locate_new-home.result.0 c.in-Err.at) f.between q)

pub returns-in_default-clause-slots : goal.returns-in_default-clause-slots
returns-in_default-clause-slots g c =
    let cs = c.self.inside.chunks.items in
    let f = found_in g.K.Ord.cmp c.deref.result.now cs c.locate_new-home.result.0 c.in_default.field-0 c.args.key c.locate_new-home.result.1 c.deref.ensures.value c.in_default.is c.locate_new-home.ensures.found in
    let n : slot_of g.K.Ord.cmp (joined cs) c.args.key ≡ None = ap (λ s. slot_of g.K.Ord.cmp s.pairs c.args.key) c.self.view_is ∙ c.requires.new in
    absurd (differ _ _ n (slot_at g.met.K.Ord.total (joined cs) c.args.key (place_in cs c.locate_new-home.result.0 c.in_default.field-0) (c.args.key, 0) c.self.invariant.0 f.there))

pub returns-in_default-clause-len : goal.returns-in_default-clause-len
returns-in_default-clause-len g c =
    let cs = c.self.inside.chunks.items in
    let f = found_in g.K.Ord.cmp c.deref.result.now cs c.locate_new-home.result.0 c.in_default.field-0 c.args.key c.locate_new-home.result.1 c.deref.ensures.value c.in_default.is c.locate_new-home.ensures.found in
    let n : slot_of g.K.Ord.cmp (joined cs) c.args.key ≡ None = ap (λ s. slot_of g.K.Ord.cmp s.pairs c.args.key) c.self.view_is ∙ c.requires.new in
    absurd (differ _ _ n (slot_at g.met.K.Ord.total (joined cs) c.args.key (place_in cs c.locate_new-home.result.0 c.in_default.field-0) (c.args.key, 0) c.self.invariant.0 f.there))
