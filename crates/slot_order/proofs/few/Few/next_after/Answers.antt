use Rattle.std.proofs.Common.{arith, ap, subst, ◌≡◌, ◌<◌, ◌≤◌, ℕ, length, get_or}
use Rattle.slot_order.specs.Next.{IsCut}
use Rattle.slot_order.specs.Order.{AreSorted}
use Rattle.slot_order.proofs.Next.{next_of, none_above}
use Rattle.slot_order.proofs.few.Few.next_after.Goals as goal

all_of : (at n : ℕ) → at ≤ n → n ≤ at → at ≡ n
all_of at n l m = omega (arith, l, m)

pub returns-then-at-len : goal.returns-then-at-len
returns-then-at-len g c =
    let v = ap (λ s. s.pairs) c.self.view_is in
    next_of g.met.K.Ord.total c.args.self.now.pairs c.args.key c.cut-at.result c.index.result.now (subst (AreSorted g.K.Ord.cmp) v c.self.invariant) c.cut-at.ensures
    (subst (λ es. c.cut-at.result < length es) v (omega (arith, c.if-at-len.true, c.len.ensures, c.self.inside.pairs.ok.0)))
    (subst (λ es. c.index.result.now ≡ get_or es c.cut-at.result c.index.result.now) v c.index.ensures)

pub returns-else-at-len : goal.returns-else-at-len
returns-else-at-len g c =
    let v = ap (λ s. s.pairs) c.self.view_is in
    none_above g.met.K.Ord.total c.args.self.now.pairs c.args.key (subst (AreSorted g.K.Ord.cmp) v c.self.invariant)
    (subst (IsCut g.K.Ord.cmp c.args.self.now.pairs c.args.key) (all_of c.cut-at.result (length c.args.self.now.pairs) c.cut-at.ensures.within
    (subst (λ es. length es ≤ c.cut-at.result) v (omega (arith, c.if-at-len.false, c.len.ensures, c.self.inside.pairs.ok.0)))) c.cut-at.ensures)
