use Rattle.std.proofs.Common.{arith, sym, subst, ◌∙◌, ◌==◌, ◌≡◌, ◌<◌, ℕ, false, length, get_or}
use Rattle.std.proofs.lemmas.Bool.Decides.{nat_tests}
use Rattle.slot_order.specs.Order.{IsFirst}
use Rattle.slot_order.specs.Rows.{joined, IsChunk}
use Rattle.slot_order.proofs.Sorted.{first_of}
use Rattle.slot_order.proofs.Rows.{all_at, at_read, ends_within, first_place, pair_read}
use Rattle.slot_order.proofs.row.Row.first.Goals as goal

some : (n : ℕ) → (n == 0) ≡ false → 0 < n
some n h = grind (arith, nat_tests)

pub returns : goal.returns
returns g c =
    let cs = c.self.inside.chunks.items in
    let n = some _ (sym c.is_empty.ensures ∙ c.if-is_empty.false) in
    let m : 0 < length cs = omega (arith, n, c.self.inside.chunks.ok.0) in
    let chunk = all_at IsChunk cs 0 c.index.result.now c.self.invariant.1.chunks c.index.ensures m in
    let l = subst (λ es. 0 < length es) (sym (at_read cs 0 c.index.result.now c.index.ensures m)) chunk.some in
    let z = first_place cs in
    let p = pair_read cs 0 0 c.index.result.now c.index-2.result.now c.index.ensures c.index-2.ensures m l in
    subst (λ s. IsFirst g.K.Ord.cmp s.pairs c.index-2.result.now) c.self.view_is
    (first_of g.met.K.Ord.total (joined cs) c.index-2.result.now c.self.invariant.0 (subst (λ (n : ℕ). n < length (joined cs)) z (ends_within cs 0 0 l)) (subst (λ (n : ℕ). c.index-2.result.now ≡ get_or (joined cs) n c.index-2.result.now) z p))
