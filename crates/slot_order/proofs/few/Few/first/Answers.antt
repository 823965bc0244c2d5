use Rattle.std.proofs.Common.{arith, sym, ◌∙◌, ◌==◌, ◌≡◌, ◌<◌, ℕ, false}
use Rattle.std.proofs.lemmas.Bool.Decides.{nat_tests}
use Rattle.slot_order.proofs.Sorted.{first_of}
use Rattle.slot_order.proofs.few.Few.first.Goals as goal

some : (n : ℕ) → (n == 0) ≡ false → 0 < n
some n h = grind (arith, nat_tests)

pub returns : goal.returns
returns g c =
    let n = some _ (sym c.is_empty.ensures ∙ c.if-is_empty.false) in
    rw (← c.self.view_is) (first_of g.met.K.Ord.total _ _ c.self.invariant (omega (arith, n, c.self.inside.pairs.ok.0)) c.index.ensures)
