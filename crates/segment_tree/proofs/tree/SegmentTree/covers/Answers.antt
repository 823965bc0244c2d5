use Rattle.std.proofs.Common.{◌≡◌, ℕ, ◌<◌, ◌≤◌, Bool, true, false, refl, sym, ap, ◌∙◌, arith}
use Rattle.std.specs.Prelude.{nat_lt}
use Rattle.segment_tree.specs.Reads.{is_covered, reach_until}
use Rattle.segment_tree.proofs.Reading.{until_covered, until_open}
use Rattle.segment_tree.proofs.tree.SegmentTree.covers.Goals as goal

pub returns-then-next-at : goal.returns-then-next-at
returns-then-next-at c =
    let is = c.reach_until-next.ensures ∙ ap (reach_until c.loop-at.at) c.self.view_is in
    let open_ = until_open c.loop-at.at c.args.self.now (omega (arith, is, c.if-next-at.true)) in
    (λ h. cc, λ all. sym open_ ∙ all c.loop-at.at c.loop-at.invariant.0 (grind arith))

pub loop-at-preserved : goal.loop-at-preserved
loop-at-preserved c =
    let is = c.reach_until-next.ensures ∙ ap (reach_until c.loop-at.at) c.self.view_is in
    (grind arith, λ k later below. by k later below (nat_lt k c.loop-at.at) refl is)
  where
    by : (k : ℕ) → c.args.from ≤ k → k < c.reach_until-next.result → (t : Bool) → nat_lt k c.loop-at.at ≡ t
        → c.reach_until-next.result ≡ reach_until c.loop-at.at c.args.self.now → is_covered k c.args.self.now ≡ true
    by k later below true test is = c.loop-at.invariant.1 k later (grind arith)
    by k later below false test is = until_covered c.loop-at.at k c.args.self.now (grind arith) (omega (arith, is, below))
