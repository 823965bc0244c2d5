use Rattle.std.proofs.Common.{◌≡◌, ◌∷◌, ◌<◌, Option, Some, refl, sym, ap, ◌∙◌, subst}
use Rattle.std.specs.Prelude.{IfSome}
use Rattle.segment_tree.specs.Order.{Lacks, end_of, newest_first, placed}
use Rattle.segment_tree.specs.declared.spot.Spot.{Spot}
use Rattle.segment_tree.proofs.Newest.{newest_placed}
use Rattle.segment_tree.proofs.Orders.{below_lacks}
use Rattle.reassembly.specs.Kept.{KeptStream}
use Rattle.reassembly.specs.Nodes.{MayWait}
use Rattle.reassembly.proofs.Standing.{kept_is, same_some, stands_stored}
use Rattle.reassembly.proofs.stream.Stream.store.Goals as goal
use Rattle.reassembly.proofs.stream.Stream.store.Goals.{In-Some}

-- what the stream asked for may wait
module _ (c : In-Some) where
  may : MayWait c.self.inside.waiting c.in-Some.spot
  may = subst (λ (o : Option Spot). IfSome o (λ s. MayWait c.self.inside.waiting s)) c.in-Some.is c.self.invariant.0

pub insert-requires-clause-fits : goal.insert-requires-clause-fits
insert-requires-clause-fits c =
    let at = (goal.at.insert-requires-clause-fits c).In-Some in
    subst (λ (s : Spot). end_of s < 4294967296) (sym c.write.ensures.says) (may at).fits

pub insert-requires-clause-few : goal.insert-requires-clause-few
insert-requires-clause-few c = (may (goal.at.insert-requires-clause-few c).In-Some).few

pub insert-requires-clause-lacks : goal.insert-requires-clause-lacks
insert-requires-clause-lacks c =
    let at = (goal.at.insert-requires-clause-lacks c).In-Some in
    subst (λ (s : Spot). Lacks s c.self.inside.waiting) (sym c.write.ensures.says) (below_lacks c.in-Some.spot c.self.inside.waiting (may at).newer)

pub returns-in-Some-clause-kept : goal.returns-in-Some-clause-kept
returns-in-Some-clause-kept c = λ spot is.
    let v = c.self.view_is in
    let at = (goal.at.returns-in-Some-clause-kept c).In-Some in
    let one : c.in-Some.spot ≡ spot = same_some c.in-Some.spot spot (sym c.in-Some.is ∙ (ap (λ (k : KeptStream). k.asked) v ∙ is)) in
    let waiting = ap newest_first (c.insert.ensures ∙ ap (λ (s : Spot). placed s c.self.inside.waiting) c.write.ensures.says)
    ∙ (newest_placed c.in-Some.spot c.self.inside.waiting (may at).newer
    ∙ (ap (λ (s : Spot). s ∷ newest_first c.self.inside.waiting) one ∙ ap (λ (k : KeptStream). spot ∷ k.waiting) v)) in
    kept_is _ _ (ap (λ (k : KeptStream). k.depth) v) (ap (λ (k : KeptStream). k.base) v) (ap (λ (k : KeptStream). k.frontier) v)
    (ap (λ (k : KeptStream). k.hasher) v) waiting
    (ap (λ (k : KeptStream). k.freed) v) (ap (λ (k : KeptStream). k.stop) v) refl

pub returns-in-Some-clause-stands : goal.returns-in-Some-clause-stands
returns-in-Some-clause-stands c =
    let asked : c.args.self.now.asked ≡ Some c.in-Some.spot = ap (λ (k : KeptStream). k.asked) (sym c.self.view_is) ∙ c.in-Some.is in
    λ m members asks. stands_stored c.args.self.now m members _ c.in-Some.spot asked (returns-in-Some-clause-kept c c.in-Some.spot asked) asks
