use Rattle.std.proofs.Common.{◌≡◌, cond, ◌<◌, ◌≤◌, ◌∷◌, Option, None, Some, true, false, sym, ap, ◌∙◌, subst, arith}
use Rattle.segment_tree.specs.Order.{IsSorted}
use Rattle.segment_tree.specs.Reads.{covers, earliest, lesser}
use Rattle.segment_tree.specs.Tree.{height, height_of, spots, spots_from}
use Rattle.segment_tree.specs.declared.spot.Spot.{Spot}
use Rattle.segment_tree.proofs.Orders.{sorted_back, sorted_front}
use Rattle.segment_tree.proofs.Trees.{reach_is}
use Rattle.segment_tree.proofs.Reading.{earliest_before, earliest_both, earliest_past}
use Rattle.segment_tree.proofs.read.+earliest.Goals as goal
use Rattle.segment_tree.proofs.read.+earliest.Goals.{then-at-spot-2, else-at-spot-2}

pub earliest-before-requires : goal.earliest-before-requires
earliest-before-requires t c =
    let is = ap spots c.in-Some.is ∙ (ap spots_from (sym c.deref.ensures) ∙ c.look.ensures.spots) in
    let sorted = subst IsSorted is c.requires.sorted in
    let above = c.look.ensures.height.is in
    let up = ap height c.in-Some.is ∙ ap height_of (sym c.deref.ensures) in
    (grind arith, (c.look.ensures.less, sorted_front _ _ sorted))

pub returns-then-at-spot : goal.returns-then-at-spot
returns-then-at-spot t c =
    let is = ap spots c.in-Some.is ∙ (ap spots_from (sym c.deref.ensures) ∙ c.look.ensures.spots) in
    let sorted = subst IsSorted is c.requires.sorted in
    let late : c.args.at < c.look.result.spot.first = grind arith in
    c.earliest-before.ensures ∙ (sym (earliest_before c.args.at (spots c.look.result.less.now) c.look.result.spot (spots c.look.result.more.now) late sorted) ∙ ap (earliest c.args.at) (sym is))

pub earliest-requires : goal.earliest-requires
earliest-requires t c =
    let is = ap spots c.in-Some.is ∙ (ap spots_from (sym c.deref.ensures) ∙ c.look.ensures.spots) in
    let sorted = subst IsSorted is c.requires.sorted in
    let above = c.look.ensures.height.is in
    let up = ap height c.in-Some.is ∙ ap height_of (sym c.deref.ensures) in
    (grind arith, (c.look.ensures.more, sorted_back _ _ _ sorted))

pub returns : goal.returns
returns t c =
    let is = ap spots c.in-Some.is ∙ (ap spots_from (sym c.deref.ensures) ∙ c.look.ensures.spots) in
    let begun : c.look.result.spot.first ≤ c.args.at = grind arith in
    let here : c.if-at-spot-2.here ≡ (cond (covers c.look.result.spot c.args.at) (Some c.look.result.spot) None) = elim c.if-at-spot-2.branch [
      | then-at-spot-2 w ↦ let test : covers c.look.result.spot c.args.at ≡ true = grind arith in rw test w.here-is
      | else-at-spot-2 w ↦ let test : covers c.look.result.spot c.args.at ≡ false = grind arith in rw test w.here-is
    ] in
    let right = c.lesser.ensures ∙ (ap (λ (o : Option Spot). lesser o c.earliest.result) here
    ∙ ap (lesser (cond (covers c.look.result.spot c.args.at) (Some c.look.result.spot) None)) c.earliest.ensures) in
    c.lesser-2.ensures ∙ (ap (lesser c.earliest-before.result) right
    ∙ (ap (λ (o : Option Spot). lesser o (earliest c.args.at (c.look.result.spot ∷ spots c.look.result.more.now))) c.earliest-before.ensures
    ∙ (sym (earliest_both c.args.at (spots c.look.result.less.now) (c.look.result.spot ∷ spots c.look.result.more.now)) ∙ ap (earliest c.args.at) (sym is))))

pub returns-then-reach-at : goal.returns-then-reach-at
returns-then-reach-at t c =
    let right = reach_is c.args.tree.now c.requires.tree in
    sym (earliest_past c.args.at (spots c.args.tree.now) (grind arith))
