use Rattle.std.proofs.Common.{◌<◌, ◌≤◌, sym, ap, ◌∙◌, subst, arith}
use Rattle.segment_tree.specs.Order.{IsSorted}
use Rattle.segment_tree.specs.Reads.{next_first}
use Rattle.segment_tree.specs.Tree.{height, height_of, spots, spots_from}
use Rattle.segment_tree.proofs.Orders.{sorted_back, sorted_front}
use Rattle.segment_tree.proofs.Reading.{next_after, next_before}
use Rattle.segment_tree.proofs.read.+next_first.Goals as goal

pub next_first-requires : goal.next_first-requires
next_first-requires t c =
    let is = ap spots c.in-Some.is ∙ (ap spots_from (sym c.deref.ensures) ∙ c.look.ensures.spots) in
    let sorted = subst IsSorted is c.requires.sorted in
    let above = c.look.ensures.height.is in
    let up = ap height c.in-Some.is ∙ ap height_of (sym c.deref.ensures) in
    (grind arith, (c.look.ensures.less, sorted_front _ _ sorted))

pub next_first-requires-else-at-spot : goal.next_first-requires-else-at-spot
next_first-requires-else-at-spot t c =
    let is = ap spots c.in-Some.is ∙ (ap spots_from (sym c.deref.ensures) ∙ c.look.ensures.spots) in
    let sorted = subst IsSorted is c.requires.sorted in
    let above = c.look.ensures.height.is in
    let up = ap height c.in-Some.is ∙ ap height_of (sym c.deref.ensures) in
    (grind arith, (c.look.ensures.more, sorted_back _ _ _ sorted))

pub returns-then-at-spot : goal.returns-then-at-spot
returns-then-at-spot t c =
    let is = ap spots c.in-Some.is ∙ (ap spots_from (sym c.deref.ensures) ∙ c.look.ensures.spots) in
    let late : c.args.at < c.look.result.spot.first = grind arith in
    c.next_first.ensures
    ∙ (sym (next_before c.args.at c.args.limit (spots c.look.result.less.now) c.look.result.spot (spots c.look.result.more.now) late)
    ∙ ap (next_first c.args.at c.args.limit) (sym is))

pub returns-else-at-spot : goal.returns-else-at-spot
returns-else-at-spot t c =
    let is = ap spots c.in-Some.is ∙ (ap spots_from (sym c.deref.ensures) ∙ c.look.ensures.spots) in
    let sorted = subst IsSorted is c.requires.sorted in
    let begun : c.look.result.spot.first ≤ c.args.at = grind arith in
    c.next_first-else-at-spot.ensures
    ∙ (sym (next_after c.args.at c.args.limit (spots c.look.result.less.now) c.look.result.spot (spots c.look.result.more.now) begun sorted)
    ∙ ap (next_first c.args.at c.args.limit) (sym is))
