use Rattle.std.proofs.Common.{◌≡◌, length, sym, ◌∙◌, ap, arith}
use Rattle.flow_table.specs.Slots.{rank}
use Rattle.flow_table.proofs.Slots.{rank_all, rank_start}
use Rattle.flow_table.proofs.counts.count_filled.Goals as goal

pub loop-at-init : goal.loop-at-init
loop-at-init c = sym (rank_start c.args.slots.now)

pub returns : goal.returns
returns c =
    let at : c.loop-at.at ≡ length c.args.slots.now = omega (arith, c.loop-at.auto.at-end, c.loop-at-test.false) in
    c.loop-at.invariant ∙ ap (λ i. rank c.args.slots.now i) at ∙ rank_all c.args.slots.now
