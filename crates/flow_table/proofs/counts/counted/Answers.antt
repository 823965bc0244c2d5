use Rattle.std.proofs.Common.{◌+◌, ◌∙◌, ap, arith}
use Rattle.flow_table.proofs.Finding.{read_at}
use Rattle.flow_table.proofs.Slots.{count_none, count_some, rank_most}
use Rattle.flow_table.proofs.counts.counted.Goals as goal

pub overflow_add-result : goal.overflow_add-result
overflow_add-result c = let most = rank_most c.args.slots.now c.args.at in omega (arith, most, c.requires.at, c.requires.few, c.requires.count)

pub returns-in-None : goal.returns-in-None
returns-in-None c = c.requires.count ∙ count_none c.args.slots.now c.args.at (read_at c.args.slots.now c.args.at c.index-slots-at.result _ c.requires.at c.index-slots-at.is c.in-None.is)

pub returns-in-Some : goal.returns-in-Some
returns-in-Some c = ap (λ n. n + 1) c.requires.count ∙ count_some c.args.slots.now c.args.at _ (read_at c.args.slots.now c.args.at c.index-slots-at.result _ c.requires.at c.index-slots-at.is c.in-Some.is)
