use Rattle.std.proofs.Common.{◌∙◌}
use Rattle.flow_orders.proofs.Beginning.{may_begin_times}
use Rattle.flow_orders.proofs.tests.finds_a_flow_by_its_times.Goals as goal

pub mend_times-requires : goal.mend_times-requires
mend_times-requires g c =
    let same = c.reserve_begin.ensures.pairs in
    let none = c.new-orders.ensures in
    may_begin_times c.reserve_begin.new.self 7 _ (same.by_key ∙ none.by_key) (same.due ∙ none.due) (same.due_in_emergency ∙ none.due_in_emergency) (same.unused ∙ none.unused) (same.by_use ∙ none.by_use) c.in_ok-reserve_begin.ensures.room
