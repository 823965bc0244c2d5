use Rattle.std.proofs.Common.{◌∙◌, subst, sym}
use Rattle.flow_orders.specs.Orders.{CanMend}
use Rattle.flow_orders.specs.declared.marks.Marks.{Marks}
use Rattle.flow_orders.proofs.Beginning.{may_begin}
use Rattle.flow_orders.proofs.tests.finds_a_flow_in_each_order.Goals as goal

pub mend-requires : goal.mend-requires
mend-requires g c =
    let same = c.reserve_begin.ensures.pairs in
    let none = c.new-orders.ensures in
    subst (λ (m : Marks). CanMend c.reserve_begin.new.self 7 m c.linked-marks.result) (sym c.none.ensures.empty)
    (may_begin c.reserve_begin.new.self 7 c.linked-marks.result (same.by_key ∙ none.by_key) (same.due ∙ none.due) (same.due_in_emergency ∙ none.due_in_emergency) (same.unused ∙ none.unused) (same.by_use ∙ none.by_use)
    c.in_ok-reserve_begin.ensures.room)
