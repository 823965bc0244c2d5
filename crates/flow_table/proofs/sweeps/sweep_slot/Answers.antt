use Rattle.bucket_flow.specs.Flows.{swept_held}
use Rattle.flow_table.proofs.Keeping.{detached_less}
use Rattle.flow_table.proofs.Ordered.{detached_is, parted_mend, parted_orders, parted_own}
use Rattle.flow_table.proofs.sweeps.sweep_slot.Goals as goal

pub mend-requires : goal.mend-requires
mend-requires c = parted_mend (swept_held c.args.capture.now c.args.start c.args.clock c.args.emergency) (λ f. detached_is _ _ f) (λ f. detached_less _ _ f) c.requires.orders.0 c.args.orders.now c.args.at c.args.slot.now c.sweep_flow.new.slot c.requires.orders.1 c.sweep_flow.ensures.slot _ _ c.marks_in-marks.ensures c.marks_in.ensures

pub returns-clause-orders : goal.returns-clause-orders
returns-clause-orders c = λ slots h. parted_orders (swept_held c.args.capture.now c.args.start c.args.clock c.args.emergency) (λ f. detached_is _ _ f) (λ f. detached_less _ _ f) slots c.args.orders.now c.args.at c.args.slot.now c.sweep_flow.new.slot h c.sweep_flow.ensures.slot c.mend.new.self
    (c.mend.ensures.marks slots c.args.slot.now c.sweep_flow.new.slot h.orders.marks h.there c.marks_in-marks.ensures c.marks_in.ensures
    (parted_own (swept_held c.args.capture.now c.args.start c.args.clock c.args.emergency) (λ f. detached_is _ _ f) (λ f. detached_less _ _ f) slots c.args.orders.now c.args.at c.args.slot.now c.sweep_flow.new.slot h c.sweep_flow.ensures.slot)) c.mend.ensures.uses
