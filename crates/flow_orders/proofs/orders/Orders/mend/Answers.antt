use Rattle.std.proofs.Common.{subst, sym}
use Rattle.flow_orders.specs.Orders.{AreMarks, CanMend}
use Rattle.flow_orders.proofs.Mending.{marks_mended}
use Rattle.flow_orders.proofs.orders.Orders.mend.Goals as goal

pub replace-requires : goal.replace-requires
replace-requires c = (subst (λ s. CanMend s c.args.slot c.args.old c.args.new) (sym c.self.view_is) c.requires).by_key

pub replace-requires-2 : goal.replace-requires-2
replace-requires-2 c = (subst (λ s. CanMend s c.args.slot c.args.old c.args.new) (sym c.self.view_is) c.requires).due

pub replace-requires-3 : goal.replace-requires-3
replace-requires-3 c = (subst (λ s. CanMend s c.args.slot c.args.old c.args.new) (sym c.self.view_is) c.requires).due_in_emergency

pub replace-requires-4 : goal.replace-requires-4
replace-requires-4 c = (subst (λ s. CanMend s c.args.slot c.args.old c.args.new) (sym c.self.view_is) c.requires).unused

pub returns-clause-marks : goal.returns-clause-marks
returns-clause-marks c = λ slots o n h at d e w. marks_mended slots _ _ c.args.slot o n c.args.old c.args.new (subst (AreMarks slots) (sym c.self.view_is) h) at d e w c.replace.ensures.slots c.replace-2.ensures.slots c.replace-3.ensures.slots c.replace-4.ensures.slots
