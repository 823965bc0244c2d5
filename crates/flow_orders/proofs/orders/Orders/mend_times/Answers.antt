use Rattle.std.proofs.Common.{refl, subst, sym}
use Rattle.flow_orders.specs.Orders.{AreMarks, CanMendTimes}
use Rattle.flow_orders.proofs.Mending.{times_mended}
use Rattle.flow_orders.proofs.orders.Orders.mend_times.Goals as goal

pub replace-requires : goal.replace-requires
replace-requires c = (subst (λ s. CanMendTimes s c.args.slot c.args.from c.args.to) (sym c.self.view_is) c.requires).due

pub replace-requires-2 : goal.replace-requires-2
replace-requires-2 c = (subst (λ s. CanMendTimes s c.args.slot c.args.from c.args.to) (sym c.self.view_is) c.requires).due_in_emergency

pub replace-requires-3 : goal.replace-requires-3
replace-requires-3 c = (subst (λ s. CanMendTimes s c.args.slot c.args.from c.args.to) (sym c.self.view_is) c.requires).unused

pub returns-clause-marks : goal.returns-clause-marks
returns-clause-marks c = λ slots o n h at key d e w. times_mended slots _ _ c.args.slot o n c.args.from c.args.to (subst (AreMarks slots) (sym c.self.view_is) h) at key d e w refl c.replace.ensures.slots c.replace-2.ensures.slots c.replace-3.ensures.slots
