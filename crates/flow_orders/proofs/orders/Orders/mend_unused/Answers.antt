use Rattle.std.proofs.Common.{refl, subst, sym}
use Rattle.flow_orders.specs.Orders.{AreMarks, CanMendUnused}
use Rattle.flow_orders.proofs.Mending.{unused_mended}
use Rattle.flow_orders.proofs.orders.Orders.mend_unused.Goals as goal

pub replace-requires : goal.replace-requires
replace-requires c = (subst (λ s. CanMendUnused s c.args.slot c.args.old c.args.new) (sym c.self.view_is) c.requires).unused

pub returns-clause-marks : goal.returns-clause-marks
returns-clause-marks c = λ slots o n h at alike d e w. unused_mended slots _ _ c.args.slot o n c.args.old c.args.new (subst (AreMarks slots) (sym c.self.view_is) h) at alike d e w
    (record { by_key = refl; due = refl; due_in_emergency = refl }) c.replace.ensures.slots
