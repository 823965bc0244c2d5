use Rattle.std.proofs.Common.{ap, refl, sym, ◌∙◌}
use Rattle.std.specs.Ordering.{is_eq}
use Rattle.slot_order.proofs.Sorted.{same_slots}
use Rattle.slot_order.proofs.order.Order.rename.Goals as goal

pub returns-then-is_eq-clause-slots : goal.returns-then-is_eq-clause-slots
returns-then-is_eq-clause-slots g c = same_slots g.met.K.Ord.total c.args.self.now.pairs c.args.from c.args.to c.args.slot (sym (ap is_eq c.cmp.ensures) ∙ sym c.is_eq.ensures ∙ c.if-is_eq.true) (c.requires.was c.args.from refl)
