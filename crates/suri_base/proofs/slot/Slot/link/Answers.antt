use Rattle.suri_base.proofs.Packings.{linked_slot, unlinked_slot}
use Rattle.suri_base.proofs.slot.Slot.link.Goals as goal

pub returns-in-None : goal.returns-in-None
returns-in-None c seen e = linked_slot seen c.args.self.now c.args.next e c.in-None.is

pub returns-in-Some : goal.returns-in-Some
returns-in-Some c seen e = unlinked_slot seen c.args.self.now c.args.next _ e c.in-Some.is
