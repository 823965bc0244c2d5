use Rattle.suri_base.proofs.Packings.{its_key, no_key}
use Rattle.suri_base.proofs.slot.Slot.key.Goals as goal

pub returns-in-Some : goal.returns-in-Some
returns-in-Some c seen e = no_key seen c.args.self.now _ e c.in-Some.is

pub returns-in-None : goal.returns-in-None
returns-in-None c seen e = its_key seen c.args.self.now c.kept_key.result e c.in-None.is c.kept_key.ensures
