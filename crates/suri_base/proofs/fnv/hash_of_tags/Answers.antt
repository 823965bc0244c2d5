use Rattle.suri_base.proofs.Hashes.{no_tags}
use Rattle.suri_base.proofs.fnv.hash_of_tags.Goals as goal

pub returns-then-is : goal.returns-then-is
returns-then-is c = no_tags c.args.vlans.now (c.is.ensures.equal.0 c.if-is.true)
