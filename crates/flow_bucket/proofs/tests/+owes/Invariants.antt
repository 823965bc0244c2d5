use Rattle.std.proofs.Common.{length}
use Rattle.flow_bucket.proofs.tests.+owes.Given as goal

abbrev pub decreases-owes : goal.decreases-owes
decreases-owes l = length l.past.now
