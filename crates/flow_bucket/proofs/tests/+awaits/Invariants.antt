use Rattle.std.proofs.Common.{length}
use Rattle.flow_bucket.proofs.tests.+awaits.Given as goal

abbrev pub decreases-awaits : goal.decreases-awaits
decreases-awaits l = length l.past.now
