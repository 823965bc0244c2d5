use Rattle.round_laws.proofs.Beginning.{begins}
use Rattle.round_laws.proofs.laws.rounds_begin.Goals as goal

pub returns : goal.returns
returns c = begins
