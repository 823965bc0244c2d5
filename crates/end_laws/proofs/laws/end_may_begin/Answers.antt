use Rattle.end_laws.proofs.Beginning.{end_may}
use Rattle.end_laws.proofs.laws.end_may_begin.Goals as goal

pub returns : goal.returns
returns c = λ s roles e f b o. end_may s roles e f b o
