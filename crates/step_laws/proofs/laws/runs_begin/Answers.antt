use Rattle.step_laws.proofs.Beginning.{first_lawful}
use Rattle.step_laws.proofs.laws.runs_begin.Goals as goal

pub returns : goal.returns
returns c = record { begins = first_lawful }
