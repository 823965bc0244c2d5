use Rattle.end_laws.proofs.Lawful.{run_ended}
use Rattle.end_laws.proofs.laws.run_is_lawful.Goals as goal

pub returns : goal.returns
returns c = λ s roles e f g t b o d h. run_ended s roles e f g t b o d h
