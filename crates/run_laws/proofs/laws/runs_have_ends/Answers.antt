use Rattle.run_laws.proofs.Ending.{has_cause}
use Rattle.run_laws.proofs.laws.runs_have_ends.Goals as goal

pub returns : goal.returns
returns c = record { cause = λ w t d l b h a m. has_cause w d t l b h a m }
