use Rattle.round_laws.proofs.Naming.{named_soon}
use Rattle.round_laws.proofs.laws.runs_are_named_soon.Goals as goal

pub returns : goal.returns
returns c = λ w t l d i. named_soon w d t l i
