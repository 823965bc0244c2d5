use Rattle.round_laws.proofs.Rising.{went_by_rounds}
use Rattle.round_laws.proofs.laws.runs_go_by_rounds.Goals as goal

pub returns : goal.returns
returns c = λ w t l d i. went_by_rounds w d t l i
