use Rattle.round_laws.proofs.Going.{goes_on}
use Rattle.round_laws.proofs.laws.rounds_go_on.Goals as goal

pub returns : goal.returns
returns c = λ s round begun played met handed e f b low all m h. goes_on s round begun played met handed e f b low all m h
