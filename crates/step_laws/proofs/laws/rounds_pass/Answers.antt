use Rattle.step_laws.proofs.Following.{round_passes}
use Rattle.step_laws.proofs.laws.rounds_pass.Goals as goal

pub returns : goal.returns
returns c = record { passes = round_passes }
