use Rattle.quiet_laws.proofs.Ending.{ends_plainly}
use Rattle.quiet_laws.proofs.Uncutting.{uncut, unstopped}
use Rattle.quiet_laws.proofs.laws.calm_runs_end_plainly.Goals as goal

pub returns : goal.returns
returns c = record { uncut = uncut; ends = ends_plainly; stops = unstopped }
