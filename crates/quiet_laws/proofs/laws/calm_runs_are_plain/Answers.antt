use Rattle.bucket_laws.specs.Keys.{pieces}
use Rattle.quiet_laws.proofs.Piecing.{are_plain, only_runs, run_in}
use Rattle.quiet_laws.proofs.laws.calm_runs_are_plain.Goals as goal

pub returns : goal.returns
returns c = record { runs = λ s k history q p i. run_in p (pieces s k history) (only_runs s k history q) i; plain = are_plain }
