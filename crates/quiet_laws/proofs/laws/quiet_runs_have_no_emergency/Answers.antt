use Rattle.quiet_laws.proofs.Calming.{always_off, told_off}
use Rattle.quiet_laws.proofs.laws.quiet_runs_have_no_emergency.Goals as goal

pub returns : goal.returns
returns c = record { off = always_off; modes = told_off }
