use Rattle.sweep_laws.proofs.Leaving.{after_sweep, looks_meet_none}
use Rattle.sweep_laws.proofs.laws.sweeps_leave_none_expired.Goals as goal

pub returns : goal.returns
returns c = record { after = after_sweep; looks = looks_meet_none }
