use Rattle.quiet_limits.proofs.Limits.{never_full, never_short, quiet}
use Rattle.quiet_limits.proofs.laws.wide_limits_are_quiet.Goals as goal

pub returns : goal.returns
returns c = record { objects = never_full; nodes = never_short; quiet = quiet }
