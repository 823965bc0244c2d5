use Rattle.quiet_laws.proofs.Counting.{alike_counts, no_force, no_shortage, one_count, plain_counts}
use Rattle.quiet_laws.proofs.laws.quiet_counts_are_plain.Goals as goal

pub returns : goal.returns
returns c = record { short = no_shortage; counts = plain_counts; same = one_count; alike = alike_counts; forced = no_force }
