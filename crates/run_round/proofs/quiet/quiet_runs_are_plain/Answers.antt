use Rattle.run_round.proofs.Plain.{alike_records, quiet_counts, quiet_records, records_once}
use Rattle.run_round.proofs.quiet.quiet_runs_are_plain.Goals as goal

pub returns : goal.returns
returns c = record { records = quiet_records; counts = quiet_counts; once = records_once; alike = alike_records }
