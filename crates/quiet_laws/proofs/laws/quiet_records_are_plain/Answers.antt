use Rattle.quiet_laws.proofs.Counting.{alike_lines, plain_lines}
use Rattle.quiet_laws.proofs.Matching.{plain_records}
use Rattle.quiet_laws.proofs.laws.quiet_records_are_plain.Goals as goal

pub returns : goal.returns
returns c = record { same = plain_records; lines = plain_lines; alike = alike_lines }
