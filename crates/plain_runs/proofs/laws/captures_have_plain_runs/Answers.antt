use Rattle.plain_runs.proofs.Growing.{capture_has}
use Rattle.plain_runs.proofs.Same.{plain_once}
use Rattle.plain_runs.proofs.laws.captures_have_plain_runs.Goals as goal

pub returns : goal.returns
returns c = record { some = capture_has; same = plain_once }
