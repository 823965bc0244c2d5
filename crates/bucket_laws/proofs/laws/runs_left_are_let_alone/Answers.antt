use Rattle.bucket_laws.proofs.Naming.{gone, named, unnamed}
use Rattle.bucket_laws.proofs.Staying.{unchanged}
use Rattle.bucket_laws.proofs.laws.runs_left_are_let_alone.Goals as goal

pub returns : goal.returns
returns c = record { named = named; gone = gone; same = unchanged; unnamed = unnamed }
