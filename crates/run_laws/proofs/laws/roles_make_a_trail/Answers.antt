use Rattle.run_rules.proofs.Carrying.{put_together}
use Rattle.run_laws.proofs.laws.roles_make_a_trail.Goals as goal

pub returns : goal.returns
returns c = record { lawful = put_together }
