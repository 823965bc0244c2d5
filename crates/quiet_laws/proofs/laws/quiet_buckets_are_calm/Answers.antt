use Rattle.quiet_laws.proofs.Calming.{calm, none}
use Rattle.quiet_laws.proofs.laws.quiet_buckets_are_calm.Goals as goal

pub returns : goal.returns
returns c = record { calm = λ w t d l q b h. calm w t d l q b h; none = none }
