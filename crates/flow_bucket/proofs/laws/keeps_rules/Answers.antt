use Rattle.bucket_rules.proofs.Soundness.{sound}
use Rattle.flow_bucket.specs.Fixing.{legal_is}
use Rattle.flow_bucket.proofs.Parting.{drained_empty}
use Rattle.flow_bucket.proofs.laws.keeps_rules.Goals as goal

pub returns-clause-rules : goal.returns-clause-rules
returns-clause-rules c = legal_is

pub returns-clause-sound : goal.returns-clause-sound
returns-clause-sound c = λ s past legal. sound s past (legal_is s past legal)

pub returns-clause-empty : goal.returns-clause-empty
returns-clause-empty c = λ s past role count legal may. drained_empty s past role count (sound s past (legal_is s past legal)) may
