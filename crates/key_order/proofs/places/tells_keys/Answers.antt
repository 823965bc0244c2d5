use Rattle.key_order.proofs.Telling.{tells}
use Rattle.key_order.proofs.places.tells_keys.Goals as goal

pub returns-clause-keys : goal.returns-clause-keys
returns-clause-keys c = tells
