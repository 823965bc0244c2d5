use Rattle.step_laws.proofs.Leaving.{ender_puts, recycler_puts}
use Rattle.step_laws.proofs.Waiting.{remains_left, waits_left}
use Rattle.step_laws.proofs.laws.what_waits_has_left.Goals as goal

pub returns : goal.returns
returns c = record { recycler = recycler_puts; end = ender_puts; waits = waits_left; remains = remains_left }
