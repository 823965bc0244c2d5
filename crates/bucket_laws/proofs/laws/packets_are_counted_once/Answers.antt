use Rattle.bucket_laws.proofs.Firsts.{named_by_first}
use Rattle.bucket_laws.proofs.Placing.{all_placed, keyed, members_fall, one_run, placed, unrefused}
use Rattle.bucket_laws.proofs.laws.packets_are_counted_once.Goals as goal

pub returns : goal.returns
returns c = record { placed = placed; all = all_placed; one = one_run; unrefused = unrefused; first = named_by_first; key = keyed; order = members_fall }
