use Rattle.bucket_laws.proofs.Draining.{all_left, empty, none_begins, nothing_new}
use Rattle.bucket_laws.proofs.laws.drained_buckets_are_empty.Goals as goal

pub returns : goal.returns
returns c = record { empty = empty; left = all_left; quiet = nothing_new; stays = none_begins }
