use Rattle.bucket_laws.proofs.Answering.{all_answered, answered_falls, answered_listed, first_answered}
use Rattle.bucket_laws.proofs.laws.packets_are_answered_in_order.Goals as goal

pub returns : goal.returns
returns c = record { order = answered_falls; listed = answered_listed; all = all_answered; first = first_answered }
