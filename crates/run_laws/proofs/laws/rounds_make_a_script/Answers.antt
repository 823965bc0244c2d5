use Rattle.run_laws.proofs.Rounding.{manager_over, queue_longer, worker_over}
use Rattle.run_laws.proofs.laws.rounds_make_a_script.Goals as goal

pub returns : goal.returns
returns c = record { worker = worker_over; manager = manager_over; queue = queue_longer }
