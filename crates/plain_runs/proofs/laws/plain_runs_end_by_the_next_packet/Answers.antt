use Rattle.plain_runs.proofs.Ending.{all_cut}
use Rattle.plain_runs.proofs.laws.plain_runs_end_by_the_next_packet.Goals as goal

pub returns : goal.returns
returns c = record { cuts = all_cut }
