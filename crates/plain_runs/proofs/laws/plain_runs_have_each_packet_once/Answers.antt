use Rattle.plain_runs.proofs.Covering.{covers, has_each}
use Rattle.plain_runs.proofs.laws.plain_runs_have_each_packet_once.Goals as goal

pub returns : goal.returns
returns c = record { key = covers; all = has_each }
