use Rattle.bucket_laws.proofs.Nodes.{all_nodes, nodes_out, run_nodes}
use Rattle.bucket_laws.proofs.laws.nodes_come_back.Goals as goal

pub returns : goal.returns
returns c = record { run = run_nodes; all = all_nodes; drained = nodes_out }
