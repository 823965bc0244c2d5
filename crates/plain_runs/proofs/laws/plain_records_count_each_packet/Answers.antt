use Rattle.plain_runs.proofs.Counting.{records_bytes, records_packets, records_length}
use Rattle.plain_runs.proofs.laws.plain_records_count_each_packet.Goals as goal

pub returns : goal.returns
returns c = record { records = records_length; packets = records_packets; bytes = records_bytes }
