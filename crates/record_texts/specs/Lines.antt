-- The lines of records.
use Rattle.std.specs.Prelude.{ℕ, Bool, List, [], ◌++◌, if◌then◌else◌, flat_map}
use Rattle.flow_object.specs.declared.outcome.FlowLine.{FlowLine}
use Rattle.eve_record.specs.FlowLine.{flow_line}
use Rattle.eve_record.specs.NetflowLine.{netflow_lines}

-- the lines of one record: its flow line, and then, where they are asked for, its netflow lines
abbrev pub record_lines : ℕ → Bool → FlowLine → List ℕ
record_lines seed netflow l = flow_line l seed ++ (if netflow then netflow_lines l seed else [])

-- the lines of records, one after another
abbrev pub lines_of : ℕ → Bool → List FlowLine → List ℕ
lines_of seed netflow lines = flat_map (record_lines seed netflow) lines
