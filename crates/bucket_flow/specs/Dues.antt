-- When a flow is due.
use Rattle.std.specs.Prelude.{ℕ, ◌+◌, Bool}
use Rattle.timeout_table.specs.Table.{timeout_of}
use Rattle.flow_object.specs.Object.{class_in}
use Rattle.bucket_flow.specs.Held.{Held}

-- the last clock at which the flow hasn't expired, by the table that is chosen
abbrev pub deadline_of : Bool → Held → ℕ
deadline_of emergency f = f.obj.sums.last_clock + timeout_of f.obj.sums.key.proto (class_in f.obj) emergency
