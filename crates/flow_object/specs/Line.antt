-- The record of a run.
use Rattle.std.specs.Prelude.{ℕ, Bool, List}
use Rattle.reassembly.specs.Members as stream
use Rattle.suri_base.specs.App.{first_verdict}
use Rattle.suri_base.specs.declared.app.App.{App}
use Rattle.suri_base.specs.declared.reason.Reason.{Reason}
use Rattle.flow_sum.specs.Run.{Run}
use Rattle.flow_sum.specs.Sums.{sums_of}
use Rattle.flow_object.specs.Object.{Stops, class_of_run, session_of}
use Rattle.flow_object.specs.Streams.{to_client, to_server}
use Rattle.flow_object.specs.declared.outcome.FlowLine.{FlowLine}

-- the record of a run in a capture of these bytes, with the verdicts on its packets: by the depth and the stops of its streams, and
-- why it ended
abbrev pub line_of : ℕ → Stops → List ℕ → Run → List App → Reason → Bool → FlowLine
line_of depth stops bytes r judged reason emergency = record {
  sums = sums_of r;
  class = class_of_run r;
  state = session_of r;
  app = first_verdict judged;
  ts = stream.line_of depth stops.to_server (to_server bytes r);
  tc = stream.line_of depth stops.to_client (to_client bytes r);
  reason = reason;
  emergency = emergency;
}
