-- What a run reports of its capture where it never was short of an object or of a node.
use Rattle.std.specs.Prelude.{◌≡◌, ℕ, List}
use Rattle.suri_base.specs.Capture.{Captured, packets_in}
use Rattle.suri_base.specs.Clock.{clock_of}
use Rattle.flow_object.specs.declared.outcome.FlowLine.{FlowLine}
use Rattle.plain_runs.specs.Plain.{ArePlain, PlainRun, records_of}

-- these are the records of the plain runs of a capture, where so many bytes of each stream are looked at: no worker, batch, round or row is in it
pub record ArePlainRecords (depth : ℕ) (capture : Captured) (lines : List FlowLine) : Type 0 where
  pub runs : List PlainRun
  pub plain : ArePlain (packets_in capture.seen) runs
  pub records : lines ≡ records_of depth capture.bytes (clock_of capture.frames) runs
