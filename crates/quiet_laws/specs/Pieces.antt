-- The plain runs that the runs of a key are.
use Rattle.std.specs.Prelude.{List, [], ◌∷◌, ◌++◌, Option, Some, None}
use Rattle.suri_base.specs.Capture.{Captured}
use Rattle.suri_base.specs.declared.facts.Facts.{Facts}
use Rattle.suri_base.specs.declared.reason.Reason.{Reason}
use Rattle.bucket_laws.specs.Keys.{Piece}
use Rattle.bucket_rules.specs.Packets.{bearing}
use Rattle.flow_sum.specs.Run.{Run}
use Rattle.plain_runs.specs.Plain.{PlainRun, cut_reason}

-- why the next packet of its key ended a run, where there is one
abbrev pub ended_by : Run → Option Facts → Option Reason
ended_by r None = None
ended_by r (Some t) = Some (cut_reason r t)

-- a run as a plain one: the next packet of its key ended it, where the capture has one
abbrev pub plain_of : Captured → Run → PlainRun
plain_of c r = record { run = r; ended = ended_by r (bearing c r.newest.next) }

-- the run of some packets, the newest first; none where there are none
abbrev pub run_of : List Facts → List Run
run_of [] = []
run_of (m ∷ ms) = record { newest = m; older = ms } ∷ []

-- the runs of some pieces
abbrev pub runs_of : List Piece → List Run
runs_of [] = []
runs_of (p ∷ ps) = run_of p.packets ++ runs_of ps
