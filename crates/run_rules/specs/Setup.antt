-- What no call of a run changes: the capture, and how the run is laid out. Which roles there are, and which frames each worker takes.
use Rattle.std.specs.Prelude.{ℕ, ◌+◌, List, length, map, Option, Some, None}
use Rattle.std.specs.List.{range_with_len}
use Rattle.suri_base.specs.App.{payload_of, verdict_of}
use Rattle.suri_base.specs.Capture.{Captured}
use Rattle.suri_base.specs.Dealing.{bucket_of}
use Rattle.suri_base.specs.declared.app.App.{App}
use Rattle.suri_base.specs.declared.app.App.TheVariants as app
use Rattle.suri_base.specs.declared.facts.Facts.{Facts}
use Rattle.suri_base.specs.declared.layout.Layout.{Layout}
use Rattle.capture_index.specs.Batches.{batches_of, rounds_of}
use Rattle.bucket_rules.specs.Packets.{bearing}
use Rattle.bucket_rules.specs.declared.fixed.Fixed.{Fixed}

pub record Setup : Type 0 where
  pub capture : Captured
  pub layout : Layout

-- the fixed part of the bucket of this number
abbrev pub fixed_at : Setup → ℕ → Fixed
fixed_at w b = record { capture = w.capture; layout = w.layout; number = b }

-- workers have the numbers from 0 on; then come the manager, the recycler, and the end role
abbrev pub manager : Setup → ℕ
manager w = w.layout.workers

abbrev pub recycler : Setup → ℕ
recycler w = w.layout.workers + 1

abbrev pub ender : Setup → ℕ
ender w = w.layout.workers + 2

abbrev pub roles : Setup → ℕ
roles w = w.layout.workers + 3

abbrev pub rounds : Setup → ℕ
rounds w = rounds_of (length w.capture.frames) w.layout.round

-- the batches of a worker in each round
abbrev pub work_of : Setup → ℕ → List (List (List ℕ))
work_of w role = map (λ r. batches_of w.layout w.capture.seen role r) (range_with_len 0 (rounds w))

-- the bucket of a packet; that of no number where there is none
abbrev pub bucket_by : ℕ → Option Facts → ℕ
bucket_by rows None = rows
bucket_by rows (Some t) = bucket_of t.key rows

abbrev pub bucket_for : Setup → ℕ → ℕ
bucket_for w f = bucket_by w.layout.rows (bearing w.capture f)

-- the verdict on a packet
abbrev pub verdict_by : List ℕ → Option Facts → App
verdict_by bytes None = app.None
verdict_by bytes (Some t) = verdict_of t (payload_of bytes t)

abbrev pub verdict_for : Setup → ℕ → App
verdict_for w f = verdict_by w.capture.bytes (bearing w.capture f)
