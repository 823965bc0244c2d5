-- A run with a capture that stands, laid out within the bounds of the options.
use Rattle.std.specs.Prelude.{◌≤◌}
use Rattle.suri_base.specs.Capture.{IsCapture}
use Rattle.suri_base.specs.declared.layout.Layout.{Layout}
use Rattle.run_rules.specs.Setup.{Setup}

-- the numbers of a layout are such as the options allow
pub record IsLayout (l : Layout) : Type 0 where
  pub workers : (1 ≤ l.workers) × (l.workers ≤ 64)
  pub batch : (1 ≤ l.batch) × (l.batch ≤ 256)
  pub round : (1 ≤ l.round) × (l.round ≤ 65536)
  pub rows : (1 ≤ l.rows) × (l.rows ≤ 4096)
  pub memcap : (l.rows ≤ l.memcap) × (l.memcap ≤ 1048576)
  pub segments : l.segments ≤ 1048576
  pub recovery : (1 ≤ l.recovery) × (l.recovery ≤ 100)
  pub depth : l.depth ≤ 1073741824

pub record IsSetup (w : Setup) : Type 0 where
  pub capture : IsCapture w.capture
  pub layout : IsLayout w.layout
