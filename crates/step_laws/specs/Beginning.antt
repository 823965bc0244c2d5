-- The histories of a run before its first step.
use Rattle.std.specs.Prelude.{◌≡◌, ℕ, ◌<◌, [], length}
use Rattle.run_rules.specs.Histories.{Histories, bucket_at}
use Rattle.run_rules.specs.Setup.{Setup}

-- there are as many buckets as the run is laid out with, and every history is empty
pub record IsUnbegun (w : Setup) (t : Histories) : Type 0 where
  pub rows : length t.buckets ≡ w.layout.rows
  pub pool : t.pool ≡ []
  pub segments : t.segments ≡ []
  pub buckets : (b : ℕ) → b < length t.buckets → bucket_at b t.buckets ≡ []
