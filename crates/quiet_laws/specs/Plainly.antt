-- How the runs of a bucket are cut where its entries are calm.
use Rattle.std.specs.Prelude.{◌≡◌, true, false, if◌then◌else◌, List, [], ◌∷◌, Some}
use Rattle.suri_base.specs.declared.facts.Facts.{Facts}
use Rattle.suri_base.specs.declared.reason.Reason.TheVariants.{Shutdown, Timeout}
use Rattle.flow_expiry.specs.Expiry.{expired}
use Rattle.flow_sum.specs.Run.{Run}
use Rattle.bucket_rules.specs.Packets.{bearing, last_clock}
use Rattle.bucket_rules.specs.Row.{Off, off}
use Rattle.bucket_rules.specs.declared.fixed.Fixed.{Fixed}
use Rattle.plain_runs.specs.Cuts.{IsUncut}
use Rattle.plain_runs.specs.Plain.{cut_reason, is_cut}

-- none of some packets, the newest first, ended the run of those before it
abbrev pub AreUncut : List Facts → Type 0
AreUncut [] = Unit {0}
AreUncut (m ∷ ms) = IsUncut m ms

-- the end of a run is that of a plain one: the next packet of its key ended it, for its own reason. Where none was to come it has its timeout by
-- the last clock, or else the capture ended
pub record EndsPlainly (s : Fixed) (r : Run) (o : Off) : Type 0 where
  pub next : (t : Facts) → bearing s.capture r.newest.next ≡ Some t → (is_cut r t ≡ true) × (o ≡ off (cut_reason r t) false)
  pub last : r.newest.next ≡ 0 → o ≡ off (if expired r (last_clock s) false then Timeout else Shutdown) false
