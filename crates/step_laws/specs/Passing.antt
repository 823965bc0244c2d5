-- How the hands of one more round come to the recycler.
use Rattle.std.specs.Prelude.{◌≡◌, ℕ, ◌+◌, ◌-◌, ◌<◌, ◌≤◌, ◌++◌, length}
use Rattle.run_rules.specs.Histories.{Histories}
use Rattle.run_rules.specs.Setup.{Setup, manager, rounds}
use Rattle.run_rules.specs.SoFar.{AreLawfulSoFar, hands_by, round_hands}

-- every worker and the manager has ended the next round that the recycler waits for, and it isn't the last
pub record MayPass (w : Setup) (t : Histories) (l : AreLawfulSoFar w t) : Type 0 where
  pub not_last : l.scripted.served + 1 ≤ rounds w - 1
  pub ended : (role : ℕ) → role < manager w + 1 → l.scripted.served + 1 ≤ length (hands_by w l.scripted.stands l.scripted.sweep role)

-- the trail is lawful so far with the hands of one round more behind what waits for the recycler; all roles stand where they stood
pub record HasPassed (w : Setup) (t : Histories) (l : AreLawfulSoFar w t) : Type 0 where
  pub lawful : AreLawfulSoFar w t
  pub served : lawful.scripted.served ≡ l.scripted.served + 1
  pub waiting : lawful.scripted.waiting ≡ l.scripted.waiting ++ round_hands (manager w + 1) (hands_by w l.scripted.stands l.scripted.sweep) l.scripted.served
  pub acts : lawful.scripted.acts ≡ l.scripted.acts
  pub stands : lawful.scripted.stands ≡ l.scripted.stands
  pub sweep : lawful.scripted.sweep ≡ l.scripted.sweep
