-- What holds after one step more of a role.
use Rattle.std.specs.Prelude.{◌≡◌, ◌≢◌, ℕ, ◌∷◌}
use Rattle.run_rules.specs.Acts.{Act}
use Rattle.run_rules.specs.Histories.{Histories}
use Rattle.run_rules.specs.Setup.{Setup}
use Rattle.run_rules.specs.SoFar.{AreLawfulSoFar}

-- the trail is lawful so far: the role did this act more, all others did what they had done, and the hands of as many rounds came to the recycler. So
-- the role stands where its script goes on by the act, and all others stand where they stood
pub record HasStepped (w : Setup) (t new : Histories) (l : AreLawfulSoFar w t) (role : ℕ) (a : Act) : Type 0 where
  pub lawful : AreLawfulSoFar w new
  pub own : lawful.scripted.acts role ≡ a ∷ l.scripted.acts role
  pub others : (r : ℕ) → r ≢ role → lawful.scripted.acts r ≡ l.scripted.acts r
  pub served : lawful.scripted.served ≡ l.scripted.served
