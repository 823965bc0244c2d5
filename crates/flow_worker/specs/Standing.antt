-- Where a worker stands in its script, and how it goes on.
use Rattle.std.specs.Prelude.{◌≡◌, ℕ, ◌<◌, List, [], ◌∷◌, ◌++◌, length, reverse, Some}
use Rattle.bucket_laws.specs.Leaving.{Gone}
use Rattle.flow_object.specs.declared.outcome.FlowLine.{FlowLine}
use Rattle.role_steps.specs.Items.{Items, LinesOf}
use Rattle.role_steps.specs.Roles.{Acted, Fits, number_of, seen, setup_of}
use Rattle.role_steps.specs.declared.roles.Shared.{Shared}
use Rattle.role_steps.specs.declared.roles.Worker.{Worker}
use Rattle.run_laws.specs.Setting.{IsSetup}
use Rattle.run_rules.specs.Acts.{Act, AreActs, on_bucket}
use Rattle.run_rules.specs.Serving.{finished}
use Rattle.run_rules.specs.Setup.{work_of}
use Rattle.run_rules.specs.Worker.{Stage, Stand, fresh, held_at, stand_after}
use Rattle.suri_base.specs.declared.entry.BucketNote.TheVariants.{Refused}

-- what the worker did so far are these acts, and they lead to this stand. What it has in its hand is the hand of the stand, item by item
pub record IsAt (s : Shared) (k : Worker) (before : List Act) (st : Stand) : Type 0 where
  pub setup : IsSetup (setup_of s)
  pub fits : Fits s k.passes
  pub worker : number_of k.passes < s.layout.workers
  pub step : length before ≡ k.passes.step
  pub own : AreActs (setup_of s) (seen k.passes) (number_of k.passes) before
  pub stood : stand_after (setup_of s) (fresh (work_of (setup_of s) (number_of k.passes))) before ≡ Some st
  pub hand : Items (setup_of s) (seen k.passes) st.hand k.hand.items

-- the frames that acts refused, the newest first
abbrev pub refused_on : Act → List ℕ → List ℕ
refused_on (on_bucket b (Refused f) left) fs = f ∷ fs
refused_on _ fs = fs

abbrev pub refused_in : List Act → List ℕ
refused_in [] = []
refused_in (a ∷ before) = refused_on a (refused_in before)

-- from that stand the worker went on to another stage, in the same batch, and refused just these frames. Its lines grew by those of the
-- runs that it finished
pub record Moves (s : Shared) (old new : Worker) (before : List Act) (st : Stand) (to : Stage) (refused : List ℕ) : Type 0 where
  pub now : List Act
  pub acted : Acted s old.passes new.passes now
  pub lines : List FlowLine
  pub grew : new.lines.items ≡ old.lines.items ++ lines
  pub told : LinesOf (setup_of s) (seen new.passes) (reverse (finished now)) lines
  pub refuses : refused_in now ≡ refused
  pub hand : List Gone
  pub is : IsAt s new (now ++ before) (held_at to hand st)

-- the worker stands at such a place, with these frames still to be done
pub record MayGo (s : Shared) (k : Worker) (from : Stand → List ℕ → Type 0) : Type 0 where
  pub before : List Act
  pub stand : Stand
  pub todo : List ℕ
  pub is : IsAt s k before stand
  pub there : from stand todo

-- from each such place the worker went on to that stage
abbrev pub Goes : Shared → Worker → Worker → (Stand → List ℕ → Type 0) → (Stand → List ℕ → Stage) → List ℕ → Type 0
Goes s old new from to refused = (before : List Act) (st : Stand) (todo : List ℕ) → IsAt s old before st → from st todo → Moves s old new before st (to st todo) refused
