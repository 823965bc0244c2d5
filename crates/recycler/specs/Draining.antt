-- What the end of a run asks and says.
use Rattle.std.specs.Prelude.{◌≡◌, ℕ, ◌+◌, ◌*◌, ◌<◌, ◌≤◌, ◌^◌, true, List, [], ◌++◌, length, map, reverse, Some}
use Rattle.bucket_laws.specs.Leaving.{Gone, runs}
use Rattle.bucket_rules.specs.Own.{is_closed}
use Rattle.bucket_rules.specs.Packets.{bearing}
use Rattle.flow_object.specs.declared.outcome.FlowLine.{FlowLine}
use Rattle.role_steps.specs.Items.{Items, LinesOf, gone_of}
use Rattle.role_steps.specs.Roles.{Acted, Fits, IsShared, number_of, seen, setup_of}
use Rattle.role_steps.specs.declared.roles.Recycler.{Recycler}
use Rattle.role_steps.specs.declared.roles.Shared.{Shared}
use Rattle.run_rules.specs.Acts.{Act, AreActs}
use Rattle.run_rules.specs.Ending.{Ending, ending_after}
use Rattle.run_rules.specs.Growing.{HasGrown}
use Rattle.run_rules.specs.Histories.{bucket_at}
use Rattle.run_rules.specs.Serving.{finished}
use Rattle.run_rules.specs.Setup.{ender}
use Rattle.suri_base.specs.Dealing.{bucket_of}
use Rattle.suri_base.specs.declared.facts.Facts.{Facts}

-- so many buckets were drained, and this still waits
abbrev pub ending : List Gone → ℕ → Ending
ending queue k = record { queue = queue; drained = k }

-- every packet of each bucket is done with, as far as the role has seen
abbrev pub AreDone : Shared → Recycler → Type 0
AreDone s r = (b f : ℕ) (t : Facts) → b < s.layout.rows → bearing s.capture.now f ≡ Some t → bucket_of t.key s.layout.rows ≡ b
    → is_closed f (bucket_at b (seen r.passes).buckets) ≡ true

-- when the end role may begin: it has made no entry, and what waits is read over what it has seen
pub record MayDrainAll (s : Shared) (r : Recycler) : Type 0 where
  pub shared : IsShared s
  pub fits : Fits s r.passes
  pub number : number_of r.passes ≡ ender (setup_of s)
  pub rows : s.layout.rows ≤ 4096
  pub steps : 2 * length r.waiting.items < 2 ^ 34
  pub step : r.passes.step ≡ 0
  pub own : AreActs (setup_of s) (seen r.passes) (number_of r.passes) []
  pub done : AreDone s r
  pub queue : List Gone
  pub items : Items (setup_of s) (seen r.passes) queue r.waiting.items

-- one bucket was drained, and its flows were finished
pub record DrainedOne (s : Shared) (old new : Recycler) (b : ℕ) : Type 0 where
  pub now : List Act
  pub acted : Acted s old.passes new.passes now
  pub left : List Gone
  pub stands : (start : Ending) (before : List Act) → ending_after (setup_of s) start before ≡ Some (ending [] b)
      → ending_after (setup_of s) start (now ++ before) ≡ Some (ending [] (b + 1))
  pub finished : reverse (finished now) ≡ runs left
  pub few : length now ≤ 8388611
  pub lines : List FlowLine
  pub grew : new.lines.items ≡ old.lines.items ++ lines
  pub told : LinesOf (setup_of s) (seen new.passes) (runs left) lines
  pub waiting : new.waiting.items ≡ []

-- so many buckets were drained
pub record Draining (s : Shared) (old new : Recycler) (k : ℕ) : Type 0 where
  pub now : List Act
  pub acted : Acted s old.passes new.passes now
  pub stands : ending_after (setup_of s) (ending (map gone_of old.waiting.items) 0) now ≡ Some (ending [] k)
  pub few : length now ≤ 2 * length old.waiting.items + k * 8388611
  pub lines : List FlowLine
  pub grew : new.lines.items ≡ old.lines.items ++ lines
  pub told : LinesOf (setup_of s) (seen new.passes) (reverse (finished now)) lines
  pub waiting : new.waiting.items ≡ []

-- what the end says: the acts by which the role went on, and what they are
pub record DrainedAll (s : Shared) (old new : Recycler) : Type 0 where
  pub fits : Fits s new.passes
  pub number : number_of new.passes ≡ number_of old.passes
  pub grown : HasGrown (seen old.passes) (seen new.passes)
  pub now : List Act
  pub step : new.passes.step ≡ length now
  pub few : new.passes.step < 2 ^ 36
  -- these are the role's entries
  pub own : AreActs (setup_of s) (seen new.passes) (number_of old.passes) now
  -- by its script nothing waits any more, and all buckets were drained
  pub emptied : (queue : List Gone) → Items (setup_of s) (seen old.passes) queue old.waiting.items
      → ending_after (setup_of s) (ending queue 0) now ≡ Some (ending [] s.layout.rows)
  -- just the lines of the runs that it finished were added, in order
  pub lines : List FlowLine
  pub grew : new.lines.items ≡ old.lines.items ++ lines
  pub told : LinesOf (setup_of s) (seen new.passes) (reverse (finished now)) lines
