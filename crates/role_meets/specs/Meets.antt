-- What roles know after they told each other what they have seen.
use Rattle.std.specs.Prelude.{◌≡◌, ℕ, ◌<◌, List, length, slice_index_or}
use Rattle.role_meets.specs.Parts.{kind_of, passes_of, hand_of, waiting_of, lines_of}
use Rattle.role_meets.specs.declared.roles.Role.{Role}
use Rattle.role_steps.specs.Roles.{Fits, number_of, seen, made, setup_of}
use Rattle.role_steps.specs.declared.roles.Passes.{Passes}
use Rattle.role_steps.specs.declared.roles.Recycler.{Recycler}
use Rattle.role_steps.specs.declared.roles.Shared.{Shared}
use Rattle.run_rules.specs.Acts.{Act, AreActs}
use Rattle.run_rules.specs.Growing.{HasGrown}
use Rattle.run_rules.specs.Histories.{Histories}

-- who told another role has seen and made just what it had
pub record Told (s : Shared) (old new : Passes) : Type 0 where
  pub fits : Fits s new
  pub number : number_of new ≡ number_of old
  pub step : new.step ≡ old.step
  pub seen_same : seen new ≡ seen old
  pub made_same : made new ≡ made old

-- who heard another role has seen what both had seen, and nothing else
pub record Heard (s : Shared) (from old new : Passes) : Type 0 where
  pub fits : Fits s new
  pub number : number_of new ≡ number_of old
  pub step : new.step ≡ old.step
  pub made_same : made new ≡ made old
  pub grown_from : HasGrown (seen from) (seen new)
  pub grown : HasGrown (seen old) (seen new)
  pub no_more : HasGrown (seen old) (seen from) → seen new ≡ seen from

-- what the role did, over what it had seen, is what it did over what it has seen now
abbrev pub ActsStay : Shared → Passes → Passes → Type 0
ActsStay s old new = (acts : List Act) → AreActs (setup_of s) (seen old) (number_of old) acts → AreActs (setup_of s) (seen new) (number_of old) acts

-- who heard others has made nothing more
pub record Grown (s : Shared) (old new : Passes) : Type 0 where
  pub fits : Fits s new
  pub number : number_of new ≡ number_of old
  pub step : new.step ≡ old.step
  pub made_same : made new ≡ made old
  pub grown : HasGrown (seen old) (seen new)
  pub acts : ActsStay s old new

-- nothing but its passes changed
pub record SameRole (old new : Role) : Type 0 where
  pub kind : kind_of new.part ≡ kind_of old.part
  pub hand : hand_of new.part ≡ hand_of old.part
  pub waiting : waiting_of new.part ≡ waiting_of old.part
  pub lines : lines_of new.part ≡ lines_of old.part
  pub failed : new.failed ≡ old.failed

-- the role has seen just these histories now
pub record Informed (s : Shared) (t : Histories) (old new : Role) : Type 0 where
  pub same : SameRole old new
  pub grown : Grown s (passes_of old) (passes_of new)
  pub knows : seen (passes_of new) ≡ t

-- all have met: each has seen the same histories, which begin with what each had seen
pub record MetAll (s : Shared) (olds news : List Role) (old new : Recycler) : Type 0 where
  pub count : length news ≡ length olds
  pub roles : (k : ℕ) (d : Role) → k < length olds → Informed s (seen new.passes) (slice_index_or olds k d) (slice_index_or news k d)
  pub ender : Grown s old.passes new.passes
  pub waiting : new.waiting.items ≡ old.waiting.items
  pub lines : new.lines.items ≡ old.lines.items
