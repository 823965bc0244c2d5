-- What the manager's round asks and says.
use Rattle.std.specs.Prelude.{◌≡◌, ℕ, suc, ◌+◌, ◌<◌, ◌^◌, Bool, List, [], ◌∷◌, ◌++◌, length, Some}
use Rattle.bucket_laws.specs.Leaving.{Gone}
use Rattle.flow_object.specs.Ending.{EndedFlow}
use Rattle.role_steps.specs.Items.{Items}
use Rattle.role_steps.specs.Roles.{Acted, Fits, IsShared, number_of, seen, setup_of}
use Rattle.role_steps.specs.declared.roles.Manager.{Manager}
use Rattle.role_steps.specs.declared.roles.Shared.{Shared}
use Rattle.run_rules.specs.Acts.{Act, AreActs, on_bucket}
use Rattle.run_rules.specs.Growing.{HasGrown}
use Rattle.run_rules.specs.Manager.{Sweep, resting, sweep_on, swept_after}
use Rattle.run_rules.specs.Rounds.{SweptRounds}
use Rattle.run_rules.specs.Setup.{manager, rounds}
use Rattle.suri_base.specs.declared.entry.BucketNote.TheVariants.{Swept}

-- what the manager did before the round
pub record HasSwept (s : Shared) (m : Manager) (round : ℕ) (before : List Act) (hands : List (List Gone)) : Type 0 where
  pub own : AreActs (setup_of s) (seen m.passes) (number_of m.passes) before
  pub step : length before ≡ m.passes.step
  pub stands : SweptRounds (setup_of s) round before hands

-- when a round of the manager may begin
pub record MaySweepAll (s : Shared) (m : Manager) (round : ℕ) : Type 0 where
  pub shared : IsShared s
  pub fits : Fits s m.passes
  pub number : number_of m.passes ≡ manager (setup_of s)
  pub within : round < rounds (setup_of s)
  pub hand : m.hand.items ≡ []
  pub steps : m.passes.step + s.layout.rows + 2 < 2 ^ 36
  pub before : List Act
  pub hands : List (List Gone)
  pub swept : HasSwept s m round before hands

-- one bucket was swept
pub record SweptOne (s : Shared) (old new : Manager) (b round : ℕ) (emergency : Bool) (n : ℕ) : Type 0 where
  pub count : ℕ
  pub left : List Gone
  pub acted : Acted s old.passes new.passes (on_bucket b (Swept round emergency n count) left ∷ [])
  pub ended : List EndedFlow
  pub hand : new.hand.items ≡ old.hand.items ++ ended
  pub items : Items (setup_of s) (seen new.passes) left ended

-- so many buckets were swept
pub record Sweeping (s : Shared) (old new : Manager) (round : ℕ) (emergency : Bool) (n k : ℕ) : Type 0 where
  pub now : List Act
  pub acted : Acted s old.passes new.passes now
  pub count : length now ≡ k + 1
  pub left : List Gone
  pub items : Items (setup_of s) (seen new.passes) left new.hand.items
  pub stands : (start x : Sweep) (before : List Act) → swept_after (setup_of s) start before ≡ Some x → x.task ≡ resting → x.round ≡ round
      → swept_after (setup_of s) start (now ++ before)
      ≡ Some (record { task = sweep_on k s.layout.rows; round = round; emergency = emergency; seen = n; hand = x.hand ++ left; hands = x.hands })

-- what the round says of what the manager did before it: the acts that it added, and the hand by its script
pub record SweptAfter (s : Shared) (old new : Manager) (now : List Act) (left : List Gone) (round : ℕ) (before : List Act) (hands : List (List Gone)) : Type 0 where
  pub own : AreActs (setup_of s) (seen new.passes) (number_of old.passes) (now ++ before)
  pub stands : SweptRounds (setup_of s) (suc round) (now ++ before) (left ∷ hands)

-- what the round says: the acts by which the manager went on, and the flows in its hand
pub record SweptAll (s : Shared) (old new : Manager) (round : ℕ) : Type 0 where
  pub fits : Fits s new.passes
  pub number : number_of new.passes ≡ number_of old.passes
  pub grown : HasGrown (seen old.passes) (seen new.passes)
  pub now : List Act
  pub step : new.passes.step ≡ old.passes.step + length now
  pub few : new.passes.step < 2 ^ 36
  pub left : List Gone
  pub items : Items (setup_of s) (seen new.passes) left new.hand.items
  pub after : (before : List Act) (hands : List (List Gone)) → HasSwept s old round before hands → SweptAfter s old new now left round before hands
