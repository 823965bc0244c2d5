-- Which rounds a role has ended.
use Rattle.std.specs.Prelude.{◌≡◌, ℕ, zero, suc, ◌-◌, ◌==◌, if◌then◌else◌, List, [], ◌∷◌, length, Option, Some, None}
use Rattle.bucket_laws.specs.Leaving.{Gone}
use Rattle.run_rules.specs.Acts.{Act}
use Rattle.run_rules.specs.Manager.{Sweep, new_manager, resting, swept_after}
use Rattle.run_rules.specs.Setup.{Setup, rounds, work_of}
use Rattle.run_rules.specs.Worker.{Stage, Stand, between, fresh, stand_after}

-- so many rounds are still to come: what the hand held at the end of each round so far, the newest first
abbrev pub ended_with : ℕ → List (List (List ℕ)) → List Gone → List (List Gone) → Option (List (List Gone))
ended_with n [] hand hands = None
ended_with n ([] ∷ later) hand hands = if length later == n then Some (hand ∷ hands) else ended_with n later [] (hand ∷ hands)
ended_with n ((b ∷ bs) ∷ later) hand hands = None

abbrev pub ended_between : ℕ → Stage → Stand → Option (List (List Gone))
ended_between n between s = ended_with n s.rounds s.hand s.hands
ended_between n _ s = None

abbrev pub hands_of : ℕ → Option Stand → Option (List (List Gone))
hands_of n None = None
hands_of n (Some s) = ended_between n s.stage s

-- a worker that did these acts has ended r rounds, with these hands
abbrev pub EndedRounds : Setup → ℕ → ℕ → List Act → List (List Gone) → Type 0
EndedRounds w role zero acts hands = (acts ≡ []) × (hands ≡ [])
EndedRounds w role (suc r) acts hands = hands_of (rounds w - suc r) (stand_after w (fresh (work_of w role)) acts) ≡ Some hands

-- a manager that did these acts has ended r rounds: it rests, with an empty hand, and these are the hands of the rounds, the newest first
pub record SweptRounds (w : Setup) (r : ℕ) (acts : List Act) (hands : List (List Gone)) : Type 0 where
  pub sweep : Sweep
  pub stood : swept_after w new_manager acts ≡ Some sweep
  pub rests : sweep.task ≡ resting
  pub round : sweep.round ≡ r
  pub empty : sweep.hand ≡ []
  pub held : sweep.hands ≡ hands
