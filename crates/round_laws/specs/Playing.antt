-- What a role's round asks and says, whichever role it is, and how hands are handed on.
use Rattle.std.specs.Prelude.{◌≡◌, ℕ, ◌<◌, false, List, [], ◌∷◌, ◌++◌, length, slice_index_or}
use Rattle.flow_manager.specs.Sweeping.{MaySweepAll, SweptAll}
use Rattle.flow_object.specs.Ending.{EndedFlow}
use Rattle.flow_worker.specs.Working.{MayWork, Worked}
use Rattle.recycler.specs.Recycling.{MayRecycle, Recycled}
use Rattle.role_meets.specs.Parts.{Kind, works, manages, recycles, kind_of, passes_of, hand_of, waiting_of, lines_of}
use Rattle.role_meets.specs.declared.roles.Part.{Part}
use Rattle.role_meets.specs.declared.roles.Part.TheVariants.{Work, Manage, Recycle}
use Rattle.role_meets.specs.declared.roles.Role.{Role}
use Rattle.role_steps.specs.declared.roles.Shared.{Shared}

-- the role may begin the round
abbrev pub MayPlay : Shared → ℕ → Part → Type 0
MayPlay s round (Work k) = MayWork s k round
MayPlay s round (Manage m) = MaySweepAll s m round
MayPlay s round (Recycle r) = MayRecycle s r

-- what the round makes of a role
abbrev pub Played : Shared → ℕ → Part → Part → Type 0
Played s round (Work old) (Work new) = Worked s old new round
Played s round (Manage old) (Manage new) = SweptAll s old new round
Played s round (Recycle old) (Recycle new) = Recycled s old new × (new.waiting.items ≡ [])
Played s round (Work old) _ = ⊥
Played s round (Manage old) _ = ⊥
Played s round (Recycle old) _ = ⊥

-- the same of all roles of a round, none of which was refused memory
pub record AllPlayed (s : Shared) (round : ℕ) (olds news : List Role) : Type 0 where
  pub count : length news ≡ length olds
  pub played : (k : ℕ) (d : Role) → k < length olds → Played s round (slice_index_or olds k d).part (slice_index_or news k d).part
  pub well : (k : ℕ) (d : Role) → k < length olds → (slice_index_or news k d).failed ≡ false

-- the flows in the hands of some roles, in the order of the roles
abbrev pub hands_in : List Role → List EndedFlow
hands_in [] = []
hands_in (r ∷ rs) = hand_of r.part ++ hands_in rs

-- what waits for a role of this kind: the recycler has what was handed on
abbrev pub waits_for : Kind → List EndedFlow → List EndedFlow
waits_for recycles queue = queue
waits_for works queue = []
waits_for manages queue = []

-- the hand of a role was emptied, and the recycler has the queue; nothing else changed
pub record IsHandedOn (queue : List EndedFlow) (old new : Role) : Type 0 where
  pub kind : kind_of new.part ≡ kind_of old.part
  pub passes : passes_of new ≡ passes_of old
  pub lines : lines_of new.part ≡ lines_of old.part
  pub failed : new.failed ≡ old.failed
  pub hand : hand_of new.part ≡ []
  pub waiting : waiting_of new.part ≡ waits_for (kind_of old.part) queue

-- what was in all hands waits for the recycler
pub record AreHandedOn (olds news : List Role) : Type 0 where
  pub count : length news ≡ length olds
  pub roles : (k : ℕ) (d : Role) → k < length olds → IsHandedOn (hands_in olds) (slice_index_or olds k d) (slice_index_or news k d)
