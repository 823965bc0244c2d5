-- How hands are emptied, and what waits is taken.
use Rattle.std.specs.Prelude.{◌≡◌, ℕ, ◌+◌, ◌<◌, List, [], length, slice_index_or}
use Rattle.flow_object.specs.Ending.{EndedFlow}
use Rattle.role_meets.specs.Parts.{kind_of, passes_of, hand_of, waiting_of, lines_of}
use Rattle.role_meets.specs.declared.roles.Role.{Role}
use Rattle.round_laws.specs.Playing.{hands_in}

-- the hand of a role was emptied, and nothing else changed
pub record IsEmptied (old new : Role) : Type 0 where
  pub kind : kind_of new.part ≡ kind_of old.part
  pub passes : passes_of new ≡ passes_of old
  pub lines : lines_of new.part ≡ lines_of old.part
  pub failed : new.failed ≡ old.failed
  pub waiting : waiting_of new.part ≡ waiting_of old.part
  pub hand : hand_of new.part ≡ []

-- so were all hands; what was in them is the queue
pub record AreEmptied (queue : List EndedFlow) (olds news : List Role) : Type 0 where
  pub count : length news ≡ length olds
  pub queue_is : queue ≡ hands_in olds
  pub roles : (k : ℕ) (d : Role) → k < length olds → IsEmptied (slice_index_or olds k d) (slice_index_or news k d)

-- what waited for the last of the roles was taken, and no passes and no lines changed
pub record IsTaken (queue : List EndedFlow) (olds news : List Role) : Type 0 where
  pub count : length news ≡ length olds
  pub queue_is : (k : ℕ) (d : Role) → k + 1 ≡ length olds → queue ≡ waiting_of (slice_index_or olds k d).part
  pub passes : (k : ℕ) (d : Role) → k < length olds → passes_of (slice_index_or news k d) ≡ passes_of (slice_index_or olds k d)
  pub lines : (k : ℕ) (d : Role) → k < length olds → lines_of (slice_index_or news k d).part ≡ lines_of (slice_index_or olds k d).part
