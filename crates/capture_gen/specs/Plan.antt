-- Whose turn each frame of a generated capture is. There are 16 lanes, which send in turn, so a frame's lane had its last turn 16 frames before it.
use Rattle.std.specs.Prelude.{ℕ, zero, suc, ◌+◌, ◌-◌, nat_lt, if◌then◌else◌, List, [], ◌∷◌, ◌++◌, length, slice_get, Option, Some, None}
use Rattle.capture_gen.specs.Conversation.{kind_from, after_draws, steps_of}
use Rattle.capture_gen.specs.declared.plan.Turn.{Turn}

-- the turns of the frames so far, and the state from which the next conversation is drawn
pub record Planned : Type 0 where
  pub x : ℕ
  pub turns : List Turn

-- the next turn of a lane that had this one last, unless its conversation has no step left
abbrev pub following : Turn → Option Turn
following t = if nat_lt t.step (steps_of (kind_from t.origin)) then Some (record { origin = t.origin; step = t.step + 1 }) else None

-- the same, where the lane had a turn at all
abbrev pub following_any : Option Turn → Option Turn
following_any None = None
following_any (Some t) = following t

-- the next frame's turn, where its lane's conversation goes on
abbrev pub continued : List Turn → Option Turn
continued turns = if nat_lt (length turns) 16 then None else following_any (slice_get turns (length turns - 16))

-- a turn more: the lane's conversation goes on, or a new one is drawn and takes its first step
abbrev pub with_turn : ℕ → List Turn → Option Turn → Planned
with_turn x turns (Some t) = record { x = x; turns = turns ++ t ∷ [] }
with_turn x turns None = record { x = after_draws x; turns = turns ++ record { origin = x; step = 1 } ∷ [] }

-- one frame more
abbrev pub one_more : Planned → Planned
one_more p = with_turn p.x p.turns (continued p.turns)

-- the turns of so many frames under a seed
abbrev pub planned : ℕ → ℕ → Planned
planned seed zero = record { x = seed; turns = [] }
planned seed (suc n) = one_more (planned seed n)
