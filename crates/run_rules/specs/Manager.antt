-- The script of the manager: in each round it sweeps all buckets by one reading of the mode, and then may end an emergency.
use Rattle.std.specs.Prelude.{ℕ, ◌+◌, ◌==◌, nat_lt, Bool, false, ◌&&◌, if◌then◌else◌, List, [], ◌∷◌, ◌++◌, Option, Some, None}
use Rattle.suri_base.specs.Keys.{same_truth}
use Rattle.suri_base.specs.declared.entry.BucketNote.{BucketNote}
use Rattle.suri_base.specs.declared.entry.BucketNote.TheVariants.{Swept}
use Rattle.suri_base.specs.declared.entry.PoolNote.{PoolNote}
use Rattle.suri_base.specs.declared.entry.PoolNote.TheVariants.{Mode, Over}
use Rattle.bucket_laws.specs.Leaving.{Gone}
use Rattle.run_rules.specs.Acts.{Act, on_pool, on_bucket}
use Rattle.run_rules.specs.Serving.{only}
use Rattle.run_rules.specs.Setup.{Setup, rounds}

-- what the manager does next
pub data Task : Type 0 where
  -- its round begins
  resting : Task
  -- so many buckets were swept
  sweeping : ℕ → Task
  -- all were: the round is over
  leaving : Task

pub record Sweep : Type 0 where
  pub task : Task
  pub round : ℕ
  pub emergency : Bool
  pub seen : ℕ
  pub hand : List Gone
  pub hands : List (List Gone)

abbrev pub sweep_on : ℕ → ℕ → Task
sweep_on k rows = if k == rows then leaving else sweeping k

module _ (w : Setup) where
  abbrev pub sweep : ℕ → Sweep → ℕ → BucketNote → List Gone → Option Sweep
  sweep k s b (Swept round e n count) left =
      only ((b == k) && (round == s.round) && same_truth e s.emergency && (n == s.seen)) (record s { task = sweep_on (k + 1) w.layout.rows; hand = s.hand ++ left })
  sweep k s b _ left = None

  abbrev pub start_round : Sweep → PoolNote → ℕ → Option Sweep
  start_round s (Mode e) n = only (nat_lt s.round (rounds w)) (record s { task = sweep_on 0 w.layout.rows; emergency = e; seen = n })
  start_round s _ n = None

  abbrev pub end_round : Sweep → PoolNote → Option Sweep
  end_round s (Over round done) = only (round == s.round) (record s { task = resting; round = s.round + 1; hand = []; hands = s.hand ∷ s.hands })
  end_round s _ = None

  abbrev pub manage : Task → Sweep → Act → Option Sweep
  manage resting s (on_pool n i) = start_round s n i
  manage (sweeping k) s (on_bucket b n left) = sweep k s b n left
  manage leaving s (on_pool n i) = end_round s n
  manage _ s _ = None

  abbrev pub managed : Act → Option Sweep → Option Sweep
  managed a None = None
  managed a (Some s) = manage s.task s a

  -- where the manager stands after these acts, the newest first
  abbrev pub swept_after : Sweep → List Act → Option Sweep
  swept_after s [] = Some s
  swept_after s (a ∷ before) = managed a (swept_after s before)

abbrev pub new_manager : Sweep
new_manager = record { task = resting; round = 0; emergency = false; seen = 0; hand = []; hands = [] }

-- nothing is in the hand
abbrev pub idle : List Gone → List (List Gone) → Option (List (List Gone))
idle [] hands = Some hands
idle (g ∷ hand) hands = None

abbrev pub rests : Setup → Task → Sweep → Option (List (List Gone))
rests w resting s = if s.round == rounds w then idle s.hand s.hands else None
rests w _ s = None

abbrev pub manager_ended : Setup → Option Sweep → Option (List (List Gone))
manager_ended w None = None
manager_ended w (Some s) = rests w s.task s
