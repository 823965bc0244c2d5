-- What the acts of a role say of why it refuses and evicts, and of its last reading of the mode.
use Rattle.std.proofs.Common.{◌≡◌, ℕ, zero, suc, ◌+◌, ◌%◌, Bool, List, [], ◌∷◌, Option, Some, None}
use Rattle.run_rules.specs.Acts.{Act, on_bucket, on_pool}
use Rattle.run_rules.specs.Setup.{Setup, bucket_for, work_of}
use Rattle.run_rules.specs.Worker.{Stand, fresh, stand_after}
use Rattle.suri_base.specs.declared.entry.BucketNote.TheVariants.{AllInUse, Found, Missing, Refused, Swept, Victim}
use Rattle.suri_base.specs.declared.entry.PoolNote.TheVariants.{Full, Mode}

-- what a role last read of the mode: the flag, and which entry of the pool's history told it
pub record Reading : Type 0 where
  pub on : Bool
  pub seen : ℕ

abbrev pub read_on : Act → Option Reading → Option Reading
read_on (on_pool (Mode e) i) before = Some (record { on = e; seen = i })
read_on _ before = before

abbrev pub last_reading : List Act → Option Reading
last_reading [] = None
last_reading (a ∷ before) = read_on a (last_reading before)

-- bucket number k, counted from the frame's own and round to the first after the last, had no flow to let go
abbrev pub IsNone : Setup → ℕ → ℕ → Act → Type 0
IsNone w f k (on_bucket b (AllInUse g count) left) = (g ≡ f) × (b ≡ (bucket_for w f + k) % w.layout.rows)
IsNone w f k _ = ⊥

-- the newest k acts are those answers, of k buckets in turn
abbrev pub Tried : Setup → ℕ → ℕ → List Act → List Act → Type 0
Tried w f zero acts from = acts ≡ from
Tried w f (suc k) [] from = ⊥
Tried w f (suc k) (a ∷ acts) from = IsNone w f k a × Tried w f k acts from

-- the pool had no object for the frame, the hand was empty then, and k buckets were asked since
pub record WasAsked (w : Setup) (role f k : ℕ) (acts : List Act) : Type 0 where
  pub before : List Act
  pub out : ℕ
  pub limit : ℕ
  pub place : ℕ
  pub tried : Tried w f k acts (on_pool (Full f out limit) place ∷ before)
  pub stand : Stand
  pub stood : stand_after w (fresh (work_of w role)) before ≡ Some stand
  pub empty : stand.hand ≡ []

-- an act has its cause in what the role did before
abbrev pub HasCause : Setup → ℕ → List Act → Act → Type 0
HasCause w role before (on_bucket b (Refused f) left) = WasAsked w role f w.layout.rows before
HasCause w role before (on_bucket b (Victim f run) left) = (k : ℕ) × WasAsked w role f k before
HasCause w role before (on_bucket b (Found f e n run o) left) = last_reading before ≡ Some (record { on = e; seen = n })
HasCause w role before (on_bucket b (Missing f e n ended) left) = last_reading before ≡ Some (record { on = e; seen = n })
HasCause w role before (on_bucket b (Swept round e n count) left) = last_reading before ≡ Some (record { on = e; seen = n })
HasCause w role before _ = Unit {0}
