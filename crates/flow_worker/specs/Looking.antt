-- What the steps of one packet say.
use Rattle.std.specs.Prelude.{◌≡◌, ℕ, if◌then◌else◌, ◌+◌, ◌<◌, Bool, true, false, List, [], ◌∷◌, length, Option, Some, None, Box}
use Rattle.std.specs.declared.alloc.Global.{Global}
use Rattle.bucket_rules.specs.Own.{is_needing, is_refused}
use Rattle.flow_object.specs.Object.{Object, nodes_in}
use Rattle.flow_worker.specs.Places.{is_evicting, is_looking, is_missed, to_denied, to_evicting, to_granted, to_missed, to_next, to_settling, to_taken, to_turning}
use Rattle.flow_worker.specs.Standing.{Goes}
use Rattle.flow_worker.specs.Telling.{IsTold}
use Rattle.role_steps.specs.Roles.{seen, setup_of}
use Rattle.role_steps.specs.declared.roles.Shared.{Shared}
use Rattle.role_steps.specs.declared.roles.Worker.{Worker}
use Rattle.run_rules.specs.Histories.{bucket_at}
use Rattle.run_rules.specs.Setup.{verdict_for}
use Rattle.run_rules.specs.Worker.{Stand}
use Rattle.suri_base.specs.declared.app.App.{App}
use Rattle.suri_base.specs.declared.app.App.TheVariants as app
use Rattle.suri_base.specs.declared.stream.Offer.{Offer}

-- an object of the run's setting, without nodes
abbrev pub IsIdleObject : Shared → Object → Type 0
IsIdleObject s o = (nodes_in o ≡ 0) × (o.depth ≡ s.layout.depth)

-- an object was asked for: it was had, or the pool has none left
abbrev pub TookObject : Shared → Worker → Worker → ℕ → Option (Box Object Global) → Type 0
TookObject s old new f (Some o) = IsIdleObject s o.value × Goes s old new (is_missed f) (to_granted f) []
TookObject s old new f None = (new.hand ≡ old.hand) × Goes s old new (is_missed f) (to_taken old.hand.items f) []

-- one bucket was asked, after so many
abbrev pub TriedBucket : Shared → Worker → Worker → ℕ → ℕ → Bool → Type 0
TriedBucket s old new tried f true = (0 < length new.hand.items) × Goes s old new (is_evicting s.layout.rows tried f) (to_turning f) []
TriedBucket s old new tried f false = Goes s old new (is_evicting s.layout.rows tried f) (to_evicting s.layout.rows (tried + 1) f) []

-- the buckets were asked: one let a flow go, or none had one
abbrev pub Evicted : Shared → Worker → Worker → ℕ → Bool → Type 0
Evicted s old new f true = (0 < length new.hand.items) × Goes s old new (is_evicting s.layout.rows 0 f) (to_turning f) []
Evicted s old new f false = Goes s old new (is_evicting s.layout.rows 0 f) (to_denied f) []

-- an object was had by a flow that a bucket let go, or the frame is to be refused
abbrev pub FreedObject : Shared → Worker → Worker → (Stand → List ℕ → Type 0) → ℕ → Option (Box Object Global) → Type 0
FreedObject s old new from f (Some o) = IsIdleObject s o.value × Goes s old new from (to_granted f) []
FreedObject s old new from f None = Goes s old new from (to_denied f) []

-- an object was had for a frame that was missing, or the frame is to be refused
abbrev pub FoundObject : Shared → Worker → Worker → ℕ → Option (Box Object Global) → Type 0
FoundObject s old new f o = FreedObject s old new (is_missed f) f o

-- the frame was looked up: it joined a run, or was missing
abbrev pub Looked : Shared → Worker → Worker → ℕ → Bool → ℕ → Option Offer → Type 0
Looked s old new f e n (Some said) = Goes s old new (is_looking f e n) (to_settling (is_needing said) f) [] × IsTold s new f false
Looked s old new f e n None = Goes s old new (is_looking f e n) (to_missed f) []

-- a run was begun with the missing frame, or it was refused
abbrev pub Began : Shared → Worker → Worker → ℕ → Option Offer → Type 0
Began s old new f (Some said) = Goes s old new (is_missed f) (to_settling (is_needing said) f) [] × IsTold s new f false
Began s old new f None = Goes s old new (is_missed f) to_next (f ∷ []) × IsTold s new f true

-- the frame joined or began a run, or was refused
abbrev pub Found : Shared → Worker → Worker → ℕ → Bool → ℕ → Option Offer → Type 0
Found s old new f e n (Some said) = Goes s old new (is_looking f e n) (to_settling (is_needing said) f) [] × IsTold s new f false
Found s old new f e n None = Goes s old new (is_looking f e n) to_next (f ∷ []) × IsTold s new f true

-- the packet is done with: it joined or began a run, or it was refused
abbrev pub LookedUp : Shared → Worker → Worker → ℕ → Bool → ℕ → Bool → Type 0
LookedUp s old new f e n true = Goes s old new (is_looking f e n) to_next (f ∷ []) × IsTold s new f true
LookedUp s old new f e n false = Goes s old new (is_looking f e n) to_next [] × IsTold s new f false

-- the verdict that a close is to have: none on a refused packet
abbrev pub IsVerdict : Shared → Worker → ℕ → ℕ → App → Type 0
IsVerdict s k b f a = a ≡ (if is_refused f (bucket_at b (seen k.passes).buckets) then app.None else verdict_for (setup_of s) f)
