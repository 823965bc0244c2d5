-- The flows of a bucket, as a finite map from the numbers of runs, and what is looked for among them. In which order they stand means nothing.
use Rattle.std.specs.Prelude.{◌≡◌, ℕ, ◌<◌, ◌≤◌, ◌==◌, Bool, true, false, not, ◌&&◌, if◌then◌else◌, List, [], ◌∷◌, Option, Some, None, slice_get}
use Rattle.flow_expiry.specs.Expiry.{object_expired}
use Rattle.bucket_rules.specs.Packets.{bearing, of_packet, is_quiet}
use Rattle.bucket_rules.specs.Row.{Off, detached, off, is_linked}
use Rattle.suri_base.specs.Capture.{Captured}
use Rattle.suri_base.specs.declared.reason.Reason.TheVariants.{Timeout, Shutdown}
use Rattle.bucket_flow.specs.Held.{Held, is_unused_held, leaves}

-- the flow of a run
abbrev pub find_in : List Held → ℕ → Option Held
find_in [] a = None
find_in (f ∷ fs) a = if f.run == a then Some f else find_in fs a

-- no run has two flows
abbrev pub IsDistinct : List Held → Type 0
IsDistinct [] = Unit {0}
IsDistinct (f ∷ fs) = (find_in fs f.run ≡ None) × IsDistinct fs

-- at this place stands a flow that passes the test
pub record PassesAt (test : Held → Bool) (flows : List Held) (at : ℕ) : Type 0 where
  pub flow : Held
  pub there : slice_get flows at ≡ Some flow
  pub passes : test flow ≡ true

abbrev pub NonePasses : (Held → Bool) → List Held → Type 0
NonePasses test flows = (k : ℕ) (g : Held) → slice_get flows k ≡ Some g → test g ≡ false

-- some place of a flow that passes the test, or none where there is none
abbrev pub IsSomePlace : (Held → Bool) → List Held → Option ℕ → Type 0
IsSomePlace test flows None = NonePasses test flows
IsSomePlace test flows (Some at) = PassesAt test flows at

-- a flow after a sweep, which detaches it if it is due, and after the end of the capture
abbrev pub detached_for : Off → Bool → Held → Held
detached_for o test f = if is_linked f.place && test then record f { place = detached o } else f

abbrev pub is_due_held : Captured → ℕ → ℕ → Bool → Held → Bool
is_due_held c start clock emergency f = object_expired f.obj clock emergency && of_packet (bearing c f.obj.sums.last_no) (λ m. is_quiet start m)

abbrev pub swept_held : Captured → ℕ → ℕ → Bool → Held → Held
swept_held c start clock emergency f = detached_for (off Timeout emergency) (is_due_held c start clock emergency f) f

abbrev pub end_off_held : ℕ → Held → Off
end_off_held clock f = if object_expired f.obj clock false then off Timeout false else off Shutdown false

abbrev pub drained_held : ℕ → Held → Held
drained_held clock f = detached_for (end_off_held clock f) true f

abbrev pub stays : Held → Bool
stays f = not (leaves f)

-- flow f comes before flow g in the order of eviction
abbrev pub Before : Held → Held → Type 0
Before f g = (f.obj.sums.last_clock ≤ g.obj.sums.last_clock) × (f.obj.sums.last_clock ≡ g.obj.sums.last_clock → f.run ≤ g.run)

-- of the first n flows the one at a place is linked and unused, and comes first of all such
pub record IsVictim (flows : List Held) (n at : ℕ) : Type 0 where
  pub flow : Held
  pub there : slice_get flows at ≡ Some flow
  pub unused : is_unused_held flow ≡ true
  pub first : (k : ℕ) (g : Held) → k < n → slice_get flows k ≡ Some g → is_unused_held g ≡ true → Before flow g

abbrev pub AreUsed : List Held → ℕ → Type 0
AreUsed flows n = (k : ℕ) (g : Held) → k < n → slice_get flows k ≡ Some g → is_unused_held g ≡ false

-- the best of the first n flows
abbrev pub IsBest : List Held → ℕ → Option ℕ → Type 0
IsBest flows n None = AreUsed flows n
IsBest flows n (Some at) = IsVictim flows n at
