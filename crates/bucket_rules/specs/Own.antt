-- What a role made of its own entries, and which frames are done with.
use Rattle.std.specs.Prelude.{ℕ, ◌==◌, nat_lt, Bool, true, false, not, ◌&&◌, ◌||◌, if◌then◌else◌, List, [], ◌∷◌, Option, Some, None}
use Rattle.std.specs.List.{list_any}
use Rattle.suri_base.specs.declared.entry.Entry.{Entry}
use Rattle.suri_base.specs.declared.stream.Offer.{Offer}
use Rattle.suri_base.specs.declared.stream.Offer.TheVariants as offer
use Rattle.suri_base.specs.declared.entry.BucketNote.{BucketNote}
use Rattle.suri_base.specs.declared.entry.BucketNote.TheVariants.{Found, Missing, Made, Refused, Closed, Idle, Victim, AllInUse}

-- the frame that an entry looked up, or 0
abbrev pub looked : BucketNote → ℕ
looked (Found f emergency seen run said) = f
looked (Missing f emergency seen ended) = f
looked _ = 0

-- the frame is above every frame that the role looked up here
abbrev pub is_fresh : ℕ → ℕ → List (Entry BucketNote) → Bool
is_fresh role f [] = true
is_fresh role f (e ∷ past) = (not (e.role == role) || nat_lt (looked e.note) f) && is_fresh role f past

-- what the role's newest entry makes of a wait for frame f
abbrev pub awaits_by : ℕ → BucketNote → Bool → Bool
awaits_by f (Missing g emergency seen ended) before = g == f
awaits_by f (Victim g run) before = before
awaits_by f (AllInUse g count) before = before
awaits_by f _ before = false

-- the role's last entry that isn't of Evict is a Missing of the frame
abbrev pub awaits : ℕ → ℕ → List (Entry BucketNote) → Bool
awaits role f [] = false
awaits role f (e ∷ past) = if e.role == role then awaits_by f e.note (awaits role f past) else awaits role f past

abbrev pub is_needing : Offer → Bool
is_needing offer.InOrder = false
is_needing offer.Nothing = false
is_needing offer.NeedsSegment = true
is_needing offer.Stopped = false

-- the frame whose offer an entry leaves unsettled
abbrev pub owed : BucketNote → Option ℕ
owed (Found f emergency seen run said) = if is_needing said then Some f else None
owed (Made f said) = if is_needing said then Some f else None
owed _ = None

-- the frame whose offer the role has to settle: that of its last entry, if any
abbrev pub owes : ℕ → List (Entry BucketNote) → Option ℕ
owes role [] = None
owes role (e ∷ past) = if e.role == role then owed e.note else owes role past

-- the frame was answered, and its close is still to come, after the role's entry
abbrev pub open_by : ℕ → BucketNote → Bool → Bool
open_by f (Found g emergency seen run said) before = (g == f) || before
open_by f (Made g said) before = (g == f) || before
open_by f (Refused g) before = (g == f) || before
open_by f (Closed g app run freed ended) before = not (g == f) && before
open_by f (Idle g app) before = not (g == f) && before
open_by f _ before = before

abbrev pub is_open : ℕ → ℕ → List (Entry BucketNote) → Bool
is_open role f [] = false
is_open role f (e ∷ past) = if e.role == role then open_by f e.note (is_open role f past) else is_open role f past

abbrev pub refuses : ℕ → BucketNote → Bool
refuses f (Refused g) = g == f
refuses f _ = false

abbrev pub is_refused : ℕ → List (Entry BucketNote) → Bool
is_refused f past = list_any (λ (e : Entry BucketNote). refuses f e.note) past

abbrev pub closes : ℕ → BucketNote → Bool
closes f (Closed g app run freed ended) = g == f
closes f (Idle g app) = g == f
closes f _ = false

abbrev pub is_closed : ℕ → List (Entry BucketNote) → Bool
is_closed f past = list_any (λ (e : Entry BucketNote). closes f e.note) past
