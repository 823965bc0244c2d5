-- For worked trails: one change in a list, in a history, or in one history of a trail. Places are counted from the newest entry on, which is at 0.
use Rattle.std.proofs.Common.{ℕ, zero, suc, ◌+◌, ◌-◌, ◌==◌, ◌&&◌, nat_le, if◌then◌else◌, List, [], ◌∷◌, map}
use Rattle.suri_base.specs.History.{entry}
use Rattle.suri_base.specs.declared.entry.BucketNote.{BucketNote}
use Rattle.suri_base.specs.declared.entry.Entry.{Entry}
use Rattle.suri_base.specs.declared.entry.PoolNote.{PoolNote}
use Rattle.suri_base.specs.declared.entry.SegNote.{SegNote}
use Rattle.bucket_rules.specs.declared.fixed.Fixed.{Fixed}
use Rattle.run_rules.specs.Histories.{Histories}
use Rattle.run_rules.specs.Setup.{Setup}

-- the run to which a bucket belongs
abbrev pub setup_of : Fixed → Setup
setup_of s = record { capture = s.capture; layout = s.layout }

-- without the element at a place
abbrev pub drop_at : {A : Type 0} → ℕ → List A → List A
drop_at k [] = []
drop_at zero (x ∷ xs) = xs
drop_at (suc k) (x ∷ xs) = x ∷ drop_at k xs

-- with that element twice
abbrev pub double_at : {A : Type 0} → ℕ → List A → List A
double_at k [] = []
double_at zero (x ∷ xs) = x ∷ x ∷ xs
double_at (suc k) (x ∷ xs) = x ∷ double_at k xs

-- that element and the one behind it change places
abbrev pub swapped : {A : Type 0} → A → List A → List A
swapped x [] = x ∷ []
swapped x (y ∷ ys) = y ∷ x ∷ ys

abbrev pub swap_at : {A : Type 0} → ℕ → List A → List A
swap_at k [] = []
swap_at zero (x ∷ xs) = swapped x xs
swap_at (suc k) (x ∷ xs) = x ∷ swap_at k xs

-- another element in its place
abbrev pub put_at : {A : Type 0} → ℕ → A → List A → List A
put_at k y [] = []
put_at zero y (x ∷ xs) = y ∷ xs
put_at (suc k) y (x ∷ xs) = x ∷ put_at k y xs

-- one element more in front of it
abbrev pub add_at : {A : Type 0} → ℕ → A → List A → List A
add_at k y [] = y ∷ []
add_at zero y (x ∷ xs) = y ∷ x ∷ xs
add_at (suc k) y (x ∷ xs) = x ∷ add_at k y xs

-- the entry at a place with another note, another step, or another role
abbrev pub note_at : {N : Type 0} → ℕ → N → List (Entry N) → List (Entry N)
note_at k n [] = []
note_at zero n (e ∷ past) = entry e.role e.step n ∷ past
note_at (suc k) n (e ∷ past) = e ∷ note_at k n past

abbrev pub step_at : {N : Type 0} → ℕ → ℕ → List (Entry N) → List (Entry N)
step_at k s [] = []
step_at zero s (e ∷ past) = entry e.role s e.note ∷ past
step_at (suc k) s (e ∷ past) = e ∷ step_at k s past

abbrev pub role_at : {N : Type 0} → ℕ → ℕ → List (Entry N) → List (Entry N)
role_at k r [] = []
role_at zero r (e ∷ past) = entry r e.step e.note ∷ past
role_at (suc k) r (e ∷ past) = e ∷ role_at k r past

-- a role's entries from one step on have steps that are lower by one: there an entry is left out
abbrev pub closed_up : {N : Type 0} → ℕ → ℕ → List (Entry N) → List (Entry N)
closed_up role from past = map (λ e. if (e.role == role) && nat_le from e.step then entry e.role (e.step - 1) e.note else e) past

-- or higher by one: there an entry is put in
abbrev pub spread : {N : Type 0} → ℕ → ℕ → List (Entry N) → List (Entry N)
spread role from past = map (λ e. if (e.role == role) && nat_le from e.step then entry e.role (e.step + 1) e.note else e) past

-- the same in all histories of a trail
abbrev pub all_closed_up : ℕ → ℕ → Histories → Histories
all_closed_up role from t = record { pool = closed_up role from t.pool; segments = closed_up role from t.segments; buckets = map (λ h. closed_up role from h) t.buckets }

abbrev pub all_spread : ℕ → ℕ → Histories → Histories
all_spread role from t = record { pool = spread role from t.pool; segments = spread role from t.segments; buckets = map (λ h. spread role from h) t.buckets }

-- a change in one history
abbrev pub in_pool : (List (Entry PoolNote) → List (Entry PoolNote)) → Histories → Histories
in_pool change t = record t { pool = change t.pool }

abbrev pub in_segments : (List (Entry SegNote) → List (Entry SegNote)) → Histories → Histories
in_segments change t = record t { segments = change t.segments }

abbrev pub changed_at : ℕ → (List (Entry BucketNote) → List (Entry BucketNote)) → List (List (Entry BucketNote)) → List (List (Entry BucketNote))
changed_at b change [] = []
changed_at zero change (h ∷ hs) = change h ∷ hs
changed_at (suc b) change (h ∷ hs) = h ∷ changed_at b change hs

abbrev pub in_bucket : ℕ → (List (Entry BucketNote) → List (Entry BucketNote)) → Histories → Histories
in_bucket b change t = record t { buckets = changed_at b change t.buckets }
