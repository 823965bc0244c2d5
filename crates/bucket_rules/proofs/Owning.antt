-- What a role's own entries say, one entry further.
use Rattle.std.proofs.Common.{◌≡◌, ℕ, ◌==◌, ◌<◌, Bool, true, false, not, ◌&&◌, ◌||◌, List, [], ◌∷◌, None, ◌⊎◌, inl, inr, refl, ap, arith, eqb-true}
use Rattle.std.specs.Prelude.{nat_lt}
use Rattle.std.proofs.lemmas.Bool.Decides.{nat_tests}
use Rattle.suri_base.specs.declared.entry.Entry.{Entry}
use Rattle.suri_base.specs.declared.entry.BucketNote.{BucketNote}
use Rattle.suri_base.specs.declared.entry.BucketNote.TheVariants.{Found, Missing, Made, Refused, Stored, Stopped, Closed, Idle, Victim, AllInUse, Swept, Drained}
use Rattle.bucket_rules.specs.Own.{looked, is_fresh, awaits_by, awaits, owed, owes, open_by, is_open, closes}

pub fresh_split : (role f : ℕ) (e : Entry BucketNote) (past : List (Entry BucketNote)) → is_fresh role f (e ∷ past) ≡ true
    → (e.role ≡ role → looked e.note < f) × (is_fresh role f past ≡ true)
fresh_split role f e past h = step (e.role == role) (nat_lt (looked e.note) f) (is_fresh role f past) refl refl h
  where
    step : (b l p : Bool) → (e.role == role) ≡ b → nat_lt (looked e.note) f ≡ l → ((not b || l) && p) ≡ true → (e.role ≡ role → looked e.note < f) × (p ≡ true)
    step b l p i j h = (λ own. grind (arith, nat_tests), grind (arith, nat_tests))

pub fresh_lost : (role f : ℕ) (e : Entry BucketNote) (past : List (Entry BucketNote)) → is_fresh role f past ≡ false → is_fresh role f (e ∷ past) ≡ false
fresh_lost role f e past h = step (not (e.role == role) || nat_lt (looked e.note) f) (is_fresh role f past) h
  where
    step : (a p : Bool) → p ≡ false → (a && p) ≡ false
    step true p h = h
    step false p h = refl

-- looking a frame up makes it old
pub fresh_looked : (role step f : ℕ) (n : BucketNote) (past : List (Entry BucketNote)) → looked n ≡ f
    → is_fresh role f (record { role = role; step = step; note = n } ∷ past) ≡ false
fresh_looked role step f n past h = by (role == role) (nat_lt (looked n) f) (is_fresh role f past) refl refl
  where
    by : (b l p : Bool) → (role == role) ≡ b → nat_lt (looked n) f ≡ l → ((not b || l) && p) ≡ false
    by b l p i j = grind (arith, nat_tests)

-- between a frame that is old and one that is fresh
pub fresh_below : (role f g : ℕ) (past : List (Entry BucketNote)) → is_fresh role f past ≡ false → is_fresh role g past ≡ true → f < g
fresh_below role f g [] h k = cc
fresh_below role f g (e ∷ past) h k =
    let own = fresh_split role g e past k in
    by (e.role == role) (nat_lt (looked e.note) f) (is_fresh role f past) refl refl h own.0 (λ old. fresh_below role f g past old own.1)
  where
    by : (b l p : Bool) → (e.role == role) ≡ b → nat_lt (looked e.note) f ≡ l → ((not b || l) && p) ≡ false → (e.role ≡ role → looked e.note < g)
        → (p ≡ false → f < g) → f < g
    by true true false i j h own rest = rest refl
    by true true true i j h own rest = cc
    by true false p i j h own rest = let m = own (eqb-true e.role role i) in grind (arith, nat_tests)
    by false l false i j h own rest = rest refl
    by false l true i j h own rest = cc

pub awaits_split : (role f : ℕ) (e : Entry BucketNote) (past : List (Entry BucketNote)) → awaits role f (e ∷ past) ≡ true
    → ((e.role ≡ role) × (awaits_by f e.note (awaits role f past) ≡ true)) ⊎ ((e.role ≡ role → ⊥) × (awaits role f past ≡ true))
awaits_split role f e past h = grind (arith, nat_tests)

pub open_split : (role f : ℕ) (e : Entry BucketNote) (past : List (Entry BucketNote)) → is_open role f (e ∷ past) ≡ true
    → ((e.role ≡ role) × (open_by f e.note (is_open role f past) ≡ true)) ⊎ ((e.role ≡ role → ⊥) × (is_open role f past ≡ true))
open_split role f e past h = grind (arith, nat_tests)

pub owes_own : (role step : ℕ) (n : BucketNote) (past : List (Entry BucketNote)) → owes role (record { role = role; step = step; note = n } ∷ past) ≡ owed n
owes_own role step n past = grind (arith, nat_tests)

pub owes_other : (role : ℕ) (e : Entry BucketNote) (past : List (Entry BucketNote)) → (e.role ≡ role → ⊥) → owes role (e ∷ past) ≡ owes role past
owes_other role e past n = grind (arith, nat_tests)

-- a role that waits after an entry of its own looked the frame up, or came between
abbrev pub is_eviction : BucketNote → Bool
is_eviction (Victim g run) = true
is_eviction (AllInUse g count) = true
is_eviction _ = false

pub awaits_by_cases : (f : ℕ) (n : BucketNote) (before : Bool) → awaits_by f n before ≡ true
    → ((emergency : Bool) × (seen : ℕ) × (ended : ℕ) × (n ≡ Missing f emergency seen ended)) ⊎ ((is_eviction n ≡ true) × (before ≡ true))
awaits_by_cases f (Missing g emergency seen ended) before h = inl (emergency, seen, ended, ap (λ x. Missing x emergency seen ended) (eqb-true g f h))
awaits_by_cases f (Victim g run) before h = inr (refl, h)
awaits_by_cases f (AllInUse g count) before h = inr (refl, h)
awaits_by_cases f (Found g emergency seen run said) before h = cc
awaits_by_cases f (Made g said) before h = cc
awaits_by_cases f (Refused g) before h = cc
awaits_by_cases f (Stored g) before h = cc
awaits_by_cases f (Stopped g) before h = cc
awaits_by_cases f (Closed g app run freed ended) before h = cc
awaits_by_cases f (Idle g app) before h = cc
awaits_by_cases f (Swept round emergency seen count) before h = cc
awaits_by_cases f (Drained count) before h = cc

pub eviction_owes : (n : BucketNote) → is_eviction n ≡ true → owed n ≡ None
eviction_owes (Victim g run) h = refl
eviction_owes (AllInUse g count) h = refl
eviction_owes (Found g emergency seen run said) h = cc
eviction_owes (Missing g emergency seen ended) h = cc
eviction_owes (Made g said) h = cc
eviction_owes (Refused g) h = refl
eviction_owes (Stored g) h = refl
eviction_owes (Stopped g) h = refl
eviction_owes (Closed g app run freed ended) h = refl
eviction_owes (Idle g app) h = refl
eviction_owes (Swept round emergency seen count) h = refl
eviction_owes (Drained count) h = refl

-- a frame that is open after an entry was answered by it, or before and not closed by it
abbrev pub answers_frame : BucketNote → ℕ → Bool
answers_frame (Found g emergency seen run said) f = g == f
answers_frame (Made g said) f = g == f
answers_frame (Refused g) f = g == f
answers_frame _ f = false

pub open_by_cases : (f : ℕ) (n : BucketNote) (before : Bool) → open_by f n before ≡ true → (answers_frame n f ≡ true) ⊎ ((before ≡ true) × (closes f n ≡ false))
open_by_cases f (Found g emergency seen run said) before h = or_split (g == f) before h
  where
    or_split : (p q : Bool) → (p || q) ≡ true → (p ≡ true) ⊎ ((q ≡ true) × (false ≡ false))
    or_split true q h = inl refl
    or_split false q h = inr (h, refl)
open_by_cases f (Made g said) before h = or_split (g == f) before h
  where
    or_split : (p q : Bool) → (p || q) ≡ true → (p ≡ true) ⊎ ((q ≡ true) × (false ≡ false))
    or_split true q h = inl refl
    or_split false q h = inr (h, refl)
open_by_cases f (Refused g) before h = or_split (g == f) before h
  where
    or_split : (p q : Bool) → (p || q) ≡ true → (p ≡ true) ⊎ ((q ≡ true) × (false ≡ false))
    or_split true q h = inl refl
    or_split false q h = inr (h, refl)
open_by_cases f (Closed g app run freed ended) before h = not_split (g == f) before h
  where
    not_split : (p q : Bool) → (not p && q) ≡ true → (false ≡ true) ⊎ ((q ≡ true) × (p ≡ false))
    not_split true q h = cc
    not_split false q h = inr (h, refl)
open_by_cases f (Idle g app) before h = not_split (g == f) before h
  where
    not_split : (p q : Bool) → (not p && q) ≡ true → (false ≡ true) ⊎ ((q ≡ true) × (p ≡ false))
    not_split true q h = cc
    not_split false q h = inr (h, refl)
open_by_cases f (Missing g emergency seen ended) before h = inr (h, refl)
open_by_cases f (Stored g) before h = inr (h, refl)
open_by_cases f (Stopped g) before h = inr (h, refl)
open_by_cases f (Victim g run) before h = inr (h, refl)
open_by_cases f (AllInUse g count) before h = inr (h, refl)
open_by_cases f (Swept round emergency seen count) before h = inr (h, refl)
open_by_cases f (Drained count) before h = inr (h, refl)
