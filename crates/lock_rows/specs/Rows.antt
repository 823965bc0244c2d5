-- Locks beside the passes of roles: what is kept of them from the time when they are made to the end.
use Rattle.std.specs.Prelude.{◌≡◌, ℕ, suc, zero, ◌<◌, All, List, [], ◌∷◌, length, slice_index_or, Vec}
use Rattle.std.specs.Global.{Global}
use Rattle.suri_base.specs.declared.entry.Entry.{Entry}
use Rattle.suri_base.specs.History.{entries_of, Begins, Legal}
use Rattle.hist_lock.specs.declared.table.HistLock.{HistLock}
use Rattle.hist_lock.specs.declared.pass.Pass.{Pass}
use Rattle.hist_lock.specs.Rule.{longer}
use Rattle.hist_lock.specs.Locks.{made_with, roles_of, IsPassOf, role_of, seen_by, made_of}

-- as many of the one as of the other, and the fact holds of each two at the same place
abbrev pub Pairs : {A B : Type 0} → (A → B → Type 0) → List A → List B → Type 0
Pairs P [] [] = Unit {0}
Pairs P (x ∷ xs) (y ∷ ys) = P x y × Pairs P xs ys
Pairs P [] (y ∷ ys) = ⊥
Pairs P (x ∷ xs) [] = ⊥

-- the pass is this role's at that lock, what it has seen is legal, and has of the role just what the pass made
pub record IsGood {A C R N F : Type 0} {g : _} (fixed : A → F) (may : F → ℕ → List (Entry N) → C → Type 0)
    (answers : F → List (Entry N) → ℕ → C → R → N → Type 0) (role : ℕ) (lock : HistLock A C R N F) (pass : Pass A C R N F g) : Type 0 where
  pub pass_of : IsPassOf fixed lock pass
  pub role_is : role_of pass ≡ role
  pub legal : Legal (may (fixed (made_with lock))) (answers (fixed (made_with lock))) (seen_by pass)
  pub own : entries_of role (seen_by pass) ≡ made_of pass

-- nobody has seen or made anything yet
abbrev pub IsFresh : {A C R N F : Type 0} {g : _} → Pass A C R N F g → Type 0
IsFresh pass = (seen_by pass ≡ []) × (made_of pass ≡ [])

-- what a pass has seen after it met another one: the longer history, which begins with both
abbrev pub IsMet : {N : Type 0} → List (Entry N) → List (Entry N) → List (Entry N) → Type 0
IsMet from old new = (new ≡ longer old from) × Begins from new × Begins old new

-- the first n of these have met, and the others are as before
abbrev pub Mets : {N : Type 0} → ℕ → List (List (Entry N)) → List (List (Entry N)) → List (List (Entry N)) → Type 0
Mets n [] [] [] = Unit {0}
Mets zero (x ∷ xs) (y ∷ ys) (z ∷ zs) = (z ≡ y) × Mets zero xs ys zs
Mets (suc n) (x ∷ xs) (y ∷ ys) (z ∷ zs) = IsMet x y z × Mets n xs ys zs
Mets n xs ys zs = ⊥

-- the whole history of a lock: legal, and of known roles alone
abbrev pub IsWhole : {A C R N F : Type 0} → (A → F) → (F → ℕ → List (Entry N) → C → Type 0) → (F → List (Entry N) → ℕ → C → R → N → Type 0) → HistLock A C R N F → List (Entry N) → Type 0
IsWhole fixed may answers lock history = Legal (may (fixed (made_with lock))) (answers (fixed (made_with lock))) history × All (λ e. e.role < roles_of lock) history

-- the pass has seen a beginning of the whole history, which has of the role just what the pass made
abbrev pub IsOwned : {A C R N F : Type 0} {g : _} → ℕ → Pass A C R N F g → List (Entry N) → Type 0
IsOwned role pass history = Begins (seen_by pass) history × (entries_of role history ≡ made_of pass)

-- each role has a pass of each lock, and nobody has seen or made anything yet
abbrev pub AreNewRows : {A C R N F : Type 0} {g : _} → (A → F) → (F → ℕ → List (Entry N) → C → Type 0) → (F → List (Entry N) → ℕ → C → R → N → Type 0) → List (HistLock A C R N F) → List (Vec (Pass A C R N F g) Global) → Type 0
AreNewRows fixed may answers locks rows = (k : ℕ) (d : _) → k < length rows → Pairs (λ l p. IsGood fixed may answers k l p × IsFresh p) locks (slice_index_or rows k d).items
