-- The rule on the two words and the slot of a lock, and what each step tells. Histories stand with the newest entry first.
-- Word 0 is `held`: 1 while a role has the turn. Word 1 is `count`: the length of the history.
use Rattle.std.specs.Prelude.{◌≡◌, ◌≢◌, ℕ, zero, suc, ◌+◌, ◌-◌, ◌^◌, ◌⊎◌, ◌<◌, ◌≤◌, nat_lt, if◌then◌else◌, List, [], ◌∷◌, ◌++◌, map, reverse, length, Option, Some, None, slice_index}
use Rattle.std.specs.List.{All}
use mathlib.Core.Option.{some, none}
use lib.ListN.{get_elem?}
use Rattle.atomic_table.specs.Table.{State, Me, Step, rest}
use Rattle.suri_base.specs.declared.entry.Entry.{Entry}
use Rattle.suri_base.specs.History.{entries_of, Begins, Follows, Legal}
use Rattle.hist_lock.specs.declared.view.View.{View}
use Rattle.hist_lock.specs.declared.view.Home.{Home}

-- what a seat of the table knows and carries, and the table
abbrev pub Sat : Type 0 → Type 0 → Type 0 → Type 0
Sat A N F = Me (Option (Home A N)) (View N F)

abbrev pub St : Type 0 → Type 0 → Type 0 → Type 0
St A N F = State (Option (Home A N)) (View N F)

module _ {N : Type 0} where
  -- the roles from k on, none of which has made an entry
  abbrev pub blanks : ℕ → ℕ → List (ℕ × List (Entry N))
  blanks k zero = []
  blanks k (suc n) = (k, []) ∷ blanks (suc k) n

  abbrev pub longer : List (Entry N) → List (Entry N) → List (Entry N)
  longer xs ys = if nat_lt (length xs) (length ys) then ys else xs

  abbrev pub firsts : List (ℕ × List (Entry N)) → List (ℕ × List (Entry N))
  firsts [] = []
  firsts (x ∷ xs) = x ∷ []

  abbrev pub others : List (ℕ × List (Entry N)) → List (ℕ × List (Entry N))
  others [] = []
  others (x ∷ xs) = xs

  abbrev pub role_in : List (ℕ × List (Entry N)) → ℕ
  role_in [] = 0
  role_in (x ∷ xs) = x.0

  abbrev pub made_in : List (ℕ × List (Entry N)) → List (Entry N)
  made_in [] = []
  made_in (x ∷ xs) = x.1

  -- the role is among these, with the entries that it made
  abbrev pub Has : List (ℕ × List (Entry N)) → ℕ → List (Entry N) → Type 0
  Has rs role made = (k : ℕ) × (get_elem? rs k ≡ some (role, made))

  -- the role with its entries in this history
  abbrev pub recount : List (Entry N) → ℕ × List (Entry N) → ℕ × List (Entry N)
  recount log x = (x.0, entries_of x.0 log)

module _ {N F : Type 0} where
  -- what the first seat knows: it has all roles
  abbrev pub newcomer : F → ℕ → View N F
  newcomer f roles = record { about = Some (f, roles); roles = blanks 0 roles; seen = []; noted = []; whole = None }

  -- the roles from k on are not yet dealt out: they have no seat of their own
  abbrev pub undealt : F → ℕ → ℕ → View N F
  undealt f roles k = record { about = Some (f, roles); roles = blanks k (roles - k); seen = []; noted = []; whole = None }

  -- a history that the view has seen, or noted
  abbrev pub Heard : View N F → List (Entry N) → Type 0
  Heard v list = (v.seen ≡ list) ⊎ ((k : ℕ) × (get_elem? v.noted k ≡ some list))

  -- the view has the role, which made these entries
  abbrev pub HasRole : View N F → ℕ → List (Entry N) → Type 0
  HasRole v role made = Has v.roles role made

  -- the view has every role below n
  abbrev pub HasAll : View N F → ℕ → Type 0
  HasAll v n = (role : ℕ) → role < n → (made : List (Entry N)) × HasRole v role made

  abbrev pub turned : View N F → List (Entry N) → View N F
  turned v log = record v { whole = Some log }

  -- without the turn
  abbrev pub idle : View N F → View N F
  idle v = record v { whole = None }

  abbrev pub entered : View N F → List (Entry N) → View N F
  entered v log = record v { whole = Some log; seen = log; roles = map (recount log) v.roles }

  -- a view that has taken in another one
  abbrev pub joined : View N F → View N F → View N F
  joined v w = record v { roles = v.roles ++ w.roles; seen = longer v.seen w.seen; noted = v.seen ∷ w.seen ∷ v.noted }

  -- what a join leaves behind
  abbrev pub spent : View N F
  spent = record { about = None; roles = []; seen = []; noted = []; whole = None }

  -- a new view with these roles, that has seen as much
  abbrev pub part : View N F → List (ℕ × List (Entry N)) → View N F
  part v rs = record { about = v.about; roles = rs; seen = v.seen; noted = []; whole = None }

  -- a copy without a role
  abbrev pub witness : View N F → View N F
  witness v = part v []

  -- the first role of the view, and the others
  abbrev pub first_role : View N F → View N F
  first_role v = part v (firsts v.roles)

  abbrev pub other_roles : View N F → View N F
  other_roles v = record v { roles = others v.roles }

-- the history that lies in the slot, where its entries stand in the order of time
abbrev pub past_of : {A N : Type 0} → Home A N → List (Entry N)
past_of h = reverse h.entries.items

module _ {A N F : Type 0} where
  -- the view once the entry that the seat carries is in the history
  abbrev pub entered_by : View N F → List (ℕ × Option (Home A N)) → View N F
  entered_by v [] = v
  entered_by v ((k, None) ∷ more) = v
  entered_by v ((k, Some h) ∷ more) = entered v (past_of h)

  -- an entry is counted: what the seat carries is the whole history, and is all seen
  abbrev pub Counts : Step (Option (Home A N)) → Sat A N F → ℕ → Sat A N F → Type 0
  Counts st m r m' = m' ≡ (entered_by m.0 m.1, m.1)

  -- the turn is given: the turn is given back with the slot
  abbrev pub Gives : Step (Option (Home A N)) → Sat A N F → ℕ → Sat A N F → Type 0
  Gives st m r m' = m' ≡ (idle m.0, rest m.1)

module _ {A N C R F : Type 0} (may : F → ℕ → List (Entry N) → C → Type 0) (answers : F → List (Entry N) → ℕ → C → R → N → Type 0) where
  -- what was in the slot has one entry more than the whole history that the view knows
  pub record HasNext (f : F) (v : View N F) (h : Home A N) : Type 0 where
    -- the whole history, and the entry that is new
    pub log : List (Entry N)
    pub next : Entry N
    pub whole : v.whole ≡ Some log
    pub more : past_of h ≡ next ∷ log
    -- the entry is of a role of the view, which made these before
    pub made : List (Entry N)
    pub mine : HasRole v next.role made
    -- a machine of one thread may make it there
    pub follows : Follows (may f) (answers f) log next
    -- the new length is a word's
    pub fits : length log + 1 < 2 ^ 64

module _ {A N C R F : Type 0} (fixed : A → F) (stands : A → List (Entry N) → Type 0) (may : F → ℕ → List (Entry N) → C → Type 0) (answers : F → List (Entry N) → ℕ → C → R → N → Type 0) where
  abbrev pub LegalIn : F → List (Entry N) → Type 0
  LegalIn f list = Legal (may f) (answers f) list

  -- what lies in the slot: a machine that stands for its entries, which are the history
  abbrev pub Rests : F → List (Entry N) → Home A N → Type 0
  Rests f log h = (fixed h.machine.value ≡ f) × stands h.machine.value log × (past_of h ≡ log)

  -- what a view says of the history so far. `turn` is the seat that has the turn, and `owner` the seat of each role
  pub record Fits (f : F) (roles : ℕ) (log : List (Entry N)) (held turn : ℕ) (owner : ℕ → ℕ) (seat : ℕ) (v : View N F) : Type 0 where
    pub same : (a : F × ℕ) → v.about ≡ Some a → a ≡ (f, roles)
    pub seen : Begins v.seen log
    pub noted : (k : ℕ) (list : List (Entry N)) → get_elem? v.noted k ≡ some list → Begins list log
    pub mine : (role : ℕ) (made : List (Entry N)) → HasRole v role made → (role < roles) × (owner role ≡ seat) × (entries_of role log ≡ made) × (entries_of role v.seen ≡ made)
    pub turn_is : (whole : List (Entry N)) → v.whole ≡ Some whole → (held ≡ 1) × (whole ≡ log) × (seat ≡ turn) × ((role : ℕ) × (made : List (Entry N)) × HasRole v role made)

  pub record Kept (f : F) (roles : ℕ) (s : St A N F) : Type 0 where
    pub log : List (Entry N)
    pub turn : ℕ
    pub owner : ℕ → ℕ
    pub wide : length s.words ≡ 2
    pub binary : slice_index s.words 0 < 2
    pub counts : slice_index s.words 1 ≡ length log
    pub legal : LegalIn f log
    pub known : All (λ e. e.role < roles) log
    pub at_home : slice_index s.words 0 ≡ 0 → (h : Home A N) × (get_elem? s.homes 0 ≡ some (some (Some h))) × Rests f log h
    pub out : slice_index s.words 0 ≡ 1 → get_elem? s.homes 0 ≡ some none
    pub away : slice_index s.words 0 ≡ 1 → (v : View N F) × (get_elem? s.views turn ≡ some v) × (v.whole ≡ Some log)
    pub placed : (role : ℕ) → role < roles → (v : View N F) × (made : List (Entry N)) × (get_elem? s.views (owner role) ≡ some v) × HasRole v role made
    pub each : (seat : ℕ) (v : View N F) → get_elem? s.views seat ≡ some v → Fits f roles log (slice_index s.words 0) turn owner seat v

  -- a seat with this view has the turn, and this machine with its entries
  pub record IsTurn (a : F × ℕ) (v : View N F) (h : Home A N) : Type 0 where
    pub rests : Rests a.0 (past_of h) h
    pub legal : LegalIn a.0 (past_of h)
    pub known : All (λ e. e.role < a.1) (past_of h)
    pub seen : Begins v.seen (past_of h)
    pub noted : (k : ℕ) (list : List (Entry N)) → get_elem? v.noted k ≡ some list → Begins list (past_of h)
    pub mine : (role : ℕ) (made : List (Entry N)) → HasRole v role made → (role < a.1) × (entries_of role (past_of h) ≡ made) × (entries_of role v.seen ≡ made)

  -- the turn is asked for: the seat has the turn, with what was in the slot; or another has it, and nothing changed
  abbrev pub Takes : Step (Option (Home A N)) → Sat A N F → ℕ → Sat A N F → Type 0
  Takes st m r m' = (a : F × ℕ) → m.0.about ≡ Some a
      → (r ≡ 0 → (h : Home A N) × (m' ≡ (turned m.0 (past_of h), (0, Some h) ∷ m.1)) × IsTurn a m.0 h)
      × (r ≢ 0 → (m' ≡ m) × ¬ (HasAll m.0 a.1))

  -- the count is read: what was seen is legal, and the histories noted stand at its beginning
  abbrev pub Checks : Step (Option (Home A N)) → Sat A N F → ℕ → Sat A N F → Type 0
  Checks st m r m' = (m' ≡ m)
      × ((a : F × ℕ) → m.0.about ≡ Some a → LegalIn a.0 m.0.seen)
      × ((k : ℕ) (list : List (Entry N)) → get_elem? m.0.noted k ≡ some list → length list ≤ length m.0.seen → Begins list m.0.seen)
      × ((role : ℕ) (made : List (Entry N)) → HasRole m.0 role made → entries_of role m.0.seen ≡ made)
