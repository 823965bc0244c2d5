-- What a contract says of a lock and of its passes.
use Rattle.std.specs.Prelude.{◌≡◌, ◌<◌, ℕ, true, List, [], ◌∷◌, length, All, Option, Some, is_none}
use Rattle.atomic_table.specs.Seated.{TableId}
use Rattle.atomic_table.specs.declared.shared.Seat.{Seat}
use Rattle.suri_base.specs.declared.entry.Entry.{Entry}
use Rattle.suri_base.specs.History.{entry, entries_of, Begins, Legal}
use Rattle.hist_lock.specs.declared.view.View.{View}
use Rattle.hist_lock.specs.declared.view.Home.{Home}
use Rattle.hist_lock.specs.Rule.{Sat, role_in, made_in}

module _ {A N F : Type 0} where
  -- a seat that is a pass: it has one role, and neither the turn nor the slot
  abbrev pub IsPlain : Sat A N F → ℕ → ℕ → Type 0
  IsPlain me role seen = (length me.1 ≡ 0) × (length me.0.roles ≡ 1) × (role_in me.0.roles ≡ role) × (is_none me.0.whole ≡ true) × (length me.0.seen ≡ seen)

  -- the seat is one of the lock's: the lock's table, the fixed part of its machine, and its number of roles
  abbrev pub IsOf : TableId → F → ℕ → Seat (Option (Home A N)) (View N F) → Type 0
  IsOf id f roles seat = (seat.table_id ≡ id) × (seat.me.0.about ≡ Some (f, roles))

  -- the same seat, of the same lock
  abbrev pub Stays : Seat (Option (Home A N)) (View N F) → Seat (Option (Home A N)) (View N F) → Type 0
  Stays old new = (new.table_id ≡ old.table_id) × (new.id ≡ old.id)

  -- the history that a pass has seen
  abbrev pub history : Seat (Option (Home A N)) (View N F) → List (Entry N)
  history seat = seat.me.0.seen

  -- the entries that a pass made
  abbrev pub made_by : Seat (Option (Home A N)) (View N F) → List (Entry N)
  made_by seat = made_in seat.me.0.roles

module _ {N C R F : Type 0} (may : F → ℕ → List (Entry N) → C → Type 0) (answers : F → List (Entry N) → ℕ → C → R → N → Type 0) where
  -- What a call of a role at that step has done, at a lock with so many roles. Its pass had seen `seen` and made `made`; now these are `seen'` and `made'`
  pub record IsCall (f : F) (roles role step : ℕ) (call : C) (reply : R) (seen made seen' made' : List (Entry N)) : Type 0 where
    -- the history in which the call took place
    pub before : List (Entry N)
    -- what the machine noted
    pub note : N
    -- that history begins with all that had been seen
    pub begins : Begins seen before
    -- what had been seen has of the role just the entries that it had made
    pub was : entries_of role seen ≡ made
    -- what came since is of other roles
    pub between : entries_of role begins.0 ≡ []
    -- the history seen now ends with the call's entry
    pub ends : seen' ≡ entry role step note ∷ before
    -- it is legal
    pub legal : Legal (may f) (answers f) seen'
    -- each entry in it is of one of the lock's roles
    pub known : All (λ e. e.role < roles) seen'
    -- the reply and the note are the machine's after that history
    pub answer : answers f before role call reply note
    -- the role made one more entry
    pub one_more : made' ≡ entry role step note ∷ made
    -- what is seen now has of the role just the entries that it made
    pub own : entries_of role seen' ≡ made'
