-- What every legal history of a bucket keeps.
use Rattle.std.specs.Prelude.{◌≡◌, ℕ, ◌<◌, ◌≤◌, true, false, List, [], ◌∷◌, Some, None, ◌⊎◌}
use Rattle.suri_base.specs.declared.entry.Entry.{Entry}
use Rattle.suri_base.specs.declared.facts.Facts.{Facts}
use Rattle.suri_base.specs.declared.key.Key.{Key}
use Rattle.flow_sum.specs.Run.{Run, first_of}
use Rattle.bucket_rules.specs.declared.fixed.Fixed.{Fixed}
use Rattle.suri_base.specs.declared.entry.BucketNote.{BucketNote}
use Rattle.suri_base.specs.Dealing.{bucket_of, worker_of}
use Rattle.bucket_rules.specs.Packets.{bearing, has_key}
use Rattle.bucket_rules.specs.Row.{blank, row, has, is_linked, made}
use Rattle.bucket_rules.specs.Own.{is_fresh, awaits, owes, is_open, is_refused, is_closed}
use Rattle.bucket_rules.specs.Rule.{IsPacketOf}
pub use Rattle.flow_uses.specs.Uses.{IsNumberSet}

-- no entry has answered, refused or closed the frame
pub record IsNew (s : Fixed) (past : List (Entry BucketNote)) (f : ℕ) : Type 0 where
  pub unmade : has (made past) f ≡ false
  pub unused : (a : ℕ) → has (row s a past).uses f ≡ false
  pub unclosed : is_closed f past ≡ false
  pub unrefused : is_refused f past ≡ false

-- the role waits for leave to begin a run
pub record IsWait (s : Fixed) (past : List (Entry BucketNote)) (role f : ℕ) : Type 0 where
  pub own : IsPacketOf s role f
  pub new : IsNew s past f
  pub old : is_fresh role f past ≡ false
  pub settled : owes role past ≡ None
  pub none : (a : ℕ) → is_linked (row s a past).place ≡ true → has_key (row s a past).members own.packet.key ≡ false

-- the frame uses a run
pub record IsUse (s : Fixed) (past : List (Entry BucketNote)) (a f : ℕ) : Type 0 where
  pub packet : Facts
  pub bears : bearing s.capture f ≡ Some packet
  pub bucket : bucket_of packet.key s.layout.rows ≡ s.number
  pub key : has_key (row s a past).members packet.key ≡ true
  pub unclosed : is_closed f past ≡ false
  pub unrefused : is_refused f past ≡ false
  pub only : (b : ℕ) → has (row s b past).uses f ≡ true → a ≡ b

-- the newest member of a run
pub record IsNewest (s : Fixed) (past : List (Entry BucketNote)) (r : Run) : Type 0 where
  pub frame : ℕ
  pub bears : bearing s.capture frame ≡ Some r.newest
  -- the worker of the run's key looked it up
  pub old : (f : ℕ) → is_fresh (worker_of (first_of r).key s.layout.workers) f past ≡ true → frame < f

abbrev pub IfRun : List Facts → (Run → Type 0) → Type 0
IfRun [] P = Unit {0}
IfRun (m ∷ ms) P = P (record { newest = m; older = ms })

-- the frame waits to be closed
pub record IsOpened (s : Fixed) (past : List (Entry BucketNote)) (role f : ℕ) : Type 0 where
  pub own : IsPacketOf s role f
  pub answered : (is_refused f past ≡ true) ⊎ ((a : ℕ) × (has (row s a past).uses f ≡ true))

-- the role has to settle the offer to this frame, the newest member of a run
pub record IsOwing (s : Fixed) (past : List (Entry BucketNote)) (role f : ℕ) : Type 0 where
  pub own : IsPacketOf s role f
  pub run : ℕ
  pub uses : has (row s run past).uses f ≡ true
  pub asks : (row s run past).asks ≡ true
  pub older : List Facts
  pub newest : (row s run past).members ≡ own.packet ∷ older

-- a run whose newest member needs a node: the worker of its key has to settle that offer
pub record IsAsking (s : Fixed) (past : List (Entry BucketNote)) (a : ℕ) : Type 0 where
  pub role : ℕ
  pub frame : ℕ
  pub owes : owes role past ≡ Some frame
  pub uses : has (row s a past).uses frame ≡ true

-- what every legal history keeps
pub record IsSound (s : Fixed) (past : List (Entry BucketNote)) : Type 0 where
  -- at most one linked run has a key
  pub one : (a b : ℕ) (k : Key) → is_linked (row s a past).place ≡ true → has_key (row s a past).members k ≡ true
      → is_linked (row s b past).place ≡ true → has_key (row s b past).members k ≡ true → a ≡ b
  pub begun : (a : ℕ) → has (made past) a ≡ false → row s a past ≡ blank
  pub once : IsNumberSet (made past)
  pub borne : (a : ℕ) → has (made past) a ≡ true → (t : Facts) × (bearing s.capture a ≡ Some t)
  pub waits : (role f : ℕ) → awaits role f past ≡ true → IsWait s past role f
  pub fresh : (role f : ℕ) → IsPacketOf s role f → is_fresh role f past ≡ true → IsNew s past f
  pub opened : (role f : ℕ) → is_open role f past ≡ true → IsOpened s past role f
  pub uses : (a f : ℕ) → has (row s a past).uses f ≡ true → IsUse s past a f
  pub newest : (a : ℕ) → IfRun (row s a past).members (λ r. IsNewest s past r)
  pub owing : (role f : ℕ) → owes role past ≡ Some f → IsOwing s past role f
  -- where there are workers at all, the manager's role is none of theirs
  pub asking : 1 ≤ s.layout.workers → (a : ℕ) → (row s a past).asks ≡ true → IsAsking s past a
