-- What may be called after a history, and what an entry has to be there.
use Rattle.std.specs.Prelude.{◌≡◌, ℕ, ◌+◌, ◌-◌, ◌*◌, ◌<◌, ◌≤◌, ◌==◌, Bool, true, false, List, [], ◌∷◌, length, filter, Some, None}
use Rattle.suri_base.specs.declared.entry.Entry.{Entry}
use Rattle.suri_base.specs.declared.facts.Facts.{Facts}
use Rattle.bucket_rules.specs.declared.fixed.Fixed.{Fixed}
use Rattle.suri_base.specs.declared.entry.BucketNote.{BucketNote}
use Rattle.suri_base.specs.declared.entry.BucketNote.TheVariants.{Found, Missing, Made, Refused, Stored, Stopped, Closed, Idle, Victim, AllInUse, Swept, Drained}
use Rattle.suri_base.specs.Dealing.{bucket_of, worker_of}
use Rattle.bucket_rules.specs.Packets.{bearing}
use Rattle.bucket_rules.specs.Row.{Row, row, has, is_here, is_unused, joins, lets_go, made, offer_of, waiting_of}
use Rattle.bucket_rules.specs.Own.{is_fresh, awaits, owes, is_open, is_refused, is_closed}

-- the frame bears a flow of this bucket, and the role is its worker
pub record IsPacketOf (s : Fixed) (role f : ℕ) : Type 0 where
  pub packet : Facts
  pub bears : bearing s.capture f ≡ Some packet
  pub bucket : bucket_of packet.key s.layout.rows ≡ s.number
  pub worker : role ≡ worker_of packet.key s.layout.workers

pub record MayLook (s : Fixed) (past : List (Entry BucketNote)) (role f : ℕ) : Type 0 where
  pub own : IsPacketOf s role f
  pub fresh : is_fresh role f past ≡ true
  pub settled : owes role past ≡ None

pub record MayClose (past : List (Entry BucketNote)) (role f : ℕ) : Type 0 where
  pub answered : is_open role f past ≡ true
  pub settled : owes role past ≡ None

pub record MayEvict (s : Fixed) (past : List (Entry BucketNote)) (role : ℕ) : Type 0 where
  pub worker : role < s.layout.workers
  pub settled : owes role past ≡ None

pub record MaySweep (s : Fixed) (role round : ℕ) : Type 0 where
  pub manager : role ≡ s.layout.workers
  pub within : round * s.layout.round < length s.capture.frames

pub record MayDrain (s : Fixed) (past : List (Entry BucketNote)) (role : ℕ) : Type 0 where
  pub end : role ≡ s.layout.workers + 2
  pub done : (f : ℕ) (t : Facts) → bearing s.capture f ≡ Some t → bucket_of t.key s.layout.rows ≡ s.number → is_closed f past ≡ true

abbrev pub newest_clock : List Facts → ℕ
newest_clock [] = 0
newest_clock (m ∷ ms) = m.clock

-- run a comes before run b in the order of eviction: by the clock of its last packet, then by its number
abbrev pub Precedes : Row → ℕ → Row → ℕ → Type 0
Precedes v a w b = (newest_clock v.members ≤ newest_clock w.members) × (newest_clock v.members ≡ newest_clock w.members → a ≤ b)

-- the run is linked and unused, and comes first of all such
pub record IsFirstUnused (s : Fixed) (past : List (Entry BucketNote)) (run : ℕ) : Type 0 where
  pub unused : is_unused (row s run past) ≡ true
  pub first : (a : ℕ) → is_unused (row s a past) ≡ true → Precedes (row s run past) run (row s a past) a

-- how many runs pass a test, of those that began
abbrev pub count_of : List (Entry BucketNote) → (ℕ → Bool) → ℕ
count_of past test = length (filter test (made past))

-- the rule for one entry, after the entries before it
abbrev pub Rule : Fixed → List (Entry BucketNote) → ℕ → BucketNote → Type 0
Rule s past role (Found f emergency seen run said) =
    (may : MayLook s past role f) × (joins s f emergency (row s run past) ≡ true) × (said ≡ offer_of s (row s run past) may.own.packet)
Rule s past role (Missing f emergency seen ended) =
    MayLook s past role f × ((a : ℕ) → joins s f emergency (row s a past) ≡ false)
    × ((a : ℕ) → 1 ≤ a → lets_go s past (Missing f emergency seen ended) a ≡ (a == ended))
Rule s past role (Made f said) = (awaits role f past ≡ true) × ((t : Facts) → bearing s.capture f ≡ Some t → said ≡ offer_of s (row s f past) t)
Rule s past role (Refused f) = awaits role f past ≡ true
Rule s past role (Stored f) = owes role past ≡ Some f
Rule s past role (Stopped f) = owes role past ≡ Some f
Rule s past role (Closed f app run freed ended) =
    MayClose past role f × (is_refused f past ≡ false) × (has (row s run past).uses f ≡ true)
    × (freed ≡ (row s run past).held - waiting_of s (row s run past))
    × (ended ≡ lets_go s past (Closed f app run freed ended) run)
Rule s past role (Idle f app) = MayClose past role f × (is_refused f past ≡ true)
Rule s past role (Victim f run) = MayEvict s past role × IsFirstUnused s past run
Rule s past role (AllInUse f count) =
    MayEvict s past role × ((a : ℕ) → is_unused (row s a past) ≡ false) × (count ≡ count_of past (λ a. is_here (row s a past)))
Rule s past role (Swept round emergency seen count) =
    MaySweep s role round × (count ≡ count_of past (λ a. lets_go s past (Swept round emergency seen count) a))
Rule s past role (Drained count) = MayDrain s past role × (count ≡ count_of past (λ a. lets_go s past (Drained count) a))

-- each entry keeps the rule
abbrev pub IsLegal : Fixed → List (Entry BucketNote) → Type 0
IsLegal s [] = Unit {0}
IsLegal s (e ∷ past) = Rule s past e.role e.note × IsLegal s past
