-- Why a run ended, and what came next of its key.
use Rattle.std.specs.Prelude.{◌≡◌, ℕ, ◌<◌, ◌≤◌, ◌⊎◌, Bool, true, false, ◌&&◌, List, [], ◌∷◌, Some}
use Rattle.suri_base.specs.History.{entry}
use Rattle.suri_base.specs.declared.entry.BucketNote.{BucketNote}
use Rattle.suri_base.specs.declared.entry.BucketNote.TheVariants.{Missing, Victim, Swept, Drained}
use Rattle.suri_base.specs.declared.entry.Entry.{Entry}
use Rattle.suri_base.specs.declared.facts.Facts.{Facts}
use Rattle.suri_base.specs.declared.reason.Reason.TheVariants.{Timeout, TcpReuse, Forced, Shutdown}
use Rattle.bucket_rules.specs.Packets.{bearing, has_key, is_expired, is_reused, last_clock, round_clock, round_start}
use Rattle.bucket_rules.specs.Row.{Off, Place, unbegun, linked, detached, Row, after, is_linked, off, row}
use Rattle.bucket_rules.specs.declared.fixed.Fixed.{Fixed}
use Rattle.bucket_laws.specs.Counts.{one_if, times}
use Rattle.bucket_laws.specs.Places.{At}

abbrev pub is_detached : Place → Bool
is_detached unbegun = false
is_detached linked = false
is_detached (detached o) = true

-- the entry detaches the run
abbrev pub detaches : Fixed → List (Entry BucketNote) → BucketNote → ℕ → Bool
detaches s past n a = is_linked (row s a past).place && is_detached (after s a n (row s a past)).place

-- how often a history detaches it
abbrev pub times_detached : Fixed → ℕ → List (Entry BucketNote) → ℕ
times_detached s a history = times (λ past n. one_if (detaches s past n a)) history

-- the number of the packet after the newest member, as its facts tell; 0 where there is none
abbrev pub next_of : List Facts → ℕ
next_of [] = 0
next_of (m ∷ ms) = m.next

-- a packet of the run's key, looked up by this table, found the run expired, or else began a session anew
pub record IsOverFor (s : Fixed) (f : ℕ) (emergency : Bool) (w : Row) (o : Off) : Type 0 where
  pub packet : Facts
  pub bears : bearing s.capture f ≡ Some packet
  pub key : has_key w.members packet.key ≡ true
  pub why : ((is_expired w.members packet.clock emergency ≡ true) × (o ≡ off Timeout emergency))
      ⊎ ((is_expired w.members packet.clock emergency ≡ false) × (is_reused w.members packet ≡ true) × (o ≡ off TcpReuse false))

-- why an entry gives run a that end, where this is the run before it
abbrev pub Because : Fixed → ℕ → Row → BucketNote → Off → Type 0
Because s a w (Missing f emergency seen ended) o = IsOverFor s f emergency w o
-- it was evicted
Because s a w (Victim f run) o = (run ≡ a) × (o ≡ off Forced false)
-- it had expired at the clock of a round, by the sweep's table, and no packet of its key was to come before that round
Because s a w (Swept round emergency seen count) o =
    (is_expired w.members (round_clock s round) emergency ≡ true) × ((next_of w.members ≡ 0) ⊎ (round_start s round < next_of w.members)) × (o ≡ off Timeout emergency)
-- the capture ended
Because s a w (Drained count) o =
    ((is_expired w.members (last_clock s) false ≡ true) × (o ≡ off Timeout false))
    ⊎ ((is_expired w.members (last_clock s) false ≡ false) × (o ≡ off Shutdown false))
Because s a w _ o = ⊥

-- the entry that gave run a its end, and why; the run took no packet since
pub record HasEnd (s : Fixed) (a : ℕ) (history : List (Entry BucketNote)) (o : Off) : Type 0 where
  pub role : ℕ
  pub step : ℕ
  pub note : BucketNote
  pub past : List (Entry BucketNote)
  pub place : At (entry role step note) past history
  pub detaches : detaches s past note a ≡ true
  pub because : Because s a (row s a past) note o
  pub members : (row s a history).members ≡ (row s a past).members

-- what an entry that detaches a run tells of the next packet of its key: a look comes at it, or at a later one; a drain after all of them
abbrev pub NextFits : BucketNote → ℕ → Type 0
NextFits (Missing f emergency seen ended) next = (1 ≤ next) × (next ≤ f)
NextFits (Drained count) next = next ≡ 0
NextFits _ next = Unit {0}
