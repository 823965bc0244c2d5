-- Which run an entry names.
use Rattle.std.specs.Prelude.{◌≡◌, ℕ, ◌≤◌, ◌==◌, ◌&&◌, Bool, true, false, List, ◌∷◌, Some}
use Rattle.suri_base.specs.declared.entry.BucketNote.{BucketNote}
use Rattle.suri_base.specs.declared.entry.BucketNote.TheVariants.{Found, Missing, Closed, Victim, Swept, Drained}
use Rattle.suri_base.specs.declared.entry.Entry.{Entry}
use Rattle.suri_base.specs.declared.facts.Facts.{Facts}
use Rattle.flow_sum.specs.Run.{Run, first_of}
use Rattle.bucket_rules.specs.Packets.{bearing}
use Rattle.bucket_rules.specs.Row.{Row, row, is_here, is_linked, is_none_of}
use Rattle.bucket_rules.specs.declared.fixed.Fixed.{Fixed}
use Rattle.bucket_laws.specs.Places.{In}

-- the frame bears a packet of the run
pub record IsMember (s : Fixed) (f : ℕ) (w : Row) : Type 0 where
  pub packet : Facts
  pub bears : bearing s.capture f ≡ Some packet
  pub member : In packet w.members

-- a run has members, and the frame of its number bears the first of them
pub record IsNamedByFirst (s : Fixed) (a : ℕ) (ms : List Facts) : Type 0 where
  pub run : Run
  pub members : ms ≡ run.newest ∷ run.older
  pub first : bearing s.capture a ≡ Some (first_of run)

-- the run that an entry names was in the bucket before it: a packet joins one that is linked, a close names the run of which its packet is a
-- member, and a victim is not used
abbrev pub NamesHere : Fixed → List (Entry BucketNote) → BucketNote → Type 0
NamesHere s past (Found f emergency seen run said) = is_linked (row s run past).place ≡ true
NamesHere s past (Missing f emergency seen ended) = 1 ≤ ended → is_here (row s ended past) ≡ true
NamesHere s past (Closed f app run freed ended) = (is_here (row s run past) ≡ true) × IsMember s f (row s run past)
NamesHere s past (Victim f run) = (is_here (row s run past) ≡ true) × (is_none_of (row s run past).uses ≡ true)
NamesHere s past _ = Unit {0}

-- the entry names the run
abbrev pub names : BucketNote → ℕ → Bool
names (Found f emergency seen run said) a = run == a
names (Missing f emergency seen ended) a = ended == a
names (Closed f app run freed ended) a = run == a
names (Victim f run) a = run == a
names _ a = false

-- a sweep and a drain may let several runs go
abbrev pub lets_many_go : BucketNote → Bool
lets_many_go (Swept round emergency seen count) = true
lets_many_go (Drained count) = true
lets_many_go _ = false

-- another entry lets go the one that it tells
abbrev pub is_let_go_by : BucketNote → ℕ → Bool
is_let_go_by (Missing f emergency seen ended) a = a == ended
is_let_go_by (Closed f app run freed ended) a = (run == a) && ended
is_let_go_by (Victim f run) a = run == a
is_let_go_by _ a = false
