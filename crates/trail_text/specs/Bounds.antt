-- Which trails have a text of the grammar.
use Rattle.std.specs.Prelude.{◌≡◌, ◌≤◌, ◌<◌, ◌^◌, ℕ, List, All, length}
use Rattle.suri_base.specs.Trail.{Trailed}
use Rattle.suri_base.specs.declared.entry.BucketNote.{BucketNote}
use Rattle.suri_base.specs.declared.entry.BucketNote.TheVariants as bucket
use Rattle.suri_base.specs.declared.entry.Entry.{Entry}
use Rattle.suri_base.specs.declared.entry.PoolNote.{PoolNote}
use Rattle.suri_base.specs.declared.entry.PoolNote.TheVariants as pool
use Rattle.suri_base.specs.declared.entry.SegNote.{SegNote}
use Rattle.suri_base.specs.declared.entry.SegNote.TheVariants as seg
use Rattle.suri_base.specs.declared.layout.Layout.{Layout}

-- the number is from the one to the other
abbrev pub Lies : ℕ → ℕ → ℕ → Type 0
Lies least most n = (least ≤ n) × (n ≤ most)

-- each number of a layout lies within the bounds of its option, and there are at most as many rows as flows
pub record IsLaidOut (l : Layout) : Type 0 where
  pub workers : Lies 1 64 l.workers
  pub batch : Lies 1 256 l.batch
  pub round : Lies 1 65536 l.round
  pub table_rows : Lies 1 4096 l.rows
  pub memcap : Lies 1 1048576 l.memcap
  pub segments : Lies 0 1048576 l.segments
  pub recovery : Lies 1 100 l.recovery
  pub depth : Lies 0 1073741824 l.depth
  pub fit : l.rows ≤ l.memcap

-- each number fits the type of its field
abbrev pub Fits : ℕ → Type 0
Fits n = n < 2 ^ 32

abbrev pub PoolFits : PoolNote → Type 0
PoolFits (pool.Took frame) = Fits frame
PoolFits (pool.Full frame out limit) = Fits frame × Fits out × Fits limit
PoolFits (pool.Put run) = Fits run
PoolFits (pool.Turn run frame) = Fits run × Fits frame
PoolFits (pool.Mode on) = Unit {0}
PoolFits (pool.Over round ended) = Fits round

abbrev pub SegFits : SegNote → Type 0
SegFits (seg.Took frame) = Fits frame
SegFits (seg.Full frame out limit) = Fits frame × Fits out × Fits limit
SegFits (seg.Gave count) = Fits count

abbrev pub BucketFits : BucketNote → Type 0
BucketFits (bucket.Found frame emergency seen run offer) = Fits frame × (seen < 2 ^ 64) × Fits run
BucketFits (bucket.Missing frame emergency seen ended) = Fits frame × (seen < 2 ^ 64) × Fits ended
BucketFits (bucket.Made frame offer) = Fits frame
BucketFits (bucket.Refused frame) = Fits frame
BucketFits (bucket.Stored frame) = Fits frame
BucketFits (bucket.Stopped frame) = Fits frame
BucketFits (bucket.Closed frame app run freed ended) = Fits frame × Fits run × Fits freed
BucketFits (bucket.Idle frame app) = Fits frame
BucketFits (bucket.Victim frame run) = Fits frame × Fits run
BucketFits (bucket.AllInUse frame count) = Fits frame × Fits count
BucketFits (bucket.Swept round emergency seen count) = Fits round × (seen < 2 ^ 64) × Fits count
BucketFits (bucket.Drained count) = Fits count

-- so do those of an entry, whose note fits
abbrev pub EntryFits : {N : Type 0} → (N → Type 0) → Entry N → Type 0
EntryFits NoteFits e = Fits e.role × (e.step < 2 ^ 64) × NoteFits e.note

-- so do all those of a history, which has fewer than 2 ^ 32 entries
abbrev pub HistoryFits : {N : Type 0} → (N → Type 0) → List (Entry N) → Type 0
HistoryFits NoteFits entries = Fits (length entries) × All (EntryFits NoteFits) entries

-- the trail has a text of the grammar
pub record IsWithin (t : Trailed) : Type 0 where
  pub layout : IsLaidOut t.layout
  pub pool : HistoryFits PoolFits t.pool
  pub segments : HistoryFits SegFits t.segments
  pub buckets : All (HistoryFits BucketFits) t.buckets
  pub one_each : length t.buckets ≡ t.layout.rows
