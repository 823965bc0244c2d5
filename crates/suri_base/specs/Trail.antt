-- What contracts see of a trail.
use Rattle.std.specs.Prelude.{List}
use Rattle.suri_base.specs.declared.entry.BucketNote.{BucketNote}
use Rattle.suri_base.specs.declared.entry.Entry.{Entry}
use Rattle.suri_base.specs.declared.entry.PoolNote.{PoolNote}
use Rattle.suri_base.specs.declared.entry.SegNote.{SegNote}
use Rattle.suri_base.specs.declared.layout.Layout.{Layout}

-- the histories of a run's machines, each in the order of time; those of the buckets stand by their numbers
pub record Trailed : Type 0 where
  pub layout : Layout
  pub pool : List (Entry PoolNote)
  pub segments : List (Entry SegNote)
  pub buckets : List (List (Entry BucketNote))
