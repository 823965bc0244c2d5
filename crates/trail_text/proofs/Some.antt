-- Some value of each kind that fits.
use Rattle.std.proofs.Common.{[], arith}
use Rattle.std.proofs.lemmas.List.Elements.{All-nil}
use Rattle.suri_base.specs.declared.entry.BucketNote.{BucketNote}
use Rattle.suri_base.specs.declared.entry.BucketNote.TheVariants as bucket
use Rattle.suri_base.specs.declared.entry.Entry.{Entry}
use Rattle.suri_base.specs.declared.entry.PoolNote.{PoolNote}
use Rattle.suri_base.specs.declared.entry.PoolNote.TheVariants as pool
use Rattle.suri_base.specs.declared.entry.SegNote.{SegNote}
use Rattle.suri_base.specs.declared.entry.SegNote.TheVariants as seg
use Rattle.suri_base.specs.declared.layout.Layout.{Layout}
use Rattle.trail_text.specs.Bounds.{BucketFits, EntryFits, Fits, HistoryFits, IsLaidOut, PoolFits, SegFits}

abbrev pub some_layout : Layout
some_layout = record { workers = 1; batch = 1; round = 1; rows = 1; memcap = 1; segments = 0; recovery = 1; depth = 0 }

pub layout_fits : IsLaidOut some_layout
layout_fits = record {
  workers = (omega arith, omega arith);
  batch = (omega arith, omega arith);
  round = (omega arith, omega arith);
  table_rows = (omega arith, omega arith);
  memcap = (omega arith, omega arith);
  segments = (omega arith, omega arith);
  recovery = (omega arith, omega arith);
  depth = (omega arith, omega arith);
  fit = omega arith;
}

pub zero_fits : Fits 0
zero_fits = omega arith

abbrev pub some_pool : Entry PoolNote
some_pool = record { role = 0; step = 0; note = pool.Took 0 }

pub pool_fits : EntryFits PoolFits some_pool
pool_fits = (omega arith, omega arith, omega arith)

abbrev pub some_seg : Entry SegNote
some_seg = record { role = 0; step = 0; note = seg.Took 0 }

pub seg_fits : EntryFits SegFits some_seg
seg_fits = (omega arith, omega arith, omega arith)

abbrev pub some_bucket : Entry BucketNote
some_bucket = record { role = 0; step = 0; note = bucket.Drained 0 }

pub bucket_fits : EntryFits BucketFits some_bucket
bucket_fits = (omega arith, omega arith, omega arith)

-- no entry at all
pub nothing_fits : {N : Type 0} (NoteFits : N → Type 0) → HistoryFits NoteFits []
nothing_fits NoteFits = (zero_fits, All-nil (EntryFits NoteFits))
