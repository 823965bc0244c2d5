-- The histories of a run beside each other, each with the newest entry first: those of a trail, or what a role's passes have seen of them.
use Rattle.std.specs.Prelude.{ℕ, List, [], map, reverse, slice_index_or}
use Rattle.suri_base.specs.Trail.{Trailed}
use Rattle.suri_base.specs.declared.entry.BucketNote.{BucketNote}
use Rattle.suri_base.specs.declared.entry.Entry.{Entry}
use Rattle.suri_base.specs.declared.entry.PoolNote.{PoolNote}
use Rattle.suri_base.specs.declared.entry.SegNote.{SegNote}

pub record Histories : Type 0 where
  pub pool : List (Entry PoolNote)
  pub segments : List (Entry SegNote)
  pub buckets : List (List (Entry BucketNote))

-- the history of bucket b
abbrev pub bucket_at : ℕ → List (List (Entry BucketNote)) → List (Entry BucketNote)
bucket_at b hs = slice_index_or hs b []

-- those of a trail, which has them in the order of time
abbrev pub histories_of : Trailed → Histories
histories_of t = record { pool = reverse t.pool; segments = reverse t.segments; buckets = map (λ h. reverse h) t.buckets }
