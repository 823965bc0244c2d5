-- A bucket that was drained.
use Rattle.std.specs.Prelude.{◌≡◌, ℕ, Bool, true, false, List, Some}
use Rattle.std.specs.List.{list_any}
use Rattle.suri_base.specs.Dealing.{bucket_of}
use Rattle.suri_base.specs.declared.entry.BucketNote.{BucketNote}
use Rattle.suri_base.specs.declared.entry.BucketNote.TheVariants.{Drained}
use Rattle.suri_base.specs.declared.entry.Entry.{Entry}
use Rattle.suri_base.specs.declared.facts.Facts.{Facts}
use Rattle.bucket_rules.specs.Own.{is_closed}
use Rattle.bucket_rules.specs.Packets.{bearing}
use Rattle.bucket_rules.specs.Row.{is_here, row}
use Rattle.bucket_rules.specs.declared.fixed.Fixed.{Fixed}

abbrev pub drains : BucketNote → Bool
drains (Drained count) = true
drains _ = false

-- some entry drained the bucket
abbrev pub is_drained : List (Entry BucketNote) → Bool
is_drained past = list_any (λ (e : Entry BucketNote). drains e.note) past

-- every packet of the bucket is closed or idle, and no run is there
pub record IsEmpty (s : Fixed) (past : List (Entry BucketNote)) : Type 0 where
  pub closed : (f : ℕ) (t : Facts) → bearing s.capture f ≡ Some t → bucket_of t.key s.layout.rows ≡ s.number → is_closed f past ≡ true
  pub none : (a : ℕ) → is_here (row s a past) ≡ false
