-- The script of the end role: it finishes what waits, then drains bucket after bucket, and finishes the runs of each before it drains the next.
use Rattle.std.specs.Prelude.{ℕ, ◌+◌, ◌==◌, nat_lt, ◌&&◌, List, [], ◌∷◌, Option, Some, None}
use Rattle.suri_base.specs.declared.entry.BucketNote.{BucketNote}
use Rattle.suri_base.specs.declared.entry.BucketNote.TheVariants.{Drained}
use Rattle.bucket_laws.specs.Leaving.{Gone}
use Rattle.run_rules.specs.Acts.{Act, on_pool, on_segments, on_bucket}
use Rattle.run_rules.specs.Serving.{only, serve_pool, serve_segments}
use Rattle.run_rules.specs.Setup.{Setup}

-- the end role: what waits, and how many buckets were drained
pub record Ending : Type 0 where
  pub queue : List Gone
  pub drained : ℕ

abbrev pub with_queue : ℕ → Option (List Gone) → Option Ending
with_queue k None = None
with_queue k (Some queue) = Some (record { queue = queue; drained = k })

module _ (w : Setup) where
  abbrev pub drain : Ending → ℕ → BucketNote → List Gone → Option Ending
  drain s b (Drained count) left = only ((b == s.drained) && nat_lt b w.layout.rows) (record { queue = left; drained = s.drained + 1 })
  drain s b _ left = None

  abbrev pub end_on : List Gone → Ending → Act → Option Ending
  end_on [] s (on_bucket b n left) = drain s b n left
  end_on (g ∷ queue) s (on_pool n i) = with_queue s.drained (serve_pool (g ∷ queue) n)
  end_on (g ∷ queue) s (on_segments n) = with_queue s.drained (serve_segments (g ∷ queue) n)
  end_on _ s _ = None

  abbrev pub ended_on : Act → Option Ending → Option Ending
  ended_on a None = None
  ended_on a (Some s) = end_on s.queue s a

  abbrev pub ending_after : Ending → List Act → Option Ending
  ending_after s [] = Some s
  ending_after s (a ∷ before) = ended_on a (ending_after s before)
