-- What the acts of a role ask of the two pools, and what they tell of the frames for which they ask.
use Rattle.std.proofs.Common.{ℕ}
use Rattle.bucket_laws.specs.Counts.{one_if}
use Rattle.bucket_rules.specs.Own.{is_needing}
use Rattle.run_rules.specs.Acts.{Act, on_bucket, on_pool, on_segments}
use Rattle.suri_base.specs.declared.entry.BucketNote.{BucketNote}
use Rattle.suri_base.specs.declared.entry.BucketNote.TheVariants.{Found, Made, Refused}
use Rattle.suri_base.specs.declared.entry.PoolNote.{PoolNote}
use Rattle.suri_base.specs.declared.entry.PoolNote.TheVariants.{Full, Took}
use Rattle.suri_base.specs.declared.entry.SegNote.{SegNote}
use Rattle.suri_base.specs.declared.entry.SegNote.TheVariants as seg

-- an object is asked for, whether one was left or not
abbrev pub asks : PoolNote → ℕ
asks (Took f) = 1
asks (Full f out limit) = 1
asks _ = 0

-- a node is asked for
abbrev pub wants : SegNote → ℕ
wants (seg.Took f) = 1
wants (seg.Full f out limit) = 1
wants _ = 0

-- a frame that no run took begins one, or is refused
abbrev pub settles : BucketNote → ℕ
settles (Made f said) = 1
settles (Refused f) = 1
settles _ = 0

-- the stream of a frame needs a node
abbrev pub needs : BucketNote → ℕ
needs (Found f emergency seen run said) = one_if (is_needing said)
needs (Made f said) = one_if (is_needing said)
needs _ = 0

-- the same of acts

abbrev pub asked_by : Act → ℕ
asked_by (on_pool n i) = asks n
asked_by _ = 0

abbrev pub wanted_by : Act → ℕ
wanted_by (on_segments n) = wants n
wanted_by _ = 0

abbrev pub settled_by : Act → ℕ
settled_by (on_bucket b n left) = settles n
settled_by _ = 0

abbrev pub needed_by : Act → ℕ
needed_by (on_bucket b n left) = needs n
needed_by _ = 0
