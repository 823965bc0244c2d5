-- What a role did: its steps over all histories, each with what its entry means in its place.
use Rattle.std.specs.Prelude.{◌≡◌, ℕ, ◌+◌, ◌<◌, ◌==◌, nat_lt, Bool, true, if◌then◌else◌, List, [], ◌∷◌, length}
use Rattle.std.specs.List.{list_all}
use Rattle.suri_base.specs.History.{entry, entries_of}
use Rattle.suri_base.specs.declared.entry.BucketNote.{BucketNote}
use Rattle.suri_base.specs.declared.entry.Entry.{Entry}
use Rattle.suri_base.specs.declared.entry.PoolNote.{PoolNote}
use Rattle.suri_base.specs.declared.entry.SegNote.{SegNote}
use Rattle.bucket_laws.specs.Leaving.{Gone, gone}
use Rattle.run_rules.specs.Histories.{Histories, bucket_at}
use Rattle.run_rules.specs.Setup.{Setup, fixed_at}

-- one step of a role
pub data Act : Type 0 where
  -- on the pool of flow objects, with the length of its history up to and with this entry
  on_pool : PoolNote → ℕ → Act
  -- on the pool of segment nodes
  on_segments : SegNote → Act
  -- on a bucket, with the runs that left there, by their numbers, each with the nodes that it took along
  on_bucket : ℕ → BucketNote → List Gone → Act

-- the entries of a history as acts, each in its place
abbrev pub pool_acts : List (Entry PoolNote) → List (Entry Act)
pool_acts [] = []
pool_acts (e ∷ past) = entry e.role e.step (on_pool e.note (length past + 1)) ∷ pool_acts past

abbrev pub segment_acts : List (Entry SegNote) → List (Entry Act)
segment_acts [] = []
segment_acts (e ∷ past) = entry e.role e.step (on_segments e.note) ∷ segment_acts past

abbrev pub bucket_acts : Setup → ℕ → List (Entry BucketNote) → List (Entry Act)
bucket_acts w b [] = []
bucket_acts w b (e ∷ past) = entry e.role e.step (on_bucket b e.note (gone (fixed_at w b) past e.note)) ∷ bucket_acts w b past

-- the history that an act is an entry of: 0 for the flow pool, 1 for the segment pool, and the buckets from 2 on
abbrev pub place_of : Act → ℕ
place_of (on_pool n at) = 0
place_of (on_segments n) = 1
place_of (on_bucket b n left) = b + 2

-- of a role's acts, the newest first, those of one history. An act's step is the number of acts before it
abbrev pub part : ℕ → ℕ → List Act → List (Entry Act)
part role place [] = []
part role place (a ∷ before) = if place_of a == place then entry role (length before) a ∷ part role place before else part role place before

-- each act is on one of so many histories
abbrev pub are_within : ℕ → List Act → Bool
are_within places acts = list_all (λ a. nat_lt (place_of a) places) acts

-- these are the acts of a role, the newest first: of each history the role made just its part of them. So its steps over all histories
-- are 0, 1, 2 and so on, each once, and rise in each history
pub record AreActs (w : Setup) (t : Histories) (role : ℕ) (acts : List Act) : Type 0 where
  pub pool : entries_of role (pool_acts t.pool) ≡ part role 0 acts
  pub segments : entries_of role (segment_acts t.segments) ≡ part role 1 acts
  pub buckets : (b : ℕ) → b < length t.buckets → entries_of role (bucket_acts w b (bucket_at b t.buckets)) ≡ part role (b + 2) acts
  pub within : are_within (length t.buckets + 2) acts ≡ true

-- the same of the flow pool and the buckets alone
pub record AreMet (w : Setup) (t : Histories) (role : ℕ) (acts : List Act) : Type 0 where
  pub pool : entries_of role (pool_acts t.pool) ≡ part role 0 acts
  pub buckets : (b : ℕ) → b < length t.buckets → entries_of role (bucket_acts w b (bucket_at b t.buckets)) ≡ part role (b + 2) acts
  pub within : are_within (length t.buckets + 2) acts ≡ true
