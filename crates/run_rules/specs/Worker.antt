-- The script of a worker, as the stages that it goes through.
use Rattle.std.specs.Prelude.{ℕ, ◌+◌, ◌%◌, ◌==◌, nat_le, Bool, true, false, ◌&&◌, if◌then◌else◌, List, [], ◌∷◌, ◌++◌, Option, Some, None}
use Rattle.suri_base.specs.Keys.{same_truth}
use Rattle.suri_base.specs.declared.app.App.{App}
use Rattle.suri_base.specs.declared.app.App.TheVariants as app
use Rattle.suri_base.specs.declared.entry.BucketNote.{BucketNote}
use Rattle.suri_base.specs.declared.entry.BucketNote.TheVariants.{Found, Missing, Made, Refused, Stored, Stopped, Closed, Idle, Victim, AllInUse}
use Rattle.suri_base.specs.declared.entry.PoolNote.{PoolNote}
use Rattle.suri_base.specs.declared.entry.PoolNote.TheVariants.{Took, Full, Turn, Mode}
use Rattle.suri_base.specs.declared.entry.SegNote.{SegNote}
use Rattle.suri_base.specs.declared.entry.SegNote.TheVariants as seg
use Rattle.bucket_rules.specs.Own.{is_needing}
use Rattle.bucket_laws.specs.Leaving.{Gone}
use Rattle.run_rules.specs.Acts.{Act, on_pool, on_segments, on_bucket}
use Rattle.run_rules.specs.Serving.{only, emptied, front_holds, front_is, behind}
use Rattle.run_rules.specs.Setup.{Setup, bucket_for, verdict_for}

-- what a worker does next
pub data Stage : Type 0 where
  -- a batch begins
  between : Stage
  -- these frames are still to be looked up
  looking : List ℕ → Stage
  -- the frame was missing: an object is asked for
  missed : ℕ → List ℕ → Stage
  -- there was none, and the hand is empty: so many buckets had no flow to let go
  evicting : ℕ → ℕ → List ℕ → Stage
  -- the run in front of the hand is finished, and its object turned to the frame
  turning : ℕ → List ℕ → Stage
  -- there is an object: the run is made
  granted : ℕ → List ℕ → Stage
  -- there is none: the frame is refused
  denied : ℕ → List ℕ → Stage
  -- the frame needs a node: one is asked for
  asking : ℕ → List ℕ → Stage
  -- a node was had, or none
  settling : ℕ → Bool → List ℕ → Stage
  -- these frames are still to be closed
  closing : List ℕ → Stage
  -- so many nodes came back and are given back
  freeing : ℕ → List ℕ → Stage

pub record Stand : Type 0 where
  pub stage : Stage
  -- the batch: its frames, and what its reading of the mode told
  pub batch : List ℕ
  pub emergency : Bool
  pub seen : ℕ
  -- the batches to come, of this round and of those after it
  pub rounds : List (List (List ℕ))
  -- the runs that left by this role's steps of this round and are not finished, the first to leave first
  pub hand : List Gone
  -- what the hand held at the end of each round before, the newest round first
  pub hands : List (List Gone)

abbrev pub same_app : App → App → Bool
same_app app.None app.None = true
same_app app.Http app.Http = true
same_app app.Tls app.Tls = true
same_app app.Ssh app.Ssh = true
same_app app.Dns app.Dns = true
same_app _ _ = false

-- the frames are looked up; after the last one the batch is closed
abbrev pub look_on : List ℕ → List ℕ → Stage
look_on batch [] = closing batch
look_on batch (f ∷ todo) = looking (f ∷ todo)

abbrev pub close_on : List ℕ → Stage
close_on [] = between
close_on (f ∷ todo) = closing (f ∷ todo)

-- the offer is settled first where it has to be
abbrev pub settle_on : Bool → ℕ → List ℕ → List ℕ → Stage
settle_on true f batch todo = asking f todo
settle_on false f batch todo = look_on batch todo

abbrev pub free_on : ℕ → List ℕ → Stage
free_on freed todo = if freed == 0 then close_on todo else freeing freed todo

abbrev pub takes_on : List Gone → ℕ → List ℕ → Stage
takes_on [] f todo = evicting f 0 todo
takes_on (g ∷ hand) f todo = turning f todo

abbrev pub at : Stage → Stand → Stand
at p s = record s { stage = p }

abbrev pub held_at : Stage → List Gone → Stand → Stand
held_at p hand s = record s { stage = p; hand = hand }

-- the next batch begins: rounds without a batch are over
abbrev pub next_batch : Bool → ℕ → List (List (List ℕ)) → List Gone → List (List Gone) → Option Stand
next_batch e n [] hand hands = None
next_batch e n ([] ∷ later) hand hands = next_batch e n later [] (hand ∷ hands)
next_batch e n ((b ∷ bs) ∷ later) hand hands = Some (record { stage = look_on b b; batch = b; emergency = e; seen = n; rounds = bs ∷ later; hand = hand; hands = hands })

module _ (w : Setup) where
  -- this frame's bucket, and the frame
  abbrev pub is_for : ℕ → ℕ → ℕ → Bool
  is_for f b g = (g == f) && (b == bucket_for w f)

  -- the same reading of the mode
  abbrev pub is_read : Stand → Bool → ℕ → Bool
  is_read s e n = same_truth e s.emergency && (n == s.seen)

  abbrev pub look : ℕ → List ℕ → Stand → ℕ → BucketNote → List Gone → Option Stand
  look f todo s b (Found g e n run o) left = only (is_for f b g && is_read s e n) (held_at (settle_on (is_needing o) f s.batch todo) (s.hand ++ left) s)
  look f todo s b (Missing g e n ended) left = only (is_for f b g && is_read s e n) (held_at (missed f todo) (s.hand ++ left) s)
  look f todo s b _ left = None

  abbrev pub take : ℕ → List ℕ → Stand → PoolNote → Option Stand
  take f todo s (Took g) = only (g == f) (at (granted f todo) s)
  take f todo s (Full g n limit) = only (g == f) (at (takes_on s.hand f todo) s)
  take f todo s _ = None

  -- the buckets are asked in turn, from the frame's own on
  abbrev pub evict : ℕ → ℕ → List ℕ → Stand → ℕ → BucketNote → List Gone → Option Stand
  evict f k todo s b (Victim g run) left = only ((g == f) && (b == (bucket_for w f + k) % w.layout.rows)) (held_at (turning f todo) (s.hand ++ left) s)
  evict f k todo s b (AllInUse g count) left =
      only ((g == f) && (b == (bucket_for w f + k) % w.layout.rows)) (held_at (if k + 1 == w.layout.rows then denied f todo else evicting f (k + 1) todo) (s.hand ++ left) s)
  evict f k todo s b _ left = None

  abbrev pub turn : ℕ → List ℕ → Stand → PoolNote → Option Stand
  turn f todo s (Turn run g) = only ((g == f) && front_is run s.hand) (held_at (granted f todo) (behind s.hand) s)
  turn f todo s _ = None

  -- the nodes of the run in front of the hand go back, where it has any
  abbrev pub give : ℕ → List ℕ → Stand → SegNote → Option Stand
  give f todo s (seg.Gave n) = only (nat_le 1 n && front_holds n s.hand) (held_at (turning f todo) (emptied s.hand) s)
  give f todo s _ = None

  abbrev pub make : ℕ → List ℕ → Stand → ℕ → BucketNote → List Gone → Option Stand
  make f todo s b (Made g o) left = only (is_for f b g) (held_at (settle_on (is_needing o) f s.batch todo) (s.hand ++ left) s)
  make f todo s b _ left = None

  abbrev pub refuse : ℕ → List ℕ → Stand → ℕ → BucketNote → List Gone → Option Stand
  refuse f todo s b (Refused g) left = only (is_for f b g) (held_at (look_on s.batch todo) (s.hand ++ left) s)
  refuse f todo s b _ left = None

  abbrev pub ask : ℕ → List ℕ → Stand → SegNote → Option Stand
  ask f todo s (seg.Took g) = only (g == f) (at (settling f true todo) s)
  ask f todo s (seg.Full g n limit) = only (g == f) (at (settling f false todo) s)
  ask f todo s (seg.Gave n) = None

  abbrev pub settle : ℕ → Bool → List ℕ → Stand → ℕ → BucketNote → List Gone → Option Stand
  settle f true todo s b (Stored g) left = only (is_for f b g) (held_at (look_on s.batch todo) (s.hand ++ left) s)
  settle f false todo s b (Stopped g) left = only (is_for f b g) (held_at (look_on s.batch todo) (s.hand ++ left) s)
  settle f _ todo s b _ left = None

  abbrev pub close : ℕ → List ℕ → Stand → ℕ → BucketNote → List Gone → Option Stand
  close f todo s b (Closed g verdict run freed ended) left =
      only (is_for f b g && same_app verdict (verdict_for w f)) (held_at (free_on freed todo) (s.hand ++ left) s)
  close f todo s b (Idle g verdict) left = only (is_for f b g && same_app verdict app.None) (held_at (close_on todo) (s.hand ++ left) s)
  close f todo s b _ left = None

  abbrev pub free : ℕ → List ℕ → Stand → SegNote → Option Stand
  free freed todo s (seg.Gave n) = only (n == freed) (at (close_on todo) s)
  free freed todo s _ = None

  abbrev pub begin : Stand → PoolNote → ℕ → Option Stand
  begin s (Mode e) n = next_batch e n s.rounds s.hand s.hands
  begin s _ n = None

  abbrev pub pool_step : Stage → Stand → PoolNote → ℕ → Option Stand
  pool_step between s n i = begin s n i
  pool_step (missed f todo) s n i = take f todo s n
  pool_step (turning f todo) s n i = turn f todo s n
  pool_step _ s n i = None

  abbrev pub segments_step : Stage → Stand → SegNote → Option Stand
  segments_step (turning f todo) s n = give f todo s n
  segments_step (asking f todo) s n = ask f todo s n
  segments_step (freeing freed todo) s n = free freed todo s n
  segments_step _ s n = None

  abbrev pub bucket_step : Stage → Stand → ℕ → BucketNote → List Gone → Option Stand
  bucket_step (looking (f ∷ todo)) s b n left = look f todo s b n left
  bucket_step (evicting f k todo) s b n left = evict f k todo s b n left
  bucket_step (granted f todo) s b n left = make f todo s b n left
  bucket_step (denied f todo) s b n left = refuse f todo s b n left
  bucket_step (settling f had todo) s b n left = settle f had todo s b n left
  bucket_step (closing (f ∷ todo)) s b n left = close f todo s b n left
  bucket_step _ s b n left = None

  -- where the worker stands after one more act, if its script allows that act
  abbrev pub after_act : Stand → Act → Option Stand
  after_act s (on_pool n i) = pool_step s.stage s n i
  after_act s (on_segments n) = segments_step s.stage s n
  after_act s (on_bucket b n left) = bucket_step s.stage s b n left

  abbrev pub moved : Act → Option Stand → Option Stand
  moved a None = None
  moved a (Some s) = after_act s a

  -- where the worker stands after these acts, the newest first
  abbrev pub stand_after : Stand → List Act → Option Stand
  stand_after s [] = Some s
  stand_after s (a ∷ before) = moved a (stand_after s before)

-- a worker's first stand
abbrev pub fresh : List (List (List ℕ)) → Stand
fresh rounds = record { stage = between; batch = []; emergency = false; seen = 0; rounds = rounds; hand = []; hands = [] }

-- no batch is to come: what the hand held at the end of each round, the newest round first
abbrev pub over : List (List (List ℕ)) → List Gone → List (List Gone) → Option (List (List Gone))
over [] [] hands = Some hands
over [] (g ∷ hand) hands = None
over ([] ∷ later) hand hands = over later [] (hand ∷ hands)
over ((b ∷ bs) ∷ later) hand hands = None

abbrev pub ended_at : Stage → Stand → Option (List (List Gone))
ended_at between s = over s.rounds s.hand s.hands
ended_at _ s = None

abbrev pub ended : Option Stand → Option (List (List Gone))
ended None = None
ended (Some s) = ended_at s.stage s
