-- Each step of a worker and of the manager leaves the number of its rounds as it is: those that it has ended, with those still to come.
use Rattle.std.proofs.Common.{◌≡◌, ℕ, ◌+◌, Bool, true, false, List, [], ◌∷◌, length, Option, Some, None, refl, arith}
use Rattle.suri_base.specs.declared.entry.BucketNote.{BucketNote}
use Rattle.suri_base.specs.declared.entry.BucketNote.TheVariants.{Found, Missing, Made, Refused, Stored, Stopped, Closed, Idle, Victim, AllInUse, Swept}
use Rattle.suri_base.specs.declared.entry.PoolNote.{PoolNote}
use Rattle.suri_base.specs.declared.entry.PoolNote.TheVariants.{Took, Full, Turn, Mode, Over}
use Rattle.suri_base.specs.declared.entry.SegNote.{SegNote}
use Rattle.suri_base.specs.declared.entry.SegNote.TheVariants as seg
use Rattle.bucket_laws.specs.Leaving.{Gone}
use Rattle.run_rules.specs.Acts.{Act, on_pool, on_segments, on_bucket}
use Rattle.run_rules.specs.Manager.{Sweep, Task, resting, sweeping, leaving, manage, managed, new_manager, sweep, start_round, end_round, swept_after}
use Rattle.run_rules.specs.Serving.{only}
use Rattle.run_rules.specs.Setup.{Setup}
use Rattle.run_rules.specs.Worker.{Stage, Stand, between, looking, missed, evicting, turning, granted, denied, asking, settling, closing, freeing, look, take, evict, turn, give, make, refuse, ask, settle, close, free, begin, next_batch, pool_step, segments_step, bucket_step, after_act, moved, stand_after}

-- so many rounds are ended or to come
abbrev pub count_of : Stand → ℕ
count_of s = length s.rounds + length s.hands

abbrev pub AreCounted : ℕ → Option Stand → Type 0
AreCounted n None = Unit {0}
AreCounted n (Some s) = count_of s ≡ n

only_counted : (b : Bool) (n : ℕ) (s : Stand) → count_of s ≡ n → AreCounted n (only b s)
only_counted true n s h = h
only_counted false n s h = tt

next_counted : (e : Bool) (i : ℕ) (rounds : List (List (List ℕ))) (hand : List Gone) (hands : List (List Gone)) (n : ℕ) → length rounds + length hands ≡ n
    → AreCounted n (next_batch e i rounds hand hands)
next_counted e i [] hand hands n h = tt
next_counted e i ([] ∷ later) hand hands n h = next_counted e i later [] (hand ∷ hands) n (omega (arith, h))
next_counted e i ((b ∷ bs) ∷ later) hand hands n h = h

module _ (w : Setup) (n : ℕ) where
  look_counted : (f : ℕ) (todo : List ℕ) (s : Stand) (b : ℕ) (m : BucketNote) (left : List Gone) → count_of s ≡ n → AreCounted n (look w f todo s b m left)
  look_counted f todo s b (Found g e i run o) left h = only_counted _ n _ h
  look_counted f todo s b (Missing g e i ended) left h = only_counted _ n _ h
  look_counted f todo s b _ left h = tt

  take_counted : (f : ℕ) (todo : List ℕ) (s : Stand) (m : PoolNote) → count_of s ≡ n → AreCounted n (take w f todo s m)
  take_counted f todo s (Took g) h = only_counted _ n _ h
  take_counted f todo s (Full g out limit) h = only_counted _ n _ h
  take_counted f todo s _ h = tt

  evict_counted : (f k : ℕ) (todo : List ℕ) (s : Stand) (b : ℕ) (m : BucketNote) (left : List Gone) → count_of s ≡ n → AreCounted n (evict w f k todo s b m left)
  evict_counted f k todo s b (Victim g run) left h = only_counted _ n _ h
  evict_counted f k todo s b (AllInUse g count) left h = only_counted _ n _ h
  evict_counted f k todo s b _ left h = tt

  turn_counted : (f : ℕ) (todo : List ℕ) (s : Stand) (m : PoolNote) → count_of s ≡ n → AreCounted n (turn w f todo s m)
  turn_counted f todo s (Turn run g) h = only_counted _ n _ h
  turn_counted f todo s _ h = tt

  give_counted : (f : ℕ) (todo : List ℕ) (s : Stand) (m : SegNote) → count_of s ≡ n → AreCounted n (give w f todo s m)
  give_counted f todo s (seg.Gave i) h = only_counted _ n _ h
  give_counted f todo s _ h = tt

  make_counted : (f : ℕ) (todo : List ℕ) (s : Stand) (b : ℕ) (m : BucketNote) (left : List Gone) → count_of s ≡ n → AreCounted n (make w f todo s b m left)
  make_counted f todo s b (Made g o) left h = only_counted _ n _ h
  make_counted f todo s b _ left h = tt

  refuse_counted : (f : ℕ) (todo : List ℕ) (s : Stand) (b : ℕ) (m : BucketNote) (left : List Gone) → count_of s ≡ n → AreCounted n (refuse w f todo s b m left)
  refuse_counted f todo s b (Refused g) left h = only_counted _ n _ h
  refuse_counted f todo s b _ left h = tt

  ask_counted : (f : ℕ) (todo : List ℕ) (s : Stand) (m : SegNote) → count_of s ≡ n → AreCounted n (ask w f todo s m)
  ask_counted f todo s (seg.Took g) h = only_counted _ n _ h
  ask_counted f todo s (seg.Full g out limit) h = only_counted _ n _ h
  ask_counted f todo s (seg.Gave i) h = tt

  settle_counted : (f : ℕ) (had : Bool) (todo : List ℕ) (s : Stand) (b : ℕ) (m : BucketNote) (left : List Gone) → count_of s ≡ n → AreCounted n (settle w f had todo s b m left)
  settle_counted f true todo s b (Stored g) left h = only_counted _ n _ h
  settle_counted f false todo s b (Stopped g) left h = only_counted _ n _ h
  settle_counted f _ todo s b _ left h = tt

  close_counted : (f : ℕ) (todo : List ℕ) (s : Stand) (b : ℕ) (m : BucketNote) (left : List Gone) → count_of s ≡ n → AreCounted n (close w f todo s b m left)
  close_counted f todo s b (Closed g verdict run freed ended) left h = only_counted _ n _ h
  close_counted f todo s b (Idle g verdict) left h = only_counted _ n _ h
  close_counted f todo s b _ left h = tt

  free_counted : (freed : ℕ) (todo : List ℕ) (s : Stand) (m : SegNote) → count_of s ≡ n → AreCounted n (free w freed todo s m)
  free_counted freed todo s (seg.Gave i) h = only_counted _ n _ h
  free_counted freed todo s _ h = tt

  begin_counted : (s : Stand) (m : PoolNote) (i : ℕ) → count_of s ≡ n → AreCounted n (begin w s m i)
  begin_counted s (Mode e) i h = next_counted e i s.rounds s.hand s.hands n h
  begin_counted s _ i h = tt

  pool_counted : (p : Stage) (s : Stand) (m : PoolNote) (i : ℕ) → count_of s ≡ n → AreCounted n (pool_step w p s m i)
  pool_counted between s m i h = begin_counted s m i h
  pool_counted (missed f todo) s m i h = take_counted f todo s m h
  pool_counted (turning f todo) s m i h = turn_counted f todo s m h
  pool_counted _ s m i h = tt

  segments_counted : (p : Stage) (s : Stand) (m : SegNote) → count_of s ≡ n → AreCounted n (segments_step w p s m)
  segments_counted (turning f todo) s m h = give_counted f todo s m h
  segments_counted (asking f todo) s m h = ask_counted f todo s m h
  segments_counted (freeing freed todo) s m h = free_counted freed todo s m h
  segments_counted _ s m h = tt

  bucket_counted : (p : Stage) (s : Stand) (b : ℕ) (m : BucketNote) (left : List Gone) → count_of s ≡ n → AreCounted n (bucket_step w p s b m left)
  bucket_counted (looking (f ∷ todo)) s b m left h = look_counted f todo s b m left h
  bucket_counted (evicting f k todo) s b m left h = evict_counted f k todo s b m left h
  bucket_counted (granted f todo) s b m left h = make_counted f todo s b m left h
  bucket_counted (denied f todo) s b m left h = refuse_counted f todo s b m left h
  bucket_counted (settling f had todo) s b m left h = settle_counted f had todo s b m left h
  bucket_counted (closing (f ∷ todo)) s b m left h = close_counted f todo s b m left h
  bucket_counted _ s b m left h = tt

  act_counted : (s : Stand) (a : Act) → count_of s ≡ n → AreCounted n (after_act w s a)
  act_counted s (on_pool m i) h = pool_counted s.stage s m i h
  act_counted s (on_segments m) h = segments_counted s.stage s m h
  act_counted s (on_bucket b m left) h = bucket_counted s.stage s b m left h

  moved_counted : (a : Act) (o : Option Stand) → AreCounted n o → AreCounted n (moved w a o)
  moved_counted a None h = tt
  moved_counted a (Some s) h = act_counted s a h

  -- where a worker stands after any acts, its rounds are those that it had at first
  pub stand_counted : (s : Stand) (acts : List Act) → count_of s ≡ n → AreCounted n (stand_after w s acts)
  stand_counted s [] h = h
  stand_counted s (a ∷ before) h = moved_counted a (stand_after w s before) (stand_counted s before h)

-- the manager has ended as many rounds as it counts

abbrev pub IsCounted : Option Sweep → Type 0
IsCounted None = Unit {0}
IsCounted (Some s) = length s.hands ≡ s.round

only_swept : (b : Bool) (s : Sweep) → length s.hands ≡ s.round → IsCounted (only b s)
only_swept true s h = h
only_swept false s h = tt

module _ (w : Setup) where
  sweep_swept : (k : ℕ) (s : Sweep) (b : ℕ) (m : BucketNote) (left : List Gone) → length s.hands ≡ s.round → IsCounted (sweep w k s b m left)
  sweep_swept k s b (Swept round e i count) left h = only_swept _ _ h
  sweep_swept k s b _ left h = tt

  start_swept : (s : Sweep) (m : PoolNote) (i : ℕ) → length s.hands ≡ s.round → IsCounted (start_round w s m i)
  start_swept s (Mode e) i h = only_swept _ _ h
  start_swept s _ i h = tt

  end_swept : (s : Sweep) (m : PoolNote) → length s.hands ≡ s.round → IsCounted (end_round w s m)
  end_swept s (Over round done) h = only_swept _ _ (omega (arith, h))
  end_swept s _ h = tt

  manage_swept : (p : Task) (s : Sweep) (a : Act) → length s.hands ≡ s.round → IsCounted (manage w p s a)
  manage_swept resting s (on_pool m i) h = start_swept s m i h
  manage_swept (sweeping k) s (on_bucket b m left) h = sweep_swept k s b m left h
  manage_swept leaving s (on_pool m i) h = end_swept s m h
  manage_swept _ s _ h = tt

  managed_swept : (a : Act) (o : Option Sweep) → IsCounted o → IsCounted (managed w a o)
  managed_swept a None h = tt
  managed_swept a (Some s) h = manage_swept s.task s a h

  pub sweep_counted : (acts : List Act) → IsCounted (swept_after w new_manager acts)
  sweep_counted [] = refl
  sweep_counted (a ∷ before) = managed_swept a (swept_after w new_manager before) (sweep_counted before)
