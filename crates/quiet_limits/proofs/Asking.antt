-- A worker asks for an object once for each frame that begins a run or is refused, and for a node once for each frame whose stream needs one.
-- One table for each stage; the sums over all steps follow by induction.
use Rattle.std.proofs.Common.{◌≡◌, ℕ, ◌==◌, ◌+◌, Bool, true, false, cond, List, [], ◌∷◌, Option, Some, None, refl, ap, subst, arith}
use Rattle.bucket_laws.specs.Counts.{one_if}
use Rattle.bucket_laws.specs.Leaving.{Gone}
use Rattle.bucket_rules.specs.Own.{is_needing}
use Rattle.quiet_limits.proofs.Measures.{asked_by, needed_by, settled_by, wanted_by}
use Rattle.run_laws.proofs.Using.{ended_some}
use Rattle.run_laws.proofs.Working.{one_step, only_some, step_at}
use Rattle.run_laws.specs.Measures.{total}
use Rattle.run_rules.specs.Acts.{Act, on_bucket, on_pool, on_segments}
use Rattle.run_rules.specs.Setup.{Setup, work_of}
use Rattle.run_rules.specs.Worker.{Stage, Stand, ask, asking, begin, between, close, close_on, closing, denied, ended, evict, evicting, free, freeing, fresh, give, granted, look, look_on, looking, make, missed, moved, next_batch, refuse, settle, settle_on, settling, stand_after, take, takes_on, turn, turning}
use Rattle.suri_base.specs.declared.entry.BucketNote.{BucketNote}
use Rattle.suri_base.specs.declared.entry.BucketNote.TheVariants.{AllInUse, Closed, Drained, Found, Idle, Made, Missing, Refused, Stopped, Stored, Swept, Victim}
use Rattle.suri_base.specs.declared.entry.PoolNote.{PoolNote}
use Rattle.suri_base.specs.declared.entry.PoolNote.TheVariants.{Full, Mode, Over, Put, Took, Turn}
use Rattle.suri_base.specs.declared.entry.SegNote.{SegNote}
use Rattle.suri_base.specs.declared.entry.SegNote.TheVariants as seg

-- the object of a frame was asked for, and the frame neither began a run nor was refused yet
abbrev owed_answer : Stage → ℕ
owed_answer (evicting f k todo) = 1
owed_answer (turning f todo) = 1
owed_answer (granted f todo) = 1
owed_answer (denied f todo) = 1
owed_answer _ = 0

-- the stream of a frame needs a node that is still to be asked for
abbrev owed_ask : Stage → ℕ
owed_ask (asking f todo) = 1
owed_ask _ = 0

-- what a stage is owed
abbrev Owes : Stage → ℕ → ℕ → Type 0
Owes q a n = (owed_answer q ≡ a) × (owed_ask q ≡ n)

look_owes : (batch todo : List ℕ) → Owes (look_on batch todo) 0 0
look_owes batch [] = (refl, refl)
look_owes batch (f ∷ todo) = (refl, refl)

close_owes : (todo : List ℕ) → Owes (close_on todo) 0 0
close_owes [] = (refl, refl)
close_owes (f ∷ todo) = (refl, refl)

settle_owes : (b : Bool) (f : ℕ) (batch todo : List ℕ) → Owes (settle_on b f batch todo) 0 (one_if b)
settle_owes true f batch todo = (refl, refl)
settle_owes false f batch todo = look_owes batch todo

free_owes : (b : Bool) (n : ℕ) (todo : List ℕ) → Owes (cond b (close_on todo) (freeing n todo)) 0 0
free_owes true n todo = close_owes todo
free_owes false n todo = (refl, refl)

takes_owes : (hand : List Gone) (f : ℕ) (todo : List ℕ) → Owes (takes_on hand f todo) 1 0
takes_owes [] f todo = (refl, refl)
takes_owes (g ∷ hand) f todo = (refl, refl)

more_owes : (b : Bool) (f k : ℕ) (todo : List ℕ) → Owes (cond b (denied f todo) (evicting f k todo)) 1 0
more_owes true f k todo = (refl, refl)
more_owes false f k todo = (refl, refl)

batch_owes : (e : Bool) (n : ℕ) (rounds : List (List (List ℕ))) (hand : List Gone) (hands : List (List Gone)) (t : Stand) → next_batch e n rounds hand hands ≡ Some t
    → Owes t.stage 0 0
batch_owes e n [] hand hands t h = cc
batch_owes e n ([] ∷ later) hand hands t h = batch_owes e n later [] (hand ∷ hands) t h
batch_owes e n ((b ∷ bs) ∷ later) hand hands t h =
    let k : record { stage = look_on b b; batch = b; emergency = e; seen = n; rounds = bs ∷ later; hand = hand; hands = hands } ≡ t = cc in
    subst (λ (u : Stand). Owes u.stage 0 0) k (look_owes b b)

-- what a step from a stage to a stand asks, and what it answers
record Fits (p : Stage) (t : Stand) (act : Act) : Type 0 where
  pub object : asked_by act + owed_answer p ≡ settled_by act + owed_answer t.stage
  pub node : wanted_by act + owed_ask t.stage ≡ needed_by act + owed_ask p

-- a step to a stand that is owed so much
fit : (p : Stage) (s t : Stand) (act : Act) (a n : ℕ) → s ≡ t → Owes s.stage a n → asked_by act + owed_answer p ≡ settled_by act + a
    → wanted_by act + n ≡ needed_by act + owed_ask p → Fits p t act
fit p s t act a n e o x y = subst (λ (u : Stand). Fits p u act) e (record { object = omega (arith, o.0, x); node = omega (arith, o.1, y) })

module _ (w : Setup) where
  look_fits : (f : ℕ) (todo : List ℕ) (s : Stand) (b : ℕ) (n : BucketNote) (left : List Gone) (t : Stand) → look w f todo s b n left ≡ Some t → Fits (looking (f ∷ todo)) t (on_bucket b n left)
  look_fits f todo s b (Found g e n run o) left t h =
      fit (looking (f ∷ todo)) _ t (on_bucket b (Found g e n run o) left) 0 (one_if (is_needing o)) (only_some _ _ t h).1 (settle_owes (is_needing o) f s.batch todo) refl (omega arith)
  look_fits f todo s b (Missing g e n ended) left t h = fit (looking (f ∷ todo)) _ t (on_bucket b (Missing g e n ended) left) 0 0 (only_some _ _ t h).1 (refl, refl) refl refl
  look_fits f todo s b (Made g o) left t h = cc
  look_fits f todo s b (Refused g) left t h = cc
  look_fits f todo s b (Stored g) left t h = cc
  look_fits f todo s b (Stopped g) left t h = cc
  look_fits f todo s b (Closed g verdict run freed ended) left t h = cc
  look_fits f todo s b (Idle g verdict) left t h = cc
  look_fits f todo s b (Victim g run) left t h = cc
  look_fits f todo s b (AllInUse g count) left t h = cc
  look_fits f todo s b (Swept round e n count) left t h = cc
  look_fits f todo s b (Drained count) left t h = cc

  evict_fits : (f : ℕ) (k : ℕ) (todo : List ℕ) (s : Stand) (b : ℕ) (n : BucketNote) (left : List Gone) (t : Stand) → evict w f k todo s b n left ≡ Some t
      → Fits (evicting f k todo) t (on_bucket b n left)
  evict_fits f k todo s b (Found g e n run o) left t h = cc
  evict_fits f k todo s b (Missing g e n ended) left t h = cc
  evict_fits f k todo s b (Made g o) left t h = cc
  evict_fits f k todo s b (Refused g) left t h = cc
  evict_fits f k todo s b (Stored g) left t h = cc
  evict_fits f k todo s b (Stopped g) left t h = cc
  evict_fits f k todo s b (Closed g verdict run freed ended) left t h = cc
  evict_fits f k todo s b (Idle g verdict) left t h = cc
  evict_fits f k todo s b (Victim g run) left t h = fit (evicting f k todo) _ t (on_bucket b (Victim g run) left) 1 0 (only_some _ _ t h).1 (refl, refl) refl refl
  evict_fits f k todo s b (AllInUse g count) left t h =
      fit (evicting f k todo) _ t (on_bucket b (AllInUse g count) left) 1 0 (only_some _ _ t h).1 (more_owes (k + 1 == w.layout.rows) f (k + 1) todo) refl refl
  evict_fits f k todo s b (Swept round e n count) left t h = cc
  evict_fits f k todo s b (Drained count) left t h = cc

  make_fits : (f : ℕ) (todo : List ℕ) (s : Stand) (b : ℕ) (n : BucketNote) (left : List Gone) (t : Stand) → make w f todo s b n left ≡ Some t → Fits (granted f todo) t (on_bucket b n left)
  make_fits f todo s b (Found g e n run o) left t h = cc
  make_fits f todo s b (Missing g e n ended) left t h = cc
  make_fits f todo s b (Made g o) left t h =
      fit (granted f todo) _ t (on_bucket b (Made g o) left) 0 (one_if (is_needing o)) (only_some _ _ t h).1 (settle_owes (is_needing o) f s.batch todo) refl (omega arith)
  make_fits f todo s b (Refused g) left t h = cc
  make_fits f todo s b (Stored g) left t h = cc
  make_fits f todo s b (Stopped g) left t h = cc
  make_fits f todo s b (Closed g verdict run freed ended) left t h = cc
  make_fits f todo s b (Idle g verdict) left t h = cc
  make_fits f todo s b (Victim g run) left t h = cc
  make_fits f todo s b (AllInUse g count) left t h = cc
  make_fits f todo s b (Swept round e n count) left t h = cc
  make_fits f todo s b (Drained count) left t h = cc

  refuse_fits : (f : ℕ) (todo : List ℕ) (s : Stand) (b : ℕ) (n : BucketNote) (left : List Gone) (t : Stand) → refuse w f todo s b n left ≡ Some t → Fits (denied f todo) t (on_bucket b n left)
  refuse_fits f todo s b (Found g e n run o) left t h = cc
  refuse_fits f todo s b (Missing g e n ended) left t h = cc
  refuse_fits f todo s b (Made g o) left t h = cc
  refuse_fits f todo s b (Refused g) left t h = fit (denied f todo) _ t (on_bucket b (Refused g) left) 0 0 (only_some _ _ t h).1 (look_owes s.batch todo) refl refl
  refuse_fits f todo s b (Stored g) left t h = cc
  refuse_fits f todo s b (Stopped g) left t h = cc
  refuse_fits f todo s b (Closed g verdict run freed ended) left t h = cc
  refuse_fits f todo s b (Idle g verdict) left t h = cc
  refuse_fits f todo s b (Victim g run) left t h = cc
  refuse_fits f todo s b (AllInUse g count) left t h = cc
  refuse_fits f todo s b (Swept round e n count) left t h = cc
  refuse_fits f todo s b (Drained count) left t h = cc

  settle_fits : (f : ℕ) (had : Bool) (todo : List ℕ) (s : Stand) (b : ℕ) (n : BucketNote) (left : List Gone) (t : Stand) → settle w f had todo s b n left ≡ Some t
      → Fits (settling f had todo) t (on_bucket b n left)
  settle_fits f true todo s b (Found g e n run o) left t h = cc
  settle_fits f true todo s b (Missing g e n ended) left t h = cc
  settle_fits f true todo s b (Made g o) left t h = cc
  settle_fits f true todo s b (Refused g) left t h = cc
  settle_fits f true todo s b (Stored g) left t h = fit (settling f true todo) _ t (on_bucket b (Stored g) left) 0 0 (only_some _ _ t h).1 (look_owes s.batch todo) refl refl
  settle_fits f true todo s b (Stopped g) left t h = cc
  settle_fits f true todo s b (Closed g verdict run freed ended) left t h = cc
  settle_fits f true todo s b (Idle g verdict) left t h = cc
  settle_fits f true todo s b (Victim g run) left t h = cc
  settle_fits f true todo s b (AllInUse g count) left t h = cc
  settle_fits f true todo s b (Swept round e n count) left t h = cc
  settle_fits f true todo s b (Drained count) left t h = cc
  settle_fits f false todo s b (Found g e n run o) left t h = cc
  settle_fits f false todo s b (Missing g e n ended) left t h = cc
  settle_fits f false todo s b (Made g o) left t h = cc
  settle_fits f false todo s b (Refused g) left t h = cc
  settle_fits f false todo s b (Stored g) left t h = cc
  settle_fits f false todo s b (Stopped g) left t h = fit (settling f false todo) _ t (on_bucket b (Stopped g) left) 0 0 (only_some _ _ t h).1 (look_owes s.batch todo) refl refl
  settle_fits f false todo s b (Closed g verdict run freed ended) left t h = cc
  settle_fits f false todo s b (Idle g verdict) left t h = cc
  settle_fits f false todo s b (Victim g run) left t h = cc
  settle_fits f false todo s b (AllInUse g count) left t h = cc
  settle_fits f false todo s b (Swept round e n count) left t h = cc
  settle_fits f false todo s b (Drained count) left t h = cc

  close_fits : (f : ℕ) (todo : List ℕ) (s : Stand) (b : ℕ) (n : BucketNote) (left : List Gone) (t : Stand) → close w f todo s b n left ≡ Some t → Fits (closing (f ∷ todo)) t (on_bucket b n left)
  close_fits f todo s b (Found g e n run o) left t h = cc
  close_fits f todo s b (Missing g e n ended) left t h = cc
  close_fits f todo s b (Made g o) left t h = cc
  close_fits f todo s b (Refused g) left t h = cc
  close_fits f todo s b (Stored g) left t h = cc
  close_fits f todo s b (Stopped g) left t h = cc
  close_fits f todo s b (Closed g verdict run freed ended) left t h =
      fit (closing (f ∷ todo)) _ t (on_bucket b (Closed g verdict run freed ended) left) 0 0 (only_some _ _ t h).1 (free_owes (freed == 0) freed todo) refl refl
  close_fits f todo s b (Idle g verdict) left t h = fit (closing (f ∷ todo)) _ t (on_bucket b (Idle g verdict) left) 0 0 (only_some _ _ t h).1 (close_owes todo) refl refl
  close_fits f todo s b (Victim g run) left t h = cc
  close_fits f todo s b (AllInUse g count) left t h = cc
  close_fits f todo s b (Swept round e n count) left t h = cc
  close_fits f todo s b (Drained count) left t h = cc

  take_fits : (f : ℕ) (todo : List ℕ) (s : Stand) (n : PoolNote) (i : ℕ) (t : Stand) → take w f todo s n ≡ Some t → Fits (missed f todo) t (on_pool n i)
  take_fits f todo s (Took g) i t h = fit (missed f todo) _ t (on_pool (Took g) i) 1 0 (only_some _ _ t h).1 (refl, refl) refl refl
  take_fits f todo s (Full g n limit) i t h = fit (missed f todo) _ t (on_pool (Full g n limit) i) 1 0 (only_some _ _ t h).1 (takes_owes s.hand f todo) refl refl
  take_fits f todo s (Put run) i t h = cc
  take_fits f todo s (Turn run g) i t h = cc
  take_fits f todo s (Mode e) i t h = cc
  take_fits f todo s (Over round done) i t h = cc

  turn_fits : (f : ℕ) (todo : List ℕ) (s : Stand) (n : PoolNote) (i : ℕ) (t : Stand) → turn w f todo s n ≡ Some t → Fits (turning f todo) t (on_pool n i)
  turn_fits f todo s (Took g) i t h = cc
  turn_fits f todo s (Full g n limit) i t h = cc
  turn_fits f todo s (Put run) i t h = cc
  turn_fits f todo s (Turn run g) i t h = fit (turning f todo) _ t (on_pool (Turn run g) i) 1 0 (only_some _ _ t h).1 (refl, refl) refl refl
  turn_fits f todo s (Mode e) i t h = cc
  turn_fits f todo s (Over round done) i t h = cc

  begin_fits : (s : Stand) (n : PoolNote) (i : ℕ) (t : Stand) → begin w s n i ≡ Some t → Fits between t (on_pool n i)
  begin_fits s (Took g) i t h = cc
  begin_fits s (Full g n limit) i t h = cc
  begin_fits s (Put run) i t h = cc
  begin_fits s (Turn run g) i t h = cc
  begin_fits s (Mode e) i t h = fit between t t (on_pool (Mode e) i) 0 0 refl (batch_owes e i s.rounds s.hand s.hands t h) refl refl
  begin_fits s (Over round done) i t h = cc

  give_fits : (f : ℕ) (todo : List ℕ) (s : Stand) (n : SegNote) (t : Stand) → give w f todo s n ≡ Some t → Fits (turning f todo) t (on_segments n)
  give_fits f todo s (seg.Took g) t h = cc
  give_fits f todo s (seg.Full g n limit) t h = cc
  give_fits f todo s (seg.Gave n) t h = fit (turning f todo) _ t (on_segments (seg.Gave n)) 1 0 (only_some _ _ t h).1 (refl, refl) refl refl

  ask_fits : (f : ℕ) (todo : List ℕ) (s : Stand) (n : SegNote) (t : Stand) → ask w f todo s n ≡ Some t → Fits (asking f todo) t (on_segments n)
  ask_fits f todo s (seg.Took g) t h = fit (asking f todo) _ t (on_segments (seg.Took g)) 0 0 (only_some _ _ t h).1 (refl, refl) refl refl
  ask_fits f todo s (seg.Full g n limit) t h = fit (asking f todo) _ t (on_segments (seg.Full g n limit)) 0 0 (only_some _ _ t h).1 (refl, refl) refl refl
  ask_fits f todo s (seg.Gave n) t h = cc

  free_fits : (freed : ℕ) (todo : List ℕ) (s : Stand) (n : SegNote) (t : Stand) → free w freed todo s n ≡ Some t → Fits (freeing freed todo) t (on_segments n)
  free_fits freed todo s (seg.Took g) t h = cc
  free_fits freed todo s (seg.Full g n limit) t h = cc
  free_fits freed todo s (seg.Gave n) t h = fit (freeing freed todo) _ t (on_segments (seg.Gave n)) 0 0 (only_some _ _ t h).1 (close_owes todo) refl refl

  act_fits : (p : Stage) (s t : Stand) (act : Act) → step_at w 0 p s act ≡ Some t → Fits p t act
  act_fits between s t (on_pool n i) h = begin_fits s n i t h
  act_fits between s t (on_segments n) h = cc
  act_fits between s t (on_bucket b n left) h = cc
  act_fits (looking []) s t (on_pool n i) h = cc
  act_fits (looking []) s t (on_segments n) h = cc
  act_fits (looking []) s t (on_bucket b n left) h = cc
  act_fits (looking (f ∷ todo)) s t (on_pool n i) h = cc
  act_fits (looking (f ∷ todo)) s t (on_segments n) h = cc
  act_fits (looking (f ∷ todo)) s t (on_bucket b n left) h = look_fits f todo s b n left t h
  act_fits (missed f todo) s t (on_pool n i) h = take_fits f todo s n i t h
  act_fits (missed f todo) s t (on_segments n) h = cc
  act_fits (missed f todo) s t (on_bucket b n left) h = cc
  act_fits (evicting f k todo) s t (on_pool n i) h = cc
  act_fits (evicting f k todo) s t (on_segments n) h = cc
  act_fits (evicting f k todo) s t (on_bucket b n left) h = evict_fits f k todo s b n left t h
  act_fits (turning f todo) s t (on_pool n i) h = turn_fits f todo s n i t h
  act_fits (turning f todo) s t (on_segments n) h = give_fits f todo s n t h
  act_fits (turning f todo) s t (on_bucket b n left) h = cc
  act_fits (granted f todo) s t (on_pool n i) h = cc
  act_fits (granted f todo) s t (on_segments n) h = cc
  act_fits (granted f todo) s t (on_bucket b n left) h = make_fits f todo s b n left t h
  act_fits (denied f todo) s t (on_pool n i) h = cc
  act_fits (denied f todo) s t (on_segments n) h = cc
  act_fits (denied f todo) s t (on_bucket b n left) h = refuse_fits f todo s b n left t h
  act_fits (asking f todo) s t (on_pool n i) h = cc
  act_fits (asking f todo) s t (on_segments n) h = ask_fits f todo s n t h
  act_fits (asking f todo) s t (on_bucket b n left) h = cc
  act_fits (settling f had todo) s t (on_pool n i) h = cc
  act_fits (settling f had todo) s t (on_segments n) h = cc
  act_fits (settling f had todo) s t (on_bucket b n left) h = settle_fits f had todo s b n left t h
  act_fits (closing []) s t (on_pool n i) h = cc
  act_fits (closing []) s t (on_segments n) h = cc
  act_fits (closing []) s t (on_bucket b n left) h = cc
  act_fits (closing (f ∷ todo)) s t (on_pool n i) h = cc
  act_fits (closing (f ∷ todo)) s t (on_segments n) h = cc
  act_fits (closing (f ∷ todo)) s t (on_bucket b n left) h = close_fits f todo s b n left t h
  act_fits (freeing freed todo) s t (on_pool n i) h = cc
  act_fits (freeing freed todo) s t (on_segments n) h = free_fits freed todo s n t h
  act_fits (freeing freed todo) s t (on_bucket b n left) h = cc

  -- all steps so far
  record AllFit (t : Stand) (acts : List Act) : Type 0 where
    pub object : total asked_by acts ≡ total settled_by acts + owed_answer t.stage
    pub node : total wanted_by acts + owed_ask t.stage ≡ total needed_by acts

  fits_more : (o : Option Stand) (t : Stand) (act : Act) (acts : List Act) → moved w act o ≡ Some t → ((s : Stand) → o ≡ Some s → AllFit s acts) → AllFit t (act ∷ acts)
  fits_more None t act acts h k = cc
  fits_more (Some s) t act acts h k =
      let one = act_fits s.stage s t act (one_step w 0 s t act h) in
      let all = k s refl in
      record { object = omega (arith, one.object, all.object); node = omega (arith, one.node, all.node) }

  fits_all : (start : Stand) → AllFit start [] → (acts : List Act) (t : Stand) → stand_after w start acts ≡ Some t → AllFit t acts
  fits_all start k [] t h = let e : start ≡ t = cc in subst (λ (u : Stand). AllFit u []) e k
  fits_all start k (act ∷ acts) t h = fits_more (stand_after w start acts) t act acts h (λ x e. fits_all start k acts x e)

  -- the whole script of a worker
  pub worker_asks : (role : ℕ) (acts : List Act) (all : List (List Gone)) → ended (stand_after w (fresh (work_of w role)) acts) ≡ Some all
      → (total asked_by acts ≡ total settled_by acts) × (total wanted_by acts ≡ total needed_by acts)
  worker_asks role acts all h =
      let e = ended_some (stand_after w (fresh (work_of w role)) acts) all h in
      let k = fits_all (fresh (work_of w role)) (record { object = refl; node = refl }) acts e.0 e.1 in
      let a : owed_answer e.0.stage ≡ 0 = ap owed_answer e.2 in
      let n : owed_ask e.0.stage ≡ 0 = ap owed_ask e.2 in
      (omega (arith, k.object, a), omega (arith, k.node, n))
