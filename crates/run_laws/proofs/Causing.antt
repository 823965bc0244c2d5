-- Why a worker refuses and evicts, and which reading of the mode it uses: an induction on its acts, with one table for each stage. Where it
-- evicts or refuses, the newest acts are the answers of buckets in turn, and before them a Full; but between batches the last reading is the stand's.
use Rattle.std.proofs.Common.{◌≡◌, ℕ, suc, ◌==◌, ◌+◌, ◌%◌, nat_le, Bool, true, false, cond, ◌&&◌, if◌then◌else◌, List, [], ◌∷◌, ◌++◌, Option, Some, None, refl, sym, ◌∙◌, ap, subst, arith}
use Rattle.bucket_laws.proofs.Tests.{both}
use Rattle.bucket_laws.specs.Leaving.{Gone}
use Rattle.bucket_rules.specs.Own.{is_needing}
use Rattle.run_laws.proofs.Asking.{HasCause, WasAsked, last_reading}
use Rattle.run_laws.proofs.Sums.{same_number}
use Rattle.run_laws.proofs.Working.{one_step, only_some, step_at}
use Rattle.run_rules.specs.Acts.{Act, on_bucket, on_pool, on_segments}
use Rattle.run_rules.specs.Serving.{behind, emptied, front_holds, front_is}
use Rattle.run_rules.specs.Setup.{Setup, bucket_for, verdict_for, work_of}
use Rattle.run_rules.specs.Worker.{Stage, Stand, ask, asking, at, begin, between, close, close_on, closing, denied, evict, evicting, free, free_on, freeing, fresh, give, granted, held_at, is_for, is_read, look, look_on, looking, make, missed, moved, next_batch, refuse, same_app, settle, settle_on, settling, stand_after, take, takes_on, turn, turning}
use Rattle.suri_base.specs.Keys.{same_truth}
use Rattle.suri_base.specs.declared.entry.BucketNote.{BucketNote}
use Rattle.suri_base.specs.declared.entry.BucketNote.TheVariants.{AllInUse, Closed, Drained, Found, Idle, Made, Missing, Refused, Stopped, Stored, Swept, Victim}
use Rattle.suri_base.specs.declared.entry.PoolNote.{PoolNote}
use Rattle.suri_base.specs.declared.entry.PoolNote.TheVariants.{Full, Mode, Over, Put, Took, Turn}
use Rattle.suri_base.specs.declared.entry.SegNote.{SegNote}
use Rattle.suri_base.specs.declared.entry.SegNote.TheVariants as seg
use Rattle.suri_base.specs.declared.app.App.TheVariants as app

module _ (w : Setup) (role : ℕ) where
  -- what is known at a place
  abbrev pub AskedAt : Stage → List Act → Type 0
  AskedAt (evicting f k todo) acts = WasAsked w role f k acts
  AskedAt (denied f todo) acts = WasAsked w role f w.layout.rows acts
  AskedAt _ acts = Unit {0}

  pub record SoFar (p : Stage) (s : Stand) (acts : List Act) : Type 0 where
    pub asked : AskedAt p acts
    pub read : (p ≡ between → ⊥) → last_reading acts ≡ Some (record { on = s.emergency; seen = s.seen })

  look_asked : (batch todo : List ℕ) (acts : List Act) → AskedAt (look_on batch todo) acts
  look_asked batch [] acts = tt
  look_asked batch (f ∷ todo) acts = tt

  close_asked : (todo : List ℕ) (acts : List Act) → AskedAt (close_on todo) acts
  close_asked [] acts = tt
  close_asked (f ∷ todo) acts = tt

  settle_asked : (b : Bool) (f : ℕ) (batch todo : List ℕ) (acts : List Act) → AskedAt (settle_on b f batch todo) acts
  settle_asked true f batch todo acts = tt
  settle_asked false f batch todo acts = look_asked batch todo acts

  free_asked : (b : Bool) (n : ℕ) (todo : List ℕ) (acts : List Act) → AskedAt (cond b (close_on todo) (freeing n todo)) acts
  free_asked true n todo acts = close_asked todo acts
  free_asked false n todo acts = tt

  takes_asked : (s : Stand) (hand : List Gone) (f n limit i : ℕ) (todo : List ℕ) (acts : List Act) → s.hand ≡ hand → stand_after w (fresh (work_of w role)) acts ≡ Some s
      → AskedAt (takes_on hand f todo) (on_pool (Full f n limit) i ∷ acts)
  takes_asked s [] f n limit i todo acts h k = record { before = acts; out = n; limit = limit; place = i; tried = refl; stand = s; stood = k; empty = h }
  takes_asked s (g ∷ hand) f n limit i todo acts h k = tt

  one_asked : (f k b count : ℕ) (left : List Gone) (acts : List Act) → b ≡ (bucket_for w f + k) % w.layout.rows → WasAsked w role f k acts
      → WasAsked w role f (suc k) (on_bucket b (AllInUse f count) left ∷ acts)
  one_asked f k b count left acts h a = record { before = a.before; out = a.out; limit = a.limit; place = a.place; tried = ((refl, h), a.tried); stand = a.stand; stood = a.stood; empty = a.empty }

  more_asked : (f k b count : ℕ) (left : List Gone) (todo : List ℕ) (acts : List Act) → b ≡ (bucket_for w f + k) % w.layout.rows → WasAsked w role f k acts
      → (t : Bool) → (k + 1 == w.layout.rows) ≡ t → AskedAt (cond t (denied f todo) (evicting f (k + 1) todo)) (on_bucket b (AllInUse f count) left ∷ acts)
  more_asked f k b count left todo acts h a true e =
      let q : suc k ≡ w.layout.rows = omega (arith, same_number (k + 1) w.layout.rows e) in
      subst (λ (x : ℕ). WasAsked w role f x (on_bucket b (AllInUse f count) left ∷ acts)) q (one_asked f k b count left acts h a)
  more_asked f k b count left todo acts h a false e =
      let q : suc k ≡ k + 1 = omega arith in
      subst (λ (x : ℕ). WasAsked w role f x (on_bucket b (AllInUse f count) left ∷ acts)) q (one_asked f k b count left acts h a)

  next_read : (e : Bool) (n : ℕ) (rounds : List (List (List ℕ))) (hand : List Gone) (hands : List (List Gone)) (t : Stand) (acts : List Act) → next_batch e n rounds hand hands ≡ Some t
      → SoFar t.stage t (on_pool (Mode e) n ∷ acts)
  next_read e n [] hand hands t acts h = cc
  next_read e n ([] ∷ later) hand hands t acts h = next_read e n later [] (hand ∷ hands) t acts h
  next_read e n ((b ∷ bs) ∷ later) hand hands t acts h =
      let k : record { stage = look_on b b; batch = b; emergency = e; seen = n; rounds = bs ∷ later; hand = hand; hands = hands } ≡ t = cc in
      subst (λ (x : Stand). SoFar x.stage x (on_pool (Mode e) n ∷ acts)) k (record { asked = look_asked b b (on_pool (Mode e) n ∷ acts); read = λ x. refl })

  -- the same reading as before
  is_reading : (s : Stand) (e : Bool) (n : ℕ) (acts : List Act) → is_read w s e n ≡ true → last_reading acts ≡ Some (record { on = s.emergency; seen = s.seen })
      → last_reading acts ≡ Some (record { on = e; seen = n })
  is_reading s e n acts h k = let q = both (same_truth e s.emergency) (n == s.seen) h in
      k ∙ ap Some (ap (λ (x : Bool). record { on = x; seen = s.seen }) (sym (same_flag e s.emergency q.0)) ∙ ap (λ (x : ℕ). record { on = e; seen = x }) (sym (same_number n s.seen q.1)))
    where
      same_flag : (x y : Bool) → same_truth x y ≡ true → x ≡ y
      same_flag true true h = refl
      same_flag false false h = refl
      same_flag true false h = cc
      same_flag false true h = cc

  look_so : (f : ℕ) (todo : List ℕ) (s : Stand) (b : ℕ) (n : BucketNote) (left : List Gone) (t : Stand) (acts : List Act) → look w f todo s b n left ≡ Some t
      → SoFar (looking (f ∷ todo)) s acts → HasCause w role acts (on_bucket b n left) × SoFar t.stage t (on_bucket b n left ∷ acts)
  look_so f todo s b (Found g e n run o) left t acts h k =
      let z = only_some (is_for w f b g && is_read w s e n) (held_at (settle_on (is_needing o) f s.batch todo) (s.hand ++ left) s) t h in (
        is_reading s e n acts (both (is_for w f b g) (is_read w s e n) z.0).1 (k.read (λ y. cc)),
        subst
            (λ (x : Stand). SoFar x.stage x (on_bucket b (Found g e n run o) left ∷ acts)) z.1
            (record { asked = settle_asked (is_needing o) f s.batch todo (on_bucket b (Found g e n run o) left ∷ acts); read = λ x. k.read (λ y. cc) }),
      )
  look_so f todo s b (Missing g e n ended) left t acts h k =
      let z = only_some (is_for w f b g && is_read w s e n) (held_at (missed f todo) (s.hand ++ left) s) t h in (
        is_reading s e n acts (both (is_for w f b g) (is_read w s e n) z.0).1 (k.read (λ y. cc)),
        subst
            (λ (x : Stand). SoFar x.stage x (on_bucket b (Missing g e n ended) left ∷ acts)) z.1 (record { asked = tt; read = λ x. k.read (λ y. cc) }),
      )
  look_so f todo s b (Made g o) left t acts h k = cc
  look_so f todo s b (Refused g) left t acts h k = cc
  look_so f todo s b (Stored g) left t acts h k = cc
  look_so f todo s b (Stopped g) left t acts h k = cc
  look_so f todo s b (Closed g app' run freed ended) left t acts h k = cc
  look_so f todo s b (Idle g app') left t acts h k = cc
  look_so f todo s b (Victim g run) left t acts h k = cc
  look_so f todo s b (AllInUse g count) left t acts h k = cc
  look_so f todo s b (Swept round e n count) left t acts h k = cc
  look_so f todo s b (Drained count) left t acts h k = cc

  evict_so : (f i : ℕ) (todo : List ℕ) (s : Stand) (b : ℕ) (n : BucketNote) (left : List Gone) (t : Stand) (acts : List Act) → evict w f i todo s b n left ≡ Some t
      → SoFar (evicting f i todo) s acts → HasCause w role acts (on_bucket b n left) × SoFar t.stage t (on_bucket b n left ∷ acts)
  evict_so f i todo s b (Found g e n run o) left t acts h k = cc
  evict_so f i todo s b (Missing g e n ended) left t acts h k = cc
  evict_so f i todo s b (Made g o) left t acts h k = cc
  evict_so f i todo s b (Refused g) left t acts h k = cc
  evict_so f i todo s b (Stored g) left t acts h k = cc
  evict_so f i todo s b (Stopped g) left t acts h k = cc
  evict_so f i todo s b (Closed g app' run freed ended) left t acts h k = cc
  evict_so f i todo s b (Idle g app') left t acts h k = cc
  evict_so f i todo s b (Victim g run) left t acts h k =
      let z = only_some ((g == f) && (b == (bucket_for w f + i) % w.layout.rows)) (held_at (turning f todo) (s.hand ++ left) s) t h in
      let q : g ≡ f = same_number g f (both (g == f) (b == (bucket_for w f + i) % w.layout.rows) z.0).0 in (
        subst (λ (x : ℕ). (j : ℕ) × WasAsked w role x j acts) (sym q) (i, k.asked),
        subst
            (λ (x : Stand). SoFar x.stage x (on_bucket b (Victim g run) left ∷ acts)) z.1 (record { asked = tt; read = λ x. k.read (λ y. cc) }),
      )
  evict_so f i todo s b (AllInUse g count) left t acts h k =
      let z = only_some ((g == f) && (b == (bucket_for w f + i) % w.layout.rows)) (held_at (if i + 1 == w.layout.rows then denied f todo else evicting f (i + 1) todo) (s.hand ++ left) s) t h in
      let y = both (g == f) (b == (bucket_for w f + i) % w.layout.rows) z.0 in
      let q : g ≡ f = same_number g f y.0 in
      let r : b ≡ (bucket_for w f + i) % w.layout.rows = same_number b ((bucket_for w f + i) % w.layout.rows) y.1 in (
        tt,
        subst (λ (x : Stand). SoFar x.stage x (on_bucket b (AllInUse g count) left ∷ acts)) z.1 (record {
          asked = subst
              (λ (x : ℕ). AskedAt (cond (i + 1 == w.layout.rows) (denied f todo) (evicting f (i + 1) todo)) (on_bucket b (AllInUse x count) left ∷ acts)) (sym q)
              (more_asked f i b count left todo acts r k.asked (i + 1 == w.layout.rows) refl);
          read = λ x. k.read (λ y. cc);
        }),
      )
  evict_so f i todo s b (Swept round e n count) left t acts h k = cc
  evict_so f i todo s b (Drained count) left t acts h k = cc

  make_so : (f : ℕ) (todo : List ℕ) (s : Stand) (b : ℕ) (n : BucketNote) (left : List Gone) (t : Stand) (acts : List Act) → make w f todo s b n left ≡ Some t
      → SoFar (granted f todo) s acts → HasCause w role acts (on_bucket b n left) × SoFar t.stage t (on_bucket b n left ∷ acts)
  make_so f todo s b (Found g e n run o) left t acts h k = cc
  make_so f todo s b (Missing g e n ended) left t acts h k = cc
  make_so f todo s b (Made g o) left t acts h k =
      let z = only_some (is_for w f b g) (held_at (settle_on (is_needing o) f s.batch todo) (s.hand ++ left) s) t h in (
        tt,
        subst (λ (x : Stand). SoFar x.stage x (on_bucket b (Made g o) left ∷ acts)) z.1
            (record { asked = settle_asked (is_needing o) f s.batch todo (on_bucket b (Made g o) left ∷ acts); read = λ x. k.read (λ y. cc) }),
      )
  make_so f todo s b (Refused g) left t acts h k = cc
  make_so f todo s b (Stored g) left t acts h k = cc
  make_so f todo s b (Stopped g) left t acts h k = cc
  make_so f todo s b (Closed g app' run freed ended) left t acts h k = cc
  make_so f todo s b (Idle g app') left t acts h k = cc
  make_so f todo s b (Victim g run) left t acts h k = cc
  make_so f todo s b (AllInUse g count) left t acts h k = cc
  make_so f todo s b (Swept round e n count) left t acts h k = cc
  make_so f todo s b (Drained count) left t acts h k = cc

  refuse_so : (f : ℕ) (todo : List ℕ) (s : Stand) (b : ℕ) (n : BucketNote) (left : List Gone) (t : Stand) (acts : List Act) → refuse w f todo s b n left ≡ Some t
      → SoFar (denied f todo) s acts → HasCause w role acts (on_bucket b n left) × SoFar t.stage t (on_bucket b n left ∷ acts)
  refuse_so f todo s b (Found g e n run o) left t acts h k = cc
  refuse_so f todo s b (Missing g e n ended) left t acts h k = cc
  refuse_so f todo s b (Made g o) left t acts h k = cc
  refuse_so f todo s b (Refused g) left t acts h k =
      let z = only_some (is_for w f b g) (held_at (look_on s.batch todo) (s.hand ++ left) s) t h in
      let q : g ≡ f = same_number g f (both (g == f) (b == bucket_for w f) z.0).0 in (
        subst (λ (x : ℕ). WasAsked w role x w.layout.rows acts) (sym q) k.asked,
        subst (λ (x : Stand). SoFar x.stage x (on_bucket b (Refused g) left ∷ acts)) z.1
            (record { asked = look_asked s.batch todo (on_bucket b (Refused g) left ∷ acts); read = λ x. k.read (λ y. cc) }),
      )
  refuse_so f todo s b (Stored g) left t acts h k = cc
  refuse_so f todo s b (Stopped g) left t acts h k = cc
  refuse_so f todo s b (Closed g app' run freed ended) left t acts h k = cc
  refuse_so f todo s b (Idle g app') left t acts h k = cc
  refuse_so f todo s b (Victim g run) left t acts h k = cc
  refuse_so f todo s b (AllInUse g count) left t acts h k = cc
  refuse_so f todo s b (Swept round e n count) left t acts h k = cc
  refuse_so f todo s b (Drained count) left t acts h k = cc

  settle_so : (f : ℕ) (had : Bool) (todo : List ℕ) (s : Stand) (b : ℕ) (n : BucketNote) (left : List Gone) (t : Stand) (acts : List Act)
      → settle w f had todo s b n left ≡ Some t → SoFar (settling f had todo) s acts → HasCause w role acts (on_bucket b n left) × SoFar t.stage t (on_bucket b n left ∷ acts)
  settle_so f true todo s b (Found g e n run o) left t acts h k = cc
  settle_so f true todo s b (Missing g e n ended) left t acts h k = cc
  settle_so f true todo s b (Made g o) left t acts h k = cc
  settle_so f true todo s b (Refused g) left t acts h k = cc
  settle_so f true todo s b (Stored g) left t acts h k =
      let z = only_some (is_for w f b g) (held_at (look_on s.batch todo) (s.hand ++ left) s) t h in (
        tt,
        subst (λ (x : Stand). SoFar x.stage x (on_bucket b (Stored g) left ∷ acts)) z.1
            (record { asked = look_asked s.batch todo (on_bucket b (Stored g) left ∷ acts); read = λ x. k.read (λ y. cc) }),
      )
  settle_so f true todo s b (Stopped g) left t acts h k = cc
  settle_so f true todo s b (Closed g app' run freed ended) left t acts h k = cc
  settle_so f true todo s b (Idle g app') left t acts h k = cc
  settle_so f true todo s b (Victim g run) left t acts h k = cc
  settle_so f true todo s b (AllInUse g count) left t acts h k = cc
  settle_so f true todo s b (Swept round e n count) left t acts h k = cc
  settle_so f true todo s b (Drained count) left t acts h k = cc
  settle_so f false todo s b (Found g e n run o) left t acts h k = cc
  settle_so f false todo s b (Missing g e n ended) left t acts h k = cc
  settle_so f false todo s b (Made g o) left t acts h k = cc
  settle_so f false todo s b (Refused g) left t acts h k = cc
  settle_so f false todo s b (Stored g) left t acts h k = cc
  settle_so f false todo s b (Stopped g) left t acts h k =
      let z = only_some (is_for w f b g) (held_at (look_on s.batch todo) (s.hand ++ left) s) t h in (
        tt,
        subst (λ (x : Stand). SoFar x.stage x (on_bucket b (Stopped g) left ∷ acts)) z.1
            (record { asked = look_asked s.batch todo (on_bucket b (Stopped g) left ∷ acts); read = λ x. k.read (λ y. cc) }),
      )
  settle_so f false todo s b (Closed g app' run freed ended) left t acts h k = cc
  settle_so f false todo s b (Idle g app') left t acts h k = cc
  settle_so f false todo s b (Victim g run) left t acts h k = cc
  settle_so f false todo s b (AllInUse g count) left t acts h k = cc
  settle_so f false todo s b (Swept round e n count) left t acts h k = cc
  settle_so f false todo s b (Drained count) left t acts h k = cc

  close_so : (f : ℕ) (todo : List ℕ) (s : Stand) (b : ℕ) (n : BucketNote) (left : List Gone) (t : Stand) (acts : List Act) → close w f todo s b n left ≡ Some t
      → SoFar (closing (f ∷ todo)) s acts → HasCause w role acts (on_bucket b n left) × SoFar t.stage t (on_bucket b n left ∷ acts)
  close_so f todo s b (Found g e n run o) left t acts h k = cc
  close_so f todo s b (Missing g e n ended) left t acts h k = cc
  close_so f todo s b (Made g o) left t acts h k = cc
  close_so f todo s b (Refused g) left t acts h k = cc
  close_so f todo s b (Stored g) left t acts h k = cc
  close_so f todo s b (Stopped g) left t acts h k = cc
  close_so f todo s b (Closed g app' run freed ended) left t acts h k =
      let z = only_some (is_for w f b g && same_app app' (verdict_for w f)) (held_at (free_on freed todo) (s.hand ++ left) s) t h in (
        tt,
        subst (λ (x : Stand). SoFar x.stage x (on_bucket b (Closed g app' run freed ended) left ∷ acts)) z.1
            (record { asked = free_asked (freed == 0) freed todo (on_bucket b (Closed g app' run freed ended) left ∷ acts); read = λ x. k.read (λ y. cc) }),
      )
  close_so f todo s b (Idle g app') left t acts h k =
      let z = only_some (is_for w f b g && same_app app' app.None) (held_at (close_on todo) (s.hand ++ left) s) t h in (
        tt,
        subst (λ (x : Stand). SoFar x.stage x (on_bucket b (Idle g app') left ∷ acts)) z.1
            (record { asked = close_asked todo (on_bucket b (Idle g app') left ∷ acts); read = λ x. k.read (λ y. cc) }),
      )
  close_so f todo s b (Victim g run) left t acts h k = cc
  close_so f todo s b (AllInUse g count) left t acts h k = cc
  close_so f todo s b (Swept round e n count) left t acts h k = cc
  close_so f todo s b (Drained count) left t acts h k = cc

  take_so : (f : ℕ) (todo : List ℕ) (s : Stand) (n : PoolNote) (i : ℕ) (t : Stand) (acts : List Act) → take w f todo s n ≡ Some t
      → stand_after w (fresh (work_of w role)) acts ≡ Some s → SoFar (missed f todo) s acts → HasCause w role acts (on_pool n i) × SoFar t.stage t (on_pool n i ∷ acts)
  take_so f todo s (Took g) i t acts h u k =
      let z = only_some (g == f) (at (granted f todo) s) t h in
      (tt, subst (λ (x : Stand). SoFar x.stage x (on_pool (Took g) i ∷ acts)) z.1 (record { asked = tt; read = λ x. k.read (λ y. cc) }))
  take_so f todo s (Full g n limit) i t acts h u k =
      let z = only_some (g == f) (at (takes_on s.hand f todo) s) t h in
      let q : g ≡ f = same_number g f z.0 in (
        tt,
        subst (λ (x : Stand). SoFar x.stage x (on_pool (Full g n limit) i ∷ acts)) z.1 (record {
          asked = subst
              (λ (x : ℕ). AskedAt (takes_on s.hand f todo) (on_pool (Full x n limit) i ∷ acts)) (sym q)
              (takes_asked s s.hand f n limit i todo acts refl u);
          read = λ x. k.read (λ y. cc);
        }),
      )
  take_so f todo s (Put run) i t acts h u k = cc
  take_so f todo s (Turn run g) i t acts h u k = cc
  take_so f todo s (Mode e) i t acts h u k = cc
  take_so f todo s (Over round done) i t acts h u k = cc

  turn_so : (f : ℕ) (todo : List ℕ) (s : Stand) (n : PoolNote) (i : ℕ) (t : Stand) (acts : List Act) → turn w f todo s n ≡ Some t
      → stand_after w (fresh (work_of w role)) acts ≡ Some s → SoFar (turning f todo) s acts → HasCause w role acts (on_pool n i) × SoFar t.stage t (on_pool n i ∷ acts)
  turn_so f todo s (Took g) i t acts h u k = cc
  turn_so f todo s (Full g n limit) i t acts h u k = cc
  turn_so f todo s (Put run) i t acts h u k = cc
  turn_so f todo s (Turn run g) i t acts h u k =
      let z = only_some ((g == f) && front_is run s.hand) (held_at (granted f todo) (behind s.hand) s) t h in
      (tt, subst (λ (x : Stand). SoFar x.stage x (on_pool (Turn run g) i ∷ acts)) z.1 (record { asked = tt; read = λ x. k.read (λ y. cc) }))
  turn_so f todo s (Mode e) i t acts h u k = cc
  turn_so f todo s (Over round done) i t acts h u k = cc

  begin_so : (s : Stand) (n : PoolNote) (i : ℕ) (t : Stand) (acts : List Act) → begin w s n i ≡ Some t → stand_after w (fresh (work_of w role)) acts ≡ Some s
      → SoFar (between) s acts → HasCause w role acts (on_pool n i) × SoFar t.stage t (on_pool n i ∷ acts)
  begin_so s (Took g) i t acts h u k = cc
  begin_so s (Full g n limit) i t acts h u k = cc
  begin_so s (Put run) i t acts h u k = cc
  begin_so s (Turn run g) i t acts h u k = cc
  begin_so s (Mode e) i t acts h u k = (tt, next_read e i s.rounds s.hand s.hands t acts h)
  begin_so s (Over round done) i t acts h u k = cc

  give_so : (f : ℕ) (todo : List ℕ) (s : Stand) (n : SegNote) (t : Stand) (acts : List Act) → give w f todo s n ≡ Some t → SoFar (turning f todo) s acts
      → HasCause w role acts (on_segments n) × SoFar t.stage t (on_segments n ∷ acts)
  give_so f todo s (seg.Took g) t acts h k = cc
  give_so f todo s (seg.Full g n limit) t acts h k = cc
  give_so f todo s (seg.Gave n) t acts h k =
      let z = only_some (nat_le 1 n && front_holds n s.hand) (held_at (turning f todo) (emptied s.hand) s) t h in
      (tt, subst (λ (x : Stand). SoFar x.stage x (on_segments (seg.Gave n) ∷ acts)) z.1 (record { asked = tt; read = λ x. k.read (λ y. cc) }))

  ask_so : (f : ℕ) (todo : List ℕ) (s : Stand) (n : SegNote) (t : Stand) (acts : List Act) → ask w f todo s n ≡ Some t → SoFar (asking f todo) s acts
      → HasCause w role acts (on_segments n) × SoFar t.stage t (on_segments n ∷ acts)
  ask_so f todo s (seg.Took g) t acts h k =
      let z = only_some (g == f) (at (settling f true todo) s) t h in
      (tt, subst (λ (x : Stand). SoFar x.stage x (on_segments (seg.Took g) ∷ acts)) z.1 (record { asked = tt; read = λ x. k.read (λ y. cc) }))
  ask_so f todo s (seg.Full g n limit) t acts h k =
      let z = only_some (g == f) (at (settling f false todo) s) t h in
      (tt, subst (λ (x : Stand). SoFar x.stage x (on_segments (seg.Full g n limit) ∷ acts)) z.1 (record { asked = tt; read = λ x. k.read (λ y. cc) }))
  ask_so f todo s (seg.Gave n) t acts h k = cc

  free_so : (freed : ℕ) (todo : List ℕ) (s : Stand) (n : SegNote) (t : Stand) (acts : List Act) → free w freed todo s n ≡ Some t → SoFar (freeing freed todo) s acts
      → HasCause w role acts (on_segments n) × SoFar t.stage t (on_segments n ∷ acts)
  free_so freed todo s (seg.Took g) t acts h k = cc
  free_so freed todo s (seg.Full g n limit) t acts h k = cc
  free_so freed todo s (seg.Gave n) t acts h k =
      let z = only_some (n == freed) (at (close_on todo) s) t h in
      (tt, subst (λ (x : Stand). SoFar x.stage x (on_segments (seg.Gave n) ∷ acts)) z.1 (record { asked = close_asked todo (on_segments (seg.Gave n) ∷ acts); read = λ x. k.read (λ y. cc) }))

  act_so : (p : Stage) (s t : Stand) (act : Act) (acts : List Act) → step_at w 0 p s act ≡ Some t → stand_after w (fresh (work_of w role)) acts ≡ Some s → SoFar p s acts
      → HasCause w role acts act × SoFar t.stage t (act ∷ acts)
  act_so (between) s t (on_pool n i) acts h u k = begin_so s n i t acts h u k
  act_so (between) s t (on_segments n) acts h u k = cc
  act_so (between) s t (on_bucket b n left) acts h u k = cc
  act_so (looking []) s t (on_pool n i) acts h u k = cc
  act_so (looking []) s t (on_segments n) acts h u k = cc
  act_so (looking []) s t (on_bucket b n left) acts h u k = cc
  act_so (looking (f ∷ todo)) s t (on_pool n i) acts h u k = cc
  act_so (looking (f ∷ todo)) s t (on_segments n) acts h u k = cc
  act_so (looking (f ∷ todo)) s t (on_bucket b n left) acts h u k = look_so f todo s b n left t acts h k
  act_so (missed f todo) s t (on_pool n i) acts h u k = take_so f todo s n i t acts h u k
  act_so (missed f todo) s t (on_segments n) acts h u k = cc
  act_so (missed f todo) s t (on_bucket b n left) acts h u k = cc
  act_so (evicting f j todo) s t (on_pool n i) acts h u k = cc
  act_so (evicting f j todo) s t (on_segments n) acts h u k = cc
  act_so (evicting f j todo) s t (on_bucket b n left) acts h u k = evict_so f j todo s b n left t acts h k
  act_so (turning f todo) s t (on_pool n i) acts h u k = turn_so f todo s n i t acts h u k
  act_so (turning f todo) s t (on_segments n) acts h u k = give_so f todo s n t acts h k
  act_so (turning f todo) s t (on_bucket b n left) acts h u k = cc
  act_so (granted f todo) s t (on_pool n i) acts h u k = cc
  act_so (granted f todo) s t (on_segments n) acts h u k = cc
  act_so (granted f todo) s t (on_bucket b n left) acts h u k = make_so f todo s b n left t acts h k
  act_so (denied f todo) s t (on_pool n i) acts h u k = cc
  act_so (denied f todo) s t (on_segments n) acts h u k = cc
  act_so (denied f todo) s t (on_bucket b n left) acts h u k = refuse_so f todo s b n left t acts h k
  act_so (asking f todo) s t (on_pool n i) acts h u k = cc
  act_so (asking f todo) s t (on_segments n) acts h u k = ask_so f todo s n t acts h k
  act_so (asking f todo) s t (on_bucket b n left) acts h u k = cc
  act_so (settling f had todo) s t (on_pool n i) acts h u k = cc
  act_so (settling f had todo) s t (on_segments n) acts h u k = cc
  act_so (settling f had todo) s t (on_bucket b n left) acts h u k = settle_so f had todo s b n left t acts h k
  act_so (closing []) s t (on_pool n i) acts h u k = cc
  act_so (closing []) s t (on_segments n) acts h u k = cc
  act_so (closing []) s t (on_bucket b n left) acts h u k = cc
  act_so (closing (f ∷ todo)) s t (on_pool n i) acts h u k = cc
  act_so (closing (f ∷ todo)) s t (on_segments n) acts h u k = cc
  act_so (closing (f ∷ todo)) s t (on_bucket b n left) acts h u k = close_so f todo s b n left t acts h k
  act_so (freeing freed todo) s t (on_pool n i) acts h u k = cc
  act_so (freeing freed todo) s t (on_segments n) acts h u k = free_so freed todo s n t acts h k
  act_so (freeing freed todo) s t (on_bucket b n left) acts h u k = cc

  -- every act has its cause
  abbrev pub AllCaused : List Act → Type 0
  AllCaused [] = Unit {0}
  AllCaused (a ∷ before) = HasCause w role before a × AllCaused before

  caused_more : (o : Option Stand) (t : Stand) (act : Act) (acts : List Act) → stand_after w (fresh (work_of w role)) acts ≡ o → moved w act o ≡ Some t
      → ((s : Stand) → o ≡ Some s → AllCaused acts × SoFar s.stage s acts) → AllCaused (act ∷ acts) × SoFar t.stage t (act ∷ acts)
  caused_more None t act acts u h k = cc
  caused_more (Some s) t act acts u h k = let one = k s refl in let z = act_so s.stage s t act acts (one_step w 0 s t act h) u one.1 in ((z.0, one.0), z.1)

  pub caused : (acts : List Act) (t : Stand) → stand_after w (fresh (work_of w role)) acts ≡ Some t → AllCaused acts × SoFar t.stage t acts
  caused [] t h = let e : fresh (work_of w role) ≡ t = cc in (tt, subst (λ (x : Stand). SoFar x.stage x []) e (record { asked = tt; read = λ x. absurd (x refl) }))
  caused (act ∷ acts) t h = caused_more (stand_after w (fresh (work_of w role)) acts) t act acts refl h (λ x e. caused acts x e)
