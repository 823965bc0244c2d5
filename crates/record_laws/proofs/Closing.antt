-- What a worker closes: the frames of its work, in their order, each once, and each with the verdict on its packet. What is still to be closed
-- after an act is what was to be closed before it, without the frame that the act closes in front; so the frames closed so far and those still
-- to be closed are the whole work, which rises. One table for each stage; the rest is an induction on the acts.
use Rattle.std.proofs.Common.{◌≡◌, ℕ, ◌==◌, ◌+◌, ◌%◌, ◌<◌, nat_le, Bool, true, false, cond, ◌&&◌, if◌then◌else◌, List, [], ◌∷◌, ◌++◌, Option, Some, None, ◌⊎◌, ⊎_elim, inl, inr, refl, sym, ◌∙◌, ap, subst, arith, append_assoc}
use Rattle.bucket_laws.proofs.Falling.{NumbersFall, all_below}
use Rattle.bucket_laws.specs.Leaving.{Gone}
use Rattle.bucket_rules.specs.Own.{is_needing}
use Rattle.run_laws.proofs.Dealt.{Rising, flat, joined, work_rises}
use Rattle.run_laws.proofs.Notes.{notes_in}
use Rattle.run_laws.proofs.Scripting.{pending, rising_front}
use Rattle.run_laws.proofs.Sums.{both, same_number}
use Rattle.run_laws.proofs.Working.{one_step, only_some, step_at}
use Rattle.run_laws.specs.Setting.{IsSetup}
use Rattle.run_rules.specs.Acts.{Act, on_bucket, on_pool, on_segments}
use Rattle.run_rules.specs.Serving.{behind, emptied, front_holds, front_is}
use Rattle.run_rules.specs.Setup.{Setup, bucket_for, verdict_for, work_of}
use Rattle.run_rules.specs.Worker.{Stage, Stand, ask, asking, at, begin, between, close, close_on, closing, denied, evict, evicting, free, free_on, freeing, fresh, give, granted, held_at, is_for, is_read, look, look_on, looking, make, missed, moved, next_batch, refuse, same_app, settle, settle_on, settling, stand_after, take, takes_on, turn, turning}
use Rattle.suri_base.specs.declared.app.App.{App}
use Rattle.suri_base.specs.declared.app.App.TheVariants as app
use Rattle.suri_base.specs.declared.entry.BucketNote.{BucketNote}
use Rattle.suri_base.specs.declared.entry.BucketNote.TheVariants.{AllInUse, Closed, Drained, Found, Idle, Made, Missing, Refused, Stopped, Stored, Swept, Victim}
use Rattle.suri_base.specs.declared.entry.PoolNote.{PoolNote}
use Rattle.suri_base.specs.declared.entry.PoolNote.TheVariants.{Full, Mode, Over, Put, Took, Turn}
use Rattle.suri_base.specs.declared.entry.SegNote.{SegNote}
use Rattle.suri_base.specs.declared.entry.SegNote.TheVariants as seg

-- the frame that a note closes, if any
abbrev pub closed_by : BucketNote → List ℕ
closed_by (Closed f app' run freed ended) = f ∷ []
closed_by (Idle f app') = f ∷ []
closed_by _ = []

abbrev pub closed_on : Act → List ℕ
closed_on (on_bucket b n left) = closed_by n
closed_on (on_pool n i) = []
closed_on (on_segments n) = []

-- those of some notes, the newest first, and of all acts, the oldest first
abbrev pub closed_in : List BucketNote → List ℕ
closed_in [] = []
closed_in (n ∷ ns) = closed_by n ++ closed_in ns

abbrev pub all_closed : List Act → List ℕ
all_closed [] = []
all_closed (a ∷ acts) = all_closed acts ++ closed_on a

-- a close has the verdict on its packet
abbrev pub IsJudged : Setup → BucketNote → Type 0
IsJudged w (Closed f app' run freed ended) = app' ≡ verdict_for w f
IsJudged w _ = Unit {0}

abbrev pub IsJudgedOn : Setup → Act → Type 0
IsJudgedOn w (on_bucket b n left) = IsJudged w n
IsJudgedOn w (on_pool n i) = Unit {0}
IsJudgedOn w (on_segments n) = Unit {0}

abbrev pub AllJudged : Setup → List BucketNote → Type 0
AllJudged w [] = Unit {0}
AllJudged w (n ∷ ns) = IsJudged w n × AllJudged w ns

abbrev ActsJudged : Setup → List Act → Type 0
ActsJudged w [] = Unit {0}
ActsJudged w (a ∷ acts) = IsJudgedOn w a × ActsJudged w acts

-- one step, from this place of a stand
record ClosesNext (w : Setup) (p : Stage) (s t : Stand) (act : Act) : Type 0 where
  frames : pending w 0 p s.batch s.rounds ≡ closed_on act ++ pending w 0 t.stage t.batch t.rounds
  judged : IsJudgedOn w act

app_is : (a b : App) → same_app a b ≡ true → a ≡ b
app_is app.None app.None h = refl
app_is app.None app.Http h = cc
app_is app.None app.Tls h = cc
app_is app.None app.Ssh h = cc
app_is app.None app.Dns h = cc
app_is app.Http app.None h = cc
app_is app.Http app.Http h = refl
app_is app.Http app.Tls h = cc
app_is app.Http app.Ssh h = cc
app_is app.Http app.Dns h = cc
app_is app.Tls app.None h = cc
app_is app.Tls app.Http h = cc
app_is app.Tls app.Tls h = refl
app_is app.Tls app.Ssh h = cc
app_is app.Tls app.Dns h = cc
app_is app.Ssh app.None h = cc
app_is app.Ssh app.Http h = cc
app_is app.Ssh app.Tls h = cc
app_is app.Ssh app.Ssh h = refl
app_is app.Ssh app.Dns h = cc
app_is app.Dns app.None h = cc
app_is app.Dns app.Http h = cc
app_is app.Dns app.Tls h = cc
app_is app.Dns app.Ssh h = cc
app_is app.Dns app.Dns h = refl

module _ (w : Setup) where
  -- what is to be closed at the places that an act leads to

  look_waits : (batch todo : List ℕ) (rounds : List (List (List ℕ))) → pending w 0 (look_on batch todo) batch rounds ≡ batch ++ flat rounds
  look_waits batch [] rounds = refl
  look_waits batch (f ∷ todo) rounds = refl

  settle_waits : (b : Bool) (f : ℕ) (batch todo : List ℕ) (rounds : List (List (List ℕ))) → pending w 0 (settle_on b f batch todo) batch rounds ≡ batch ++ flat rounds
  settle_waits true f batch todo rounds = refl
  settle_waits false f batch todo rounds = look_waits batch todo rounds

  close_waits : (batch todo : List ℕ) (rounds : List (List (List ℕ))) → pending w 0 (close_on todo) batch rounds ≡ todo ++ flat rounds
  close_waits batch [] rounds = refl
  close_waits batch (f ∷ todo) rounds = refl

  free_waits : (b : Bool) (n : ℕ) (batch todo : List ℕ) (rounds : List (List (List ℕ))) → pending w 0 (cond b (close_on todo) (freeing n todo)) batch rounds ≡ todo ++ flat rounds
  free_waits true n batch todo rounds = close_waits batch todo rounds
  free_waits false n batch todo rounds = refl

  takes_waits : (hand : List Gone) (f : ℕ) (batch todo : List ℕ) (rounds : List (List (List ℕ))) → pending w 0 (takes_on hand f todo) batch rounds ≡ batch ++ flat rounds
  takes_waits [] f batch todo rounds = refl
  takes_waits (g ∷ hand) f batch todo rounds = refl

  evict_waits : (b : Bool) (f k : ℕ) (batch todo : List ℕ) (rounds : List (List (List ℕ))) → pending w 0 (cond b (denied f todo) (evicting f k todo)) batch rounds ≡ batch ++ flat rounds
  evict_waits true f k batch todo rounds = refl
  evict_waits false f k batch todo rounds = refl

  next_waits : (e : Bool) (n : ℕ) (rounds : List (List (List ℕ))) (hand : List Gone) (hands : List (List Gone)) (t : Stand) → next_batch e n rounds hand hands ≡ Some t
      → flat rounds ≡ pending w 0 t.stage t.batch t.rounds
  next_waits e n [] hand hands t h = cc
  next_waits e n ([] ∷ later) hand hands t h = next_waits e n later [] (hand ∷ hands) t h
  next_waits e n ((b ∷ bs) ∷ later) hand hands t h =
      let k : record { stage = look_on b b; batch = b; emergency = e; seen = n; rounds = bs ∷ later; hand = hand; hands = hands } ≡ t = cc in
      subst (λ (v : Stand). flat ((b ∷ bs) ∷ later) ≡ pending w 0 v.stage v.batch v.rounds) k
      (append_assoc b (joined bs) (flat later) ∙ sym (look_waits b b (bs ∷ later)))

  closes_front : (f b g : ℕ) (todo : List ℕ) (rounds : List (List (List ℕ))) (rest : List ℕ) → is_for w f b g ≡ true → rest ≡ todo ++ flat rounds
      → f ∷ (todo ++ flat rounds) ≡ g ∷ rest
  closes_front f b g todo rounds rest h e =
      ap (λ (x : ℕ). x ∷ (todo ++ flat rounds)) (sym (same_number g f (both (g == f) (b == bucket_for w f) h).0)) ∙ ap (λ (xs : List ℕ). g ∷ xs) (sym e)

  is_judged : (f b g : ℕ) (a : App) → (is_for w f b g && same_app a (verdict_for w f)) ≡ true → a ≡ verdict_for w g
  is_judged f b g a h =
      let k = both (is_for w f b g) (same_app a (verdict_for w f)) h in
      app_is a (verdict_for w f) k.1 ∙ ap (λ (x : ℕ). verdict_for w x) (sym (same_number g f (both (g == f) (b == bucket_for w f) k.0).0))

  look_closes : (f : ℕ) (todo : List ℕ) (s : Stand) (b : ℕ) (x : BucketNote) (left : List Gone) (t : Stand) → look w f todo s b x left ≡ Some t
      → ClosesNext w (looking (f ∷ todo)) s t (on_bucket b x left)
  look_closes f todo s b (Found g e n run o) left t h =
      let k = only_some (is_for w f b g && is_read w s e n) (held_at (settle_on (is_needing o) f s.batch todo) (s.hand ++ left) s) t h in
      subst (λ (v : Stand). ClosesNext w (looking (f ∷ todo)) s v (on_bucket b (Found g e n run o) left)) k.1
      (record { frames = sym (settle_waits (is_needing o) f s.batch todo s.rounds); judged = tt })
  look_closes f todo s b (Missing g e n ended) left t h =
      let k = only_some (is_for w f b g && is_read w s e n) (held_at (missed f todo) (s.hand ++ left) s) t h in
      subst (λ (v : Stand). ClosesNext w (looking (f ∷ todo)) s v (on_bucket b (Missing g e n ended) left)) k.1
      (record { frames = refl; judged = tt })
  look_closes f todo s b (Made g o) left t h = cc
  look_closes f todo s b (Refused g) left t h = cc
  look_closes f todo s b (Stored g) left t h = cc
  look_closes f todo s b (Stopped g) left t h = cc
  look_closes f todo s b (Closed g app' run freed ended) left t h = cc
  look_closes f todo s b (Idle g app') left t h = cc
  look_closes f todo s b (Victim g run) left t h = cc
  look_closes f todo s b (AllInUse g count) left t h = cc
  look_closes f todo s b (Swept round e n count) left t h = cc
  look_closes f todo s b (Drained count) left t h = cc

  evict_closes : (f k : ℕ) (todo : List ℕ) (s : Stand) (b : ℕ) (x : BucketNote) (left : List Gone) (t : Stand) → evict w f k todo s b x left ≡ Some t
      → ClosesNext w (evicting f k todo) s t (on_bucket b x left)
  evict_closes f k todo s b (Found g e n run o) left t h = cc
  evict_closes f k todo s b (Missing g e n ended) left t h = cc
  evict_closes f k todo s b (Made g o) left t h = cc
  evict_closes f k todo s b (Refused g) left t h = cc
  evict_closes f k todo s b (Stored g) left t h = cc
  evict_closes f k todo s b (Stopped g) left t h = cc
  evict_closes f k todo s b (Closed g app' run freed ended) left t h = cc
  evict_closes f k todo s b (Idle g app') left t h = cc
  evict_closes f k todo s b (Victim g run) left t h =
      let q = only_some ((g == f) && (b == (bucket_for w f + k) % w.layout.rows)) (held_at (turning f todo) (s.hand ++ left) s) t h in
      subst (λ (v : Stand). ClosesNext w (evicting f k todo) s v (on_bucket b (Victim g run) left)) q.1
      (record { frames = refl; judged = tt })
  evict_closes f k todo s b (AllInUse g count) left t h =
      let q = only_some ((g == f) && (b == (bucket_for w f + k) % w.layout.rows)) (held_at (if k + 1 == w.layout.rows then denied f todo else evicting f (k + 1) todo) (s.hand ++ left) s) t h in
      subst (λ (v : Stand). ClosesNext w (evicting f k todo) s v (on_bucket b (AllInUse g count) left)) q.1
      (record { frames = sym (evict_waits (k + 1 == w.layout.rows) f (k + 1) s.batch todo s.rounds); judged = tt })
  evict_closes f k todo s b (Swept round e n count) left t h = cc
  evict_closes f k todo s b (Drained count) left t h = cc

  make_closes : (f : ℕ) (todo : List ℕ) (s : Stand) (b : ℕ) (x : BucketNote) (left : List Gone) (t : Stand) → make w f todo s b x left ≡ Some t
      → ClosesNext w (granted f todo) s t (on_bucket b x left)
  make_closes f todo s b (Found g e n run o) left t h = cc
  make_closes f todo s b (Missing g e n ended) left t h = cc
  make_closes f todo s b (Made g o) left t h =
      let k = only_some (is_for w f b g) (held_at (settle_on (is_needing o) f s.batch todo) (s.hand ++ left) s) t h in
      subst (λ (v : Stand). ClosesNext w (granted f todo) s v (on_bucket b (Made g o) left)) k.1
      (record { frames = sym (settle_waits (is_needing o) f s.batch todo s.rounds); judged = tt })
  make_closes f todo s b (Refused g) left t h = cc
  make_closes f todo s b (Stored g) left t h = cc
  make_closes f todo s b (Stopped g) left t h = cc
  make_closes f todo s b (Closed g app' run freed ended) left t h = cc
  make_closes f todo s b (Idle g app') left t h = cc
  make_closes f todo s b (Victim g run) left t h = cc
  make_closes f todo s b (AllInUse g count) left t h = cc
  make_closes f todo s b (Swept round e n count) left t h = cc
  make_closes f todo s b (Drained count) left t h = cc

  refuse_closes : (f : ℕ) (todo : List ℕ) (s : Stand) (b : ℕ) (x : BucketNote) (left : List Gone) (t : Stand) → refuse w f todo s b x left ≡ Some t
      → ClosesNext w (denied f todo) s t (on_bucket b x left)
  refuse_closes f todo s b (Found g e n run o) left t h = cc
  refuse_closes f todo s b (Missing g e n ended) left t h = cc
  refuse_closes f todo s b (Made g o) left t h = cc
  refuse_closes f todo s b (Refused g) left t h =
      let k = only_some (is_for w f b g) (held_at (look_on s.batch todo) (s.hand ++ left) s) t h in
      subst (λ (v : Stand). ClosesNext w (denied f todo) s v (on_bucket b (Refused g) left)) k.1
      (record { frames = sym (look_waits s.batch todo s.rounds); judged = tt })
  refuse_closes f todo s b (Stored g) left t h = cc
  refuse_closes f todo s b (Stopped g) left t h = cc
  refuse_closes f todo s b (Closed g app' run freed ended) left t h = cc
  refuse_closes f todo s b (Idle g app') left t h = cc
  refuse_closes f todo s b (Victim g run) left t h = cc
  refuse_closes f todo s b (AllInUse g count) left t h = cc
  refuse_closes f todo s b (Swept round e n count) left t h = cc
  refuse_closes f todo s b (Drained count) left t h = cc

  settle_closes : (f : ℕ) (had : Bool) (todo : List ℕ) (s : Stand) (b : ℕ) (x : BucketNote) (left : List Gone) (t : Stand) → settle w f had todo s b x left ≡ Some t
      → ClosesNext w (settling f had todo) s t (on_bucket b x left)
  settle_closes f true todo s b (Found g e n run o) left t h = cc
  settle_closes f true todo s b (Missing g e n ended) left t h = cc
  settle_closes f true todo s b (Made g o) left t h = cc
  settle_closes f true todo s b (Refused g) left t h = cc
  settle_closes f true todo s b (Stored g) left t h =
      let k = only_some (is_for w f b g) (held_at (look_on s.batch todo) (s.hand ++ left) s) t h in
      subst (λ (v : Stand). ClosesNext w (settling f true todo) s v (on_bucket b (Stored g) left)) k.1
      (record { frames = sym (look_waits s.batch todo s.rounds); judged = tt })
  settle_closes f true todo s b (Stopped g) left t h = cc
  settle_closes f true todo s b (Closed g app' run freed ended) left t h = cc
  settle_closes f true todo s b (Idle g app') left t h = cc
  settle_closes f true todo s b (Victim g run) left t h = cc
  settle_closes f true todo s b (AllInUse g count) left t h = cc
  settle_closes f true todo s b (Swept round e n count) left t h = cc
  settle_closes f true todo s b (Drained count) left t h = cc
  settle_closes f false todo s b (Found g e n run o) left t h = cc
  settle_closes f false todo s b (Missing g e n ended) left t h = cc
  settle_closes f false todo s b (Made g o) left t h = cc
  settle_closes f false todo s b (Refused g) left t h = cc
  settle_closes f false todo s b (Stored g) left t h = cc
  settle_closes f false todo s b (Stopped g) left t h =
      let k = only_some (is_for w f b g) (held_at (look_on s.batch todo) (s.hand ++ left) s) t h in
      subst (λ (v : Stand). ClosesNext w (settling f false todo) s v (on_bucket b (Stopped g) left)) k.1
      (record { frames = sym (look_waits s.batch todo s.rounds); judged = tt })
  settle_closes f false todo s b (Closed g app' run freed ended) left t h = cc
  settle_closes f false todo s b (Idle g app') left t h = cc
  settle_closes f false todo s b (Victim g run) left t h = cc
  settle_closes f false todo s b (AllInUse g count) left t h = cc
  settle_closes f false todo s b (Swept round e n count) left t h = cc
  settle_closes f false todo s b (Drained count) left t h = cc

  close_closes : (f : ℕ) (todo : List ℕ) (s : Stand) (b : ℕ) (x : BucketNote) (left : List Gone) (t : Stand) → close w f todo s b x left ≡ Some t
      → ClosesNext w (closing (f ∷ todo)) s t (on_bucket b x left)
  close_closes f todo s b (Found g e n run o) left t h = cc
  close_closes f todo s b (Missing g e n ended) left t h = cc
  close_closes f todo s b (Made g o) left t h = cc
  close_closes f todo s b (Refused g) left t h = cc
  close_closes f todo s b (Stored g) left t h = cc
  close_closes f todo s b (Stopped g) left t h = cc
  close_closes f todo s b (Closed g app' run freed ended) left t h =
      let k = only_some (is_for w f b g && same_app app' (verdict_for w f)) (held_at (free_on freed todo) (s.hand ++ left) s) t h in
      subst (λ (v : Stand). ClosesNext w (closing (f ∷ todo)) s v (on_bucket b (Closed g app' run freed ended) left)) k.1
      (record {
        frames =
            closes_front f b g todo s.rounds (pending w 0 (free_on freed todo) s.batch s.rounds) (both (is_for w f b g) (same_app app' (verdict_for w f)) k.0).0
            (free_waits (freed == 0) freed s.batch todo s.rounds);
        judged = is_judged f b g app' k.0;
      })
  close_closes f todo s b (Idle g app') left t h =
      let k = only_some (is_for w f b g && same_app app' app.None) (held_at (close_on todo) (s.hand ++ left) s) t h in
      subst (λ (v : Stand). ClosesNext w (closing (f ∷ todo)) s v (on_bucket b (Idle g app') left)) k.1
      (record {
        frames =
            closes_front f b g todo s.rounds (pending w 0 (close_on todo) s.batch s.rounds) (both (is_for w f b g) (same_app app' app.None) k.0).0
            (close_waits s.batch todo s.rounds);
        judged = tt;
      })
  close_closes f todo s b (Victim g run) left t h = cc
  close_closes f todo s b (AllInUse g count) left t h = cc
  close_closes f todo s b (Swept round e n count) left t h = cc
  close_closes f todo s b (Drained count) left t h = cc

  take_closes : (f : ℕ) (todo : List ℕ) (s : Stand) (x : PoolNote) (i : ℕ) (t : Stand) → take w f todo s x ≡ Some t → ClosesNext w (missed f todo) s t (on_pool x i)
  take_closes f todo s (Took g) i t h =
      let k = only_some (g == f) (at (granted f todo) s) t h in
      subst (λ (v : Stand). ClosesNext w (missed f todo) s v (on_pool (Took g) i)) k.1 (record { frames = refl; judged = tt })
  take_closes f todo s (Full g n limit) i t h =
      let k = only_some (g == f) (at (takes_on s.hand f todo) s) t h in
      subst (λ (v : Stand). ClosesNext w (missed f todo) s v (on_pool (Full g n limit) i)) k.1 (record { frames = sym (takes_waits s.hand f s.batch todo s.rounds); judged = tt })
  take_closes f todo s (Put run) i t h = cc
  take_closes f todo s (Turn run g) i t h = cc
  take_closes f todo s (Mode e) i t h = cc
  take_closes f todo s (Over round done) i t h = cc

  turn_closes : (f : ℕ) (todo : List ℕ) (s : Stand) (x : PoolNote) (i : ℕ) (t : Stand) → turn w f todo s x ≡ Some t → ClosesNext w (turning f todo) s t (on_pool x i)
  turn_closes f todo s (Took g) i t h = cc
  turn_closes f todo s (Full g n limit) i t h = cc
  turn_closes f todo s (Put run) i t h = cc
  turn_closes f todo s (Turn run g) i t h =
      let k = only_some ((g == f) && front_is run s.hand) (held_at (granted f todo) (behind s.hand) s) t h in
      subst (λ (v : Stand). ClosesNext w (turning f todo) s v (on_pool (Turn run g) i)) k.1 (record { frames = refl; judged = tt })
  turn_closes f todo s (Mode e) i t h = cc
  turn_closes f todo s (Over round done) i t h = cc

  begin_closes : (s : Stand) (x : PoolNote) (i : ℕ) (t : Stand) → begin w s x i ≡ Some t → ClosesNext w (between) s t (on_pool x i)
  begin_closes s (Took g) i t h = cc
  begin_closes s (Full g n limit) i t h = cc
  begin_closes s (Put run) i t h = cc
  begin_closes s (Turn run g) i t h = cc
  begin_closes s (Mode e) i t h = record { frames = next_waits e i s.rounds s.hand s.hands t h; judged = tt }
  begin_closes s (Over round done) i t h = cc

  give_closes : (f : ℕ) (todo : List ℕ) (s : Stand) (x : SegNote) (t : Stand) → give w f todo s x ≡ Some t → ClosesNext w (turning f todo) s t (on_segments x)
  give_closes f todo s (seg.Took g) t h = cc
  give_closes f todo s (seg.Full g n limit) t h = cc
  give_closes f todo s (seg.Gave n) t h =
      let k = only_some (nat_le 1 n && front_holds n s.hand) (held_at (turning f todo) (emptied s.hand) s) t h in
      subst (λ (v : Stand). ClosesNext w (turning f todo) s v (on_segments (seg.Gave n))) k.1 (record { frames = refl; judged = tt })

  ask_closes : (f : ℕ) (todo : List ℕ) (s : Stand) (x : SegNote) (t : Stand) → ask w f todo s x ≡ Some t → ClosesNext w (asking f todo) s t (on_segments x)
  ask_closes f todo s (seg.Took g) t h =
      let k = only_some (g == f) (at (settling f true todo) s) t h in
      subst (λ (v : Stand). ClosesNext w (asking f todo) s v (on_segments (seg.Took g))) k.1 (record { frames = refl; judged = tt })
  ask_closes f todo s (seg.Full g n limit) t h =
      let k = only_some (g == f) (at (settling f false todo) s) t h in
      subst (λ (v : Stand). ClosesNext w (asking f todo) s v (on_segments (seg.Full g n limit))) k.1 (record { frames = refl; judged = tt })
  ask_closes f todo s (seg.Gave n) t h = cc

  free_closes : (m : ℕ) (todo : List ℕ) (s : Stand) (x : SegNote) (t : Stand) → free w m todo s x ≡ Some t → ClosesNext w (freeing m todo) s t (on_segments x)
  free_closes m todo s (seg.Took g) t h = cc
  free_closes m todo s (seg.Full g n limit) t h = cc
  free_closes m todo s (seg.Gave n) t h =
      let k = only_some (n == m) (at (close_on todo) s) t h in
      subst (λ (v : Stand). ClosesNext w (freeing m todo) s v (on_segments (seg.Gave n))) k.1 (record { frames = sym (close_waits s.batch todo s.rounds); judged = tt })

  act_closes : (p : Stage) (s t : Stand) (act : Act) → step_at w 0 p s act ≡ Some t → ClosesNext w p s t act
  act_closes between s t (on_pool n i) h = begin_closes s n i t h
  act_closes between s t (on_segments n) h = cc
  act_closes between s t (on_bucket b n left) h = cc
  act_closes (looking []) s t (on_pool n i) h = cc
  act_closes (looking []) s t (on_segments n) h = cc
  act_closes (looking []) s t (on_bucket b n left) h = cc
  act_closes (looking (f ∷ todo)) s t (on_pool n i) h = cc
  act_closes (looking (f ∷ todo)) s t (on_segments n) h = cc
  act_closes (looking (f ∷ todo)) s t (on_bucket b n left) h = look_closes f todo s b n left t h
  act_closes (missed f todo) s t (on_pool n i) h = take_closes f todo s n i t h
  act_closes (missed f todo) s t (on_segments n) h = cc
  act_closes (missed f todo) s t (on_bucket b n left) h = cc
  act_closes (evicting f k todo) s t (on_pool n i) h = cc
  act_closes (evicting f k todo) s t (on_segments n) h = cc
  act_closes (evicting f k todo) s t (on_bucket b n left) h = evict_closes f k todo s b n left t h
  act_closes (turning f todo) s t (on_pool n i) h = turn_closes f todo s n i t h
  act_closes (turning f todo) s t (on_segments n) h = give_closes f todo s n t h
  act_closes (turning f todo) s t (on_bucket b n left) h = cc
  act_closes (granted f todo) s t (on_pool n i) h = cc
  act_closes (granted f todo) s t (on_segments n) h = cc
  act_closes (granted f todo) s t (on_bucket b n left) h = make_closes f todo s b n left t h
  act_closes (denied f todo) s t (on_pool n i) h = cc
  act_closes (denied f todo) s t (on_segments n) h = cc
  act_closes (denied f todo) s t (on_bucket b n left) h = refuse_closes f todo s b n left t h
  act_closes (asking f todo) s t (on_pool n i) h = cc
  act_closes (asking f todo) s t (on_segments n) h = ask_closes f todo s n t h
  act_closes (asking f todo) s t (on_bucket b n left) h = cc
  act_closes (settling f had todo) s t (on_pool n i) h = cc
  act_closes (settling f had todo) s t (on_segments n) h = cc
  act_closes (settling f had todo) s t (on_bucket b n left) h = settle_closes f had todo s b n left t h
  act_closes (closing []) s t (on_pool n i) h = cc
  act_closes (closing []) s t (on_segments n) h = cc
  act_closes (closing []) s t (on_bucket b n left) h = cc
  act_closes (closing (f ∷ todo)) s t (on_pool n i) h = cc
  act_closes (closing (f ∷ todo)) s t (on_segments n) h = cc
  act_closes (closing (f ∷ todo)) s t (on_bucket b n left) h = close_closes f todo s b n left t h
  act_closes (freeing m todo) s t (on_pool n i) h = cc
  act_closes (freeing m todo) s t (on_segments n) h = free_closes m todo s n t h
  act_closes (freeing m todo) s t (on_bucket b n left) h = cc

  -- all acts of a worker

  record ClosedSoFar (role : ℕ) (t : Stand) (acts : List Act) : Type 0 where
    frames : flat (work_of w role) ≡ all_closed acts ++ pending w 0 t.stage t.batch t.rounds
    judged : ActsJudged w acts

  closed_more : (role : ℕ) (o : Option Stand) (t : Stand) (act : Act) (acts : List Act) → moved w act o ≡ Some t → ((s : Stand) → o ≡ Some s → ClosedSoFar role s acts)
      → ClosedSoFar role t (act ∷ acts)
  closed_more role None t act acts h k = cc
  closed_more role (Some s) t act acts h k =
      let all = k s refl in
      let one = act_closes s.stage s t act (one_step w 0 s t act h) in
      record {
        frames = all.frames ∙ (ap (λ (xs : List ℕ). all_closed acts ++ xs) one.frames ∙ sym (append_assoc (all_closed acts) (closed_on act) (pending w 0 t.stage t.batch t.rounds)));
        judged = (one.judged, all.judged);
      }

  closed_so_far : (role : ℕ) (acts : List Act) (t : Stand) → stand_after w (fresh (work_of w role)) acts ≡ Some t → ClosedSoFar role t acts
  closed_so_far role [] t h = let e : fresh (work_of w role) ≡ t = cc in subst (λ (x : Stand). ClosedSoFar role x []) e (record { frames = refl; judged = tt })
  closed_so_far role (act ∷ acts) t h = closed_more role (stand_after w (fresh (work_of w role)) acts) t act acts h (λ s e. closed_so_far role acts s e)

  -- the frames closed rise
  closed_rise : IsSetup w → (role : ℕ) (acts : List Act) (t : Stand) → stand_after w (fresh (work_of w role)) acts ≡ Some t → Rising 0 (all_closed acts)
  closed_rise d role acts t h =
      let k = closed_so_far role acts t h in
      rising_front 0 (all_closed acts) (pending w 0 t.stage t.batch t.rounds) (subst (Rising 0) k.frames (work_rises w role d))

-- from the acts to the notes on one bucket

below_left : (x : ℕ) (xs ys : List ℕ) → all_below x (xs ++ ys) → all_below x xs
below_left x [] ys h = tt
below_left x (y ∷ xs) ys h = (h.0, below_left x xs ys h.1)

pub below_right : (x : ℕ) (xs ys : List ℕ) → all_below x (xs ++ ys) → all_below x ys
below_right x [] ys h = h
below_right x (y ∷ xs) ys h = below_right x xs ys h.1

below_both : (x : ℕ) (xs ys : List ℕ) → all_below x xs → all_below x ys → all_below x (xs ++ ys)
below_both x [] ys h k = k
below_both x (y ∷ xs) ys h k = (h.0, below_both x xs ys h.1 k)

-- the last of rising numbers is above the others
rises_to : (low x : ℕ) (xs : List ℕ) → Rising low (xs ++ x ∷ []) → low < x
rises_to low x [] r = r.0
rises_to low x (y ∷ xs) r = let k = rises_to y x xs r.1 in omega (arith, r.0, k)

last_above : (low x : ℕ) (xs : List ℕ) → Rising low (xs ++ x ∷ []) → all_below x xs
last_above low x [] r = tt
last_above low x (y ∷ xs) r = (rises_to y x xs r.1, last_above y x xs r.1)

one_or_none : (n : BucketNote) → (closed_by n ≡ []) ⊎ ((f : ℕ) × (closed_by n ≡ f ∷ []))
one_or_none (Found f e n run o) = inl refl
one_or_none (Missing f e n ended) = inl refl
one_or_none (Made f o) = inl refl
one_or_none (Refused f) = inl refl
one_or_none (Stored f) = inl refl
one_or_none (Stopped f) = inl refl
one_or_none (Closed f app' run freed ended) = inr (f, refl)
one_or_none (Idle f app') = inr (f, refl)
one_or_none (Victim f run) = inl refl
one_or_none (AllInUse f count) = inl refl
one_or_none (Swept round e n count) = inl refl
one_or_none (Drained count) = inl refl

notes_below : (x b : ℕ) (acts : List Act) → all_below x (all_closed acts) → all_below x (closed_in (notes_in b acts))
notes_below x b [] h = tt
notes_below x b (on_pool n i ∷ acts) h = notes_below x b acts (below_left x (all_closed acts) [] h)
notes_below x b (on_segments n ∷ acts) h = notes_below x b acts (below_left x (all_closed acts) [] h)
notes_below x b (on_bucket c n left ∷ acts) h = by (c == b) (notes_below x b acts (below_left x (all_closed acts) (closed_by n) h))
  where
    by : (t : Bool) → all_below x (closed_in (notes_in b acts)) → all_below x (closed_in (cond t (n ∷ notes_in b acts) (notes_in b acts)))
    by true k = below_both x (closed_by n) (closed_in (notes_in b acts)) (below_right x (all_closed acts) (closed_by n) h) k
    by false k = k

notes_fall : (b low : ℕ) (acts : List Act) → Rising low (all_closed acts) → NumbersFall (closed_in (notes_in b acts))
notes_fall b low [] r = tt
notes_fall b low (on_pool n i ∷ acts) r = notes_fall b low acts (rising_front low (all_closed acts) [] r)
notes_fall b low (on_segments n ∷ acts) r = notes_fall b low acts (rising_front low (all_closed acts) [] r)
notes_fall b low (on_bucket c n left ∷ acts) r = by (c == b) (notes_fall b low acts (rising_front low (all_closed acts) (closed_by n) r))
  where
    by : (t : Bool) → NumbersFall (closed_in (notes_in b acts)) → NumbersFall (closed_in (cond t (n ∷ notes_in b acts) (notes_in b acts)))
    by true k = ⊎_elim
        (λ z. subst (λ (xs : List ℕ). NumbersFall (xs ++ closed_in (notes_in b acts))) (sym z) k)
        (λ z. subst (λ (xs : List ℕ). NumbersFall (xs ++ closed_in (notes_in b acts))) (sym z.1)
        (notes_below z.0 b acts (last_above low z.0 (all_closed acts) (subst (λ (xs : List ℕ). Rising low (all_closed acts ++ xs)) z.1 r)), k))
        (one_or_none n)
    by false k = k

notes_judged : (w : Setup) (b : ℕ) (acts : List Act) → ActsJudged w acts → AllJudged w (notes_in b acts)
notes_judged w b [] j = tt
notes_judged w b (on_pool n i ∷ acts) j = notes_judged w b acts j.1
notes_judged w b (on_segments n ∷ acts) j = notes_judged w b acts j.1
notes_judged w b (on_bucket c n left ∷ acts) j = by (c == b) (notes_judged w b acts j.1)
  where
    by : (t : Bool) → AllJudged w (notes_in b acts) → AllJudged w (cond t (n ∷ notes_in b acts) (notes_in b acts))
    by true k = (j.0, k)
    by false k = k

-- a worker closes frames on a bucket in file order, each with the verdict on its packet
pub record ClosesWell (w : Setup) (ns : List BucketNote) : Type 0 where
  pub fall : NumbersFall (closed_in ns)
  pub judged : AllJudged w ns

pub closes_well : (w : Setup) → IsSetup w → (role b : ℕ) (acts : List Act) (t : Stand) → stand_after w (fresh (work_of w role)) acts ≡ Some t → ClosesWell w (notes_in b acts)
closes_well w d role b acts t h =
    record { fall = notes_fall b 0 acts (closed_rise w d role acts t h); judged = notes_judged w b acts (closed_so_far w role acts t h).judged }
