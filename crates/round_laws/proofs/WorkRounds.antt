-- In which round a worker is. The frames of its batch and of its stage are of the round that it is in, and those to come are of this round and
-- of those after it. So each note on a bucket is of the round that the worker is in, which only rises.
use Rattle.std.proofs.Common.{◌≡◌, ℕ, zero, suc, ◌==◌, ◌+◌, ◌-◌, ◌<◌, ◌≤◌, ◌%◌, nat_le, ◌⊎◌, inl, inr, ⊎_elim, Bool, true, false, cond, ◌&&◌, if◌then◌else◌, List, [], ◌∷◌, ◌++◌, length, Option, Some, None, refl, sym, ◌∙◌, ap, subst, arith}
use Rattle.bucket_laws.proofs.Tests.{both}
use Rattle.bucket_laws.specs.Leaving.{Gone}
use Rattle.bucket_rules.specs.Own.{is_needing}
use Rattle.round_laws.proofs.Notes.{NoteOf, Notes, note_weaker, notes_weaker}
use Rattle.round_laws.specs.Rising.{round_in}
use Rattle.run_laws.proofs.Sums.{same_number}
use Rattle.run_laws.proofs.Using.{length_rounds}
use Rattle.run_laws.proofs.Working.{kept_all, one_step, only_some, step_at}
use Rattle.run_laws.specs.Measures.{count_hands, count_run, given_by, left_by, total}
use Rattle.run_rules.specs.Acts.{Act, on_bucket, on_pool, on_segments}
use Rattle.run_rules.specs.Rounds.{EndedRounds, ended_between, ended_with, hands_of}
use Rattle.run_rules.specs.Serving.{behind, emptied, front_holds, front_is}
use Rattle.run_rules.specs.Setup.{Setup, bucket_for, rounds, verdict_for, work_of}
use Rattle.run_rules.specs.Worker.{Stage, Stand, after_act, ask, asking, at, begin, between, close, close_on, closing, denied, evict, evicting, free, free_on, freeing, fresh, give, granted, held_at, is_for, is_read, look, look_on, looking, make, missed, moved, next_batch, refuse, same_app, settle, settle_on, settling, stand_after, take, takes_on, turn, turning}
use Rattle.step_laws.proofs.Rounds.{count_at}
use Rattle.suri_base.specs.Dealing.{round_of}
use Rattle.suri_base.specs.declared.app.App.TheVariants as app
use Rattle.suri_base.specs.declared.entry.BucketNote.{BucketNote}
use Rattle.suri_base.specs.declared.entry.BucketNote.TheVariants.{AllInUse, Closed, Drained, Found, Idle, Made, Missing, Refused, Stopped, Stored, Swept, Victim}
use Rattle.suri_base.specs.declared.entry.PoolNote.{PoolNote}
use Rattle.suri_base.specs.declared.entry.PoolNote.TheVariants.{Full, Mode, Over, Put, Took, Turn}
use Rattle.suri_base.specs.declared.entry.SegNote.{SegNote}
use Rattle.suri_base.specs.declared.entry.SegNote.TheVariants as seg

-- frames of round k, where a round has so many
abbrev pub AreOf : ℕ → ℕ → List ℕ → Type 0
AreOf size k [] = Unit {0}
AreOf size k (f ∷ fs) = (round_of f size ≡ k) × AreOf size k fs

-- batches of round k
abbrev pub BatchesOf : ℕ → ℕ → List (List ℕ) → Type 0
BatchesOf size k [] = Unit {0}
BatchesOf size k (b ∷ bs) = AreOf size k b × BatchesOf size k bs

-- the batches of rounds k, k + 1 and so on
abbrev pub RoundsFrom : ℕ → ℕ → List (List (List ℕ)) → Type 0
RoundsFrom size k [] = Unit {0}
RoundsFrom size k (bs ∷ later) = BatchesOf size k bs × RoundsFrom size (suc k) later

-- the frames of a stage are of round k
abbrev pub StageOf : ℕ → ℕ → Stage → Type 0
StageOf size k between = Unit {0}
StageOf size k (looking todo) = AreOf size k todo
StageOf size k (missed f todo) = AreOf size k (f ∷ todo)
StageOf size k (evicting f i todo) = AreOf size k (f ∷ todo)
StageOf size k (turning f todo) = AreOf size k (f ∷ todo)
StageOf size k (granted f todo) = AreOf size k (f ∷ todo)
StageOf size k (denied f todo) = AreOf size k (f ∷ todo)
StageOf size k (asking f todo) = AreOf size k (f ∷ todo)
StageOf size k (settling f had todo) = AreOf size k (f ∷ todo)
StageOf size k (closing todo) = AreOf size k todo
StageOf size k (freeing freed todo) = AreOf size k todo

-- what else the worker has to do is of round k and of those after it
abbrev pub Rest : Setup → ℕ → Stand → Type 0
Rest w k s = (k + length s.rounds ≡ rounds w) × AreOf w.layout.round k s.batch × RoundsFrom w.layout.round k s.rounds

-- the worker is in round k
pub record IsIn (w : Setup) (k : ℕ) (s : Stand) : Type 0 where
  pub stage : StageOf w.layout.round k s.stage
  pub rest : Rest w k s

-- an act in round k, after which the worker is in that round or a later one
record Goes (w : Setup) (k : ℕ) (t : Stand) (a : Act) : Type 0 where
  pub note : NoteOf (λ n. round_in w n ≡ k) a
  pub next : ℕ
  pub low : k ≤ next
  pub is_in : IsIn w next t

module _ (w : Setup) (k : ℕ) where
  abbrev Now : List ℕ → Type 0
  Now fs = AreOf w.layout.round k fs

  abbrev Stays : Stand → Act → Type 0
  Stays t a = NoteOf (λ n. round_in w n ≡ k) a × StageOf w.layout.round k t.stage × Rest w k t

  stay : (t : Stand) (a : Act) → Stays t a → Goes w k t a
  stay t a h = record { note = h.0; next = k; low = omega arith; is_in = record { stage = h.1; rest = h.2 } }

  look_stage : (batch todo : List ℕ) → Now batch → Now todo → StageOf w.layout.round k (look_on batch todo)
  look_stage batch [] b h = b
  look_stage batch (f ∷ todo) b h = h

  settle_stage : (x : Bool) (f : ℕ) (batch todo : List ℕ) → Now batch → Now (f ∷ todo) → StageOf w.layout.round k (settle_on x f batch todo)
  settle_stage true f batch todo b h = h
  settle_stage false f batch todo b h = look_stage batch todo b h.1

  close_stage : (todo : List ℕ) → Now todo → StageOf w.layout.round k (close_on todo)
  close_stage [] h = tt
  close_stage (f ∷ todo) h = h

  free_stage : (x : Bool) (freed : ℕ) (todo : List ℕ) → Now todo → StageOf w.layout.round k (cond x (close_on todo) (freeing freed todo))
  free_stage true freed todo h = close_stage todo h
  free_stage false freed todo h = h

  takes_stage : (hand : List Gone) (f : ℕ) (todo : List ℕ) → Now (f ∷ todo) → StageOf w.layout.round k (takes_on hand f todo)
  takes_stage [] f todo h = h
  takes_stage (g ∷ hand) f todo h = h

  evict_stage : (x : Bool) (f i : ℕ) (todo : List ℕ) → Now (f ∷ todo) → StageOf w.layout.round k (cond x (denied f todo) (evicting f i todo))
  evict_stage true f i todo h = h
  evict_stage false f i todo h = h

  named : (g f : ℕ) → (g == f) ≡ true → round_of f w.layout.round ≡ k → round_of g w.layout.round ≡ k
  named g f e h = ap (λ (x : ℕ). round_of x w.layout.round) (same_number g f e) ∙ h

  look_in : (f : ℕ) (todo : List ℕ) (s : Stand) (b : ℕ) (n : BucketNote) (left : List Gone) (t : Stand) → Now (f ∷ todo) → Rest w k s → look w f todo s b n left ≡ Some t → Stays t (on_bucket b n left)
  look_in f todo s b (Found g e n run o) left t here r h =
      let q = only_some (is_for w f b g && is_read w s e n) (held_at (settle_on (is_needing o) f s.batch todo) (s.hand ++ left) s) t h in
      subst (λ (x : Stand). Stays x (on_bucket b (Found g e n run o) left)) q.1 (named g f (both (g == f) (b == bucket_for w f) (both (is_for w f b g) (is_read w s e n) q.0).0).0 here.0, settle_stage (is_needing o) f s.batch todo r.1 here, r)
  look_in f todo s b (Missing g e n ended) left t here r h =
      let q = only_some (is_for w f b g && is_read w s e n) (held_at (missed f todo) (s.hand ++ left) s) t h in
      subst (λ (x : Stand). Stays x (on_bucket b (Missing g e n ended) left)) q.1 (named g f (both (g == f) (b == bucket_for w f) (both (is_for w f b g) (is_read w s e n) q.0).0).0 here.0, here, r)
  look_in f todo s b (Made g o) left t here r h = cc
  look_in f todo s b (Refused g) left t here r h = cc
  look_in f todo s b (Stored g) left t here r h = cc
  look_in f todo s b (Stopped g) left t here r h = cc
  look_in f todo s b (Closed g verdict run freed ended) left t here r h = cc
  look_in f todo s b (Idle g verdict) left t here r h = cc
  look_in f todo s b (Victim g run) left t here r h = cc
  look_in f todo s b (AllInUse g count) left t here r h = cc
  look_in f todo s b (Swept round e n count) left t here r h = cc
  look_in f todo s b (Drained count) left t here r h = cc

  evict_in : (f i : ℕ) (todo : List ℕ) (s : Stand) (b : ℕ) (n : BucketNote) (left : List Gone) (t : Stand) → Now (f ∷ todo) → Rest w k s → evict w f i todo s b n left ≡ Some t → Stays t (on_bucket b n left)
  evict_in f i todo s b (Found g e n run o) left t here r h = cc
  evict_in f i todo s b (Missing g e n ended) left t here r h = cc
  evict_in f i todo s b (Made g o) left t here r h = cc
  evict_in f i todo s b (Refused g) left t here r h = cc
  evict_in f i todo s b (Stored g) left t here r h = cc
  evict_in f i todo s b (Stopped g) left t here r h = cc
  evict_in f i todo s b (Closed g verdict run freed ended) left t here r h = cc
  evict_in f i todo s b (Idle g verdict) left t here r h = cc
  evict_in f i todo s b (Victim g run) left t here r h =
      let q = only_some ((g == f) && (b == (bucket_for w f + i) % w.layout.rows)) (held_at (turning f todo) (s.hand ++ left) s) t h in
      subst (λ (x : Stand). Stays x (on_bucket b (Victim g run) left)) q.1 (named g f (both (g == f) (b == (bucket_for w f + i) % w.layout.rows) q.0).0 here.0, here, r)
  evict_in f i todo s b (AllInUse g count) left t here r h =
      let q = only_some ((g == f) && (b == (bucket_for w f + i) % w.layout.rows)) (held_at (if i + 1 == w.layout.rows then denied f todo else evicting f (i + 1) todo) (s.hand ++ left) s) t h in
      subst (λ (x : Stand). Stays x (on_bucket b (AllInUse g count) left)) q.1 (named g f (both (g == f) (b == (bucket_for w f + i) % w.layout.rows) q.0).0 here.0, evict_stage (i + 1 == w.layout.rows) f (i + 1) todo here, r)
  evict_in f i todo s b (Swept round e n count) left t here r h = cc
  evict_in f i todo s b (Drained count) left t here r h = cc

  make_in : (f : ℕ) (todo : List ℕ) (s : Stand) (b : ℕ) (n : BucketNote) (left : List Gone) (t : Stand) → Now (f ∷ todo) → Rest w k s → make w f todo s b n left ≡ Some t → Stays t (on_bucket b n left)
  make_in f todo s b (Found g e n run o) left t here r h = cc
  make_in f todo s b (Missing g e n ended) left t here r h = cc
  make_in f todo s b (Made g o) left t here r h =
      let q = only_some (is_for w f b g) (held_at (settle_on (is_needing o) f s.batch todo) (s.hand ++ left) s) t h in
      subst (λ (x : Stand). Stays x (on_bucket b (Made g o) left)) q.1 (named g f (both (g == f) (b == bucket_for w f) q.0).0 here.0, settle_stage (is_needing o) f s.batch todo r.1 here, r)
  make_in f todo s b (Refused g) left t here r h = cc
  make_in f todo s b (Stored g) left t here r h = cc
  make_in f todo s b (Stopped g) left t here r h = cc
  make_in f todo s b (Closed g verdict run freed ended) left t here r h = cc
  make_in f todo s b (Idle g verdict) left t here r h = cc
  make_in f todo s b (Victim g run) left t here r h = cc
  make_in f todo s b (AllInUse g count) left t here r h = cc
  make_in f todo s b (Swept round e n count) left t here r h = cc
  make_in f todo s b (Drained count) left t here r h = cc

  refuse_in : (f : ℕ) (todo : List ℕ) (s : Stand) (b : ℕ) (n : BucketNote) (left : List Gone) (t : Stand) → Now (f ∷ todo) → Rest w k s → refuse w f todo s b n left ≡ Some t → Stays t (on_bucket b n left)
  refuse_in f todo s b (Found g e n run o) left t here r h = cc
  refuse_in f todo s b (Missing g e n ended) left t here r h = cc
  refuse_in f todo s b (Made g o) left t here r h = cc
  refuse_in f todo s b (Refused g) left t here r h =
      let q = only_some (is_for w f b g) (held_at (look_on s.batch todo) (s.hand ++ left) s) t h in
      subst (λ (x : Stand). Stays x (on_bucket b (Refused g) left)) q.1 (named g f (both (g == f) (b == bucket_for w f) q.0).0 here.0, look_stage s.batch todo r.1 here.1, r)
  refuse_in f todo s b (Stored g) left t here r h = cc
  refuse_in f todo s b (Stopped g) left t here r h = cc
  refuse_in f todo s b (Closed g verdict run freed ended) left t here r h = cc
  refuse_in f todo s b (Idle g verdict) left t here r h = cc
  refuse_in f todo s b (Victim g run) left t here r h = cc
  refuse_in f todo s b (AllInUse g count) left t here r h = cc
  refuse_in f todo s b (Swept round e n count) left t here r h = cc
  refuse_in f todo s b (Drained count) left t here r h = cc

  close_in : (f : ℕ) (todo : List ℕ) (s : Stand) (b : ℕ) (n : BucketNote) (left : List Gone) (t : Stand) → Now (f ∷ todo) → Rest w k s → close w f todo s b n left ≡ Some t → Stays t (on_bucket b n left)
  close_in f todo s b (Found g e n run o) left t here r h = cc
  close_in f todo s b (Missing g e n ended) left t here r h = cc
  close_in f todo s b (Made g o) left t here r h = cc
  close_in f todo s b (Refused g) left t here r h = cc
  close_in f todo s b (Stored g) left t here r h = cc
  close_in f todo s b (Stopped g) left t here r h = cc
  close_in f todo s b (Closed g verdict run freed ended) left t here r h =
      let q = only_some (is_for w f b g && same_app verdict (verdict_for w f)) (held_at (free_on freed todo) (s.hand ++ left) s) t h in
      subst (λ (x : Stand). Stays x (on_bucket b (Closed g verdict run freed ended) left)) q.1 (named g f (both (g == f) (b == bucket_for w f) (both (is_for w f b g) (same_app verdict (verdict_for w f)) q.0).0).0 here.0, free_stage (freed == 0) freed todo here.1, r)
  close_in f todo s b (Idle g verdict) left t here r h =
      let q = only_some (is_for w f b g && same_app verdict app.None) (held_at (close_on todo) (s.hand ++ left) s) t h in
      subst (λ (x : Stand). Stays x (on_bucket b (Idle g verdict) left)) q.1 (named g f (both (g == f) (b == bucket_for w f) (both (is_for w f b g) (same_app verdict app.None) q.0).0).0 here.0, close_stage todo here.1, r)
  close_in f todo s b (Victim g run) left t here r h = cc
  close_in f todo s b (AllInUse g count) left t here r h = cc
  close_in f todo s b (Swept round e n count) left t here r h = cc
  close_in f todo s b (Drained count) left t here r h = cc

  settle_in : (f : ℕ) (had : Bool) (todo : List ℕ) (s : Stand) (b : ℕ) (n : BucketNote) (left : List Gone) (t : Stand) → Now (f ∷ todo) → Rest w k s → settle w f had todo s b n left ≡ Some t → Stays t (on_bucket b n left)
  settle_in f true todo s b (Found g e n run o) left t here r h = cc
  settle_in f true todo s b (Missing g e n ended) left t here r h = cc
  settle_in f true todo s b (Made g o) left t here r h = cc
  settle_in f true todo s b (Refused g) left t here r h = cc
  settle_in f true todo s b (Stored g) left t here r h =
      let q = only_some (is_for w f b g) (held_at (look_on s.batch todo) (s.hand ++ left) s) t h in
      subst (λ (x : Stand). Stays x (on_bucket b (Stored g) left)) q.1 (named g f (both (g == f) (b == bucket_for w f) q.0).0 here.0, look_stage s.batch todo r.1 here.1, r)
  settle_in f true todo s b (Stopped g) left t here r h = cc
  settle_in f true todo s b (Closed g verdict run freed ended) left t here r h = cc
  settle_in f true todo s b (Idle g verdict) left t here r h = cc
  settle_in f true todo s b (Victim g run) left t here r h = cc
  settle_in f true todo s b (AllInUse g count) left t here r h = cc
  settle_in f true todo s b (Swept round e n count) left t here r h = cc
  settle_in f true todo s b (Drained count) left t here r h = cc
  settle_in f false todo s b (Found g e n run o) left t here r h = cc
  settle_in f false todo s b (Missing g e n ended) left t here r h = cc
  settle_in f false todo s b (Made g o) left t here r h = cc
  settle_in f false todo s b (Refused g) left t here r h = cc
  settle_in f false todo s b (Stored g) left t here r h = cc
  settle_in f false todo s b (Stopped g) left t here r h =
      let q = only_some (is_for w f b g) (held_at (look_on s.batch todo) (s.hand ++ left) s) t h in
      subst (λ (x : Stand). Stays x (on_bucket b (Stopped g) left)) q.1 (named g f (both (g == f) (b == bucket_for w f) q.0).0 here.0, look_stage s.batch todo r.1 here.1, r)
  settle_in f false todo s b (Closed g verdict run freed ended) left t here r h = cc
  settle_in f false todo s b (Idle g verdict) left t here r h = cc
  settle_in f false todo s b (Victim g run) left t here r h = cc
  settle_in f false todo s b (AllInUse g count) left t here r h = cc
  settle_in f false todo s b (Swept round e n count) left t here r h = cc
  settle_in f false todo s b (Drained count) left t here r h = cc

  take_in : (f : ℕ) (todo : List ℕ) (s : Stand) (n : PoolNote) (i : ℕ) (t : Stand) → Now (f ∷ todo) → Rest w k s → take w f todo s n ≡ Some t → Stays t (on_pool n i)
  take_in f todo s (Took g) i t here r h = let q = only_some (g == f) (at (granted f todo) s) t h in subst (λ (x : Stand). Stays x (on_pool (Took g) i)) q.1 (tt, here, r)
  take_in f todo s (Full g n limit) i t here r h =
      let q = only_some (g == f) (at (takes_on s.hand f todo) s) t h in subst (λ (x : Stand). Stays x (on_pool (Full g n limit) i)) q.1 (tt, takes_stage s.hand f todo here, r)
  take_in f todo s (Put run) i t here r h = cc
  take_in f todo s (Turn run g) i t here r h = cc
  take_in f todo s (Mode e) i t here r h = cc
  take_in f todo s (Over round done) i t here r h = cc

  turn_in : (f : ℕ) (todo : List ℕ) (s : Stand) (n : PoolNote) (i : ℕ) (t : Stand) → Now (f ∷ todo) → Rest w k s → turn w f todo s n ≡ Some t → Stays t (on_pool n i)
  turn_in f todo s (Turn run g) i t here r h =
      let q = only_some ((g == f) && front_is run s.hand) (held_at (granted f todo) (behind s.hand) s) t h in subst (λ (x : Stand). Stays x (on_pool (Turn run g) i)) q.1 (tt, here, r)
  turn_in f todo s (Took g) i t here r h = cc
  turn_in f todo s (Full g n limit) i t here r h = cc
  turn_in f todo s (Put run) i t here r h = cc
  turn_in f todo s (Mode e) i t here r h = cc
  turn_in f todo s (Over round done) i t here r h = cc

  give_in : (f : ℕ) (todo : List ℕ) (s : Stand) (n : SegNote) (t : Stand) → Now (f ∷ todo) → Rest w k s → give w f todo s n ≡ Some t → Stays t (on_segments n)
  give_in f todo s (seg.Gave n) t here r h =
      let q = only_some (nat_le 1 n && front_holds n s.hand) (held_at (turning f todo) (emptied s.hand) s) t h in subst (λ (x : Stand). Stays x (on_segments (seg.Gave n))) q.1 (tt, here, r)
  give_in f todo s (seg.Took g) t here r h = cc
  give_in f todo s (seg.Full g n limit) t here r h = cc

  ask_in : (f : ℕ) (todo : List ℕ) (s : Stand) (n : SegNote) (t : Stand) → Now (f ∷ todo) → Rest w k s → ask w f todo s n ≡ Some t → Stays t (on_segments n)
  ask_in f todo s (seg.Took g) t here r h = let q = only_some (g == f) (at (settling f true todo) s) t h in subst (λ (x : Stand). Stays x (on_segments (seg.Took g))) q.1 (tt, here, r)
  ask_in f todo s (seg.Full g n limit) t here r h =
      let q = only_some (g == f) (at (settling f false todo) s) t h in subst (λ (x : Stand). Stays x (on_segments (seg.Full g n limit))) q.1 (tt, here, r)
  ask_in f todo s (seg.Gave n) t here r h = cc

  free_in : (freed : ℕ) (todo : List ℕ) (s : Stand) (n : SegNote) (t : Stand) → Now todo → Rest w k s → free w freed todo s n ≡ Some t → Stays t (on_segments n)
  free_in freed todo s (seg.Gave n) t here r h =
      let q = only_some (n == freed) (at (close_on todo) s) t h in subst (λ (x : Stand). Stays x (on_segments (seg.Gave n))) q.1 (tt, close_stage todo here, r)
  free_in freed todo s (seg.Took g) t here r h = cc
  free_in freed todo s (seg.Full g n limit) t here r h = cc

-- the next batch is of the first round that has one; it is no round that was ended
record Begun (w : Setup) (k : ℕ) (rounds_left : List (List (List ℕ))) (hand : List Gone) (hands : List (List Gone)) (t : Stand) : Type 0 where
  pub next : ℕ
  pub low : k ≤ next
  pub is_in : IsIn w next t
  pub beyond : (m : ℕ) (all : List (List Gone)) → ended_with m rounds_left hand hands ≡ Some all → rounds w ≤ next + m

begins : (w : Setup) (k : ℕ) (e : Bool) (n : ℕ) (left : List (List (List ℕ))) (hand : List Gone) (hands : List (List Gone)) (t : Stand) → next_batch e n left hand hands ≡ Some t
    → k + length left ≡ rounds w → RoundsFrom w.layout.round k left → Begun w k left hand hands t
begins w k e n [] hand hands t h count of = cc
begins w k e n ([] ∷ later) hand hands t h count of =
    let x = begins w (suc k) e n later [] (hand ∷ hands) t h (omega (arith, count)) of.1 in
    record { next = x.next; low = omega (arith, x.low); is_in = x.is_in; beyond = λ m all q. by m all x.low (x.beyond m all) (length later == m) refl q }
  where
    by : (m : ℕ) (all : List (List Gone)) {next : ℕ} → suc k ≤ next → (ended_with m later [] (hand ∷ hands) ≡ Some all → rounds w ≤ next + m) → (t : Bool) → (length later == m) ≡ t
        → cond t (Some (hand ∷ hands)) (ended_with m later [] (hand ∷ hands)) ≡ Some all → rounds w ≤ next + m
    by m all {next} low more true q r = let z = same_number (length later) m q in omega (arith, z, low, count)
    by m all {next} low more false q r = more r
begins w k e n ((b ∷ bs) ∷ later) hand hands t h count of =
    let is : record { stage = look_on b b; batch = b; emergency = e; seen = n; rounds = bs ∷ later; hand = hand; hands = hands } ≡ t = cc in
    record {
      next = k;
      low = omega arith;
      is_in = subst (λ (x : Stand). IsIn w k x) is (record { stage = look_stage w k b b of.0.0 of.0.0; rest = (omega (arith, count), of.0.0, (of.0.1, of.1)) });
      beyond = λ m all q. cc;
    }

-- a worker between two batches takes the next one
module _ (w : Setup) (k : ℕ) (s : Stand) (r : Rest w k s) where
  begin_in : (n : PoolNote) (i : ℕ) (t : Stand) → begin w s n i ≡ Some t → Begun w k s.rounds s.hand s.hands t
  begin_in (Mode e) i t h = begins w k e i s.rounds s.hand s.hands t h r.0 r.2
  begin_in (Took g) i t h = cc
  begin_in (Full g n limit) i t h = cc
  begin_in (Put run) i t h = cc
  begin_in (Turn run g) i t h = cc
  begin_in (Over round done) i t h = cc

  goes_next : (n : PoolNote) (i : ℕ) (t : Stand) → begin w s n i ≡ Some t → Goes w k t (on_pool n i)
  goes_next n i t h = let x = begin_in n i t h in record { note = tt; next = x.next; low = x.low; is_in = x.is_in }

  -- between two batches the worker does nothing else
  begins_at : (a : Act) (t : Stand) → step_at w 0 between s a ≡ Some t → Begun w k s.rounds s.hand s.hands t × ((P : BucketNote → Type 0) → NoteOf P a)
  begins_at (on_pool n i) t h = (begin_in n i t h, λ P. tt)
  begins_at (on_segments n) t h = cc
  begins_at (on_bucket b n left) t h = cc

module _ (w : Setup) (k : ℕ) where
  act_in : (p : Stage) (s t : Stand) (a : Act) → StageOf w.layout.round k p → Rest w k s → step_at w 0 p s a ≡ Some t → Goes w k t a
  act_in between s t (on_pool n j) here r h = goes_next w k s r n j t h
  act_in between s t (on_segments n) here r h = cc
  act_in between s t (on_bucket b n left) here r h = cc
  act_in (looking []) s t (on_pool n j) here r h = cc
  act_in (looking []) s t (on_segments n) here r h = cc
  act_in (looking []) s t (on_bucket b n left) here r h = cc
  act_in (looking (f ∷ todo)) s t (on_pool n j) here r h = cc
  act_in (looking (f ∷ todo)) s t (on_segments n) here r h = cc
  act_in (looking (f ∷ todo)) s t (on_bucket b n left) here r h = stay w k t (on_bucket b n left) (look_in w k f todo s b n left t here r h)
  act_in (missed f todo) s t (on_pool n j) here r h = stay w k t (on_pool n j) (take_in w k f todo s n j t here r h)
  act_in (missed f todo) s t (on_segments n) here r h = cc
  act_in (missed f todo) s t (on_bucket b n left) here r h = cc
  act_in (evicting f i todo) s t (on_pool n j) here r h = cc
  act_in (evicting f i todo) s t (on_segments n) here r h = cc
  act_in (evicting f i todo) s t (on_bucket b n left) here r h = stay w k t (on_bucket b n left) (evict_in w k f i todo s b n left t here r h)
  act_in (turning f todo) s t (on_pool n j) here r h = stay w k t (on_pool n j) (turn_in w k f todo s n j t here r h)
  act_in (turning f todo) s t (on_segments n) here r h = stay w k t (on_segments n) (give_in w k f todo s n t here r h)
  act_in (turning f todo) s t (on_bucket b n left) here r h = cc
  act_in (granted f todo) s t (on_pool n j) here r h = cc
  act_in (granted f todo) s t (on_segments n) here r h = cc
  act_in (granted f todo) s t (on_bucket b n left) here r h = stay w k t (on_bucket b n left) (make_in w k f todo s b n left t here r h)
  act_in (denied f todo) s t (on_pool n j) here r h = cc
  act_in (denied f todo) s t (on_segments n) here r h = cc
  act_in (denied f todo) s t (on_bucket b n left) here r h = stay w k t (on_bucket b n left) (refuse_in w k f todo s b n left t here r h)
  act_in (asking f todo) s t (on_pool n j) here r h = cc
  act_in (asking f todo) s t (on_segments n) here r h = stay w k t (on_segments n) (ask_in w k f todo s n t here r h)
  act_in (asking f todo) s t (on_bucket b n left) here r h = cc
  act_in (settling f had todo) s t (on_pool n j) here r h = cc
  act_in (settling f had todo) s t (on_segments n) here r h = cc
  act_in (settling f had todo) s t (on_bucket b n left) here r h = stay w k t (on_bucket b n left) (settle_in w k f had todo s b n left t here r h)
  act_in (closing []) s t (on_pool n j) here r h = cc
  act_in (closing []) s t (on_segments n) here r h = cc
  act_in (closing []) s t (on_bucket b n left) here r h = cc
  act_in (closing (f ∷ todo)) s t (on_pool n j) here r h = cc
  act_in (closing (f ∷ todo)) s t (on_segments n) here r h = cc
  act_in (closing (f ∷ todo)) s t (on_bucket b n left) here r h = stay w k t (on_bucket b n left) (close_in w k f todo s b n left t here r h)
  act_in (freeing freed todo) s t (on_pool n j) here r h = cc
  act_in (freeing freed todo) s t (on_segments n) here r h = stay w k t (on_segments n) (free_in w k freed todo s n t here r h)
  act_in (freeing freed todo) s t (on_bucket b n left) here r h = cc

-- where a worker is after its acts, all of whose notes are of no later round
pub record Walked (w : Setup) (s : Stand) (acts : List Act) : Type 0 where
  pub round : ℕ
  pub is_in : IsIn w round s
  pub notes : Notes (λ n. round_in w n ≤ round) acts

one_more : (w : Setup) (k : ℕ) (s t : Stand) (a : Act) → IsIn w k s → after_act w s a ≡ Some t → Goes w k t a
one_more w k s t a i h = act_in w k s.stage s t a i.stage i.rest (one_step w 0 s t a h)

walked_more : (w : Setup) (o : Option Stand) (t : Stand) (a : Act) (acts : List Act) → moved w a o ≡ Some t → ((s : Stand) → o ≡ Some s → Walked w s acts) → Walked w t (a ∷ acts)
walked_more w None t a acts h before = cc
walked_more w (Some s) t a acts h before =
    let x = before s refl in
    let g = one_more w x.round s t a x.is_in h in record {
      round = g.next;
      is_in = g.is_in;
      notes = (
        note_weaker (λ n. round_in w n ≡ x.round) (λ n. round_in w n ≤ g.next) (λ n e. at_most (round_in w n) x.round g.next e g.low) a g.note,
        notes_weaker (λ n. round_in w n ≤ x.round) (λ n. round_in w n ≤ g.next) (λ n e. no_more (round_in w n) x.round g.next e g.low) acts x.notes,
      );
    }
  where
    at_most : (i k next : ℕ) → i ≡ k → k ≤ next → i ≤ next
    at_most i k next e l = omega (arith, e, l)

    no_more : (i k next : ℕ) → i ≤ k → k ≤ next → i ≤ next
    no_more i k next e l = omega (arith, e, l)

pub walked : (w : Setup) (work : List (List (List ℕ))) → length work ≡ rounds w → RoundsFrom w.layout.round 0 work → (acts : List Act) (t : Stand) → stand_after w (fresh work) acts ≡ Some t
    → Walked w t acts
walked w work count of [] t h =
    let e : fresh work ≡ t = cc in
    subst (λ (x : Stand). Walked w x []) e (record { round = 0; is_in = record { stage = tt; rest = (omega (arith, count), tt, of) }; notes = tt })
walked w work count of (a ∷ acts) t h = walked_more w (stand_after w (fresh work) acts) t a acts h (λ s e. walked w work count of acts s e)

-- a worker that ended rounds is between two batches
at_end : (m : ℕ) (p : Stage) (s : Stand) (all : List (List Gone)) → ended_between m p s ≡ Some all → (p ≡ between) × (ended_with m s.rounds s.hand s.hands ≡ Some all)
at_end m between s all h = (refl, h)
at_end m (looking todo) s all h = cc
at_end m (missed f todo) s all h = cc
at_end m (evicting f i todo) s all h = cc
at_end m (turning f todo) s all h = cc
at_end m (granted f todo) s all h = cc
at_end m (denied f todo) s all h = cc
at_end m (asking f todo) s all h = cc
at_end m (settling f had todo) s all h = cc
at_end m (closing todo) s all h = cc
at_end m (freeing freed todo) s all h = cc

hands_at : (m : ℕ) (o : Option Stand) (all : List (List Gone)) → hands_of m o ≡ Some all → (s : Stand) × (o ≡ Some s) × (s.stage ≡ between) × (ended_with m s.rounds s.hand s.hands ≡ Some all)
hands_at m None all h = cc
hands_at m (Some s) all h = let x = at_end m s.stage s all h in (s, refl, x.0, x.1)

-- so many rounds are to come, or more
still_left : (m : ℕ) (left : List (List (List ℕ))) (hand : List Gone) (hands all : List (List Gone)) → ended_with m left hand hands ≡ Some all → m < length left
still_left m [] hand hands all h = cc
still_left m ([] ∷ later) hand hands all h = by (length later == m) refl h (λ x. still_left m later [] (hand ∷ hands) all x)
  where
    by : (t : Bool) → (length later == m) ≡ t → cond t (Some (hand ∷ hands)) (ended_with m later [] (hand ∷ hands)) ≡ Some all
        → (ended_with m later [] (hand ∷ hands) ≡ Some all → m < length later) → m < suc (length later)
    by true e r more = let z = same_number (length later) m e in omega (arith, z)
    by false e r more = let z = more r in omega (arith, z)
still_left m ((b ∷ bs) ∷ later) hand hands all h = cc

-- what the hands of the rounds hold that a worker has ended, and how many they are
hands_with : (run j m : ℕ) (left : List (List (List ℕ))) (hand : List Gone) (hands all : List (List Gone)) → ended_with m left hand hands ≡ Some all
    → (count_at run j all ≤ count_at run j (hand ∷ hands)) × (length all + m ≡ length left + length hands) × (count_run run hand + count_hands run hands ≤ count_hands run all)
hands_with run j m [] hand hands all h = cc
hands_with run j m ([] ∷ later) hand hands all h = by (length later == m) refl h (λ x. let y = hands_with run j m later [] (hand ∷ hands) all x in (y.0, y.1, omega (arith, y.2)))
  where
    -- an empty hand holds nothing
    none_more : (t : Bool) (n : ℕ) → cond t 0 n ≤ n
    none_more true n = omega arith
    none_more false n = omega arith

    by : (t : Bool) → (length later == m) ≡ t → cond t (Some (hand ∷ hands)) (ended_with m later [] (hand ∷ hands)) ≡ Some all
        → (ended_with m later [] (hand ∷ hands) ≡ Some all → (count_at run j all ≤ count_at run j ([] ∷ hand ∷ hands)) × (length all + m ≡ length later + length (hand ∷ hands)) ×
        (count_hands run (hand ∷ hands) ≤ count_hands run all))
        → (count_at run j all ≤ count_at run j (hand ∷ hands)) × (length all + m ≡ suc (length later) + length hands) × (count_run run hand + count_hands run hands ≤ count_hands run all)
    by true e r more =
        let is : hand ∷ hands ≡ all = cc in
        let z = same_number (length later) m e in
        subst (λ (x : List (List Gone)). (count_at run j x ≤ count_at run j (hand ∷ hands)) × (length x + m ≡ suc (length later) + length hands) ×
        (count_run run hand + count_hands run hands ≤ count_hands run x)) is (omega arith, omega (arith, z), omega arith)
    by false e r more = let z = more r in (omega (arith, z.0, none_more (length (hand ∷ hands) == j) (count_at run j (hand ∷ hands))), omega (arith, z.1), z.2)
hands_with run j m ((b ∷ bs) ∷ later) hand hands all h = cc

-- where a worker is that had ended so many rounds: in that round or a later one, or between the batches of the rounds before it and those to come
record HadEnded (w : Setup) (r : ℕ) (s : Stand) : Type 0 where
  pub round : ℕ
  pub is_in : IsIn w round s
  pub past : (r ≤ round) ⊎ ((s.stage ≡ between) × (all : List (List Gone)) × (ended_with (rounds w - r) s.rounds s.hand s.hands ≡ Some all))

module _ (w : Setup) (r : ℕ) (within : r ≤ rounds w) where
  -- so each act since then is in that round or a later one
  later_one : (s t : Stand) (a : Act) → HadEnded w r s → after_act w s a ≡ Some t → HadEnded w r t × NoteOf (λ n. r ≤ round_in w n) a
  later_one s t a x h = ⊎_elim
      (λ low. let g = one_more w x.round s t a x.is_in h in (
        record { round = g.next; is_in = g.is_in; past = inl (omega (arith, low, g.low)) },
        note_weaker (λ n. round_in w n ≡ x.round) (λ n. r ≤ round_in w n) (λ n e. not_below (round_in w n) x.round e low) a g.note,
      ))
      (λ rest. let y = begins_at w x.round s x.is_in.rest a t (subst (λ (p : Stage). step_at w 0 p s a ≡ Some t) rest.0 (one_step w 0 s t a h)) in
      let far = y.0.beyond (rounds w - r) rest.1 rest.2 in (record { round = y.0.next; is_in = y.0.is_in; past = inl (omega (arith, far, within)) }, y.1 (λ n. r ≤ round_in w n)))
      x.past
    where
      not_below : (i k : ℕ) → i ≡ k → r ≤ k → r ≤ i
      not_below i k e l = omega (arith, e, l)

  record Since (s : Stand) (now : List Act) : Type 0 where
    pub had : HadEnded w r s
    pub notes : Notes (λ n. r ≤ round_in w n) now

  since_more : (o : Option Stand) (t : Stand) (a : Act) (now : List Act) → moved w a o ≡ Some t → ((s : Stand) → o ≡ Some s → Since s now) → Since t (a ∷ now)
  since_more None t a now h before = cc
  since_more (Some s) t a now h before = let x = before s refl in let y = later_one s t a x.had h in record { had = y.0; notes = (y.1, x.notes) }

  since : (start s : Stand) (acts : List Act) → stand_after w start acts ≡ Some s → HadEnded w r s → (now : List Act) (t : Stand) → stand_after w start (now ++ acts) ≡ Some t → Since t now
  since start s acts e had [] t h = let same : s ≡ t = cc in subst (λ (x : Stand). Since x []) same (record { had = had; notes = tt })
  since start s acts e had (a ∷ now) t h = since_more (stand_after w start (now ++ acts)) t a now h (λ x q. since start s acts e had now x q)

-- a worker turns the object of the run in front of its hand, for a frame of its round
turn_of : (w : Setup) (k : ℕ) (p : Stage) (s t : Stand) (run f i : ℕ) → StageOf w.layout.round k p → step_at w 0 p s (on_pool (Turn run f) i) ≡ Some t
    → (round_of f w.layout.round ≡ k) × (front_is run s.hand ≡ true)
turn_of w k (turning g todo) s t run f i here h =
    let q = both (f == g) (front_is run s.hand) (only_some ((f == g) && front_is run s.hand) (held_at (granted g todo) (behind s.hand) s) t h).0 in
    (named w k f g q.0 here.0, q.1)
turn_of w k between s t run f i here h = cc
turn_of w k (looking todo) s t run f i here h = cc
turn_of w k (missed g todo) s t run f i here h = cc
turn_of w k (evicting g j todo) s t run f i here h = cc
turn_of w k (granted g todo) s t run f i here h = cc
turn_of w k (denied g todo) s t run f i here h = cc
turn_of w k (asking g todo) s t run f i here h = cc
turn_of w k (settling g had todo) s t run f i here h = cc
turn_of w k (closing todo) s t run f i here h = cc
turn_of w k (freeing freed todo) s t run f i here h = cc

-- what a worker did in its first rounds, and what it does after them

module _ (w : Setup) (role : ℕ) (from : RoundsFrom w.layout.round 0 (work_of w role)) where
  abbrev start : Stand
  start = fresh (work_of w role)

  where_at : (acts : List Act) (t : Stand) → stand_after w start acts ≡ Some t → Walked w t acts
  where_at acts t h = walked w (work_of w role) (length_rounds w role) from acts t h

  pub worked_before : (r : ℕ) → r ≤ rounds w → (acts : List Act) (hands : List (List Gone)) → EndedRounds w role r acts hands → Notes (λ n. round_in w n < r) acts
  worked_before zero within acts hands h = subst (λ (l : List Act). Notes (λ n. round_in w n < 0) l) (sym h.0) tt
  worked_before (suc r) within acts hands h =
      let x = hands_at (rounds w - suc r) (stand_after w start acts) hands h in
      let y = where_at acts x.0 x.1 in
      let left = still_left (rounds w - suc r) x.0.rounds x.0.hand x.0.hands hands x.3 in
      notes_weaker (λ n. round_in w n ≤ y.round) (λ n. round_in w n < suc r) (λ n e. below (round_in w n) y.round (length x.0.rounds) e y.is_in.rest.0 left) acts y.notes
    where
      below : (i k left : ℕ) → i ≤ k → k + left ≡ rounds w → rounds w - suc r < left → i < suc r
      below i k left e count more = omega (arith, e, count, more, within)

  had_ended : (r : ℕ) → (acts : List Act) (hands : List (List Gone)) → EndedRounds w role r acts hands → (s : Stand) × (stand_after w start acts ≡ Some s) × HadEnded w r s
  had_ended zero acts hands h = (
    start,
    ap (stand_after w start) h.0,
    record { round = 0; is_in = record { stage = tt; rest = (omega (arith, length_rounds w role), tt, from) }; past = inl (omega arith) },
  )
  had_ended (suc r) acts hands h =
      let x = hands_at (rounds w - suc r) (stand_after w start acts) hands h in
      let y = where_at acts x.0 x.1 in (x.0, x.1, record { round = y.round; is_in = y.is_in; past = inr (x.2, hands, x.3) })

  pub worked_since : (r : ℕ) → r < rounds w → (acts now : List Act) (hands more : List (List Gone)) → EndedRounds w role r acts hands → EndedRounds w role (suc r) (now ++ acts) more
      → Notes (λ n. r ≤ round_in w n) now
  worked_since r within acts now hands more h k =
      let x = had_ended r acts hands h in
      let y = hands_at (rounds w - suc r) (stand_after w start (now ++ acts)) more k in
      (since w r (omega (arith, within)) start x.0 acts x.1 x.2 now y.0 y.1).notes

  -- where a worker that had ended so many rounds later does what it never does between two batches, it has put as many hands away
  away_by : (r : ℕ) → r ≤ rounds w → (acts now : List Act) (hands : List (List Gone)) → EndedRounds w role r acts hands → (s t : Stand) (a : Act)
      → ((u v : Stand) → step_at w 0 between u a ≡ Some v → ⊥) → stand_after w start (now ++ acts) ≡ Some s → after_act w s a ≡ Some t → r ≤ length s.hands
  away_by r within acts now hands h s t a never e m =
      let x = had_ended r acts hands h in
      let y = (since w r within start x.0 acts x.1 x.2 now s e).had in
      let k = kept_all w 0 (length (work_of w role)) start (record { got = refl; left = refl; nodes = refl; freed = refl; rounds = omega arith }) (now ++ acts) s e in
      ⊎_elim
      (λ z. omega (arith, z, y.is_in.rest.0, k.rounds, length_rounds w role))
      (λ z. absurd (never s t (subst (λ (p : Stage). step_at w 0 p s a ≡ Some t) z.0 (one_step w 0 s t a m))))
      y.past

  -- so where it acts on a bucket
  pub put_away : (r : ℕ) → r ≤ rounds w → (acts now : List Act) (hands : List (List Gone)) → EndedRounds w role r acts hands → (s t : Stand) (b : ℕ) (n : BucketNote) (left : List Gone)
      → stand_after w start (now ++ acts) ≡ Some s → after_act w s (on_bucket b n left) ≡ Some t → r ≤ length s.hands
  put_away r within acts now hands h s t b n left e m = away_by r within acts now hands h s t (on_bucket b n left) rests e m
    where
      rests : (u v : Stand) → step_at w 0 between u (on_bucket b n left) ≡ Some v → ⊥
      rests u v q = cc

  -- and where it turns an object
  pub turned_away : (r : ℕ) → r ≤ rounds w → (acts now : List Act) (hands : List (List Gone)) → EndedRounds w role r acts hands → (s t : Stand) (run f i : ℕ)
      → stand_after w start (now ++ acts) ≡ Some s → after_act w s (on_pool (Turn run f) i) ≡ Some t → r ≤ length s.hands
  turned_away r within acts now hands h s t run f i e m = away_by r within acts now hands h s t (on_pool (Turn run f) i) rests e m
    where
      rests : (u v : Stand) → step_at w 0 between u (on_pool (Turn run f) i) ≡ Some v → ⊥
      rests u v q = cc

  -- the hands of the rounds that it has ended are hands that it put away, or has
  pub ended_hands : (run j r : ℕ) → r < rounds w → (acts : List Act) (hands : List (List Gone)) → EndedRounds w role (suc r) acts hands
      → (s : Stand) × (stand_after w start acts ≡ Some s) × (count_at run j hands ≤ count_at run j (s.hand ∷ s.hands)) × (length hands ≡ suc r)
      × (total (left_by run) acts ≤ total (given_by run) acts + count_hands run hands)
  ended_hands run j r within acts hands h =
      let x = hands_at (rounds w - suc r) (stand_after w start acts) hands h in
      let k = kept_all w run (length (work_of w role)) start (record { got = refl; left = refl; nodes = refl; freed = refl; rounds = omega arith }) acts x.0 x.1 in
      let o = hands_with run j (rounds w - suc r) x.0.rounds x.0.hand x.0.hands hands x.3 in
      (x.0, x.1, o.0, omega (arith, o.1, k.rounds, length_rounds w role, within), omega (arith, o.2, k.left))

  -- an act on a bucket is of the round that follows those whose hands were put away
  pub worked_in : (acts : List Act) (s t : Stand) (b : ℕ) (n : BucketNote) (left : List Gone) → stand_after w start acts ≡ Some s → after_act w s (on_bucket b n left) ≡ Some t
      → length s.hands ≡ round_in w n
  worked_in acts s t b n left e m =
      let x = where_at acts s e in
      let k = kept_all w 0 (length (work_of w role)) start (record { got = refl; left = refl; nodes = refl; freed = refl; rounds = omega arith }) acts s e in
      let at : round_in w n ≡ x.round = (one_more w x.round s t (on_bucket b n left) x.is_in m).note in
      omega (arith, at, x.is_in.rest.0, k.rounds, length_rounds w role)

  -- where it turns an object, the frame is of that round, and the run is in front of its hand
  pub turned_in : (acts : List Act) (s t : Stand) (run f i : ℕ) → stand_after w start acts ≡ Some s → after_act w s (on_pool (Turn run f) i) ≡ Some t
      → (round_of f w.layout.round ≡ length s.hands) × (front_is run s.hand ≡ true)
  turned_in acts s t run f i e m =
      let x = where_at acts s e in
      let k = kept_all w 0 (length (work_of w role)) start (record { got = refl; left = refl; nodes = refl; freed = refl; rounds = omega arith }) acts s e in
      let z = turn_of w x.round s.stage s t run f i x.is_in.stage (one_step w 0 s t (on_pool (Turn run f) i) m) in
      let here : x.round ≡ length s.hands = omega (arith, x.is_in.rest.0, k.rounds, length_rounds w role) in
      (z.0 ∙ here, z.1)
