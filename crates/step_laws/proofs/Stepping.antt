-- One step of a worker and of the manager: the hands of the rounds that were over stand behind those of further ones, no object is put, and a
-- script that has ended has no step more. One table each for the stages. Nor has the recycler a step where nothing waits; and the end role serves its queue as it does.
use Rattle.std.proofs.Common.{◌≡◌, ℕ, ◌==◌, ◌+◌, nat_le, nat_lt, Bool, true, false, ◌&&◌, List, [], ◌∷◌, Option, Some, None, refl, ap, subst, arith}
use Rattle.bucket_laws.proofs.Tests.{below, both}
use Rattle.bucket_laws.specs.Leaving.{Gone}
use Rattle.run_laws.proofs.Working.{only_some}
use Rattle.run_rules.proofs.SoFar.{rests_is}
use Rattle.run_rules.specs.Acts.{Act, on_bucket, on_pool, on_segments}
use Rattle.run_rules.specs.Ending.{Ending, end_on, with_queue}
use Rattle.run_rules.specs.Lawful.{IsDue}
use Rattle.run_rules.specs.Manager.{Sweep, Task, end_round, leaving, manage, manager_ended, resting, rests, start_round, sweep, sweep_on, sweeping}
use Rattle.run_rules.specs.Serving.{emptied, front_holds, only, serve, serve_pool}
use Rattle.run_rules.specs.Setup.{Setup, rounds}
use Rattle.run_rules.specs.SoFar.{passed, passed_at}
use Rattle.run_rules.specs.Worker.{Stage, Stand, after_act, ask, asking, begin, between, bucket_step, close, closing, denied, ended, ended_at, evict, evicting, free, freeing, give, granted, look, look_on, looking, make, missed, next_batch, over, pool_step, refuse, segments_step, settle, settling, take, turn, turning}
use Rattle.step_laws.proofs.Handing.{stage_more}
use Rattle.suri_base.specs.History.{Begins}
use Rattle.suri_base.specs.declared.entry.BucketNote.{BucketNote}
use Rattle.suri_base.specs.declared.entry.BucketNote.TheVariants.{AllInUse, Closed, Found, Idle, Made, Missing, Refused, Stopped, Stored, Swept, Victim}
use Rattle.suri_base.specs.declared.entry.PoolNote.{PoolNote}
use Rattle.suri_base.specs.declared.entry.PoolNote.TheVariants.{Full, Mode, Over, Put, Took, Turn}
use Rattle.suri_base.specs.declared.entry.SegNote.{SegNote}
use Rattle.suri_base.specs.declared.entry.SegNote.TheVariants as seg

-- a worker's hands

abbrev Grows : List (List Gone) → Option Stand → Type 0
Grows hs None = Unit {0}
Grows hs (Some t) = Begins hs (passed_at t.stage t)

only_grows : (b : Bool) (t : Stand) → Grows t.hands (only b t)
only_grows true t = stage_more t.stage t
only_grows false t = tt

looks_passed : (batch todo : List ℕ) (s : Stand) → passed_at (look_on batch todo) s ≡ s.hands
looks_passed batch [] s = refl
looks_passed batch (f ∷ todo) s = refl

next_grows : (e : Bool) (i : ℕ) (left : List (List (List ℕ))) (hand : List Gone) (hands : List (List Gone)) → Grows (passed left hand hands) (next_batch e i left hand hands)
next_grows e i [] hand hands = tt
next_grows e i ([] ∷ later) hand hands = next_grows e i later [] (hand ∷ hands)
next_grows e i ((b ∷ bs) ∷ later) hand hands = ([], looks_passed b b (record { stage = look_on b b; batch = b; emergency = e; seen = i; rounds = bs ∷ later; hand = hand; hands = hands }))

module _ (w : Setup) where
  look_grows : (f : ℕ) (todo : List ℕ) (s : Stand) (b : ℕ) (m : BucketNote) (left : List Gone) → Grows s.hands (look w f todo s b m left)
  look_grows f todo s b (Found g e i run o) left = only_grows _ _
  look_grows f todo s b (Missing g e i ended) left = only_grows _ _
  look_grows f todo s b _ left = tt

  take_grows : (f : ℕ) (todo : List ℕ) (s : Stand) (m : PoolNote) → Grows s.hands (take w f todo s m)
  take_grows f todo s (Took g) = only_grows _ _
  take_grows f todo s (Full g out limit) = only_grows _ _
  take_grows f todo s _ = tt

  evict_grows : (f k : ℕ) (todo : List ℕ) (s : Stand) (b : ℕ) (m : BucketNote) (left : List Gone) → Grows s.hands (evict w f k todo s b m left)
  evict_grows f k todo s b (Victim g run) left = only_grows _ _
  evict_grows f k todo s b (AllInUse g count) left = only_grows _ _
  evict_grows f k todo s b _ left = tt

  turn_grows : (f : ℕ) (todo : List ℕ) (s : Stand) (m : PoolNote) → Grows s.hands (turn w f todo s m)
  turn_grows f todo s (Turn run g) = only_grows _ _
  turn_grows f todo s _ = tt

  give_grows : (f : ℕ) (todo : List ℕ) (s : Stand) (m : SegNote) → Grows s.hands (give w f todo s m)
  give_grows f todo s (seg.Gave i) = only_grows _ _
  give_grows f todo s _ = tt

  make_grows : (f : ℕ) (todo : List ℕ) (s : Stand) (b : ℕ) (m : BucketNote) (left : List Gone) → Grows s.hands (make w f todo s b m left)
  make_grows f todo s b (Made g o) left = only_grows _ _
  make_grows f todo s b _ left = tt

  refuse_grows : (f : ℕ) (todo : List ℕ) (s : Stand) (b : ℕ) (m : BucketNote) (left : List Gone) → Grows s.hands (refuse w f todo s b m left)
  refuse_grows f todo s b (Refused g) left = only_grows _ _
  refuse_grows f todo s b _ left = tt

  ask_grows : (f : ℕ) (todo : List ℕ) (s : Stand) (m : SegNote) → Grows s.hands (ask w f todo s m)
  ask_grows f todo s (seg.Took g) = only_grows _ _
  ask_grows f todo s (seg.Full g out limit) = only_grows _ _
  ask_grows f todo s (seg.Gave i) = tt

  settle_grows : (f : ℕ) (had : Bool) (todo : List ℕ) (s : Stand) (b : ℕ) (m : BucketNote) (left : List Gone) → Grows s.hands (settle w f had todo s b m left)
  settle_grows f true todo s b (Stored g) left = only_grows _ _
  settle_grows f false todo s b (Stopped g) left = only_grows _ _
  settle_grows f _ todo s b _ left = tt

  close_grows : (f : ℕ) (todo : List ℕ) (s : Stand) (b : ℕ) (m : BucketNote) (left : List Gone) → Grows s.hands (close w f todo s b m left)
  close_grows f todo s b (Closed g verdict run freed ended) left = only_grows _ _
  close_grows f todo s b (Idle g verdict) left = only_grows _ _
  close_grows f todo s b _ left = tt

  free_grows : (freed : ℕ) (todo : List ℕ) (s : Stand) (m : SegNote) → Grows s.hands (free w freed todo s m)
  free_grows freed todo s (seg.Gave i) = only_grows _ _
  free_grows freed todo s _ = tt

  begin_grows : (s : Stand) (m : PoolNote) (i : ℕ) → Grows (passed s.rounds s.hand s.hands) (begin w s m i)
  begin_grows s (Mode e) i = next_grows e i s.rounds s.hand s.hands
  begin_grows s _ i = tt

  pool_grows : (p : Stage) (s : Stand) (m : PoolNote) (i : ℕ) → Grows (passed_at p s) (pool_step w p s m i)
  pool_grows between s m i = begin_grows s m i
  pool_grows (missed f todo) s m i = take_grows f todo s m
  pool_grows (turning f todo) s m i = turn_grows f todo s m
  pool_grows _ s m i = tt

  segments_grow : (p : Stage) (s : Stand) (m : SegNote) → Grows (passed_at p s) (segments_step w p s m)
  segments_grow (turning f todo) s m = give_grows f todo s m
  segments_grow (asking f todo) s m = ask_grows f todo s m
  segments_grow (freeing freed todo) s m = free_grows freed todo s m
  segments_grow _ s m = tt

  bucket_grows : (p : Stage) (s : Stand) (b : ℕ) (m : BucketNote) (left : List Gone) → Grows (passed_at p s) (bucket_step w p s b m left)
  bucket_grows (looking (f ∷ todo)) s b m left = look_grows f todo s b m left
  bucket_grows (evicting f k todo) s b m left = evict_grows f k todo s b m left
  bucket_grows (granted f todo) s b m left = make_grows f todo s b m left
  bucket_grows (denied f todo) s b m left = refuse_grows f todo s b m left
  bucket_grows (settling f had todo) s b m left = settle_grows f had todo s b m left
  bucket_grows (closing (f ∷ todo)) s b m left = close_grows f todo s b m left
  bucket_grows _ s b m left = tt

  act_grows : (s : Stand) (a : Act) → Grows (passed_at s.stage s) (after_act w s a)
  act_grows s (on_pool m i) = pool_grows s.stage s m i
  act_grows s (on_segments m) = segments_grow s.stage s m
  act_grows s (on_bucket b m left) = bucket_grows s.stage s b m left

  -- the hands of the rounds that a worker had ended stay
  pub worker_grows : (s t : Stand) (a : Act) → after_act w s a ≡ Some t → Begins (passed_at s.stage s) (passed_at t.stage t)
  worker_grows s t a h = subst (λ (o : Option Stand). Grows (passed_at s.stage s) o) h (act_grows s a)

  no_put : (p : Stage) (s t : Stand) (run i : ℕ) → pool_step w p s (Put run) i ≡ Some t → ⊥
  no_put between s t run i h = cc
  no_put (looking todo) s t run i h = cc
  no_put (missed f todo) s t run i h = cc
  no_put (evicting f k todo) s t run i h = cc
  no_put (turning f todo) s t run i h = cc
  no_put (granted f todo) s t run i h = cc
  no_put (denied f todo) s t run i h = cc
  no_put (asking f todo) s t run i h = cc
  no_put (settling f had todo) s t run i h = cc
  no_put (closing todo) s t run i h = cc
  no_put (freeing m todo) s t run i h = cc

  -- a worker puts nothing
  pub worker_due : (s t : Stand) (n : PoolNote) (i out : ℕ) → after_act w s (on_pool n i) ≡ Some t → IsDue out n
  worker_due s t (Put run) i out h = absurd (no_put s.stage s t run i h)
  worker_due s t (Took g) i out h = tt
  worker_due s t (Full g n limit) i out h = tt
  worker_due s t (Turn run g) i out h = tt
  worker_due s t (Mode e) i out h = tt
  worker_due s t (Over round done) i out h = tt

  -- a worker that has ended its script has no step more

  over_stops : (e : Bool) (i : ℕ) (left : List (List (List ℕ))) (hand : List Gone) (hands all : List (List Gone)) (t : Stand) → over left hand hands ≡ Some all
      → next_batch e i left hand hands ≡ Some t → ⊥
  over_stops e i [] hand hands all t h k = cc
  over_stops e i ([] ∷ later) hand hands all t h k = over_stops e i later [] (hand ∷ hands) all t h k
  over_stops e i ((b ∷ bs) ∷ later) hand hands all t h k = cc

  begin_stops : (s t : Stand) (n : PoolNote) (i : ℕ) (all : List (List Gone)) → over s.rounds s.hand s.hands ≡ Some all → begin w s n i ≡ Some t → ⊥
  begin_stops s t (Mode e) i all h k = over_stops e i s.rounds s.hand s.hands all t h k
  begin_stops s t (Took g) i all h k = cc
  begin_stops s t (Full g n limit) i all h k = cc
  begin_stops s t (Put run) i all h k = cc
  begin_stops s t (Turn run g) i all h k = cc
  begin_stops s t (Over round done) i all h k = cc

  pool_stops : (p : Stage) (s t : Stand) (n : PoolNote) (i : ℕ) (all : List (List Gone)) → ended_at p s ≡ Some all → pool_step w p s n i ≡ Some t → ⊥
  pool_stops between s t n i all h k = begin_stops s t n i all h k
  pool_stops _ s t n i all h k = cc

  segments_stop : (p : Stage) (s t : Stand) (n : SegNote) (all : List (List Gone)) → ended_at p s ≡ Some all → segments_step w p s n ≡ Some t → ⊥
  segments_stop between s t n all h k = cc
  segments_stop _ s t n all h k = cc

  bucket_stops : (p : Stage) (s t : Stand) (b : ℕ) (n : BucketNote) (left : List Gone) (all : List (List Gone)) → ended_at p s ≡ Some all → bucket_step w p s b n left ≡ Some t → ⊥
  bucket_stops between s t b n left all h k = cc
  bucket_stops _ s t b n left all h k = cc

  pub worker_stops : (s t : Stand) (a : Act) (all : List (List Gone)) → ended (Some s) ≡ Some all → after_act w s a ≡ Some t → ⊥
  worker_stops s t (on_pool n i) all h k = pool_stops s.stage s t n i all h k
  worker_stops s t (on_segments n) all h k = segments_stop s.stage s t n all h k
  worker_stops s t (on_bucket b n left) all h k = bucket_stops s.stage s t b n left all h k

-- the manager

abbrev Swings : List (List Gone) → Option Sweep → Type 0
Swings hs None = Unit {0}
Swings hs (Some t) = Begins hs t.hands

only_swings : (b : Bool) (t : Sweep) → Swings t.hands (only b t)
only_swings true t = ([], refl)
only_swings false t = tt

one_swings : (b : Bool) (h : List Gone) (hs : List (List Gone)) (t : Sweep) → t.hands ≡ h ∷ hs → Swings hs (only b t)
one_swings true h hs t e = (h ∷ [], e)
one_swings false h hs t e = tt

module _ (w : Setup) where
  sweep_swings : (k : ℕ) (s : Sweep) (b : ℕ) (m : BucketNote) (left : List Gone) → Swings s.hands (sweep w k s b m left)
  sweep_swings k s b (Swept round e i count) left = only_swings _ _
  sweep_swings k s b _ left = tt

  start_swings : (s : Sweep) (m : PoolNote) (i : ℕ) → Swings s.hands (start_round w s m i)
  start_swings s (Mode e) i = only_swings _ _
  start_swings s _ i = tt

  end_swings : (s : Sweep) (m : PoolNote) → Swings s.hands (end_round w s m)
  end_swings s (Over round done) =
      one_swings (round == s.round) s.hand s.hands (record s { task = resting; round = s.round + 1; hand = []; hands = s.hand ∷ s.hands }) refl
  end_swings s _ = tt

  manage_swings : (p : Task) (s : Sweep) (a : Act) → Swings s.hands (manage w p s a)
  manage_swings resting s (on_pool m i) = start_swings s m i
  manage_swings (sweeping k) s (on_bucket b m left) = sweep_swings k s b m left
  manage_swings leaving s (on_pool m i) = end_swings s m
  manage_swings _ s _ = tt

  -- the hands of the rounds that the manager had ended stay
  pub manager_grows : (s t : Sweep) (a : Act) → manage w s.task s a ≡ Some t → Begins s.hands t.hands
  manager_grows s t a h = subst (λ (o : Option Sweep). Swings s.hands o) h (manage_swings s.task s a)

  no_manager_put : (k : Task) (s t : Sweep) (run i : ℕ) → manage w k s (on_pool (Put run) i) ≡ Some t → ⊥
  no_manager_put resting s t run i h = cc
  no_manager_put (sweeping k) s t run i h = cc
  no_manager_put leaving s t run i h = cc

  -- it puts nothing
  pub manager_due : (s t : Sweep) (n : PoolNote) (i out : ℕ) → manage w s.task s (on_pool n i) ≡ Some t → IsDue out n
  manager_due s t (Put run) i out h = absurd (no_manager_put s.task s t run i h)
  manager_due s t (Took g) i out h = tt
  manager_due s t (Full g n limit) i out h = tt
  manager_due s t (Turn run g) i out h = tt
  manager_due s t (Mode e) i out h = tt
  manager_due s t (Over round done) i out h = tt

  -- and where it has ended its script it has no step more

  start_stops : (s t : Sweep) (n : PoolNote) (i : ℕ) → s.round ≡ rounds w → start_round w s n i ≡ Some t → ⊥
  start_stops s t (Mode e) i h k =
      let z = only_some (nat_lt s.round (rounds w)) (record s { task = sweep_on 0 w.layout.rows; emergency = e; seen = i }) t k in
      let l = below s.round (rounds w) z.0 in
      absurd (omega (arith, h, l))
  start_stops s t (Took g) i h k = cc
  start_stops s t (Full g n limit) i h k = cc
  start_stops s t (Put run) i h k = cc
  start_stops s t (Turn run g) i h k = cc
  start_stops s t (Over round done) i h k = cc

  task_stops : (p : Task) (s t : Sweep) (a : Act) (all : List (List Gone)) → rests w p s ≡ Some all → manage w p s a ≡ Some t → ⊥
  task_stops resting s t (on_pool n i) all h k = start_stops s t n i (rests_is w resting s all h).1 k
  task_stops resting s t (on_segments n) all h k = cc
  task_stops resting s t (on_bucket b n left) all h k = cc
  task_stops (sweeping j) s t a all h k = cc
  task_stops leaving s t a all h k = cc

  pub manager_stops : (s t : Sweep) (a : Act) (all : List (List Gone)) → manager_ended w (Some s) ≡ Some all → manage w s.task s a ≡ Some t → ⊥
  manager_stops s t a all h k = task_stops s.task s t a all h k

-- nor has the recycler where nothing waits

none_served : (a : Act) (t : List Gone) → serve [] a ≡ Some t → ⊥
none_served (on_pool (Put run) i) t h = cc
none_served (on_pool (Took g) i) t h = cc
none_served (on_pool (Full g n limit) i) t h = cc
none_served (on_pool (Turn run g) i) t h = cc
none_served (on_pool (Mode e) i) t h = cc
none_served (on_pool (Over round done) i) t h = cc
none_served (on_segments (seg.Gave n)) t h = let k = only_some (nat_le 1 n && front_holds n []) (emptied []) t h in let z = (both (nat_le 1 n) (front_holds n []) k.0).1 in cc
none_served (on_segments (seg.Took g)) t h = cc
none_served (on_segments (seg.Full g n limit)) t h = cc
none_served (on_bucket b n left) t h = cc

pub recycler_stops : (queue : List Gone) (a : Act) (t : List Gone) → queue ≡ [] → serve queue a ≡ Some t → ⊥
recycler_stops queue a t e h = none_served a t (subst (λ (q : List Gone). serve q a ≡ Some t) e h)

-- the end role serves its queue

with_some : (d : ℕ) (o : Option (List Gone)) (x : Ending) → with_queue d o ≡ Some x → o ≡ Some x.queue
with_some d None x h = cc
with_some d (Some q) x h = let e : record { queue = q; drained = d } ≡ x = cc in ap (λ (y : Ending). Some y.queue) e

pub end_served : (w : Setup) (queue : List Gone) (s next : Ending) (n : PoolNote) (i : ℕ) → end_on w queue s (on_pool n i) ≡ Some next → serve_pool queue n ≡ Some next.queue
end_served w [] s next n i h = cc
end_served w (g ∷ queue) s next n i h = with_some s.drained (serve_pool (g ∷ queue) n) next h
