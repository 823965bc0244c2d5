-- What the scripts of the manager, the recycler and the end role keep, of each run and of all nodes: what left, or was brought, is given back
-- or still held.
use Rattle.std.proofs.Common.{◌≡◌, ℕ, ◌==◌, ◌+◌, nat_le, nat_lt, ◌&&◌, List, [], ◌∷◌, ◌++◌, length, Option, Some, None, refl, ap, subst, arith}
use Rattle.bucket_laws.specs.Leaving.{Gone, sum_nodes}
use Rattle.run_laws.proofs.Sums.{both}
use Rattle.run_laws.proofs.Working.{behind_count, behind_nodes, count_append, emptied_nodes, emptied_same, nodes_append, only_some}
use Rattle.run_laws.specs.Measures.{begun_by, count_hands, count_run, freed_by, gave_by, given_by, got_by, hand_nodes, left_by, stored_by, took_by, total}
use Rattle.run_rules.specs.Acts.{Act, on_bucket, on_pool, on_segments}
use Rattle.run_rules.specs.Ending.{Ending, drain, end_on, ended_on, ending_after, with_queue}
use Rattle.run_rules.specs.Manager.{Sweep, Task, end_round, leaving, manage, managed, resting, start_round, sweep, sweep_on, sweeping, swept_after}
use Rattle.run_rules.specs.Serving.{behind, emptied, front_holds, front_is, queue_after, serve, serve_pool, serve_segments, served}
use Rattle.run_rules.specs.Setup.{Setup, rounds}
use Rattle.suri_base.specs.Keys.{same_truth}
use Rattle.suri_base.specs.declared.entry.BucketNote.{BucketNote}
use Rattle.suri_base.specs.declared.entry.BucketNote.TheVariants.{AllInUse, Closed, Drained, Found, Idle, Made, Missing, Refused, Stopped, Stored, Swept, Victim}
use Rattle.suri_base.specs.declared.entry.PoolNote.{PoolNote}
use Rattle.suri_base.specs.declared.entry.PoolNote.TheVariants.{Full, Mode, Over, Put, Took, Turn}
use Rattle.suri_base.specs.declared.entry.SegNote.{SegNote}
use Rattle.suri_base.specs.declared.entry.SegNote.TheVariants as seg

-- what an act of these roles does: it lets go `l` of run a and gives back `g`, with their nodes; it neither makes a run nor takes a node
pub record Moves (a : ℕ) (act : Act) (count count' nodes nodes' : ℕ) : Type 0 where
  pub got : got_by a act ≡ begun_by a act
  pub took : took_by act ≡ stored_by act
  pub left : left_by a act + count ≡ given_by a act + count'
  pub freed : freed_by act + nodes ≡ gave_by act + nodes'

abbrev pub sweep_holds : ℕ → Sweep → ℕ
sweep_holds a s = count_run a s.hand + count_hands a s.hands

abbrev pub sweep_nodes : Sweep → ℕ
sweep_nodes s = sum_nodes s.hand + hand_nodes s.hands

pub record Swung (a : ℕ) (s t : Sweep) (act : Act) : Type 0 where
  pub moves : Moves a act (sweep_holds a s) (sweep_holds a t) (sweep_nodes s) (sweep_nodes t)
  pub round : length t.hands + s.round ≡ length s.hands + t.round

module _ (w : Setup) (a : ℕ) where
  sweep_kept : (k : ℕ) (s : Sweep) (b : ℕ) (n : BucketNote) (left : List Gone) (t : Sweep) → sweep w k s b n left ≡ Some t → Swung a s t (on_bucket b n left)
  sweep_kept k s b (Found g e n run o) left t h = cc
  sweep_kept k s b (Missing g e n ended) left t h = cc
  sweep_kept k s b (Made g o) left t h = cc
  sweep_kept k s b (Refused g) left t h = cc
  sweep_kept k s b (Stored g) left t h = cc
  sweep_kept k s b (Stopped g) left t h = cc
  sweep_kept k s b (Closed g app' run freed ended) left t h = cc
  sweep_kept k s b (Idle g app') left t h = cc
  sweep_kept k s b (Victim g run) left t h = cc
  sweep_kept k s b (AllInUse g count) left t h = cc
  sweep_kept k s b (Swept round e m count) left t h =
      let q = only_some ((b == k) && (round == s.round) && same_truth e s.emergency && (m == s.seen)) (record s { task = sweep_on (k + 1) w.layout.rows; hand = s.hand ++ left }) t h in
      subst (λ (x : Sweep). Swung a s x (on_bucket b (Swept round e m count) left)) q.1
      (record { moves = record { got = refl; took = refl; left = omega (arith, count_append a s.hand left); freed = omega (arith, nodes_append s.hand left) }; round = refl })
  sweep_kept k s b (Drained count) left t h = cc

  start_kept : (s : Sweep) (n : PoolNote) (i : ℕ) (t : Sweep) → start_round w s n i ≡ Some t → Swung a s t (on_pool n i)
  start_kept s (Took g) i t h = cc
  start_kept s (Full g n limit) i t h = cc
  start_kept s (Put run) i t h = cc
  start_kept s (Turn run g) i t h = cc
  start_kept s (Mode e) i t h =
      let q = only_some (nat_lt s.round (rounds w)) (record s { task = sweep_on 0 w.layout.rows; emergency = e; seen = i }) t h in
      subst (λ (x : Sweep). Swung a s x (on_pool (Mode e) i)) q.1 (record { moves = record { got = refl; took = refl; left = refl; freed = refl }; round = refl })
  start_kept s (Over round done) i t h = cc

  end_kept : (s : Sweep) (n : PoolNote) (i : ℕ) (t : Sweep) → end_round w s n ≡ Some t → Swung a s t (on_pool n i)
  end_kept s (Took g) i t h = cc
  end_kept s (Full g n limit) i t h = cc
  end_kept s (Put run) i t h = cc
  end_kept s (Turn run g) i t h = cc
  end_kept s (Mode e) i t h = cc
  end_kept s (Over round done) i t h =
      let q = only_some (round == s.round) (record s { task = resting; round = s.round + 1; hand = []; hands = s.hand ∷ s.hands }) t h in
      subst (λ (x : Sweep). Swung a s x (on_pool (Over round done) i)) q.1 (record { moves = record { got = refl; took = refl; left = omega arith; freed = omega arith }; round = omega arith })

  manage_kept : (k : Task) (s t : Sweep) (act : Act) → manage w k s act ≡ Some t → Swung a s t act
  manage_kept resting s t (on_pool n i) h = start_kept s n i t h
  manage_kept resting s t (on_segments n) h = cc
  manage_kept resting s t (on_bucket b n left) h = cc
  manage_kept (sweeping k) s t (on_pool n i) h = cc
  manage_kept (sweeping k) s t (on_segments n) h = cc
  manage_kept (sweeping k) s t (on_bucket b n left) h = sweep_kept k s b n left t h
  manage_kept leaving s t (on_pool n i) h = end_kept s n i t h
  manage_kept leaving s t (on_segments n) h = cc
  manage_kept leaving s t (on_bucket b n left) h = cc

  -- the totals of a role: what it was brought, and what it still has
  pub record Totals (acts : List Act) (brought kept brought_nodes kept_nodes : ℕ) : Type 0 where
    pub got : total (got_by a) acts ≡ total (begun_by a) acts
    pub took : total took_by acts ≡ total stored_by acts
    pub left : total (left_by a) acts + brought ≡ total (given_by a) acts + kept
    pub freed : total freed_by acts + brought_nodes ≡ total gave_by acts + kept_nodes

  pub one_more : (acts : List Act) (act : Act) (b c d m n o : ℕ) → Moves a act c d n o → Totals acts b c m n → Totals (act ∷ acts) b d m o
  one_more acts act b c d m n o one all =
      record { got = omega (arith, one.got, all.got); took = omega (arith, one.took, all.took); left = omega (arith, one.left, all.left); freed = omega (arith, one.freed, all.freed) }

  manage_more : (o : Option Sweep) (t : Sweep) (act : Act) (acts : List Act) → managed w act o ≡ Some t
      → ((s : Sweep) → o ≡ Some s → Totals acts 0 (sweep_holds a s) 0 (sweep_nodes s) × (length s.hands ≡ s.round))
      → Totals (act ∷ acts) 0 (sweep_holds a t) 0 (sweep_nodes t) × (length t.hands ≡ t.round)
  manage_more None t act acts h k = cc
  manage_more (Some s) t act acts h k = let one = manage_kept s.task s t act h in let all = k s refl in (one_more acts act 0 _ _ 0 _ _ one.moves all.0, omega (arith, one.round, all.1))

  pub manager_totals : (s : Sweep) → (sweep_holds a s ≡ 0) × (sweep_nodes s ≡ 0) × (length s.hands ≡ s.round) → (acts : List Act) (t : Sweep) → swept_after w s acts ≡ Some t
      → Totals acts 0 (sweep_holds a t) 0 (sweep_nodes t) × (length t.hands ≡ t.round)
  manager_totals s k [] t h = let e : s ≡ t = cc in subst (λ (x : Sweep). Totals [] 0 (sweep_holds a x) 0 (sweep_nodes x) × (length x.hands ≡ x.round)) e
      (record { got = refl; took = refl; left = omega (arith, k.0); freed = omega (arith, k.1) }, k.2)
  manager_totals s k (act ∷ acts) t h = manage_more (swept_after w s acts) t act acts h (λ x e. manager_totals s k acts x e)

  -- a queue
  serve_pool_kept : (q : List Gone) (n : PoolNote) (i : ℕ) (t : List Gone) → serve_pool q n ≡ Some t → Moves a (on_pool n i) (count_run a q) (count_run a t) (sum_nodes q) (sum_nodes t)
  serve_pool_kept q (Took g) i t h = cc
  serve_pool_kept q (Full g n limit) i t h = cc
  serve_pool_kept q (Put run) i t h =
      let k = only_some (front_is run q) (behind q) t h in
      subst (λ (x : List Gone). Moves a (on_pool (Put run) i) (count_run a q) (count_run a x) (sum_nodes q) (sum_nodes x)) k.1
      (record { got = refl; took = refl; left = omega (arith, behind_count a run q k.0); freed = omega (arith, behind_nodes run q k.0) })
  serve_pool_kept q (Turn run g) i t h = cc
  serve_pool_kept q (Mode e) i t h = cc
  serve_pool_kept q (Over round done) i t h = cc

  serve_segments_kept : (q : List Gone) (n : SegNote) (t : List Gone) → serve_segments q n ≡ Some t → Moves a (on_segments n) (count_run a q) (count_run a t) (sum_nodes q) (sum_nodes t)
  serve_segments_kept q (seg.Took g) t h = cc
  serve_segments_kept q (seg.Full g n limit) t h = cc
  serve_segments_kept q (seg.Gave n) t h =
      let k = only_some (nat_le 1 n && front_holds n q) (emptied q) t h in
      let z = both (nat_le 1 n) (front_holds n q) k.0 in
      subst (λ (x : List Gone). Moves a (on_segments (seg.Gave n)) (count_run a q) (count_run a x) (sum_nodes q) (sum_nodes x)) k.1
      (record { got = refl; took = refl; left = omega (arith, emptied_same a q); freed = omega (arith, emptied_nodes n q z.1) })

  serve_kept : (q : List Gone) (act : Act) (t : List Gone) → serve q act ≡ Some t → Moves a act (count_run a q) (count_run a t) (sum_nodes q) (sum_nodes t)
  serve_kept q (on_pool n i) t h = serve_pool_kept q n i t h
  serve_kept q (on_segments n) t h = serve_segments_kept q n t h
  serve_kept q (on_bucket b n left) t h = cc

  serve_more : (b m : ℕ) (o : Option (List Gone)) (t : List Gone) (act : Act) (acts : List Act) → served act o ≡ Some t
      → ((q : List Gone) → o ≡ Some q → Totals acts b (count_run a q) m (sum_nodes q)) → Totals (act ∷ acts) b (count_run a t) m (sum_nodes t)
  serve_more b m None t act acts h k = cc
  serve_more b m (Some q) t act acts h k = one_more acts act b _ _ m _ _ (serve_kept q act t h) (k q refl)

  pub queue_totals : (q : List Gone) (acts : List Act) (t : List Gone) → queue_after q acts ≡ Some t → Totals acts (count_run a q) (count_run a t) (sum_nodes q) (sum_nodes t)
  queue_totals q [] t h =
      let e : q ≡ t = cc in
      subst (λ (x : List Gone). Totals [] (count_run a q) (count_run a x) (sum_nodes q) (sum_nodes x)) e (record { got = refl; took = refl; left = refl; freed = refl })
  queue_totals q (act ∷ acts) t h = serve_more (count_run a q) (sum_nodes q) (queue_after q acts) t act acts h (λ x e. queue_totals q acts x e)

  -- the end role
  drain_kept : (d b : ℕ) (n : BucketNote) (left : List Gone) (t : Ending) → drain w (record { queue = []; drained = d }) b n left ≡ Some t
      → Moves a (on_bucket b n left) 0 (count_run a t.queue) 0 (sum_nodes t.queue)
  drain_kept d b (Found g e n run o) left t h = cc
  drain_kept d b (Missing g e n ended) left t h = cc
  drain_kept d b (Made g o) left t h = cc
  drain_kept d b (Refused g) left t h = cc
  drain_kept d b (Stored g) left t h = cc
  drain_kept d b (Stopped g) left t h = cc
  drain_kept d b (Closed g app' run freed ended) left t h = cc
  drain_kept d b (Idle g app') left t h = cc
  drain_kept d b (Victim g run) left t h = cc
  drain_kept d b (AllInUse g count) left t h = cc
  drain_kept d b (Swept round e n count) left t h = cc
  drain_kept d b (Drained count) left t h =
      let k = only_some ((b == d) && nat_lt b w.layout.rows) (record { queue = left; drained = d + 1 }) t h in
      subst (λ (x : Ending). Moves a (on_bucket b (Drained count) left) 0 (count_run a x.queue) 0 (sum_nodes x.queue)) k.1
      (record { got = refl; took = refl; left = omega arith; freed = omega arith })

  with_some : (d : ℕ) (o : Option (List Gone)) (t : Ending) → with_queue d o ≡ Some t → o ≡ Some t.queue
  with_some d None t h = cc
  with_some d (Some q) t h = let e : record { queue = q; drained = d } ≡ t = cc in ap (λ (x : Ending). Some x.queue) e

  finish_kept : (q : List Gone) (d : ℕ) (act : Act) (t : Ending) → end_on w q (record { queue = q; drained = d }) act ≡ Some t
      → Moves a act (count_run a q) (count_run a t.queue) (sum_nodes q) (sum_nodes t.queue)
  finish_kept [] d (on_pool n i) t h = cc
  finish_kept [] d (on_segments n) t h = cc
  finish_kept [] d (on_bucket b n left) t h = drain_kept d b n left t h
  finish_kept (g ∷ q) d (on_pool n i) t h = serve_pool_kept (g ∷ q) n i t.queue (with_some d (serve_pool (g ∷ q) n) t h)
  finish_kept (g ∷ q) d (on_segments n) t h = serve_segments_kept (g ∷ q) n t.queue (with_some d (serve_segments (g ∷ q) n) t h)
  finish_kept (g ∷ q) d (on_bucket b n left) t h = cc

  finish_more : (b m : ℕ) (o : Option Ending) (t : Ending) (act : Act) (acts : List Act) → ended_on w act o ≡ Some t
      → ((s : Ending) → o ≡ Some s → Totals acts b (count_run a s.queue) m (sum_nodes s.queue)) → Totals (act ∷ acts) b (count_run a t.queue) m (sum_nodes t.queue)
  finish_more b m None t act acts h k = cc
  finish_more b m (Some s) t act acts h k = one_more acts act b _ _ m _ _ (finish_kept s.queue s.drained act t h) (k s refl)

  pub ending_totals : (s : Ending) (acts : List Act) (t : Ending) → ending_after w s acts ≡ Some t → Totals acts (count_run a s.queue) (count_run a t.queue) (sum_nodes s.queue) (sum_nodes t.queue)
  ending_totals s [] t h =
      let e : s ≡ t = cc in
      subst (λ (x : Ending). Totals [] (count_run a s.queue) (count_run a x.queue) (sum_nodes s.queue) (sum_nodes x.queue)) e (record { got = refl; took = refl; left = refl; freed = refl })
  ending_totals s (act ∷ acts) t h = finish_more (count_run a s.queue) (sum_nodes s.queue) (ending_after w s acts) t act acts h (λ x e. ending_totals s acts x e)
