-- What one step of a worker's script keeps: what it took and made, what left and what it gave back. One table for each stage; the sums over
-- all steps follow by induction.
use Rattle.std.proofs.Common.{◌≡◌, ℕ, suc, ◌==◌, ◌+◌, ◌%◌, ◌≤◌, nat_le, Bool, true, false, cond, ◌&&◌, if◌then◌else◌, List, [], ◌∷◌, ◌++◌, length, Option, Some, None, refl, sym, ◌∙◌, ap, subst, arith}
use Rattle.std.proofs.lemmas.Bool.Decides.{nat_tests}
use Rattle.bucket_laws.specs.Leaving.{Gone, sum_nodes}
use Rattle.bucket_rules.specs.Own.{is_needing}
use Rattle.run_laws.proofs.Sums.{both, same_number}
use Rattle.run_laws.specs.Counts.{is}
use Rattle.run_laws.specs.Measures.{begun_by, count_hands, count_run, freed_by, gave_by, given_by, got_by, hand_nodes, left_by, stored_by, took_by, total}
use Rattle.run_rules.specs.Acts.{Act, on_bucket, on_pool, on_segments}
use Rattle.run_rules.specs.Serving.{behind, emptied, front_holds, front_is, only}
use Rattle.run_rules.specs.Setup.{Setup, bucket_for, verdict_for}
use Rattle.run_rules.specs.Worker.{Stage, Stand, after_act, ask, asking, at, begin, between, bucket_step, close, close_on, closing, denied, evict, evicting, free, free_on, freeing, give, granted, held_at, is_for, is_read, look, look_on, looking, make, missed, moved, next_batch, pool_step, refuse, same_app, segments_step, settle, settle_on, settling, stand_after, take, takes_on, turn, turning}
use Rattle.suri_base.specs.declared.entry.BucketNote.{BucketNote}
use Rattle.suri_base.specs.declared.entry.BucketNote.TheVariants.{AllInUse, Closed, Drained, Found, Idle, Made, Missing, Refused, Stopped, Stored, Swept, Victim}
use Rattle.suri_base.specs.declared.entry.PoolNote.{PoolNote}
use Rattle.suri_base.specs.declared.entry.PoolNote.TheVariants.{Full, Mode, Over, Put, Took, Turn}
use Rattle.suri_base.specs.declared.entry.SegNote.{SegNote}
use Rattle.suri_base.specs.declared.entry.SegNote.TheVariants as seg
use Rattle.suri_base.specs.declared.app.App.TheVariants as app

-- what a place is owed: an object for a run, a node for a frame, nodes that came back
abbrev pub owed_run : ℕ → Stage → ℕ
owed_run a (granted f todo) = is f a
owed_run a _ = 0

abbrev pub owed_node : Stage → ℕ
owed_node (settling f true todo) = 1
owed_node _ = 0

abbrev pub owed_nodes : Stage → ℕ
owed_nodes (freeing n todo) = n
owed_nodes _ = 0

-- what a stand still has to end_on
abbrev pub holds : ℕ → Stand → ℕ
holds a s = count_run a s.hand + count_hands a s.hands

abbrev pub nodes_in : Stand → ℕ
nodes_in s = sum_nodes s.hand + hand_nodes s.hands

-- one step, from this place of a stand
pub record Kept (a : ℕ) (p : Stage) (s t : Stand) (act : Act) : Type 0 where
  pub got : got_by a act + owed_run a p ≡ begun_by a act + owed_run a t.stage
  pub left : left_by a act + holds a s ≡ given_by a act + holds a t
  pub nodes : took_by act + owed_node p ≡ stored_by act + owed_node t.stage
  pub freed : freed_by act + (nodes_in s + owed_nodes p) ≡ gave_by act + (nodes_in t + owed_nodes t.stage)
  pub rounds : length t.rounds + length t.hands ≡ length s.rounds + length s.hands

-- lists of runs

pub count_append : (a : ℕ) (x y : List Gone) → count_run a (x ++ y) ≡ count_run a x + count_run a y
count_append a [] y = omega arith
count_append a (g ∷ x) y = omega (arith, count_append a x y)

pub nodes_append : (x y : List Gone) → sum_nodes (x ++ y) ≡ sum_nodes x + sum_nodes y
nodes_append [] y = omega arith
nodes_append (g ∷ x) y = omega (arith, nodes_append x y)

-- places that are owed nothing

look_free : (a : ℕ) (batch todo : List ℕ) → (owed_run a (look_on batch todo) ≡ 0) × (owed_node (look_on batch todo) ≡ 0) × (owed_nodes (look_on batch todo) ≡ 0)
look_free a batch [] = (refl, refl, refl)
look_free a batch (f ∷ todo) = (refl, refl, refl)

close_free : (a : ℕ) (todo : List ℕ) → (owed_run a (close_on todo) ≡ 0) × (owed_node (close_on todo) ≡ 0) × (owed_nodes (close_on todo) ≡ 0)
close_free a [] = (refl, refl, refl)
close_free a (f ∷ todo) = (refl, refl, refl)

settle_free : (a : ℕ) (b : Bool) (f : ℕ) (batch todo : List ℕ) → (owed_run a (settle_on b f batch todo) ≡ 0) × (owed_node (settle_on b f batch todo) ≡ 0) × (owed_nodes (settle_on b f batch todo) ≡ 0)
settle_free a true f batch todo = (refl, refl, refl)
settle_free a false f batch todo = look_free a batch todo

free_free : (a n : ℕ) (b : Bool) (todo : List ℕ) → (n == 0) ≡ b
    → (owed_run a (cond b (close_on todo) (freeing n todo)) ≡ 0) × (owed_node (cond b (close_on todo) (freeing n todo)) ≡ 0) × (owed_nodes (cond b (close_on todo) (freeing n todo)) ≡ n)
free_free a n true todo h = let k = close_free a todo in (k.0, k.1, k.2 ∙ sym (same_number n 0 h))
free_free a n false todo h = (refl, refl, refl)

takes_free : (a : ℕ) (hand : List Gone) (f : ℕ) (todo : List ℕ) → (owed_run a (takes_on hand f todo) ≡ 0) × (owed_node (takes_on hand f todo) ≡ 0) × (owed_nodes (takes_on hand f todo) ≡ 0)
takes_free a [] f todo = (refl, refl, refl)
takes_free a (g ∷ hand) f todo = (refl, refl, refl)

evict_free : (a : ℕ) (b : Bool) (f k : ℕ) (todo : List ℕ)
    → (owed_run a (cond b (denied f todo) (evicting f k todo)) ≡ 0) × (owed_node (cond b (denied f todo) (evicting f k todo)) ≡ 0) × (owed_nodes (cond b (denied f todo) (evicting f k todo)) ≡ 0)
evict_free a true f k todo = (refl, refl, refl)
evict_free a false f k todo = (refl, refl, refl)

pub only_some : {A : Type 0} (b : Bool) (x y : A) → only b x ≡ Some y → (b ≡ true) × (x ≡ y)
only_some true x y h = (refl, let k : x ≡ y = cc in k)
only_some false x y h = cc

-- fronts of queues

pub emptied_same : (a : ℕ) (hand : List Gone) → count_run a (emptied hand) ≡ count_run a hand
emptied_same a [] = refl
emptied_same a (g ∷ hand) = refl

pub emptied_nodes : (n : ℕ) (hand : List Gone) → front_holds n hand ≡ true → sum_nodes hand ≡ n + sum_nodes (emptied hand)
emptied_nodes n [] h = cc
emptied_nodes n (g ∷ hand) h = let e = same_number g.nodes n h in omega (arith, e)

pub behind_count : (a run : ℕ) (hand : List Gone) → front_is run hand ≡ true → count_run a hand ≡ is run a + count_run a (behind hand)
behind_count a run [] h = cc
behind_count a run (g ∷ hand) h = let e = same_number g.run run (both (g.run == run) (g.nodes == 0) h).0 in ap (λ (x : ℕ). is x a + count_run a hand) e

pub behind_nodes : (run : ℕ) (hand : List Gone) → front_is run hand ≡ true → sum_nodes hand ≡ sum_nodes (behind hand)
behind_nodes run [] h = cc
behind_nodes run (g ∷ hand) h = let e = same_number g.nodes 0 (both (g.run == run) (g.nodes == 0) h).1 in omega (arith, e)

-- the next batch changes neither what is held nor its nodes
next_kept : (a : ℕ) (e : Bool) (n : ℕ) (rounds : List (List (List ℕ))) (hand : List Gone) (hands : List (List Gone)) (t : Stand) → next_batch e n rounds hand hands ≡ Some t
    → (owed_run a t.stage ≡ 0) × (owed_node t.stage ≡ 0) × (owed_nodes t.stage ≡ 0) × (holds a t ≡ count_run a hand + count_hands a hands) ×
    (nodes_in t ≡ sum_nodes hand + hand_nodes hands) × (length t.rounds + length t.hands ≡ length rounds + length hands)
next_kept a e n [] hand hands t h = cc
next_kept a e n ([] ∷ later) hand hands t h = let k = next_kept a e n later [] (hand ∷ hands) t h in (k.0, k.1, k.2, omega (arith, k.3), omega (arith, k.4), omega (arith, k.5))
next_kept a e n ((b ∷ bs) ∷ later) hand hands t h =
    let k : record { stage = look_on b b; batch = b; emergency = e; seen = n; rounds = bs ∷ later; hand = hand; hands = hands } ≡ t = cc in
    subst (λ (x : Stand). (owed_run a x.stage ≡ 0) × (owed_node x.stage ≡ 0) × (owed_nodes x.stage ≡ 0) × (holds a x ≡ count_run a hand + count_hands a hands) ×
    (nodes_in x ≡ sum_nodes hand + hand_nodes hands) × (length x.rounds + length x.hands ≡ suc (length later) + length hands)) k
    (let f = look_free a b b in (f.0, f.1, f.2, refl, refl, refl))

module _ (w : Setup) (a : ℕ) where
  look_kept : (f : ℕ) (todo : List ℕ) (s : Stand) (b : ℕ) (n : BucketNote) (left : List Gone) (t : Stand) → look w f todo s b n left ≡ Some t → Kept a (looking (f ∷ todo)) s t (on_bucket b n left)
  look_kept f todo s b (Found g e n run o) left t h =
      let k = only_some (is_for w f b g && is_read w s e n) (held_at (settle_on (is_needing o) f s.batch todo) (s.hand ++ left) s) t h in
      subst (λ (x : Stand). Kept a (looking (f ∷ todo)) s x (on_bucket b (Found g e n run o) left)) k.1
      (let z = settle_free a (is_needing o) f s.batch todo in record {
        got = omega (arith, z.0);
        left = omega (arith, count_append a s.hand left);
        nodes = omega
            (arith, z.1);
        freed = omega (arith, z.2, nodes_append s.hand left);
        rounds = refl;
      })
  look_kept f todo s b (Missing g e n ended) left t h =
      let k = only_some (is_for w f b g && is_read w s e n) (held_at (missed f todo) (s.hand ++ left) s) t h in
      subst (λ (x : Stand). Kept a (looking (f ∷ todo)) s x (on_bucket b (Missing g e n ended) left)) k.1
      (record { got = refl; left = omega (arith, count_append a s.hand left); nodes = refl; freed = omega (arith, nodes_append s.hand left); rounds = refl })
  look_kept f todo s b (Made g o) left t h = cc
  look_kept f todo s b (Refused g) left t h = cc
  look_kept f todo s b (Stored g) left t h = cc
  look_kept f todo s b (Stopped g) left t h = cc
  look_kept f todo s b (Closed g app' run freed ended) left t h = cc
  look_kept f todo s b (Idle g app') left t h = cc
  look_kept f todo s b (Victim g run) left t h = cc
  look_kept f todo s b (AllInUse g count) left t h = cc
  look_kept f todo s b (Swept round e n count) left t h = cc
  look_kept f todo s b (Drained count) left t h = cc

  evict_kept : (f k : ℕ) (todo : List ℕ) (s : Stand) (b : ℕ) (n : BucketNote) (left : List Gone) (t : Stand) → evict w f k todo s b n left ≡ Some t
      → Kept a (evicting f k todo) s t (on_bucket b n left)
  evict_kept f k todo s b (Found g e n run o) left t h = cc
  evict_kept f k todo s b (Missing g e n ended) left t h = cc
  evict_kept f k todo s b (Made g o) left t h = cc
  evict_kept f k todo s b (Refused g) left t h = cc
  evict_kept f k todo s b (Stored g) left t h = cc
  evict_kept f k todo s b (Stopped g) left t h = cc
  evict_kept f k todo s b (Closed g app' run freed ended) left t h = cc
  evict_kept f k todo s b (Idle g app') left t h = cc
  evict_kept f k todo s b (Victim g run) left t h =
      let q = only_some ((g == f) && (b == (bucket_for w f + k) % w.layout.rows)) (held_at (turning f todo) (s.hand ++ left) s) t h in
      subst (λ (x : Stand). Kept a (evicting f k todo) s x (on_bucket b (Victim g run) left)) q.1
      (record { got = refl; left = omega (arith, count_append a s.hand left); nodes = refl; freed = omega (arith, nodes_append s.hand left); rounds = refl })
  evict_kept f k todo s b (AllInUse g count) left t h =
      let q = only_some ((g == f) && (b == (bucket_for w f + k) % w.layout.rows)) (held_at (if k + 1 == w.layout.rows then denied f todo else evicting f (k + 1) todo) (s.hand ++ left) s) t h in
      subst (λ (x : Stand). Kept a (evicting f k todo) s x (on_bucket b (AllInUse g count) left)) q.1
      (let z = evict_free a (k + 1 == w.layout.rows) f (k + 1) todo in record {
        got = omega (arith, z.0);
        left = omega
            (arith, count_append a s.hand left);
        nodes = omega (arith, z.1);
        freed = omega (arith, z.2, nodes_append s.hand left);
        rounds = refl;
      })
  evict_kept f k todo s b (Swept round e n count) left t h = cc
  evict_kept f k todo s b (Drained count) left t h = cc

  make_kept : (f : ℕ) (todo : List ℕ) (s : Stand) (b : ℕ) (n : BucketNote) (left : List Gone) (t : Stand) → make w f todo s b n left ≡ Some t → Kept a (granted f todo) s t (on_bucket b n left)
  make_kept f todo s b (Found g e n run o) left t h = cc
  make_kept f todo s b (Missing g e n ended) left t h = cc
  make_kept f todo s b (Made g o) left t h =
      let k = only_some (is_for w f b g) (held_at (settle_on (is_needing o) f s.batch todo) (s.hand ++ left) s) t h in
      let same : g ≡ f = same_number g f (both (g == f) (b == bucket_for w f) k.0).0 in
      subst (λ (x : Stand). Kept a (granted f todo) s x (on_bucket b (Made g o) left)) k.1
      (let z = settle_free a (is_needing o) f s.batch todo in record {
        got = let y : is g a ≡ is f a = ap (λ (x : ℕ). is x a) same in omega
            (arith, y, z.0);
        left = omega (arith, count_append a s.hand left);
        nodes = omega (arith, z.1);
        freed = omega
            (arith, z.2, nodes_append s.hand left);
        rounds = refl;
      })
  make_kept f todo s b (Refused g) left t h = cc
  make_kept f todo s b (Stored g) left t h = cc
  make_kept f todo s b (Stopped g) left t h = cc
  make_kept f todo s b (Closed g app' run freed ended) left t h = cc
  make_kept f todo s b (Idle g app') left t h = cc
  make_kept f todo s b (Victim g run) left t h = cc
  make_kept f todo s b (AllInUse g count) left t h = cc
  make_kept f todo s b (Swept round e n count) left t h = cc
  make_kept f todo s b (Drained count) left t h = cc

  refuse_kept : (f : ℕ) (todo : List ℕ) (s : Stand) (b : ℕ) (n : BucketNote) (left : List Gone) (t : Stand) → refuse w f todo s b n left ≡ Some t → Kept a (denied f todo) s t (on_bucket b n left)
  refuse_kept f todo s b (Found g e n run o) left t h = cc
  refuse_kept f todo s b (Missing g e n ended) left t h = cc
  refuse_kept f todo s b (Made g o) left t h = cc
  refuse_kept f todo s b (Refused g) left t h =
      let k = only_some (is_for w f b g) (held_at (look_on s.batch todo) (s.hand ++ left) s) t h in
      subst (λ (x : Stand). Kept a (denied f todo) s x (on_bucket b (Refused g) left)) k.1
      (let z = look_free a s.batch todo in record {
        got = omega (arith, z.0);
        left = omega (arith, count_append a s.hand left);
        nodes = omega
            (arith, z.1);
        freed = omega (arith, z.2, nodes_append s.hand left);
        rounds = refl;
      })
  refuse_kept f todo s b (Stored g) left t h = cc
  refuse_kept f todo s b (Stopped g) left t h = cc
  refuse_kept f todo s b (Closed g app' run freed ended) left t h = cc
  refuse_kept f todo s b (Idle g app') left t h = cc
  refuse_kept f todo s b (Victim g run) left t h = cc
  refuse_kept f todo s b (AllInUse g count) left t h = cc
  refuse_kept f todo s b (Swept round e n count) left t h = cc
  refuse_kept f todo s b (Drained count) left t h = cc

  settle_kept : (f : ℕ) (had : Bool) (todo : List ℕ) (s : Stand) (b : ℕ) (n : BucketNote) (left : List Gone) (t : Stand) → settle w f had todo s b n left ≡ Some t
      → Kept a (settling f had todo) s t (on_bucket b n left)
  settle_kept f true todo s b (Found g e n run o) left t h = cc
  settle_kept f true todo s b (Missing g e n ended) left t h = cc
  settle_kept f true todo s b (Made g o) left t h = cc
  settle_kept f true todo s b (Refused g) left t h = cc
  settle_kept f true todo s b (Stored g) left t h =
      let k = only_some (is_for w f b g) (held_at (look_on s.batch todo) (s.hand ++ left) s) t h in
      subst (λ (x : Stand). Kept a (settling f true todo) s x (on_bucket b (Stored g) left)) k.1
      (let z = look_free a s.batch todo in record {
        got = omega (arith, z.0);
        left = omega (arith, count_append a s.hand left);
        nodes = omega
            (arith, z.1);
        freed = omega (arith, z.2, nodes_append s.hand left);
        rounds = refl;
      })
  settle_kept f true todo s b (Stopped g) left t h = cc
  settle_kept f true todo s b (Closed g app' run freed ended) left t h = cc
  settle_kept f true todo s b (Idle g app') left t h = cc
  settle_kept f true todo s b (Victim g run) left t h = cc
  settle_kept f true todo s b (AllInUse g count) left t h = cc
  settle_kept f true todo s b (Swept round e n count) left t h = cc
  settle_kept f true todo s b (Drained count) left t h = cc
  settle_kept f false todo s b (Found g e n run o) left t h = cc
  settle_kept f false todo s b (Missing g e n ended) left t h = cc
  settle_kept f false todo s b (Made g o) left t h = cc
  settle_kept f false todo s b (Refused g) left t h = cc
  settle_kept f false todo s b (Stored g) left t h = cc
  settle_kept f false todo s b (Stopped g) left t h =
      let k = only_some (is_for w f b g) (held_at (look_on s.batch todo) (s.hand ++ left) s) t h in
      subst (λ (x : Stand). Kept a (settling f false todo) s x (on_bucket b (Stopped g) left)) k.1
      (let z = look_free a s.batch todo in record {
        got = omega (arith, z.0);
        left = omega (arith, count_append a s.hand left);
        nodes = omega
            (arith, z.1);
        freed = omega (arith, z.2, nodes_append s.hand left);
        rounds = refl;
      })
  settle_kept f false todo s b (Closed g app' run freed ended) left t h = cc
  settle_kept f false todo s b (Idle g app') left t h = cc
  settle_kept f false todo s b (Victim g run) left t h = cc
  settle_kept f false todo s b (AllInUse g count) left t h = cc
  settle_kept f false todo s b (Swept round e n count) left t h = cc
  settle_kept f false todo s b (Drained count) left t h = cc

  close_kept : (f : ℕ) (todo : List ℕ) (s : Stand) (b : ℕ) (n : BucketNote) (left : List Gone) (t : Stand) → close w f todo s b n left ≡ Some t → Kept a (closing (f ∷ todo)) s t (on_bucket b n left)
  close_kept f todo s b (Found g e n run o) left t h = cc
  close_kept f todo s b (Missing g e n ended) left t h = cc
  close_kept f todo s b (Made g o) left t h = cc
  close_kept f todo s b (Refused g) left t h = cc
  close_kept f todo s b (Stored g) left t h = cc
  close_kept f todo s b (Stopped g) left t h = cc
  close_kept f todo s b (Closed g app' run freed ended) left t h =
      let k = only_some (is_for w f b g && same_app app' (verdict_for w f)) (held_at (free_on freed todo) (s.hand ++ left) s) t h in
      subst (λ (x : Stand). Kept a (closing (f ∷ todo)) s x (on_bucket b (Closed g app' run freed ended) left)) k.1
      (let z = free_free a freed (freed == 0) todo refl in record {
        got = omega (arith, z.0);
        left = omega (arith, count_append a s.hand left);
        nodes = omega
            (arith, z.1);
        freed = omega (arith, z.2, nodes_append s.hand left);
        rounds = refl;
      })
  close_kept f todo s b (Idle g app') left t h =
      let k = only_some (is_for w f b g && same_app app' app.None) (held_at (close_on todo) (s.hand ++ left) s) t h in
      subst (λ (x : Stand). Kept a (closing (f ∷ todo)) s x (on_bucket b (Idle g app') left)) k.1
      (let z = close_free a todo in record {
        got = omega (arith, z.0);
        left = omega (arith, count_append a s.hand left);
        nodes = omega (arith, z.1);
        freed = omega
            (arith, z.2, nodes_append s.hand left);
        rounds = refl;
      })
  close_kept f todo s b (Victim g run) left t h = cc
  close_kept f todo s b (AllInUse g count) left t h = cc
  close_kept f todo s b (Swept round e n count) left t h = cc
  close_kept f todo s b (Drained count) left t h = cc

  take_kept : (f : ℕ) (todo : List ℕ) (s : Stand) (n : PoolNote) (i : ℕ) (t : Stand) → take w f todo s n ≡ Some t → Kept a (missed f todo) s t (on_pool n i)
  take_kept f todo s (Took g) i t h =
      let k = only_some (g == f) (at (granted f todo) s) t h in
      let same : g ≡ f = same_number g f k.0 in
      subst (λ (x : Stand). Kept a (missed f todo) s x (on_pool (Took g) i)) k.1
      (record { got = let y : is g a ≡ is f a = ap (λ (x : ℕ). is x a) same in omega (arith, y); left = refl; nodes = refl; freed = refl; rounds = refl })
  take_kept f todo s (Full g n limit) i t h =
      let k = only_some (g == f) (at (takes_on s.hand f todo) s) t h in
      subst (λ (x : Stand). Kept a (missed f todo) s x (on_pool (Full g n limit) i)) k.1
      (let z = takes_free a s.hand f todo in record { got = omega (arith, z.0); left = refl; nodes = omega (arith, z.1); freed = omega (arith, z.2); rounds = refl })
  take_kept f todo s (Put run) i t h = cc
  take_kept f todo s (Turn run g) i t h = cc
  take_kept f todo s (Mode e) i t h = cc
  take_kept f todo s (Over round done) i t h = cc

  turn_kept : (f : ℕ) (todo : List ℕ) (s : Stand) (n : PoolNote) (i : ℕ) (t : Stand) → turn w f todo s n ≡ Some t → Kept a (turning f todo) s t (on_pool n i)
  turn_kept f todo s (Took g) i t h = cc
  turn_kept f todo s (Full g n limit) i t h = cc
  turn_kept f todo s (Put run) i t h = cc
  turn_kept f todo s (Turn run g) i t h =
      let k = only_some ((g == f) && front_is run s.hand) (held_at (granted f todo) (behind s.hand) s) t h in
      let q = both (g == f) (front_is run s.hand) k.0 in
      let same : g ≡ f = same_number g f q.0 in
      subst (λ (x : Stand). Kept a (turning f todo) s x (on_pool (Turn run g) i)) k.1
      (record {
        got = let y : is g a ≡ is f a = ap (λ (x : ℕ). is x a) same in omega (arith, y);
        left = omega
            (arith, behind_count a run s.hand q.1);
        nodes = refl;
        freed = omega (arith, behind_nodes run s.hand q.1);
        rounds = refl;
      })
  turn_kept f todo s (Mode e) i t h = cc
  turn_kept f todo s (Over round done) i t h = cc

  begin_kept : (s : Stand) (n : PoolNote) (i : ℕ) (t : Stand) → begin w s n i ≡ Some t → Kept a (between) s t (on_pool n i)
  begin_kept s (Took g) i t h = cc
  begin_kept s (Full g n limit) i t h = cc
  begin_kept s (Put run) i t h = cc
  begin_kept s (Turn run g) i t h = cc
  begin_kept s (Mode e) i t h =
      let z = next_kept a e i s.rounds s.hand s.hands t h in
      record { got = omega (arith, z.0); left = omega (arith, z.3); nodes = omega (arith, z.1); freed = omega (arith, z.2, z.4); rounds = z.5 }
  begin_kept s (Over round done) i t h = cc

  give_kept : (f : ℕ) (todo : List ℕ) (s : Stand) (n : SegNote) (t : Stand) → give w f todo s n ≡ Some t → Kept a (turning f todo) s t (on_segments n)
  give_kept f todo s (seg.Took g) t h = cc
  give_kept f todo s (seg.Full g n limit) t h = cc
  give_kept f todo s (seg.Gave n) t h =
      let k = only_some (nat_le 1 n && front_holds n s.hand) (held_at (turning f todo) (emptied s.hand) s) t h in
      let q = both (nat_le 1 n) (front_holds n s.hand) k.0 in
      subst (λ (x : Stand). Kept a (turning f todo) s x (on_segments (seg.Gave n))) k.1
      (record { got = refl; left = omega (arith, emptied_same a s.hand); nodes = refl; freed = omega (arith, emptied_nodes n s.hand q.1); rounds = refl })

  ask_kept : (f : ℕ) (todo : List ℕ) (s : Stand) (n : SegNote) (t : Stand) → ask w f todo s n ≡ Some t → Kept a (asking f todo) s t (on_segments n)
  ask_kept f todo s (seg.Took g) t h =
      let k = only_some (g == f) (at (settling f true todo) s) t h in
      subst (λ (x : Stand). Kept a (asking f todo) s x (on_segments (seg.Took g))) k.1 (record { got = refl; left = refl; nodes = refl; freed = refl; rounds = refl })
  ask_kept f todo s (seg.Full g n limit) t h =
      let k = only_some (g == f) (at (settling f false todo) s) t h in
      subst (λ (x : Stand). Kept a (asking f todo) s x (on_segments (seg.Full g n limit))) k.1 (record { got = refl; left = refl; nodes = refl; freed = refl; rounds = refl })
  ask_kept f todo s (seg.Gave n) t h = cc

  free_kept : (freed : ℕ) (todo : List ℕ) (s : Stand) (n : SegNote) (t : Stand) → free w freed todo s n ≡ Some t → Kept a (freeing freed todo) s t (on_segments n)
  free_kept freed todo s (seg.Took g) t h = cc
  free_kept freed todo s (seg.Full g n limit) t h = cc
  free_kept freed todo s (seg.Gave n) t h =
      let k = only_some (n == freed) (at (close_on todo) s) t h in
      let same = same_number n freed k.0 in
      subst (λ (x : Stand). Kept a (freeing freed todo) s x (on_segments (seg.Gave n))) k.1
      (let z = close_free a todo in record { got = omega (arith, z.0); left = refl; nodes = omega (arith, z.1); freed = omega (arith, z.2, same); rounds = refl })

  abbrev pub step_at : Stage → Stand → Act → Option Stand
  step_at p s (on_pool n i) = pool_step w p s n i
  step_at p s (on_segments n) = segments_step w p s n
  step_at p s (on_bucket b n left) = bucket_step w p s b n left

  act_kept : (p : Stage) (s t : Stand) (act : Act) → step_at p s act ≡ Some t → Kept a p s t act
  act_kept (between) s t (on_pool n i) h = begin_kept s n i t h
  act_kept (between) s t (on_segments n) h = cc
  act_kept (between) s t (on_bucket b n left) h = cc
  act_kept (looking []) s t (on_pool n i) h = cc
  act_kept (looking []) s t (on_segments n) h = cc
  act_kept (looking []) s t (on_bucket b n left) h = cc
  act_kept (looking (f ∷ todo)) s t (on_pool n i) h = cc
  act_kept (looking (f ∷ todo)) s t (on_segments n) h = cc
  act_kept (looking (f ∷ todo)) s t (on_bucket b n left) h = look_kept f todo s b n left t h
  act_kept (missed f todo) s t (on_pool n i) h = take_kept f todo s n i t h
  act_kept (missed f todo) s t (on_segments n) h = cc
  act_kept (missed f todo) s t (on_bucket b n left) h = cc
  act_kept (evicting f k todo) s t (on_pool n i) h = cc
  act_kept (evicting f k todo) s t (on_segments n) h = cc
  act_kept (evicting f k todo) s t (on_bucket b n left) h = evict_kept f k todo s b n left t h
  act_kept (turning f todo) s t (on_pool n i) h = turn_kept f todo s n i t h
  act_kept (turning f todo) s t (on_segments n) h = give_kept f todo s n t h
  act_kept (turning f todo) s t (on_bucket b n left) h = cc
  act_kept (granted f todo) s t (on_pool n i) h = cc
  act_kept (granted f todo) s t (on_segments n) h = cc
  act_kept (granted f todo) s t (on_bucket b n left) h = make_kept f todo s b n left t h
  act_kept (denied f todo) s t (on_pool n i) h = cc
  act_kept (denied f todo) s t (on_segments n) h = cc
  act_kept (denied f todo) s t (on_bucket b n left) h = refuse_kept f todo s b n left t h
  act_kept (asking f todo) s t (on_pool n i) h = cc
  act_kept (asking f todo) s t (on_segments n) h = ask_kept f todo s n t h
  act_kept (asking f todo) s t (on_bucket b n left) h = cc
  act_kept (settling f had todo) s t (on_pool n i) h = cc
  act_kept (settling f had todo) s t (on_segments n) h = cc
  act_kept (settling f had todo) s t (on_bucket b n left) h = settle_kept f had todo s b n left t h
  act_kept (closing []) s t (on_pool n i) h = cc
  act_kept (closing []) s t (on_segments n) h = cc
  act_kept (closing []) s t (on_bucket b n left) h = cc
  act_kept (closing (f ∷ todo)) s t (on_pool n i) h = cc
  act_kept (closing (f ∷ todo)) s t (on_segments n) h = cc
  act_kept (closing (f ∷ todo)) s t (on_bucket b n left) h = close_kept f todo s b n left t h
  act_kept (freeing freed todo) s t (on_pool n i) h = cc
  act_kept (freeing freed todo) s t (on_segments n) h = free_kept freed todo s n t h
  act_kept (freeing freed todo) s t (on_bucket b n left) h = cc

  pub one_step : (s t : Stand) (act : Act) → after_act w s act ≡ Some t → step_at s.stage s act ≡ Some t
  one_step s t (on_pool n i) h = h
  one_step s t (on_segments n) h = h
  one_step s t (on_bucket b n left) h = h

  -- all steps so far
  pub record KeptAll (many : ℕ) (s : Stand) (acts : List Act) : Type 0 where
    pub got : total (got_by a) acts ≡ total (begun_by a) acts + owed_run a s.stage
    pub left : total (left_by a) acts ≡ total (given_by a) acts + holds a s
    pub nodes : total took_by acts ≡ total stored_by acts + owed_node s.stage
    pub freed : total freed_by acts ≡ total gave_by acts + (nodes_in s + owed_nodes s.stage)
    pub rounds : length s.rounds + length s.hands ≡ many

  kept_more : (many : ℕ) (o : Option Stand) (t : Stand) (act : Act) (acts : List Act) → moved w act o ≡ Some t → ((s : Stand) → o ≡ Some s → KeptAll many s acts) → KeptAll many t (act ∷ acts)
  kept_more many None t act acts h k = cc
  kept_more many (Some s) t act acts h k =
      let one = act_kept s.stage s t act (one_step s t act h) in
      let all = k s refl in
      record {
        got = omega (arith, one.got, all.got);
        left = omega (arith, one.left, all.left);
        nodes = omega (arith, one.nodes, all.nodes);
        freed = omega
            (arith, one.freed, all.freed);
        rounds = one.rounds ∙ all.rounds;
      }

  pub kept_all : (many : ℕ) (s : Stand) → KeptAll many s [] → (acts : List Act) (t : Stand) → stand_after w s acts ≡ Some t → KeptAll many t acts
  kept_all many s k [] t h = let e : s ≡ t = cc in subst (λ (x : Stand). KeptAll many x []) e k
  kept_all many s k (act ∷ acts) t h = kept_more many (stand_after w s acts) t act acts h (λ x e. kept_all many s k acts x e)

-- a run that a worker turns left by an earlier step of the same worker
count_front : (run : ℕ) (hand : List Gone) → front_is run hand ≡ true → 1 ≤ count_run run hand
count_front run [] h = cc
count_front run (g ∷ hand) h =
    let e = same_number g.run run (both (g.run == run) (g.nodes == 0) h).0 in
    let z : is g.run run ≡ is run run = ap (λ (x : ℕ). is x run) e in
    let y : is run run ≡ suc 0 = (let x : (run == run) ≡ true = same_yes run in rw x refl) in
    omega (arith, z, y)
  where
    same_yes : (r : ℕ) → (r == r) ≡ true
    same_yes r = grind (arith, nat_tests)

turns_front : (w : Setup) (p : Stage) (s t : Stand) (run f i : ℕ) → step_at w 0 p s (on_pool (Turn run f) i) ≡ Some t → front_is run s.hand ≡ true
turns_front w (turning g todo) s t run f i h = (both (f == g) (front_is run s.hand) (only_some ((f == g) && front_is run s.hand) (held_at (granted g todo) (behind s.hand) s) t h).0).1
turns_front w (between) s t run f i h = cc
turns_front w (looking todo) s t run f i h = cc
turns_front w (missed g todo) s t run f i h = cc
turns_front w (evicting g k todo) s t run f i h = cc
turns_front w (granted g todo) s t run f i h = cc
turns_front w (denied g todo) s t run f i h = cc
turns_front w (asking g todo) s t run f i h = cc
turns_front w (settling g had todo) s t run f i h = cc
turns_front w (closing todo) s t run f i h = cc
turns_front w (freeing n todo) s t run f i h = cc

pub given_back_after : (w : Setup) (start s t : Stand) (run f i : ℕ) (before : List Act) → holds run start ≡ 0 → owed_run run start.stage ≡ 0 → owed_node start.stage ≡ 0
    → nodes_in start + owed_nodes start.stage ≡ 0 → stand_after w start before ≡ Some s → after_act w s (on_pool (Turn run f) i) ≡ Some t → 1 ≤ total (left_by run) before
given_back_after w start s t run f i before a b c d h k =
    let all = kept_all w run (length start.rounds + length start.hands) start
    (record { got = omega (arith, b); left = omega (arith, a); nodes = omega (arith, c); freed = omega (arith, d); rounds = refl }) before s h in
    omega (arith, all.left, count_front run s.hand (turns_front w s.stage s t run f i k))
