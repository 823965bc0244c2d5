-- What the hand of a round holds left by acts of that round: each act on a bucket adds what leaves to the hand of the round in which it is done, no other
-- act adds to a hand, and a hand that is put away stays the hand of its round.
use Rattle.std.proofs.Common.{◌≡◌, ℕ, zero, suc, ◌+◌, ◌-◌, ◌==◌, ◌<◌, ◌≤◌, Bool, true, false, cond, if◌then◌else◌, List, [], ◌∷◌, ◌++◌, length, Option, Some, None, ◌⊎◌, ⊎_elim, inl, inr, refl, sym, subst, arith}
use Rattle.std.proofs.lemmas.Bool.Decides.{nat_tests}
use Rattle.bucket_laws.specs.Leaving.{Gone}
use Rattle.bucket_laws.specs.Places.{At}
use Rattle.run_laws.proofs.Sums.{same_number}
use Rattle.run_laws.proofs.Working.{count_append, emptied_same}
use Rattle.run_laws.specs.Measures.{count_run, left_by}
use Rattle.run_rules.specs.Acts.{Act, on_bucket, on_pool, on_segments}
use Rattle.run_rules.specs.Lawful.{gathered, nth, waited}
use Rattle.run_rules.specs.Manager.{Sweep, Task, end_round, leaving, manage, managed, resting, start_round, sweep, sweeping, swept_after}
use Rattle.run_rules.specs.Serving.{behind, emptied, only}
use Rattle.run_rules.specs.Setup.{Setup}
use Rattle.run_rules.specs.SoFar.{first_hands, hand_of_round, passed, passed_at, round_hands}
use Rattle.run_rules.specs.Worker.{Stage, Stand, after_act, ask, asking, at, begin, between, bucket_step, close, closing, denied, evict, evicting, free, freeing, give, granted, held_at, look, looking, make, missed, moved, next_batch, over, pool_step, refuse, segments_step, settle, settling, stand_after, take, turn, turning}
use Rattle.step_laws.specs.Leaving.{ended_by_stand, ended_by_sweep}
use Rattle.suri_base.specs.declared.entry.BucketNote.{BucketNote}
use Rattle.suri_base.specs.declared.entry.BucketNote.TheVariants.{AllInUse, Closed, Found, Idle, Made, Missing, Refused, Stopped, Stored, Swept, Victim}
use Rattle.suri_base.specs.declared.entry.PoolNote.{PoolNote}
use Rattle.suri_base.specs.declared.entry.PoolNote.TheVariants.{Full, Mode, Over, Took, Turn}
use Rattle.suri_base.specs.declared.entry.SegNote.{SegNote}
use Rattle.suri_base.specs.declared.entry.SegNote.TheVariants as seg

-- how often run a is in the hand of round j, of hands with the newest first
abbrev pub count_at : ℕ → ℕ → List (List Gone) → ℕ
count_at a j [] = 0
count_at a j (h ∷ hs) = if length hs == j then count_run a h else count_at a j hs

count_above : (a j : ℕ) (hs : List (List Gone)) → length hs ≤ j → count_at a j hs ≡ 0
count_above a j [] l = refl
count_above a j (h ∷ hs) l = let e : (length hs == j) ≡ false = differ (length hs) j (omega (arith, l)) in rw e (count_above a j hs (omega (arith, l)))
  where
    differ : (x y : ℕ) → x < y → (x == y) ≡ false
    differ x y h = grind (arith, nat_tests)

empty_front : (a j : ℕ) (hs : List (List Gone)) → count_at a j ([] ∷ hs) ≤ count_at a j hs
empty_front a j hs = by_test (length hs == j)
  where
    by_test : (u : Bool) → cond u 0 (count_at a j hs) ≤ count_at a j hs
    by_test true = omega arith
    by_test false = omega arith

pub skip_front : (a j : ℕ) (h : List Gone) (hs : List (List Gone)) → count_at a j hs ≤ count_at a j (h ∷ hs)
skip_front a j h hs = by_test (length hs == j) refl
  where
    by_test : (u : Bool) → (length hs == j) ≡ u → count_at a j hs ≤ cond u (count_run a h) (count_at a j hs)
    by_test true e = let z = same_number (length hs) j e in omega (arith, count_above a j hs (omega (arith, z)))
    by_test false e = omega arith

less_front : (a j : ℕ) (g h : List Gone) (hs : List (List Gone)) → count_run a g ≤ count_run a h → count_at a j (g ∷ hs) ≤ count_at a j (h ∷ hs)
less_front a j g h hs l = by_test (length hs == j)
  where
    by_test : (u : Bool) → cond u (count_run a g) (count_at a j hs) ≤ cond u (count_run a h) (count_at a j hs)
    by_test true = l
    by_test false = omega arith

-- what leaves comes to the hand of the round
more_front : (a j : ℕ) (hand left : List Gone) (hs : List (List Gone)) → count_at a j ((hand ++ left) ∷ hs) ≤ cond (length hs == j) (count_run a left) 0 + count_at a j (hand ∷ hs)
more_front a j hand left hs = by_test (length hs == j)
  where
    by_test : (u : Bool) → cond u (count_run a (hand ++ left)) (count_at a j hs) ≤ cond u (count_run a left) 0 + cond u (count_run a hand) (count_at a j hs)
    by_test true = omega (arith, count_append a hand left)
    by_test false = omega arith

-- how many rounds a worker or the manager has ended after these acts

abbrev pub by_stand : Setup → Stand → List Act → Option ℕ
by_stand w start acts = ended_by_stand (stand_after w start acts)

abbrev pub by_sweep : Setup → Sweep → List Act → Option ℕ
by_sweep w start acts = ended_by_sweep (swept_after w start acts)

-- what left by acts of round j, where so many rounds were ended after the acts before

abbrev pub lets_at : ℕ → Option ℕ → ℕ → ℕ
lets_at j None n = 0
lets_at j (Some k) n = if k == j then n else 0

abbrev pub left_in : (List Act → Option ℕ) → ℕ → ℕ → List Act → ℕ
left_in ended a j [] = 0
left_in ended a j (x ∷ before) = lets_at j (ended before) (left_by a x) + left_in ended a j before

-- one of those acts
pub record Went (ended : List Act → Option ℕ) (a j : ℕ) (acts : List Act) : Type 0 where
  pub bucket : ℕ
  pub note : BucketNote
  pub left : List Gone
  pub before : List Act
  pub place : At (on_bucket bucket note left) before acts
  pub counted : 1 ≤ count_run a left
  pub in_round : ended before ≡ Some j

module _ (ended : List Act → Option ℕ) (a j : ℕ) where
  went_now : (x : Act) (before : List Act) → ended before ≡ Some j → 1 ≤ left_by a x → Went ended a j (x ∷ before)
  went_now (on_pool n i) before e l = absurd (omega (arith, l))
  went_now (on_segments n) before e l = absurd (omega (arith, l))
  went_now (on_bucket b n left) before e l = record { bucket = b; note = n; left = left; before = before; place = inl (refl, refl); counted = l; in_round = e }

  went_at : (x : Act) (before : List Act) (o : Option ℕ) → ended before ≡ o → 1 ≤ lets_at j o (left_by a x) → Went ended a j (x ∷ before)
  went_at x before None e l = absurd (omega (arith, l))
  went_at x before (Some k) e l = by_test (k == j) refl l
    where
      by_test : (u : Bool) → (k == j) ≡ u → 1 ≤ cond u (left_by a x) 0 → Went ended a j (x ∷ before)
      by_test true q l = went_now x before (subst (λ (y : ℕ). ended before ≡ Some y) (same_number k j q) e) l
      by_test false q l = absurd (omega (arith, l))

  pub went : (acts : List Act) → 1 ≤ left_in ended a j acts → Went ended a j acts
  went [] l = absurd (omega (arith, l))
  went (x ∷ before) l = ⊎_elim
      (λ z. went_at x before (ended before) refl z)
      (λ z. let k = went before (omega (arith, l, z)) in
      record { bucket = k.bucket; note = k.note; left = k.left; before = k.before; place = inr k.place; counted = k.counted; in_round = k.in_round })
      (some_or_none (lets_at j (ended before) (left_by a x)))
    where
      some_or_none : (y : ℕ) → (1 ≤ y) ⊎ (y ≡ 0)
      some_or_none y = grind arith

-- a worker

behind_less : (a : ℕ) (hand : List Gone) → count_run a (behind hand) ≤ count_run a hand
behind_less a [] = omega arith
behind_less a (g ∷ hand) = omega arith

module _ (a j : ℕ) where
  abbrev pub has : Stand → ℕ
  has s = count_at a j (s.hand ∷ s.hands)

  abbrev lets : Stand → List Gone → ℕ
  lets s left = cond (length s.hands == j) (count_run a left) 0

  abbrev Adds : ℕ → Option Stand → Type 0
  Adds n None = Unit {0}
  Adds n (Some t) = has t ≤ n

  weaker : (n m : ℕ) (o : Option Stand) → n ≤ m → Adds n o → Adds m o
  weaker n m None l h = tt
  weaker n m (Some t) l h = omega (arith, l, h)

  left_adds : (b : Bool) (p : Stage) (s : Stand) (left : List Gone) → Adds (lets s left + has s) (only b (held_at p (s.hand ++ left) s))
  left_adds true p s left = more_front a j s.hand left s.hands
  left_adds false p s left = tt

  same_adds : (b : Bool) (p : Stage) (s : Stand) → Adds (has s) (only b (at p s))
  same_adds true p s = omega arith
  same_adds false p s = tt

  less_adds : (b : Bool) (p : Stage) (hand : List Gone) (s : Stand) → count_run a hand ≤ count_run a s.hand → Adds (has s) (only b (held_at p hand s))
  less_adds true p hand s l = less_front a j hand s.hand s.hands l
  less_adds false p hand s l = tt

  next_adds : (e : Bool) (i : ℕ) (later : List (List (List ℕ))) (hand : List Gone) (hands : List (List Gone)) → Adds (count_at a j (hand ∷ hands)) (next_batch e i later hand hands)
  next_adds e i [] hand hands = tt
  next_adds e i ([] ∷ later) hand hands =
      weaker (count_at a j ([] ∷ hand ∷ hands)) (count_at a j (hand ∷ hands)) (next_batch e i later [] (hand ∷ hands)) (empty_front a j (hand ∷ hands)) (next_adds e i later [] (hand ∷ hands))
  next_adds e i ((b ∷ bs) ∷ later) hand hands = omega arith

  module _ (w : Setup) where
    look_adds : (f : ℕ) (todo : List ℕ) (s : Stand) (b : ℕ) (m : BucketNote) (left : List Gone) → Adds (lets s left + has s) (look w f todo s b m left)
    look_adds f todo s b (Found g e i run o) left = left_adds _ _ s left
    look_adds f todo s b (Missing g e i ended) left = left_adds _ _ s left
    look_adds f todo s b _ left = tt

    take_adds : (f : ℕ) (todo : List ℕ) (s : Stand) (m : PoolNote) → Adds (has s) (take w f todo s m)
    take_adds f todo s (Took g) = same_adds _ _ s
    take_adds f todo s (Full g out limit) = same_adds _ _ s
    take_adds f todo s _ = tt

    evict_adds : (f k : ℕ) (todo : List ℕ) (s : Stand) (b : ℕ) (m : BucketNote) (left : List Gone) → Adds (lets s left + has s) (evict w f k todo s b m left)
    evict_adds f k todo s b (Victim g run) left = left_adds _ _ s left
    evict_adds f k todo s b (AllInUse g count) left = left_adds _ _ s left
    evict_adds f k todo s b _ left = tt

    turn_adds : (f : ℕ) (todo : List ℕ) (s : Stand) (m : PoolNote) → Adds (has s) (turn w f todo s m)
    turn_adds f todo s (Turn run g) = less_adds _ _ (behind s.hand) s (behind_less a s.hand)
    turn_adds f todo s _ = tt

    give_adds : (f : ℕ) (todo : List ℕ) (s : Stand) (m : SegNote) → Adds (has s) (give w f todo s m)
    give_adds f todo s (seg.Gave i) = less_adds _ _ (emptied s.hand) s (omega (arith, emptied_same a s.hand))
    give_adds f todo s _ = tt

    make_adds : (f : ℕ) (todo : List ℕ) (s : Stand) (b : ℕ) (m : BucketNote) (left : List Gone) → Adds (lets s left + has s) (make w f todo s b m left)
    make_adds f todo s b (Made g o) left = left_adds _ _ s left
    make_adds f todo s b _ left = tt

    refuse_adds : (f : ℕ) (todo : List ℕ) (s : Stand) (b : ℕ) (m : BucketNote) (left : List Gone) → Adds (lets s left + has s) (refuse w f todo s b m left)
    refuse_adds f todo s b (Refused g) left = left_adds _ _ s left
    refuse_adds f todo s b _ left = tt

    ask_adds : (f : ℕ) (todo : List ℕ) (s : Stand) (m : SegNote) → Adds (has s) (ask w f todo s m)
    ask_adds f todo s (seg.Took g) = same_adds _ _ s
    ask_adds f todo s (seg.Full g out limit) = same_adds _ _ s
    ask_adds f todo s (seg.Gave i) = tt

    settle_adds : (f : ℕ) (had : Bool) (todo : List ℕ) (s : Stand) (b : ℕ) (m : BucketNote) (left : List Gone) → Adds (lets s left + has s) (settle w f had todo s b m left)
    settle_adds f true todo s b (Stored g) left = left_adds _ _ s left
    settle_adds f false todo s b (Stopped g) left = left_adds _ _ s left
    settle_adds f _ todo s b _ left = tt

    close_adds : (f : ℕ) (todo : List ℕ) (s : Stand) (b : ℕ) (m : BucketNote) (left : List Gone) → Adds (lets s left + has s) (close w f todo s b m left)
    close_adds f todo s b (Closed g verdict run freed ended) left = left_adds _ _ s left
    close_adds f todo s b (Idle g verdict) left = left_adds _ _ s left
    close_adds f todo s b _ left = tt

    free_adds : (freed : ℕ) (todo : List ℕ) (s : Stand) (m : SegNote) → Adds (has s) (free w freed todo s m)
    free_adds freed todo s (seg.Gave i) = same_adds _ _ s
    free_adds freed todo s _ = tt

    begin_adds : (s : Stand) (m : PoolNote) (i : ℕ) → Adds (has s) (begin w s m i)
    begin_adds s (Mode e) i = next_adds e i s.rounds s.hand s.hands
    begin_adds s _ i = tt

    pool_adds : (p : Stage) (s : Stand) (m : PoolNote) (i : ℕ) → Adds (has s) (pool_step w p s m i)
    pool_adds between s m i = begin_adds s m i
    pool_adds (missed f todo) s m i = take_adds f todo s m
    pool_adds (turning f todo) s m i = turn_adds f todo s m
    pool_adds _ s m i = tt

    segments_add : (p : Stage) (s : Stand) (m : SegNote) → Adds (has s) (segments_step w p s m)
    segments_add (turning f todo) s m = give_adds f todo s m
    segments_add (asking f todo) s m = ask_adds f todo s m
    segments_add (freeing freed todo) s m = free_adds freed todo s m
    segments_add _ s m = tt

    bucket_adds : (p : Stage) (s : Stand) (b : ℕ) (m : BucketNote) (left : List Gone) → Adds (lets s left + has s) (bucket_step w p s b m left)
    bucket_adds (looking (f ∷ todo)) s b m left = look_adds f todo s b m left
    bucket_adds (evicting f k todo) s b m left = evict_adds f k todo s b m left
    bucket_adds (granted f todo) s b m left = make_adds f todo s b m left
    bucket_adds (denied f todo) s b m left = refuse_adds f todo s b m left
    bucket_adds (settling f had todo) s b m left = settle_adds f had todo s b m left
    bucket_adds (closing (f ∷ todo)) s b m left = close_adds f todo s b m left
    bucket_adds _ s b m left = tt

    act_adds : (s t : Stand) (x : Act) → after_act w s x ≡ Some t → has t ≤ lets_at j (Some (length s.hands)) (left_by a x) + has s
    act_adds s t (on_pool m i) h = let k = subst (λ (o : Option Stand). Adds (has s) o) h (pool_adds s.stage s m i) in omega (arith, k)
    act_adds s t (on_segments m) h = let k = subst (λ (o : Option Stand). Adds (has s) o) h (segments_add s.stage s m) in omega (arith, k)
    act_adds s t (on_bucket b m left) h = subst (λ (o : Option Stand). Adds (lets s left + has s) o) h (bucket_adds s.stage s b m left)

    stand_more : (n : ℕ) (o : Option Stand) (t : Stand) (x : Act) → moved w x o ≡ Some t → ((s : Stand) → o ≡ Some s → has s ≤ n) → has t ≤ lets_at j (ended_by_stand o) (left_by a x) + n
    stand_more n None t x h k = cc
    stand_more n (Some s) t x h k = omega (arith, act_adds s t x h, k s refl)

    -- what a worker's hand of round j holds left by its acts of round j
    pub stand_left : (start t : Stand) (acts : List Act) → has start ≡ 0 → stand_after w start acts ≡ Some t → has t ≤ left_in (by_stand w start) a j acts
    stand_left start t [] z h = let e : start ≡ t = cc in subst (λ (s : Stand). has s ≤ 0) e (omega (arith, z))
    stand_left start t (x ∷ acts) z h = stand_more (left_in (by_stand w start) a j acts) (stand_after w start acts) t x h (λ s e. stand_left start s acts z e)

  -- where its script is over
  pub over_count : (later : List (List (List ℕ))) (hand : List Gone) (hands all : List (List Gone)) → over later hand hands ≡ Some all → count_at a j all ≤ count_at a j (hand ∷ hands)
  over_count [] [] hands all h = let e : hands ≡ all = cc in subst (λ (x : List (List Gone)). count_at a j x ≤ count_at a j ([] ∷ hands)) e (skip_front a j [] hands)
  over_count [] (g ∷ hand) hands all h = cc
  over_count ([] ∷ later) hand hands all h = omega (arith, over_count later [] (hand ∷ hands) all h, empty_front a j (hand ∷ hands))
  over_count ((b ∷ bs) ∷ later) hand hands all h = cc

  -- the manager

  abbrev pub sweeps : Sweep → ℕ
  sweeps s = count_at a j (s.hand ∷ s.hands)

  abbrev Sweeps : ℕ → Option Sweep → Type 0
  Sweeps n None = Unit {0}
  Sweeps n (Some t) = sweeps t ≤ n

  only_sweeps : (b : Bool) (n : ℕ) (t : Sweep) → sweeps t ≤ n → Sweeps n (only b t)
  only_sweeps true n t h = h
  only_sweeps false n t h = tt

  module _ (w : Setup) where
    sweep_adds : (k : ℕ) (s : Sweep) (b : ℕ) (m : BucketNote) (left : List Gone) → Sweeps (cond (length s.hands == j) (count_run a left) 0 + sweeps s) (sweep w k s b m left)
    sweep_adds k s b (Swept round e i count) left = only_sweeps _ _ _ (more_front a j s.hand left s.hands)
    sweep_adds k s b _ left = tt

    start_adds : (s : Sweep) (m : PoolNote) (i : ℕ) → Sweeps (sweeps s) (start_round w s m i)
    start_adds s (Mode e) i = only_sweeps _ _ _ (omega arith)
    start_adds s _ i = tt

    end_adds : (s : Sweep) (m : PoolNote) → Sweeps (sweeps s) (end_round w s m)
    end_adds s (Over round done) = only_sweeps _ _ _ (empty_front a j (s.hand ∷ s.hands))
    end_adds s _ = tt

    manage_adds : (p : Task) (s t : Sweep) (x : Act) → manage w p s x ≡ Some t → sweeps t ≤ lets_at j (Some (length s.hands)) (left_by a x) + sweeps s
    manage_adds resting s t (on_pool m i) h = let k = subst (λ (o : Option Sweep). Sweeps (sweeps s) o) h (start_adds s m i) in omega (arith, k)
    manage_adds (sweeping k) s t (on_bucket b m left) h =
        subst (λ (o : Option Sweep). Sweeps (cond (length s.hands == j) (count_run a left) 0 + sweeps s) o) h (sweep_adds k s b m left)
    manage_adds leaving s t (on_pool m i) h = let k = subst (λ (o : Option Sweep). Sweeps (sweeps s) o) h (end_adds s m) in omega (arith, k)
    manage_adds resting s t (on_segments m) h = cc
    manage_adds resting s t (on_bucket b m left) h = cc
    manage_adds (sweeping k) s t (on_pool m i) h = cc
    manage_adds (sweeping k) s t (on_segments m) h = cc
    manage_adds leaving s t (on_segments m) h = cc
    manage_adds leaving s t (on_bucket b m left) h = cc

    sweep_more : (n : ℕ) (o : Option Sweep) (t : Sweep) (x : Act) → managed w x o ≡ Some t → ((s : Sweep) → o ≡ Some s → sweeps s ≤ n)
        → sweeps t ≤ lets_at j (ended_by_sweep o) (left_by a x) + n
    sweep_more n None t x h k = cc
    sweep_more n (Some s) t x h k = omega (arith, manage_adds s.task s t x h, k s refl)

    pub sweep_left : (start t : Sweep) (acts : List Act) → sweeps start ≡ 0 → swept_after w start acts ≡ Some t → sweeps t ≤ left_in (by_sweep w start) a j acts
    sweep_left start t [] z h = let e : start ≡ t = cc in subst (λ (s : Sweep). sweeps s ≤ 0) e (omega (arith, z))
    sweep_left start t (x ∷ acts) z h = sweep_more (left_in (by_sweep w start) a j acts) (swept_after w start acts) t x h (λ s e. sweep_left start s acts z e)

  -- nothing is held at first
  pub none_held : count_at a j ([] ∷ []) ≡ 0
  none_held = by_test (0 == j)
    where
      by_test : (u : Bool) → cond u (count_run a []) (count_at a j []) ≡ 0
      by_test true = refl
      by_test false = refl

-- the hands of the rounds that a worker has ended
pub passed_count_at : (a j : ℕ) (left : List (List (List ℕ))) (hand : List Gone) (hands : List (List Gone)) → count_at a j (passed left hand hands) ≤ count_at a j (hand ∷ hands)
passed_count_at a j [] hand hands = skip_front a j hand hands
passed_count_at a j ([] ∷ later) hand hands = omega (arith, passed_count_at a j later [] (hand ∷ hands), empty_front a j (hand ∷ hands))
passed_count_at a j ((b ∷ bs) ∷ later) hand hands = skip_front a j hand hands

pub stage_count_at : (a j : ℕ) (p : Stage) (s : Stand) → count_at a j (passed_at p s) ≤ count_at a j (s.hand ∷ s.hands)
stage_count_at a j between s = passed_count_at a j s.rounds s.hand s.hands
stage_count_at a j (looking todo) s = skip_front a j s.hand s.hands
stage_count_at a j (missed f todo) s = skip_front a j s.hand s.hands
stage_count_at a j (evicting f k todo) s = skip_front a j s.hand s.hands
stage_count_at a j (turning f todo) s = skip_front a j s.hand s.hands
stage_count_at a j (granted f todo) s = skip_front a j s.hand s.hands
stage_count_at a j (denied f todo) s = skip_front a j s.hand s.hands
stage_count_at a j (asking f todo) s = skip_front a j s.hand s.hands
stage_count_at a j (settling f had todo) s = skip_front a j s.hand s.hands
stage_count_at a j (closing todo) s = skip_front a j s.hand s.hands
stage_count_at a j (freeing n todo) s = skip_front a j s.hand s.hands

-- a hand counted back from the newest is that of a round
pub nth_round : (a k : ℕ) (hs : List (List Gone)) → 1 ≤ count_run a (nth k hs) → (k < length hs) × (1 ≤ count_at a (length hs - suc k) hs)
nth_round a k [] l = absurd (omega (arith, l))
nth_round a zero (h ∷ hs) l =
    let z : (length hs == suc (length hs) - 1) ≡ true = newest (length hs) in
    (omega arith, rw z l)
  where
    newest : (x : ℕ) → (x == suc x - 1) ≡ true
    newest x = grind (arith, nat_tests)
nth_round a (suc k) (h ∷ hs) l =
    let y = nth_round a k hs l in
    let z : (length hs == suc (length hs) - suc (suc k)) ≡ false = older (length hs) k y.0 in
    let e : suc (length hs) - suc (suc k) ≡ length hs - suc k = omega arith in
    (omega (arith, y.0), rw z (subst (λ (x : ℕ). 1 ≤ count_at a x hs) (sym e) y.1))
  where
    older : (x y : ℕ) → y < x → (x == suc x - suc (suc y)) ≡ false
    older x y h = grind (arith, nat_tests)

pub one_of : (x y : ℕ) → 1 ≤ x + y → (1 ≤ x) ⊎ (1 ≤ y)
one_of x y h = grind arith

-- a run of the recycler's queue is in a hand of a round before the last, one of the end role's queue in one of the last round

pub in_gathered : (a n k : ℕ) (hands : ℕ → List (List Gone)) → 1 ≤ count_run a (gathered n hands k) → (r : ℕ) × (r < n) × (1 ≤ count_run a (nth k (hands r)))
in_gathered a zero k hands l = absurd (omega (arith, l))
in_gathered a (suc n) k hands l = ⊎_elim
    (λ z. let y = in_gathered a n k hands z in (y.0, omega (arith, y.1), y.2))
    (λ z. (n, omega arith, z))
    (one_of (count_run a (gathered n hands k)) (count_run a (nth k (hands n))) (omega (arith, l, count_append a (gathered n hands k) (nth k (hands n)))))

pub in_waited : (a n k : ℕ) (hands : ℕ → List (List Gone)) → 1 ≤ count_run a (waited n hands k) → (r : ℕ) × (r < n) × (i : ℕ) × (1 ≤ count_run a (nth (suc i) (hands r)))
in_waited a n zero hands l = absurd (omega (arith, l))
in_waited a n (suc k) hands l = ⊎_elim
    (λ z. let y = in_gathered a n (suc k) hands z in (y.0, y.1, k, y.2))
    (λ z. in_waited a n k hands z)
    (one_of (count_run a (gathered n hands (suc k))) (count_run a (waited n hands k)) (omega (arith, l, count_append a (gathered n hands (suc k)) (waited n hands k))))

in_round : (a n j : ℕ) (hands : ℕ → List (List Gone)) → 1 ≤ count_run a (round_hands n hands j) → (r : ℕ) × (r < n) × (1 ≤ count_run a (hand_of_round j (hands r)))
in_round a zero j hands l = absurd (omega (arith, l))
in_round a (suc n) j hands l = ⊎_elim
    (λ z. let y = in_round a n j hands z in (y.0, omega (arith, y.1), y.2))
    (λ z. (n, omega arith, z))
    (one_of (count_run a (round_hands n hands j)) (count_run a (hand_of_round j (hands n))) (omega (arith, l, count_append a (round_hands n hands j) (hand_of_round j (hands n)))))

-- a run of the hands of the first rounds is in the hand of one of those rounds
pub in_first : (a n k : ℕ) (hands : ℕ → List (List Gone)) → 1 ≤ count_run a (first_hands n hands k)
    → (r : ℕ) × (r < n) × (j : ℕ) × (j < k) × (1 ≤ count_run a (hand_of_round j (hands r)))
in_first a n zero hands l = absurd (omega (arith, l))
in_first a n (suc k) hands l = ⊎_elim
    (λ z. let y = in_first a n k hands z in (y.0, y.1, y.2, omega (arith, y.3), y.4))
    (λ z. let y = in_round a n k hands z in (y.0, y.1, k, omega arith, y.2))
    (one_of (count_run a (first_hands n hands k)) (count_run a (round_hands n hands k)) (omega (arith, l, count_append a (first_hands n hands k) (round_hands n hands k))))

pub round_count_at : (a j : ℕ) (hs : List (List Gone)) → j < length hs → 1 ≤ count_run a (hand_of_round j hs) → 1 ≤ count_at a j hs
round_count_at a j hs h l =
    let y = nth_round a (length hs - suc j) hs l in
    let e : length hs - suc (length hs - suc j) ≡ j = omega (arith, h) in
    subst (λ (x : ℕ). 1 ≤ count_at a x hs) e y.1
