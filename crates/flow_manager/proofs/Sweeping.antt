-- The buckets are swept, one after another.
use Rattle.std.proofs.Common.{◌≡◌, ℕ, zero, suc, ◌+◌, ◌-◌, ◌*◌, ◌/◌, ◌<◌, ◌≤◌, ◌==◌, nat_lt, Bool, true, false, ◌&&◌, List, [], ◌∷◌, ◌++◌, length, Some, refl, sym, ◌∙◌, ap, subst, arith, append_assoc, append-nil}
use Rattle.std.proofs.Math.Nat.{div-mul-le_self, mul-le-mul_right}
use Rattle.std.proofs.lemmas.Bool.Decides.{nat_tests}
use Rattle.bucket_laws.specs.Leaving.{Gone, gone}
use Rattle.capture_index.specs.Batches.{rounds_of}
use Rattle.flow_bucket.specs.declared.calls.BucketCall.TheVariants as call
use Rattle.flow_bucket.specs.declared.calls.BucketReply.TheVariants as reply
use Rattle.flow_object.specs.Ending.{EndedFlow}
use Rattle.flow_manager.specs.Sweeping.{MaySweepAll, SweptAll, SweptOne, Sweeping}
use Rattle.flow_pool.specs.Pool.{FlowPoolAnswers, setting_of}
use Rattle.flow_pool.specs.declared.calls.PoolCall.TheVariants as poolcall
use Rattle.flow_pool.specs.declared.calls.PoolReply.{PoolReply}
use Rattle.flow_pool.specs.declared.calls.PoolReply.TheVariants as poolreply
use Rattle.hist_lock.specs.Locks.{made_with, seen_by}
use Rattle.role_steps.specs.Calls.{CalledBucket, CalledPool}
use Rattle.role_steps.specs.Items.{Items}
use Rattle.role_steps.specs.Roles.{Acted, IsShared, MayOnBucket, number_of, seen, setup_of}
use Rattle.role_steps.specs.declared.roles.Manager.{Manager}
use Rattle.role_steps.specs.declared.roles.Passes.{Passes}
use Rattle.role_steps.specs.declared.roles.Shared.{Shared}
use Rattle.role_steps.proofs.LettingGo.{called_items, items_append, items_grow}
use Rattle.role_steps.proofs.Stepping.{acted_bucket, acted_pool, acted_through}
use Rattle.run_rules.specs.Acts.{Act, on_pool, on_bucket}
use Rattle.run_rules.specs.Manager.{Sweep, Task, leaving, manage, managed, resting, sweep_on, sweeping, swept_after}
use Rattle.run_rules.specs.Serving.{only}
use Rattle.run_rules.specs.Setup.{Setup, fixed_at, rounds}
use Rattle.suri_base.specs.Keys.{same_truth}
use Rattle.suri_base.specs.declared.entry.BucketNote.{BucketNote}
use Rattle.suri_base.specs.declared.entry.BucketNote.TheVariants.{Swept}
use Rattle.suri_base.specs.declared.entry.PoolNote.{PoolNote}
use Rattle.suri_base.specs.declared.entry.PoolNote.TheVariants.{Mode, Over}

only_true : {A : Type 0} (t : Bool) (x : A) → t ≡ true → only t x ≡ Some x
only_true true x h = refl
only_true false x h = cc

and_true : (p q : Bool) → p ≡ true → q ≡ true → (p && q) ≡ true
and_true true q h k = k
and_true false q h k = cc

is_same : (m n : ℕ) → m ≡ n → (m == n) ≡ true
is_same m n e = subst (λ (x : ℕ). (m == x) ≡ true) e (same_yes m)
  where
    same_yes : (r : ℕ) → (r == r) ≡ true
    same_yes r = grind (arith, nat_tests)

is_less : (m n : ℕ) → m < n → nat_lt m n ≡ true
is_less m n h = grind (arith, nat_tests)

truth_yes : (e : Bool) → same_truth e e ≡ true
truth_yes true = refl
truth_yes false = refl

task_more : (k rows : ℕ) → k < rows → sweep_on k rows ≡ sweeping k
task_more k rows h = let x : (k == rows) ≡ false = other k rows h in rw x refl
  where
    other : (k rows : ℕ) → k < rows → (k == rows) ≡ false
    other k rows h = grind (arith, nat_tests)

task_last : (k rows : ℕ) → k ≡ rows → sweep_on k rows ≡ leaving
task_last k rows e = let x = is_same k rows e in rw x refl

-- the script, step by step

module _ (w : Setup) (start : Sweep) (before : List Act) (x : Sweep) (h : swept_after w start before ≡ Some x) where
  mode_step : (e : Bool) (at round : ℕ) → x.task ≡ resting → x.round ≡ round → round < rounds w
      → swept_after w start (on_pool (Mode e) at ∷ before) ≡ Some (record { task = sweep_on 0 w.layout.rows; round = round; emergency = e; seen = at; hand = x.hand; hands = x.hands })
  mode_step e at round task is low =
      ap (managed w (on_pool (Mode e) at)) h
      ∙ (ap (λ (t : Task). manage w t x (on_pool (Mode e) at)) task
      ∙ (only_true (nat_lt x.round (rounds w)) _ (ap (λ (r : ℕ). nat_lt r (rounds w)) is ∙ is_less round (rounds w) low)
      ∙ ap (λ (r : ℕ). Some (record { task = sweep_on 0 w.layout.rows; round = r; emergency = e; seen = at; hand = x.hand; hands = x.hands })) is))

sweep_step : (w : Setup) (start : Sweep) (before : List Act) (k round n count : ℕ) (e : Bool) (hand left : List Gone) (hands : List (List Gone)) → k < w.layout.rows
    → swept_after w start before ≡ Some (record { task = sweep_on k w.layout.rows; round = round; emergency = e; seen = n; hand = hand; hands = hands })
    → swept_after w start (on_bucket k (Swept round e n count) left ∷ before)
    ≡ Some (record { task = sweep_on (k + 1) w.layout.rows; round = round; emergency = e; seen = n; hand = hand ++ left; hands = hands })
sweep_step w start before k round n count e hand left hands low h =
    let x : Sweep = record { task = sweep_on k w.layout.rows; round = round; emergency = e; seen = n; hand = hand; hands = hands } in
    ap (managed w (on_bucket k (Swept round e n count) left)) h
    ∙ (ap (λ (t : Task). manage w t x (on_bucket k (Swept round e n count) left)) (task_more k w.layout.rows low)
    ∙ only_true ((k == k) && (round == round) && same_truth e e && (n == n)) _
    (and_true ((k == k) && (round == round) && same_truth e e) (n == n)
    (and_true ((k == k) && (round == round)) (same_truth e e) (and_true (k == k) (round == round) (is_same k k refl) (is_same round round refl)) (truth_yes e)) (is_same n n refl)))

over_step : (w : Setup) (start : Sweep) (before : List Act) (k round n at : ℕ) (e done : Bool) (hand : List Gone) (hands : List (List Gone)) → k ≡ w.layout.rows
    → swept_after w start before ≡ Some (record { task = sweep_on k w.layout.rows; round = round; emergency = e; seen = n; hand = hand; hands = hands })
    → swept_after w start (on_pool (Over round done) at ∷ before)
    ≡ Some (record { task = resting; round = round + 1; emergency = e; seen = n; hand = []; hands = hand ∷ hands })
over_step w start before k round n at e done hand hands all h =
    let x : Sweep = record { task = sweep_on k w.layout.rows; round = round; emergency = e; seen = n; hand = hand; hands = hands } in
    ap (managed w (on_pool (Over round done) at)) h
    ∙ (ap (λ (t : Task). manage w t x (on_pool (Over round done) at)) (task_last k w.layout.rows all) ∙ only_true (round == round) _ (is_same round round refl))

-- the calls

noted_mode : (s : _) (past : _) (role : ℕ) (b : Bool) (said : PoolNote) → FlowPoolAnswers s past role poolcall.Mode (poolreply.On b) said → said ≡ Mode b
noted_mode s past role b said h = h.1 ∙ ap Mode (sym h.0)

noted_over : (s : _) (past : _) (role round : ℕ) (r : PoolReply) (said : PoolNote) → FlowPoolAnswers s past role (poolcall.Over round) r said → (done : Bool) × (said ≡ Over round done)
noted_over s past role round (poolreply.Ended b) said h = (b, h.1)
noted_over s past role round poolreply.Done said h = absurd h
noted_over s past role round (poolreply.Obj o) said h = absurd h
noted_over s past role round (poolreply.Full m l) said h = absurd h
noted_over s past role round (poolreply.Turned o) said h = absurd h
noted_over s past role round (poolreply.On b) said h = absurd h

pub mode_read : (s : Shared) (old new : Passes) (b : Bool) (n : ℕ) → CalledPool s old new poolcall.Mode (poolreply.On b) → n ≡ length (seen_by new.pool)
    → Acted s old new (on_pool (Mode b) n ∷ [])
mode_read s old new b n c is =
    let at : length c.stepped.before + 1 ≡ n = sym (is ∙ (ap length c.stepped.pool ∙ omega arith)) in
    subst (λ (a : Act). Acted s old new (a ∷ []))
    (c.stepped.is ∙ (ap (λ (m : PoolNote). on_pool m (length c.stepped.before + 1)) (noted_mode (setting_of (made_with s.pool)) c.stepped.before (number_of old) b c.note c.answer)
    ∙ ap (λ (i : ℕ). on_pool (Mode b) i) at))
    (acted_pool s old new poolcall.Mode (poolreply.On b) c)

pub round_told : (s : Shared) (old new : Passes) (round : ℕ) (r : PoolReply) → CalledPool s old new (poolcall.Over round) r
    → (done : Bool) × (at : ℕ) × Acted s old new (on_pool (Over round done) at ∷ [])
round_told s old new round r c =
    let n = noted_over (setting_of (made_with s.pool)) c.stepped.before (number_of old) round r c.note c.answer in (
      n.0,
      length c.stepped.before + 1,
      subst (λ (a : Act). Acted s old new (a ∷ [])) (c.stepped.is ∙ ap (λ (m : PoolNote). on_pool m (length c.stepped.before + 1)) n.1) (acted_pool s old new (poolcall.Over round) r c),
    )

pub swept_one : (s : Shared) (old new : Manager) (b round n : ℕ) (e : Bool) (es : _) → IsShared s → b < length s.buckets.items
    → CalledBucket s old.passes new.passes b (call.Sweep round e n) (reply.Swept es) → new.hand.items ≡ old.hand.items ++ es.items → SweptOne s old new b round e n
swept_one s old new b round n e es sh real c hand = record {
  count = length es.items;
  left = gone (fixed_at (setup_of s) b) c.stepped.before c.note;
  acted = subst (λ (a : Act). Acted s old.passes new.passes (a ∷ []))
      (c.stepped.is ∙ ap (λ (m : BucketNote). on_bucket b m (gone (fixed_at (setup_of s) b) c.stepped.before c.note)) c.answer.noted)
      (acted_bucket s old.passes new.passes b (call.Sweep round e n) (reply.Swept es) c);
  ended = es.items;
  hand = hand;
  items = called_items s old.passes new.passes b (call.Sweep round e n) (reply.Swept es) sh real c;
}

-- the manager may sweep in each round

round_within : (n size round : ℕ) → round < rounds_of n size → round * size < n
round_within zero size round h = absurd (omega (arith, h))
round_within (suc m) size round h =
    let q : suc m - 1 ≡ m = omega arith in
    let low : round ≤ m / size = subst (λ (k : ℕ). round ≤ k / size) q (omega (arith, h)) in
    let scaled : round * size ≤ m / size * size = mul-le-mul_right size low in
    omega (arith, scaled, div-mul-le_self m size)

pub may_sweep : (s : Shared) (old mid : Manager) (round n : ℕ) (e : Bool) (b : ℕ) → MaySweepAll s old round → number_of mid.passes ≡ number_of old.passes
    → MayOnBucket s mid.passes b (call.Sweep round e n)
may_sweep s old mid round n e b m same = record { manager = same ∙ m.number; within = round_within (length s.capture.now.frames) s.layout.round round m.within }

-- all of them

pub sweeping_start : (s : Shared) (old mid : Manager) (round n : ℕ) (e : Bool) → MaySweepAll s old round → Acted s old.passes mid.passes (on_pool (Mode e) n ∷ []) → mid.hand.items ≡ []
    → Sweeping s old mid round e n 0
sweeping_start s old mid round n e m a hand = record {
  now = on_pool (Mode e) n ∷ [];
  acted = a;
  count = refl;
  left = [];
  items = subst (λ (l : List EndedFlow). Items (setup_of s) (seen mid.passes) [] l) (sym hand) tt;
  stands = λ start x before h task is.
      mode_step (setup_of s) start before x h e n round task is m.within
      ∙ ap (λ (l : List Gone). Some (record { task = sweep_on 0 s.layout.rows; round = round; emergency = e; seen = n; hand = l; hands = x.hands })) (sym (append-nil x.hand));
}

pub sweeping_next : (s : Shared) (old mid new : Manager) (round n k : ℕ) (e : Bool) → Sweeping s old mid round e n k → SweptOne s mid new k round e n → k < s.layout.rows
    → Sweeping s old new round e n (k + 1)
sweeping_next s old mid new round n k e sw one low =
    let act = on_bucket k (Swept round e n one.count) one.left in record {
      now = act ∷ sw.now;
      acted = acted_through s old.passes mid.passes new.passes sw.now (act ∷ []) sw.acted one.acted;
      count = omega (arith, sw.count);
      left = sw.left ++ one.left;
      items = subst (λ (l : List EndedFlow). Items (setup_of s) (seen new.passes) (sw.left ++ one.left) l) (sym one.hand)
          (items_append (setup_of s) (seen new.passes) sw.left one.left mid.hand.items one.ended
          (items_grow (setup_of s) (seen mid.passes) (seen new.passes) one.acted.grown sw.left mid.hand.items sw.items) one.items);
      stands = λ start x before h task is.
          sweep_step (setup_of s) start (sw.now ++ before) k round n one.count e (x.hand ++ sw.left) one.left x.hands low (sw.stands start x before h task is)
          ∙ ap (λ (l : List Gone). Some (record { task = sweep_on (k + 1) s.layout.rows; round = round; emergency = e; seen = n; hand = l; hands = x.hands }))
          (append_assoc x.hand sw.left one.left);
    }

pub swept_all : (s : Shared) (old mid new : Manager) (round n k : ℕ) (e : Bool) → MaySweepAll s old round → Sweeping s old mid round e n k → k ≡ length s.buckets.items
    → (done : Bool) × (at : ℕ) × Acted s mid.passes new.passes (on_pool (Over round done) at ∷ []) → new.hand ≡ mid.hand → SweptAll s old new round
swept_all s old mid new round n k e m sw all told hand =
    let w = setup_of s in
    let act = on_pool (Over round told.0) told.1 in
    let a : Acted s old.passes new.passes (act ∷ sw.now) = acted_through s old.passes mid.passes new.passes sw.now (act ∷ []) sw.acted told.2 in
    let rows : k ≡ s.layout.rows = all ∙ m.shared.rows in record {
      fits = a.fits;
      number = a.number;
      grown = a.grown;
      now = act ∷ sw.now;
      step = a.step;
      few = omega (arith, a.step, sw.count, rows, m.steps);
      left = sw.left;
      items = subst (λ h. Items w (seen new.passes) sw.left h.items) (sym hand)
          (items_grow w (seen mid.passes) (seen new.passes) told.2.grown sw.left mid.hand.items sw.items);
      after = λ before hands b.
          let r = b.stands in record {
            own = a.own before b.step b.own;
            stands = record {
              sweep = record { task = resting; round = round + 1; emergency = e; seen = n; hand = []; hands = (r.sweep.hand ++ sw.left) ∷ r.sweep.hands };
              stood = over_step w _ (sw.now ++ before) k round n told.1 e told.0 (r.sweep.hand ++ sw.left) r.sweep.hands rows (sw.stands _ r.sweep before r.stood r.rests r.round);
              rests = refl;
              round = omega arith;
              empty = refl;
              held = ap (λ (l : List Gone). (l ++ sw.left) ∷ r.sweep.hands) r.empty ∙ ap (λ (l : List (List Gone)). sw.left ∷ l) r.held;
            };
          };
    }
