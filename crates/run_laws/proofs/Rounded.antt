-- At the end of a round as many flows are out as wait for the next round, or more: what left is given back or waits, what left had been made,
-- and what was made was got. Only the recycler puts, once for each run that waited; so the next round's puts are no more than were out.
use Rattle.std.proofs.Common.{◌≡◌, ℕ, zero, suc, ◌==◌, ◌+◌, ◌-◌, ◌<◌, ◌≤◌, nat_le, Bool, true, false, cond, ◌&&◌, List, [], ◌∷◌, ◌++◌, length, Option, Some, None, ⊎_elim, refl, sym, ◌∙◌, ap, subst, arith, length-append}
use Rattle.std.proofs.lemmas.Bool.Decides.{eqb_tells}
use Rattle.std.proofs.lemmas.List.{append-nil}
use Rattle.bucket_laws.proofs.Leaving.{balance}
use Rattle.bucket_laws.proofs.Tests.{both}
use Rattle.bucket_laws.specs.Counts.{begins, one_if, times_begun, times_left}
use Rattle.bucket_laws.specs.Leaving.{Gone, sum_nodes}
use Rattle.bucket_rules.specs.Row.{lets_go}
use Rattle.flow_pool.specs.Counting.{flows_out, flows_out_after}
use Rattle.run_laws.proofs.Counting.{count_in, drop_count, drop_length, drop_one, given_count, given_names, given_on, got_count, got_names, got_on, is_own, out_count}
use Rattle.run_laws.proofs.Hands.{all_hands, handed_on}
use Rattle.run_laws.proofs.Leavers.{count_gone}
use Rattle.run_laws.proofs.Parts.{entries_sum, pool_sum}
use Rattle.run_laws.proofs.Serving.{Totals, manager_totals, queue_totals, sweep_holds, sweep_nodes}
use Rattle.run_laws.proofs.Sums.{same_number, sum_plus, sum_same, sum_zero}
use Rattle.run_laws.proofs.Uses.{as_many, sum_le}
use Rattle.run_laws.proofs.Using.{RoleTotals, all_count, length_rounds, sum_roles}
use Rattle.run_laws.proofs.Working.{count_append, kept_all, one_step, only_some, owed_node, owed_nodes, owed_run, step_at}
use Rattle.run_laws.specs.Counts.{gets, gives, is, sum_below, tally}
use Rattle.run_laws.specs.Measures.{begun_by, count_hands, count_run, given_by, got_by, hand_nodes, left_by, total}
use Rattle.run_laws.specs.RoundEnd.{IsRoundEnd, next_queue, only_puts, put_in}
use Rattle.run_rules.specs.Rounds.{EndedRounds, ended_between, ended_with, hands_of}
use Rattle.run_rules.specs.Acts.{Act, on_bucket, on_pool, on_segments}
use Rattle.run_rules.specs.Histories.{Histories, bucket_at}
use Rattle.run_rules.specs.Lawful.{AreScripted, IsDue, PutsAreDue, gathered, nth, waited}
use Rattle.run_rules.specs.Manager.{Sweep, Task, leaving, manage, managed, new_manager, resting, sweeping, swept_after}
use Rattle.run_rules.specs.Serving.{behind, emptied, front_holds, front_is, queue_after, serve, serve_pool, serve_segments, served}
use Rattle.run_rules.specs.Setup.{Setup, ender, fixed_at, manager, recycler, roles, rounds, work_of}
use Rattle.run_rules.specs.Worker.{Stage, Stand, asking, between, closing, denied, evicting, freeing, fresh, granted, looking, missed, moved, settling, stand_after, turning}
use Rattle.suri_base.specs.declared.entry.Entry.{Entry}
use Rattle.suri_base.specs.declared.entry.PoolNote.{PoolNote}
use Rattle.suri_base.specs.declared.entry.PoolNote.TheVariants.{Full, Mode, Over, Put, Took, Turn}
use Rattle.suri_base.specs.declared.entry.SegNote.{SegNote}
use Rattle.suri_base.specs.declared.entry.SegNote.TheVariants as seg

-- the end of a round in a worker's script

with_sum : (a n : ℕ) (later : List (List (List ℕ))) (hand : List Gone) (hands all : List (List Gone)) → ended_with n later hand hands ≡ Some all
    → (count_hands a all ≡ count_run a hand + count_hands a hands) × (length all + n ≡ length later + length hands) × (hand_nodes all ≡ sum_nodes hand + hand_nodes hands)
with_sum a n [] hand hands all h = cc
with_sum a n ([] ∷ later) hand hands all h = by_test (length later == n) refl h (λ x. with_sum a n later [] (hand ∷ hands) all x)
  where
    by_test : (t : Bool) → (length later == n) ≡ t → cond t (Some (hand ∷ hands)) (ended_with n later [] (hand ∷ hands)) ≡ Some all
        → (ended_with n later [] (hand ∷ hands) ≡ Some all → (count_hands a all ≡ count_run a [] + count_hands a (hand ∷ hands)) ×
        (length all + n ≡ length later + length (hand ∷ hands)) × (hand_nodes all ≡ sum_nodes [] + hand_nodes (hand ∷ hands)))
        → (count_hands a all ≡ count_run a hand + count_hands a hands) × (length all + n ≡ length ([] ∷ later) + length hands) × (hand_nodes all ≡ sum_nodes hand + hand_nodes hands)
    by_test true e h more =
        let k : hand ∷ hands ≡ all = cc in
        let len = same_number (length later) n e in
        subst (λ (x : List (List Gone)). (count_hands a x ≡ count_run a hand + count_hands a hands) × (length x + n ≡ length ([] ∷ later) + length hands) ×
        (hand_nodes x ≡ sum_nodes hand + hand_nodes hands)) k
        (refl, omega (arith, len), refl)
    by_test false e h more = let k = more h in (omega (arith, k.0), omega (arith, k.1), omega (arith, k.2))
with_sum a n ((b ∷ bs) ∷ later) hand hands all h = cc

between_place : (n : ℕ) (p : Stage) (s : Stand) (all : List (List Gone)) → ended_between n p s ≡ Some all → (p ≡ between) × (ended_with n s.rounds s.hand s.hands ≡ Some all)
between_place n between s all h = (refl, h)
between_place n (looking todo) s all h = cc
between_place n (missed f todo) s all h = cc
between_place n (evicting f k todo) s all h = cc
between_place n (turning f todo) s all h = cc
between_place n (granted f todo) s all h = cc
between_place n (denied f todo) s all h = cc
between_place n (asking f todo) s all h = cc
between_place n (settling f had todo) s all h = cc
between_place n (closing todo) s all h = cc
between_place n (freeing m todo) s all h = cc

hands_some : (n : ℕ) (o : Option Stand) (all : List (List Gone)) → hands_of n o ≡ Some all → (s : Stand) × (o ≡ Some s) × (s.stage ≡ between) × (ended_with n s.rounds s.hand s.hands ≡ Some all)
hands_some n None all h = cc
hands_some n (Some s) all h = let k = between_place n s.stage s all h in (s, refl, k.0, k.1)

round_totals : (w : Setup) (a role r : ℕ) (acts : List Act) (all : List (List Gone)) → suc r ≤ rounds w → EndedRounds w role (suc r) acts all → RoleTotals a acts 0 0 all × (length all ≡ suc r)
round_totals w a role r acts all p h =
    let e = hands_some (rounds w - suc r) (stand_after w (fresh (work_of w role)) acts) all h in
    let k = kept_all w a (length (work_of w role)) (fresh (work_of w role)) (record { got = refl; left = refl; nodes = refl; freed = refl; rounds = omega arith }) acts e.0 e.1 in
    let o = with_sum a (rounds w - suc r) e.0.rounds e.0.hand e.0.hands all e.3 in
    let x : owed_run a e.0.stage ≡ 0 = ap (owed_run a) e.2 in
    let q : owed_node e.0.stage ≡ 0 = ap owed_node e.2 in
    let z : owed_nodes e.0.stage ≡ 0 = ap owed_nodes e.2 in (
      record { got = omega (arith, k.got, x); took = omega (arith, k.nodes, q); left = omega (arith, k.left, o.0); freed = omega (arith, k.freed, o.2, z) },
      omega (arith, o.1, k.rounds, length_rounds w role, p),
    )

-- fewer of each make a shorter list
pub shorter : (xs ys : List ℕ) → ((a : ℕ) → count_in a xs ≤ count_in a ys) → length xs ≤ length ys
shorter [] ys h = omega arith
shorter (x ∷ xs) ys h =
    let z : is x x ≡ 1 = is_own x in
    let k : 1 ≤ count_in x ys = omega (arith, h x, z) in
    omega (arith, drop_length x ys k, shorter xs (drop_one x ys) (λ c. omega (arith, h c, drop_count x c ys k)))

abbrev pub runs_of : List Gone → List ℕ
runs_of [] = []
runs_of (g ∷ gs) = g.run ∷ runs_of gs

runs_count : (a : ℕ) (gs : List Gone) (xs : List ℕ) → count_in a (runs_of gs ++ xs) ≡ count_run a gs + count_in a xs
runs_count a [] xs = omega arith
runs_count a (g ∷ gs) xs = omega (arith, runs_count a gs xs)

runs_length : (gs : List Gone) (xs : List ℕ) → length (runs_of gs ++ xs) ≡ length gs + length xs
runs_length [] xs = omega arith
runs_length (g ∷ gs) xs = omega (arith, runs_length gs xs)

module _ (w : Setup) (t : Histories) (r : ℕ) (p : suc r ≤ rounds w) (l : IsRoundEnd w t (suc r)) (a : ℕ) where
  worker_sum : (role : ℕ) → role < w.layout.workers → RoleTotals a (l.acts role) 0 0 (l.hands role) × (length (l.hands role) ≡ suc r)
  worker_sum role h = round_totals w a role r (l.acts role) (l.hands role) p (l.work role h)

  manager_sum : RoleTotals a (l.acts (manager w)) 0 0 (l.hands (manager w)) × (length (l.hands (manager w)) ≡ suc r)
  manager_sum =
      let k = manager_totals w a new_manager (refl, refl, refl) (l.acts (manager w)) l.manage.sweep l.manage.stood in
      let z : sweep_holds a l.manage.sweep ≡ count_hands a (l.hands (manager w)) = rw (l.manage.empty, l.manage.held) (omega arith) in
      let x : sweep_nodes l.manage.sweep ≡ hand_nodes (l.hands (manager w)) = rw (l.manage.empty, l.manage.held) (omega arith) in
      (record { got = k.0.got; took = k.0.took; left = omega (arith, k.0.left, z); freed = omega (arith, k.0.freed, x) }, ap length (sym l.manage.held) ∙ (k.1 ∙ l.manage.round))

  recycler_sum : Totals w a (l.acts (recycler w)) (count_run a (waited (manager w + 1) l.hands (suc r - 1))) 0 (sum_nodes (waited (manager w + 1) l.hands (suc r - 1))) 0
  recycler_sum = queue_totals w a (waited (manager w + 1) l.hands (suc r - 1)) (l.acts (recycler w)) [] l.recycle

  ender_none : (m : Act → ℕ) → total m (l.acts (ender w)) ≡ 0
  ender_none m = ap (total m) l.drain

  few : (role : ℕ) → role < manager w + 1 → length (l.hands role) ≤ suc (suc r - 1)
  few role h =
      ⊎_elim (λ e. omega (arith, subst (λ (x : ℕ). length (l.hands x) ≡ suc r) (sym e.1) manager_sum.1)) (λ e. omega (arith, (worker_sum role (omega (arith, e.1))).1))
      (eqb_tells role (manager w))

  handed : count_run a (waited (manager w + 1) l.hands (suc r - 1)) + count_run a (next_queue w l.hands) ≡ sum_below (w.layout.workers)
      (λ role. count_hands a (l.hands role)) + count_hands a (l.hands (manager w))
  handed = handed_on (count_run a) refl (count_append a) (manager w + 1) (suc r - 1) l.hands few
      ∙ (sum_same (manager w + 1) (λ role. all_hands (count_run a) refl (count_append a) (l.hands role)) (λ role. count_hands a (l.hands role)) (λ role h. all_count a (l.hands role))
      ∙ last (manager w) (λ role. count_hands a (l.hands role)))
    where
      last : (n : ℕ) (f : ℕ → ℕ) → sum_below (n + 1) f ≡ sum_below n f + f n
      last n f = let e : suc n ≡ n + 1 = omega arith in subst (λ (m : ℕ). sum_below m f ≡ sum_below n f + f n) e refl

  abbrev over_all : (Act → ℕ) → ℕ
  over_all m = sum_below (roles w) (λ role. total m (l.acts role))

  got_made : over_all (got_by a) ≡ over_all (begun_by a)
  got_made =
      let x = sum_roles w.layout.workers (λ role. total (got_by a) (l.acts role)) in
      let y = sum_roles w.layout.workers (λ role. total (begun_by a) (l.acts role)) in
      let z = sum_same w.layout.workers (λ role. total (got_by a) (l.acts role)) (λ role. total (begun_by a) (l.acts role)) (λ role h. (worker_sum role h).0.got) in
      omega (arith, x, y, z, manager_sum.0.got, recycler_sum.got, ender_none (got_by a), ender_none (begun_by a))

  -- what left was given back or waits for the next round
  left_given : over_all (left_by a) ≡ over_all (given_by a) + count_run a (next_queue w l.hands)
  left_given =
      let x = sum_roles w.layout.workers (λ role. total (left_by a) (l.acts role)) in
      let y = sum_roles w.layout.workers (λ role. total (given_by a) (l.acts role)) in
      let z = sum_same w.layout.workers (λ role. total (left_by a) (l.acts role)) (λ role. total (given_by a) (l.acts role) + count_hands a (l.hands role))
      (λ role h. omega (arith, (worker_sum role h).0.left)) in
      let u = sum_plus w.layout.workers (λ role. total (given_by a) (l.acts role)) (λ role. count_hands a (l.hands role)) in
      omega (arith, x, y, z, u, handed, manager_sum.0.left, recycler_sum.left, ender_none (left_by a), ender_none (given_by a))

  -- what left had been made
  left_made : over_all (left_by a) ≤ over_all (begun_by a)
  left_made =
      let x = entries_sum w t l.acts l.bucket_roles l.buckets l.own l.pool_roles (left_by a) (λ b past n. one_if (lets_go (fixed_at w b) past n a)) (λ n i. refl) (λ n. refl)
      (λ b past n k. count_gone (fixed_at w b) past n a k) in
      let y = entries_sum w t l.acts l.bucket_roles l.buckets l.own l.pool_roles (begun_by a) (λ b past n. one_if (begins n a)) (λ n i. refl) (λ n. refl) (λ b past n k. refl) in
      let z = sum_le (length t.buckets) (λ b. times_left (fixed_at w b) a (bucket_at b t.buckets)) (λ b. times_begun a (bucket_at b t.buckets))
      (λ b h. omega (arith, balance (fixed_at w b) (bucket_at b t.buckets) a (l.buckets b h))) in
      omega (arith, x, y, z)

  given_waits : count_in a (runs_of (next_queue w l.hands) ++ given_names t.pool) ≤ count_in a (got_names t.pool)
  given_waits =
      let g = pool_sum w t l.acts l.pool_roles l.bucket_roles l.own (got_by a) (gets a) (λ n i. refl) (λ n. refl) (λ b n left. refl) in
      let v = pool_sum w t l.acts l.pool_roles l.bucket_roles l.own (given_by a) (gives a) (λ n i. refl) (λ n. refl) (λ b n left. refl) in
      omega (arith, g, v, got_made, left_given, left_made, runs_count a (next_queue w l.hands) (given_names t.pool), got_count a t.pool, given_count a t.pool)

-- at the end of a round at least as many flows are out as wait for the next round's recycler: so each of its puts stands where one is out
pub out_at_round_end : (w : Setup) (t : Histories) (r : ℕ) → suc r ≤ rounds w → (l : IsRoundEnd w t (suc r)) → PutsAreDue t.pool → length (next_queue w l.hands) ≤ flows_out t.pool
out_at_round_end w t r p l due =
    let s = shorter (runs_of (next_queue w l.hands) ++ given_names t.pool) (got_names t.pool) (λ a. given_waits w t r p l a) in
    omega (arith, s, runs_length (next_queue w l.hands) (given_names t.pool), out_count t.pool due)

-- a history that goes on with no more puts than flows were out: each stands where one is out
due_step : (n : PoolNote) (past : List (Entry PoolNote)) (k m : ℕ) → put_in n + k ≤ m → m ≤ flows_out past + k
    → IsDue (flows_out past) n × (m ≤ flows_out_after (flows_out past) n + (put_in n + k))
due_step (Took g) past k m h l = (tt, omega (arith, h, l))
due_step (Full g n limit) past k m h l = (tt, omega (arith, h, l))
due_step (Put run) past k m h l = (omega (arith, h, l), omega (arith, h, l))
due_step (Turn run g) past k m h l = (tt, omega (arith, h, l))
due_step (Mode e) past k m h l = (tt, omega (arith, h, l))
due_step (Over round done) past k m h l = (tt, omega (arith, h, l))

due_all : (since old : List (Entry PoolNote)) → PutsAreDue old → tally put_in since ≤ flows_out old
    → PutsAreDue (since ++ old) × (flows_out old ≤ flows_out (since ++ old) + tally put_in since)
due_all [] old d h = (d, omega arith)
due_all (e ∷ since) old d h =
    let k = due_all since old d (omega (arith, h)) in
    let z = due_step e.note (since ++ old) (tally put_in since) (flows_out old) h k.1 in
    ((z.0, k.0), z.1)

pub puts_stay_due : (since old : List (Entry PoolNote)) → PutsAreDue old → tally put_in since ≤ flows_out old → PutsAreDue (since ++ old)
puts_stay_due since old d h = (due_all since old d h).0

-- the puts of the end role: with nothing else behind a history, a trail in which as many were got as given has as many puts as were out

one_put : (n : PoolNote) → (put_in n == 1) ≡ true → (xs ys : List ℕ) → (length (got_on n xs) ≡ length xs) × (length (given_on n ys) ≡ suc (length ys)) × (put_in n ≡ 1)
one_put (Took g) h xs ys = cc
one_put (Full g n limit) h xs ys = cc
one_put (Put run) h xs ys = (refl, refl, refl)
one_put (Turn run g) h xs ys = cc
one_put (Mode e) h xs ys = cc
one_put (Over round done) h xs ys = cc

puts_only : (since old : List (Entry PoolNote)) → only_puts since ≡ true
    → (length (got_names (since ++ old)) ≡ length (got_names old)) × (length (given_names (since ++ old)) ≡ tally put_in since + length (given_names old))
puts_only [] old h = (refl, omega arith)
puts_only (e ∷ since) old h =
    let k = both (put_in e.note == 1) (only_puts since) h in
    let r = puts_only since old k.1 in
    let z = one_put e.note k.0 (got_names (since ++ old)) (given_names (since ++ old)) in
    (z.0 ∙ r.0, omega (arith, z.1, z.2, r.1))

pub end_puts : (w : Setup) (t : Histories) → AreScripted w t → (since old : List (Entry PoolNote)) → t.pool ≡ since ++ old → only_puts since ≡ true → PutsAreDue old → PutsAreDue t.pool
end_puts w t l since old e h p =
    let n = puts_only since old h in
    let same : length (got_names (since ++ old)) ≡ length (given_names (since ++ old)) = subst (λ (x : List (Entry PoolNote)). length (got_names x) ≡ length (given_names x)) e (as_many w t l) in
    subst (λ (x : List (Entry PoolNote)). PutsAreDue x) (sym e) (puts_stay_due since old p (omega (arith, same, n.0, n.1, out_count old p)))

-- a recycler puts once for each run of its queue
abbrev pub put_by : Act → ℕ
put_by (on_pool n i) = put_in n
put_by _ = 0

pool_puts : (q t : List Gone) (n : PoolNote) → serve_pool q n ≡ Some t → put_in n + length t ≡ length q
pool_puts q t (Put run) h = let k = only_some (front_is run q) (behind q) t h in subst (λ (x : List Gone). 1 + length x ≡ length q) k.1 (shorter_by q k.0)
  where
    shorter_by : (q : List Gone) → front_is run q ≡ true → 1 + length (behind q) ≡ length q
    shorter_by [] h = cc
    shorter_by (g ∷ q) h = omega arith
pool_puts q t (Took g) h = cc
pool_puts q t (Full g n limit) h = cc
pool_puts q t (Turn run g) h = cc
pool_puts q t (Mode e) h = cc
pool_puts q t (Over round done) h = cc

same_queue : (q : List Gone) → length (emptied q) ≡ length q
same_queue [] = refl
same_queue (g ∷ q) = refl

segment_puts : (q t : List Gone) (n : SegNote) → serve_segments q n ≡ Some t → length t ≡ length q
segment_puts q t (seg.Gave n) h = let k = only_some (nat_le 1 n && front_holds n q) (emptied q) t h in ap length (sym k.1) ∙ same_queue q
segment_puts q t (seg.Took g) h = cc
segment_puts q t (seg.Full g n limit) h = cc

serve_puts : (q t : List Gone) (a : Act) → serve q a ≡ Some t → put_by a + length t ≡ length q
serve_puts q t (on_pool n i) h = pool_puts q t n h
serve_puts q t (on_segments n) h = omega (arith, segment_puts q t n h)
serve_puts q t (on_bucket b n left) h = cc

served_puts : (start : List Gone) (o : Option (List Gone)) (t : List Gone) (a : Act) (acts : List Act) → served a o ≡ Some t
    → ((q : List Gone) → o ≡ Some q → total put_by acts + length q ≡ length start) → total put_by (a ∷ acts) + length t ≡ length start
served_puts start None t a acts h k = cc
served_puts start (Some q) t a acts h k = omega (arith, serve_puts q t a h, k q refl)

pub queue_puts : (start t : List Gone) (acts : List Act) → queue_after start acts ≡ Some t → total put_by acts + length t ≡ length start
queue_puts start t [] h = let k : start ≡ t = cc in omega (arith, ap length k)
queue_puts start t (a ∷ acts) h = served_puts start (queue_after start acts) t a acts h (λ x e. queue_puts start x acts e)

-- no other role puts

no_put : (w : Setup) (p : Stage) (s t : Stand) (run i : ℕ) → step_at w 0 p s (on_pool (Put run) i) ≡ Some t → ⊥
no_put w (between) s t run i h = cc
no_put w (looking todo) s t run i h = cc
no_put w (missed f todo) s t run i h = cc
no_put w (evicting f k todo) s t run i h = cc
no_put w (turning f todo) s t run i h = cc
no_put w (granted f todo) s t run i h = cc
no_put w (denied f todo) s t run i h = cc
no_put w (asking f todo) s t run i h = cc
no_put w (settling f had todo) s t run i h = cc
no_put w (closing todo) s t run i h = cc
no_put w (freeing m todo) s t run i h = cc

worker_put : (w : Setup) (s t : Stand) (a : Act) → step_at w 0 s.stage s a ≡ Some t → put_by a ≡ 0
worker_put w s t (on_pool (Took g) i) h = refl
worker_put w s t (on_pool (Full g n limit) i) h = refl
worker_put w s t (on_pool (Put run) i) h = absurd (no_put w s.stage s t run i h)
worker_put w s t (on_pool (Turn run g) i) h = refl
worker_put w s t (on_pool (Mode e) i) h = refl
worker_put w s t (on_pool (Over round done) i) h = refl
worker_put w s t (on_segments n) h = refl
worker_put w s t (on_bucket b n left) h = refl

worker_more : (w : Setup) (o : Option Stand) (t : Stand) (a : Act) (acts : List Act) → moved w a o ≡ Some t → ((s : Stand) → o ≡ Some s → total put_by acts ≡ 0) → total put_by (a ∷ acts) ≡ 0
worker_more w None t a acts h k = cc
worker_more w (Some s) t a acts h k = omega (arith, worker_put w s t a (one_step w 0 s t a h), k s refl)

worker_puts : (w : Setup) (start t : Stand) (acts : List Act) → stand_after w start acts ≡ Some t → total put_by acts ≡ 0
worker_puts w start t [] h = refl
worker_puts w start t (a ∷ acts) h = worker_more w (stand_after w start acts) t a acts h (λ x e. worker_puts w start x acts e)

manage_no_put : (w : Setup) (k : Task) (s t : Sweep) (run i : ℕ) → manage w k s (on_pool (Put run) i) ≡ Some t → ⊥
manage_no_put w resting s t run i h = cc
manage_no_put w (sweeping k) s t run i h = cc
manage_no_put w leaving s t run i h = cc

manage_put : (w : Setup) (s t : Sweep) (a : Act) → manage w s.task s a ≡ Some t → put_by a ≡ 0
manage_put w s t (on_pool (Took g) i) h = refl
manage_put w s t (on_pool (Full g n limit) i) h = refl
manage_put w s t (on_pool (Put run) i) h = absurd (manage_no_put w s.task s t run i h)
manage_put w s t (on_pool (Turn run g) i) h = refl
manage_put w s t (on_pool (Mode e) i) h = refl
manage_put w s t (on_pool (Over round done) i) h = refl
manage_put w s t (on_segments n) h = refl
manage_put w s t (on_bucket b n left) h = refl

manage_more_put : (w : Setup) (o : Option Sweep) (t : Sweep) (a : Act) (acts : List Act) → managed w a o ≡ Some t → ((s : Sweep) → o ≡ Some s → total put_by acts ≡ 0) → total put_by (a ∷ acts) ≡ 0
manage_more_put w None t a acts h k = cc
manage_more_put w (Some s) t a acts h k = omega (arith, manage_put w s t a h, k s refl)

manage_puts : (w : Setup) (start t : Sweep) (acts : List Act) → swept_after w start acts ≡ Some t → total put_by acts ≡ 0
manage_puts w start t [] h = refl
manage_puts w start t (a ∷ acts) h = manage_more_put w (swept_after w start acts) t a acts h (λ x e. manage_puts w start x acts e)

-- the puts of a trail at a round's end are the recycler's: one for each run that waited
puts_so_far : (w : Setup) (t : Histories) (r : ℕ) → (l : IsRoundEnd w t (suc r)) → tally put_in t.pool ≡ length (waited (manager w + 1) l.hands r)
puts_so_far w t r l =
    let x = pool_sum w t l.acts l.pool_roles l.bucket_roles l.own put_by put_in (λ n i. refl) (λ n. refl) (λ b n left. refl) in
    let y = sum_roles w.layout.workers (λ role. total put_by (l.acts role)) in
    let z = sum_same w.layout.workers (λ role. total put_by (l.acts role)) (λ role. 0)
    (λ role h. let e = hands_some (rounds w - suc r) (stand_after w (fresh (work_of w role)) (l.acts role)) (l.hands role) (l.work role h) in worker_puts w
    (fresh (work_of w role)) e.0 (l.acts role) e.1) in
    let u = manage_puts w new_manager l.manage.sweep (l.acts (manager w)) l.manage.stood in
    let same : suc r - 1 ≡ r = omega arith in
    let v : total put_by (l.acts (recycler w)) + 0 ≡ length (waited (manager w + 1) l.hands r) = subst
    (λ (k : ℕ). total put_by (l.acts (recycler w)) + 0 ≡ length (waited (manager w + 1) l.hands k)) same
    (queue_puts (waited (manager w + 1) l.hands (suc r - 1)) [] (l.acts (recycler w)) l.recycle) in
    let e : total put_by (l.acts (ender w)) ≡ 0 = ap (total put_by) l.drain in
    omega (arith, x, y, z, sum_zero w.layout.workers, u, v, e)

-- one hand more for each role: what waited, and what waits next, is what waits then

gathered_more : (n : ℕ) (h : ℕ → List Gone) (hands hands' : ℕ → List (List Gone)) → ((role : ℕ) → role < n → hands' role ≡ h role ∷ hands role) → (k : ℕ)
    → gathered n hands' (suc k) ≡ gathered n hands k
gathered_more zero h hands hands' e k = refl
gathered_more (suc n) h hands hands' e k =
    ap (λ (x : List Gone). x ++ nth (suc k) (hands' n)) (gathered_more n h hands hands' (λ role l. e role (omega arith)) k)
    ∙ ap (λ (x : List (List Gone)). gathered n hands k ++ nth (suc k) x) (e n (omega arith))

waited_more : (n : ℕ) (h : ℕ → List Gone) (hands hands' : ℕ → List (List Gone)) → ((role : ℕ) → role < n → hands' role ≡ h role ∷ hands role) → (k : ℕ)
    → length (waited n hands' (suc k)) ≡ length (waited n hands k) + length (gathered n hands 0)
waited_more n h hands hands' e zero = ap (λ (x : List Gone). length (x ++ [])) (gathered_more n h hands hands' e 0) ∙ omega (arith, length-append (gathered n hands 0) [])
waited_more n h hands hands' e (suc k) =
    let z = ap length (gathered_more n h hands hands' e (suc k)) in
    omega (arith, z, waited_more n h hands hands' e k, length-append (gathered n hands' (suc (suc k))) (waited n hands' (suc k)), length-append (gathered n hands (suc k)) (waited n hands k))

times_append : {N : Type 0} (m : N → ℕ) (xs ys : List (Entry N)) → tally m (xs ++ ys) ≡ tally m xs + tally m ys
times_append m [] ys = omega arith
times_append m (e ∷ xs) ys = omega (arith, times_append m xs ys)

-- from the end of one round to the end of the next: the rule on puts holds on
pub puts_go_on : (w : Setup) (old new : Histories) (r : ℕ) → suc (suc r) ≤ rounds w → (l : IsRoundEnd w old (suc r)) → (m : IsRoundEnd w new (suc (suc r)))
    → (h : ℕ → List Gone) → ((role : ℕ) → role < manager w + 1 → m.hands role ≡ h role ∷ l.hands role)
    → (since : List (Entry PoolNote)) → new.pool ≡ since ++ old.pool → PutsAreDue old.pool → PutsAreDue new.pool
puts_go_on w old new r p l m h e since g d =
    let a = puts_so_far w old r l in
    let b = puts_so_far w new (suc r) m in
    let c = waited_more (manager w + 1) h l.hands m.hands e r in
    let f : tally put_in new.pool ≡ tally put_in since + tally put_in old.pool = ap (tally put_in) g ∙ times_append put_in since old.pool in
    let q = out_at_round_end w old r (omega arith) l d in
    subst (λ (x : List (Entry PoolNote)). PutsAreDue x) (sym g) (puts_stay_due since old.pool d (omega (arith, a, b, c, f, q)))

-- in the first round nothing is put
pub puts_first : (w : Setup) (t : Histories) → (l : IsRoundEnd w t (suc 0)) → PutsAreDue t.pool
puts_first w t l =
    let a = puts_so_far w t 0 l in
    subst (λ (x : List (Entry PoolNote)). PutsAreDue x) (append-nil t.pool) (puts_stay_due t.pool [] tt (omega (arith, a)))
