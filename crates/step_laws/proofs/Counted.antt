-- Where the recycler or the end role puts an object, one is out. Of each run: it was got at least as often as it was made; it left at most as often
-- as it was made; and what left was given back, is in a hand, or waits, since what the recycler and the end role were brought are hands of
-- different rounds. So the runs that were given back, with one that waits, are no more than those that were got.
use Rattle.std.proofs.Common.{◌≡◌, ℕ, zero, suc, ◌+◌, ◌-◌, ◌<◌, ◌≤◌, true, List, [], ◌∷◌, length, Some, ◌⊎◌, ⊎_elim, refl, sym, ◌∙◌, ap, subst, arith}
use Rattle.bucket_laws.proofs.Leaving.{balance}
use Rattle.bucket_laws.specs.Counts.{begins, one_if, times_begun, times_left}
use Rattle.bucket_laws.specs.Leaving.{Gone}
use Rattle.bucket_rules.specs.Row.{lets_go}
use Rattle.flow_pool.specs.Counting.{flows_out}
use Rattle.run_laws.proofs.Counting.{given_count, given_names, got_count, got_names, out_count}
use Rattle.run_laws.proofs.Leavers.{count_gone}
use Rattle.run_laws.proofs.Parts.{entries_sum, met, pool_sum}
use Rattle.run_laws.proofs.Rounded.{shorter}
use Rattle.run_laws.proofs.Serving.{Totals, ending_totals, manager_totals, queue_totals, sweep_holds, sweep_nodes}
use Rattle.run_laws.proofs.Sums.{sum_plus, sum_same, sum_swap}
use Rattle.run_laws.proofs.Uses.{sum_le}
use Rattle.run_laws.proofs.Using.{length_rounds, sum_roles}
use Rattle.run_laws.proofs.Working.{KeptAll, behind_count, count_append, holds, kept_all, only_some}
use Rattle.run_laws.specs.Counts.{gets, gives, is, sum_below, tally}
use Rattle.run_laws.specs.Measures.{begun_by, count_hands, count_run, given_by, got_by, left_by, total}
use Rattle.run_rules.proofs.SoFar.{at_is, by_kind, manager_by, rests_is, worker_by}
use Rattle.run_rules.specs.Acts.{Act, AreMet, on_pool}
use Rattle.run_rules.specs.Ending.{Ending, end_on}
use Rattle.run_rules.specs.Histories.{Histories, bucket_at}
use Rattle.run_rules.specs.Lawful.{IsDue, PutsAreDue, gathered, left_over, nth}
use Rattle.run_rules.specs.Manager.{new_manager}
use Rattle.run_rules.specs.Serving.{behind, front_is, serve, serve_pool}
use Rattle.run_rules.specs.Setup.{Setup, ender, fixed_at, manager, recycler, roles, rounds, work_of}
use Rattle.run_rules.specs.SoFar.{AreScriptedSoFar, OthersEnded, first_hands, hand_of_round, hands_by, passed, passed_at, round_hands, to_drain}
use Rattle.run_rules.specs.Worker.{Stage, Stand, asking, between, closing, denied, evicting, freeing, fresh, granted, looking, missed, settling, turning}
use Rattle.step_laws.proofs.Handing.{hand_one}
use Rattle.step_laws.proofs.Stepping.{end_served}
use Rattle.suri_base.specs.declared.entry.PoolNote.{PoolNote}
use Rattle.suri_base.specs.declared.entry.PoolNote.TheVariants.{Full, Mode, Over, Put, Took, Turn}

-- hands of different rounds hold no more than all hands

rounds_hold : (a : ℕ) (hs : List (List Gone)) (k : ℕ) → k ≤ length hs → sum_below k (λ j. count_run a (hand_of_round j hs)) ≤ count_hands a hs
rounds_hold a [] zero l = omega arith
rounds_hold a [] (suc k) l = absurd (omega arith)
rounds_hold a (h ∷ hs) k l = ⊎_elim
    (λ z.
    let e = sum_same k (λ j. count_run a (hand_of_round j (h ∷ hs))) (λ j. count_run a (hand_of_round j hs)) (λ j m. ap (count_run a) (hand_one h hs j (omega (arith, m, z)))) in
    omega (arith, e, rounds_hold a hs k z))
    (λ z. subst (λ (x : ℕ). sum_below x (λ j. count_run a (hand_of_round j (h ∷ hs))) ≤ count_hands a (h ∷ hs)) (sym z)
    (let e = sum_same (length hs) (λ j. count_run a (hand_of_round j (h ∷ hs))) (λ j. count_run a (hand_of_round j hs)) (λ j m. ap (count_run a) (hand_one h hs j m)) in
    let n : count_run a (hand_of_round (length hs) (h ∷ hs)) ≡ count_run a h = newest in
    omega (arith, e, n, rounds_hold a hs (length hs) (omega arith))))
    (split k (length hs) l)
  where
    split : (x y : ℕ) → x ≤ suc y → (x ≤ y) ⊎ (x ≡ suc y)
    split x y l = grind arith

    newest : count_run a (hand_of_round (length hs) (h ∷ hs)) ≡ count_run a h
    newest = let e : suc (length hs) - suc (length hs) ≡ 0 = omega arith in ap (λ (i : ℕ). count_run a (nth i (h ∷ hs))) e

-- those of all rounds but the last, and that of the last
last_too : (a : ℕ) (hs : List (List Gone)) (k : ℕ) → k ≡ length hs - 1 → sum_below k (λ j. count_run a (hand_of_round j hs)) + count_run a (nth 0 hs) ≤ count_hands a hs
last_too a [] zero e = omega arith
last_too a [] (suc k) e = absurd (omega (arith, e))
last_too a (h ∷ hs) k e =
    let q : k ≡ length hs = omega (arith, e) in
    let z = sum_same k (λ j. count_run a (hand_of_round j (h ∷ hs))) (λ j. count_run a (hand_of_round j hs)) (λ j m. ap (count_run a) (hand_one h hs j (omega (arith, m, q)))) in
    omega (arith, z, rounds_hold a hs k (omega (arith, q)))

round_count : (a n : ℕ) (hands : ℕ → List (List Gone)) (j : ℕ) → count_run a (round_hands n hands j) ≡ sum_below n (λ r. count_run a (hand_of_round j (hands r)))
round_count a zero hands j = refl
round_count a (suc n) hands j = omega (arith, count_append a (round_hands n hands j) (hand_of_round j (hands n)), round_count a n hands j)

first_count : (a n : ℕ) (hands : ℕ → List (List Gone)) (k : ℕ)
    → count_run a (first_hands n hands k) ≡ sum_below k (λ j. sum_below n (λ r. count_run a (hand_of_round j (hands r))))
first_count a n hands zero = refl
first_count a n hands (suc k) = omega (arith, count_append a (first_hands n hands k) (round_hands n hands k), first_count a n hands k, round_count a n hands k)

gathered_count : (a n : ℕ) (hands : ℕ → List (List Gone)) → count_run a (gathered n hands 0) ≡ sum_below n (λ r. count_run a (nth 0 (hands r)))
gathered_count a zero hands = refl
gathered_count a (suc n) hands = omega (arith, count_append a (gathered n hands 0) (nth 0 (hands n)), gathered_count a n hands)

pub first_hold : (a n : ℕ) (hands : ℕ → List (List Gone)) (k : ℕ) → ((r : ℕ) → r < n → k ≤ length (hands r))
    → count_run a (first_hands n hands k) ≤ sum_below n (λ r. count_hands a (hands r))
first_hold a n hands k h =
    let s = sum_swap k n (λ j r. count_run a (hand_of_round j (hands r))) in
    let m = sum_le n (λ r. sum_below k (λ j. count_run a (hand_of_round j (hands r)))) (λ r. count_hands a (hands r)) (λ r l. rounds_hold a (hands r) k (h r l)) in
    omega (arith, first_count a n hands k, s, m)

pub all_hold : (a n : ℕ) (hands : ℕ → List (List Gone)) (k : ℕ) → ((r : ℕ) → r < n → k ≡ length (hands r) - 1)
    → count_run a (first_hands n hands k) + count_run a (gathered n hands 0) ≤ sum_below n (λ r. count_hands a (hands r))
all_hold a n hands k h =
    let s = sum_swap k n (λ j r. count_run a (hand_of_round j (hands r))) in
    let p = sum_plus n (λ r. sum_below k (λ j. count_run a (hand_of_round j (hands r)))) (λ r. count_run a (nth 0 (hands r))) in
    let m = sum_le n (λ r. sum_below k (λ j. count_run a (hand_of_round j (hands r))) + count_run a (nth 0 (hands r))) (λ r. count_hands a (hands r)) (λ r l. last_too a (hands r) k (h r l)) in
    omega (arith, first_count a n hands k, s, gathered_count a n hands, p, m)

-- the hands of the rounds that a worker has ended hold no more than it has

passed_count : (a : ℕ) (left : List (List (List ℕ))) (hand : List Gone) (hands : List (List Gone)) → count_hands a (passed left hand hands) ≤ count_run a hand + count_hands a hands
passed_count a [] hand hands = omega arith
passed_count a ([] ∷ later) hand hands = omega (arith, passed_count a later [] (hand ∷ hands))
passed_count a ((b ∷ bs) ∷ later) hand hands = omega arith

stage_count : (a : ℕ) (p : Stage) (s : Stand) → count_hands a (passed_at p s) ≤ holds a s
stage_count a between s = passed_count a s.rounds s.hand s.hands
stage_count a (looking todo) s = omega arith
stage_count a (missed f todo) s = omega arith
stage_count a (evicting f k todo) s = omega arith
stage_count a (turning f todo) s = omega arith
stage_count a (granted f todo) s = omega arith
stage_count a (denied f todo) s = omega arith
stage_count a (asking f todo) s = omega arith
stage_count a (settling f had todo) s = omega arith
stage_count a (closing todo) s = omega arith
stage_count a (freeing n todo) s = omega arith

module _ (w : Setup) (t : Histories) (l : AreScriptedSoFar w t) where
  abbrev hands_now : ℕ → List (List Gone)
  hands_now = hands_by w l.stands l.sweep

  met_all : (role : ℕ) → role < roles w → AreMet w t role (l.acts role)
  met_all r h = met w t r (l.acts r) (l.own r h)

  module _ (a : ℕ) where
    kept : (role : ℕ) → role < w.layout.workers → KeptAll w a (length (work_of w role)) (l.stands role) (l.acts role)
    kept role h =
        let none : KeptAll w a (length (work_of w role)) (fresh (work_of w role)) [] = record { got = refl; left = refl; nodes = refl; freed = refl; rounds = omega arith } in
        kept_all w a (length (work_of w role)) (fresh (work_of w role)) none (l.acts role) (l.stands role) (l.work role h)

    manager_sum : Totals w a (l.acts (manager w)) 0 (sweep_holds a l.sweep) 0 (sweep_nodes l.sweep)
    manager_sum = (manager_totals w a new_manager (refl, refl, refl) (l.acts (manager w)) l.sweep l.manage).0

    recycler_left : total (left_by a) (l.acts (recycler w)) + count_run a (first_hands (manager w + 1) hands_now l.served) ≡ total (given_by a) (l.acts (recycler w)) + count_run a l.waiting
    recycler_left = (queue_totals w a (first_hands (manager w + 1) hands_now l.served) (l.acts (recycler w)) l.waiting l.recycle).left

    recycler_got : total (got_by a) (l.acts (recycler w)) ≡ total (begun_by a) (l.acts (recycler w))
    recycler_got = (queue_totals w a (first_hands (manager w + 1) hands_now l.served) (l.acts (recycler w)) l.waiting l.recycle).got

    ender_got : total (got_by a) (l.acts (ender w)) ≡ total (begun_by a) (l.acts (ender w))
    ender_got = (ending_totals w a (to_drain w hands_now) (l.acts (ender w)) l.ending l.drain).got

    abbrev over_all : (Act → ℕ) → ℕ
    over_all m = sum_below (roles w) (λ role. total m (l.acts role))

    made_got : over_all (begun_by a) ≤ over_all (got_by a)
    made_got =
        let x = sum_roles w.layout.workers (λ role. total (got_by a) (l.acts role)) in
        let y = sum_roles w.layout.workers (λ role. total (begun_by a) (l.acts role)) in
        let z = sum_le w.layout.workers (λ role. total (begun_by a) (l.acts role)) (λ role. total (got_by a) (l.acts role)) (λ role h. let k = (kept role h).got in omega (arith, k)) in
        omega (arith, x, y, z, manager_sum.got, recycler_got, ender_got)

    -- what the hands of ended rounds hold
    hands_hold : sum_below (manager w + 1) (λ role. count_hands a (hands_now role)) ≤ sum_below w.layout.workers (λ role. holds a (l.stands role)) + sweep_holds a l.sweep
    hands_hold =
        let x = last (manager w) (λ role. count_hands a (hands_now role)) in
        let y = sum_le w.layout.workers (λ role. count_hands a (hands_now role)) (λ role. holds a (l.stands role))
        (λ role h. let e = ap (count_hands a) (worker_by w l.stands l.sweep role h) in omega (arith, e, stage_count a (l.stands role).stage (l.stands role))) in
        let z = ap (count_hands a) (manager_by w l.stands l.sweep) in
        omega (arith, x, y, z)
      where
        last : (n : ℕ) (f : ℕ → ℕ) → sum_below (n + 1) f ≡ sum_below n f + f n
        last n f = let e : suc n ≡ n + 1 = omega arith in subst (λ (m : ℕ). sum_below m f ≡ sum_below n f + f n) e refl

    -- what left and is not given back is held or waits
    left_given : (brought still : ℕ) → total (left_by a) (l.acts (ender w)) + brought ≡ total (given_by a) (l.acts (ender w)) + still
        → count_run a (first_hands (manager w + 1) hands_now l.served) + brought ≤ sum_below (manager w + 1) (λ role. count_hands a (hands_now role))
        → over_all (given_by a) + count_run a l.waiting + still ≤ over_all (left_by a)
    left_given brought still e h =
        let x = sum_roles w.layout.workers (λ role. total (left_by a) (l.acts role)) in
        let y = sum_roles w.layout.workers (λ role. total (given_by a) (l.acts role)) in
        let z = sum_same w.layout.workers (λ role. total (left_by a) (l.acts role)) (λ role. total (given_by a) (l.acts role) + holds a (l.stands role)) (λ role k. (kept role k).left) in
        let u = sum_plus w.layout.workers (λ role. total (given_by a) (l.acts role)) (λ role. holds a (l.stands role)) in
        omega (arith, x, y, z, u, e, h, hands_hold, manager_sum.left, recycler_left)

    -- what left had been made
    left_made : over_all (left_by a) ≤ over_all (begun_by a)
    left_made =
        let x = entries_sum w t l.acts l.legal.bucket_roles l.legal.buckets met_all l.legal.pool_roles (left_by a) (λ b past n. one_if (lets_go (fixed_at w b) past n a)) (λ n i. refl) (λ n. refl)
        (λ b past n k. count_gone (fixed_at w b) past n a k) in
        let y = entries_sum w t l.acts l.legal.bucket_roles l.legal.buckets met_all l.legal.pool_roles (begun_by a) (λ b past n. one_if (begins n a)) (λ n i. refl) (λ n. refl) (λ b past n k. refl) in
        let z = sum_le (length t.buckets) (λ b. times_left (fixed_at w b) a (bucket_at b t.buckets)) (λ b. times_begun a (bucket_at b t.buckets))
        (λ b h. omega (arith, balance (fixed_at w b) (bucket_at b t.buckets) a (l.legal.buckets b h))) in
        omega (arith, x, y, z)

    given_got : (brought still : ℕ) → total (left_by a) (l.acts (ender w)) + brought ≡ total (given_by a) (l.acts (ender w)) + still
        → count_run a (first_hands (manager w + 1) hands_now l.served) + brought ≤ sum_below (manager w + 1) (λ role. count_hands a (hands_now role))
        → tally (gives a) t.pool + count_run a l.waiting + still ≤ tally (gets a) t.pool
    given_got brought still e h =
        let g = pool_sum w t l.acts l.legal.pool_roles l.legal.bucket_roles met_all (got_by a) (gets a) (λ n i. refl) (λ n. refl) (λ b n left. refl) in
        let v = pool_sum w t l.acts l.legal.pool_roles l.legal.bucket_roles met_all (given_by a) (gives a) (λ n i. refl) (λ n. refl) (λ b n left. refl) in
        omega (arith, g, v, made_got, left_given brought still e h, left_made)

    -- before the end role begins
    waits_got : l.acts (ender w) ≡ [] → tally (gives a) t.pool + count_run a l.waiting ≤ tally (gets a) t.pool
    waits_got none =
        let x = ap (total (left_by a)) none in
        let y = ap (total (given_by a)) none in
        let k = first_hold a (manager w + 1) hands_now l.served l.were_ended in
        omega (arith, given_got 0 0 (omega (arith, x, y)) (omega (arith, k)))

    -- when all others have ended
    ends_got : ((role : ℕ) → role < manager w + 1 → l.served ≡ length (hands_now role) - 1) → tally (gives a) t.pool + count_run a l.ending.queue ≤ tally (gets a) t.pool
    ends_got same =
        let e = (ending_totals w a (to_drain w hands_now) (l.acts (ender w)) l.ending l.drain).left in
        let k = all_hold a (manager w + 1) hands_now l.served same in
        omega (arith, given_got (count_run a (left_over w hands_now)) (count_run a l.ending.queue) e k)

  -- one run more than was given back was got: an object is out
  one_out : (run : ℕ) → PutsAreDue t.pool → ((a : ℕ) → tally (gives a) t.pool + is run a ≤ tally (gets a) t.pool) → 1 ≤ flows_out t.pool
  one_out run due h =
      let s = shorter (run ∷ given_names t.pool) (got_names t.pool) (λ a. omega (arith, h a, got_count a t.pool, given_count a t.pool)) in
      omega (arith, s, out_count t.pool due)

  put_due : (run : ℕ) (queue : List Gone) → PutsAreDue t.pool → front_is run queue ≡ true → ((a : ℕ) → tally (gives a) t.pool + count_run a queue ≤ tally (gets a) t.pool)
      → 1 ≤ flows_out t.pool
  put_due run queue due f h = one_out run due (λ a. omega (arith, h a, behind_count a run queue f))

  -- what the recycler puts is out
  served_due : (queue next : List Gone) (n : PoolNote) → PutsAreDue t.pool → ((a : ℕ) → tally (gives a) t.pool + count_run a queue ≤ tally (gets a) t.pool)
      → serve_pool queue n ≡ Some next → IsDue (flows_out t.pool) n
  served_due queue next (Put run) due h e = put_due run queue due (only_some (front_is run queue) (behind queue) next e).0 h
  served_due queue next (Took g) due h e = tt
  served_due queue next (Full g n limit) due h e = tt
  served_due queue next (Turn run g) due h e = tt
  served_due queue next (Mode e') due h e = tt
  served_due queue next (Over round done) due h e = tt

  pub recycler_due : (n : PoolNote) (i : ℕ) (next : List Gone) → PutsAreDue t.pool → l.acts (ender w) ≡ [] → serve l.waiting (on_pool n i) ≡ Some next → IsDue (flows_out t.pool) n
  recycler_due n i next due none e = served_due l.waiting next n due (λ a. waits_got a none) e

  -- every hand is there when all have ended
  pub all_rounds : OthersEnded w l.stands l.sweep l.served l.waiting → (role : ℕ) → role < manager w + 1 → length (hands_now role) ≡ rounds w
  all_rounds o = by_kind w {P = λ role. length (hands_now role) ≡ rounds w}
      (λ role h.
      let x = (at_is (l.stands role).stage (l.stands role) (hands_now role) (o.work role h)).1 in
      let y = (kept 0 role h).rounds in
      omega (arith, x, y, length_rounds w role))
      (let x = (rests_is w l.sweep.task l.sweep l.sweep.hands o.manage).1 in
      let y = (manager_totals w 0 new_manager (refl, refl, refl) (l.acts (manager w)) l.sweep l.manage).1 in
      ap length (manager_by w l.stands l.sweep) ∙ (y ∙ x))

  -- and what the end role puts is out

  finish_due : (queue : List Gone) (s next : Ending) (n : PoolNote) (i : ℕ) → PutsAreDue t.pool → ((a : ℕ) → tally (gives a) t.pool + count_run a queue ≤ tally (gets a) t.pool)
      → end_on w queue s (on_pool n i) ≡ Some next → IsDue (flows_out t.pool) n
  finish_due queue s next n i due h e = served_due queue next.queue n due h (end_served w queue s next n i e)

  pub end_due : (n : PoolNote) (i : ℕ) (next : Ending) → PutsAreDue t.pool → OthersEnded w l.stands l.sweep l.served l.waiting → end_on w l.ending.queue l.ending (on_pool n i) ≡ Some next
      → IsDue (flows_out t.pool) n
  end_due n i next due o e = finish_due l.ending.queue l.ending next n i due
      (λ a. ends_got a (λ role h. let k = all_rounds o role h in omega (arith, k, o.all_served))) e
