-- The runs that waited for the recycler, and those that wait for it next, are no more than the capture has frames: each of them got an object at one
-- entry of the flow pool, each run gets one once, since a role gets an object only for a run that it begins, and a run begins once, at its first packet.
use Rattle.std.proofs.Common.{◌≡◌, ℕ, zero, suc, ◌==◌, ◌+◌, ◌*◌, ◌-◌, ◌<◌, ◌≤◌, Bool, true, false, cond, List, [], ◌∷◌, length, Option, Some, None, ◌⊎◌, ⊎_elim, refl, sym, ◌∙◌, ap, subst, arith}
use Rattle.std.proofs.lemmas.Bool.Decides.{eqb_tells}
use Rattle.bucket_laws.proofs.Leaving.{once}
use Rattle.bucket_laws.proofs.Listing.{bearing_within}
use Rattle.bucket_laws.proofs.Tests.{same}
use Rattle.bucket_laws.specs.Counts.{begins, one_if, times_begun}
use Rattle.bucket_laws.specs.Leaving.{Gone}
use Rattle.bucket_rules.specs.Row.{has, made}
use Rattle.round_laws.proofs.Queues.{acts_few, none_gathered}
use Rattle.round_laws.proofs.Sweeps.{sweeps_hands}
use Rattle.run_laws.proofs.Counting.{count_in, given_names, given_on, got_count, got_names, is_own, out_count}
use Rattle.run_laws.proofs.Leavers.{made_own}
use Rattle.run_laws.proofs.Parts.{entries_sum, pool_sum}
use Rattle.run_laws.proofs.Rounded.{out_at_round_end, put_by, queue_puts, shorter}
use Rattle.run_laws.proofs.Serving.{manager_totals, queue_totals}
use Rattle.run_laws.proofs.Sums.{sum_none, sum_one, sum_same, sum_zero}
use Rattle.run_laws.proofs.Uses.{sum_le}
use Rattle.run_laws.proofs.Using.{sum_roles}
use Rattle.run_laws.proofs.Working.{kept_all, owed_run}
use Rattle.run_laws.specs.Counts.{gets, is, made_in, sum_below, tally}
use Rattle.run_laws.specs.Measures.{begun_by, got_by, total}
use Rattle.run_laws.specs.RoundEnd.{IsRoundEnd, next_queue, put_in}
use Rattle.run_rules.specs.Histories.{Histories, bucket_at}
use Rattle.run_rules.specs.Lawful.{PutsAreDue, waited}
use Rattle.run_rules.specs.Manager.{new_manager}
use Rattle.run_rules.specs.Rounds.{ended_between, hands_of}
use Rattle.run_rules.specs.Setup.{Setup, bucket_by, bucket_for, ender, fixed_at, manager, recycler, roles, rounds, work_of}
use Rattle.run_rules.specs.Worker.{Stage, Stand, asking, between, closing, denied, evicting, freeing, fresh, granted, looking, missed, settling, stand_after, turning}
use Rattle.suri_base.proofs.Captures.{as_many_seen}
use Rattle.suri_base.specs.Capture.{IsCapture}
use Rattle.suri_base.specs.declared.entry.Entry.{Entry}
use Rattle.suri_base.specs.declared.entry.PoolNote.{PoolNote}
use Rattle.suri_base.specs.declared.entry.PoolNote.TheVariants.{Full, Mode, Over, Put, Took, Turn}

-- a worker that ended a round stands between batches

place_between : (n : ℕ) (p : Stage) (s : Stand) (all : List (List Gone)) → ended_between n p s ≡ Some all → p ≡ between
place_between n between s all h = refl
place_between n (looking todo) s all h = cc
place_between n (missed f todo) s all h = cc
place_between n (evicting f k todo) s all h = cc
place_between n (turning f todo) s all h = cc
place_between n (granted f todo) s all h = cc
place_between n (denied f todo) s all h = cc
place_between n (asking f todo) s all h = cc
place_between n (settling f had todo) s all h = cc
place_between n (closing todo) s all h = cc
place_between n (freeing m todo) s all h = cc

stood_between : (n : ℕ) (o : Option Stand) (all : List (List Gone)) → hands_of n o ≡ Some all → (s : Stand) × (o ≡ Some s) × (s.stage ≡ between)
stood_between n None all h = cc
stood_between n (Some s) all h = (s, refl, place_between n s.stage s all h)

-- the numbers of n frames

abbrev numbers_to : ℕ → List ℕ
numbers_to zero = []
numbers_to (suc n) = suc n ∷ numbers_to n

numbers_length : (n : ℕ) → length (numbers_to n) ≡ n
numbers_length zero = refl
numbers_length (suc n) = ap suc (numbers_length n)

numbers_count : (n a : ℕ) → 1 ≤ a → a ≤ n → 1 ≤ count_in a (numbers_to n)
numbers_count zero a some low = absurd (omega (arith, some, low))
numbers_count (suc n) a some low = ⊎_elim
    (λ e. let one : is (suc n) a ≡ 1 = subst (λ (x : ℕ). is x a ≡ 1) e.1 (is_own a) in omega (arith, one))
    (λ e. omega (arith, numbers_count n a some (omega (arith, low, e.1))))
    (eqb_tells a (suc n))

-- an object is given back at least where it is put

puts_given : (h : List (Entry PoolNote)) → tally put_in h ≤ length (given_names h)
puts_given [] = omega arith
puts_given (e ∷ h) = by_note e.note (puts_given h)
  where
    by_note : (n : PoolNote) → tally put_in h ≤ length (given_names h) → put_in n + tally put_in h ≤ length (given_on n (given_names h))
    by_note (Took g) k = omega (arith, k)
    by_note (Full g n limit) k = omega (arith, k)
    by_note (Put run) k = omega (arith, k)
    by_note (Turn run g) k = omega (arith, k)
    by_note (Mode e) k = omega (arith, k)
    by_note (Over round done) k = omega (arith, k)

at_most_one : (n r : ℕ) → sum_below n (λ k. cond (r == k) 1 0) ≤ 1
at_most_one n r = ⊎_elim (λ h. omega (arith, sum_one n r 1 h)) (λ h. omega (arith, sum_none n r 1 h)) (split r n)
  where
    split : (x y : ℕ) → (x < y) ⊎ (y ≤ x)
    split x y = grind arith

module _ (w : Setup) (t : Histories) (r : ℕ) (l : IsRoundEnd w t (suc r)) where
  -- each role gets an object for each run that it begins
  worker_got : (a role : ℕ) → role < w.layout.workers → total (got_by a) (l.acts role) ≡ total (begun_by a) (l.acts role)
  worker_got a role low =
      let e = stood_between (rounds w - suc r) (stand_after w (fresh (work_of w role)) (l.acts role)) (l.hands role) (l.work role low) in
      let k = kept_all w a (length (work_of w role)) (fresh (work_of w role)) (record { got = refl; left = refl; nodes = refl; freed = refl; rounds = omega arith }) (l.acts role) e.0 e.1 in
      let none : owed_run a e.0.stage ≡ 0 = ap (owed_run a) e.2 in
      omega (arith, k.got, none)

  all_got : (a : ℕ) → sum_below (roles w) (λ role. total (got_by a) (l.acts role)) ≡ sum_below (roles w) (λ role. total (begun_by a) (l.acts role))
  all_got a =
      let x = sum_roles w.layout.workers (λ role. total (got_by a) (l.acts role)) in
      let y = sum_roles w.layout.workers (λ role. total (begun_by a) (l.acts role)) in
      let z = sum_same w.layout.workers (λ role. total (got_by a) (l.acts role)) (λ role. total (begun_by a) (l.acts role)) (worker_got a) in
      let m = (manager_totals w a new_manager (refl, refl, refl) (l.acts (manager w)) l.manage.sweep l.manage.stood).0.got in
      let q = (queue_totals w a (waited (manager w + 1) l.hands (suc r - 1)) (l.acts (recycler w)) [] l.recycle).got in
      let u : total (got_by a) (l.acts (ender w)) ≡ 0 = ap (total (got_by a)) l.drain in
      let v : total (begun_by a) (l.acts (ender w)) ≡ 0 = ap (total (begun_by a)) l.drain in
      omega (arith, x, y, z, m, q, u, v)

  got_made : (a : ℕ) → count_in a (got_names t.pool) ≡ made_in t a
  got_made a =
      got_count a t.pool
      ∙ (pool_sum w t l.acts l.pool_roles l.bucket_roles l.own (got_by a) (gets a) (λ n i. refl) (λ n. refl) (λ b n left. refl)
      ∙ (all_got a
      ∙ sym (entries_sum w t l.acts l.bucket_roles l.buckets l.own l.pool_roles (begun_by a) (λ b past n. one_if (begins n a)) (λ n i. refl) (λ n. refl) (λ b past n k. refl))))

  -- and a run begins once, in its own bucket, at a frame of the capture
  made_here : (a b : ℕ) → b < length t.buckets → times_begun a (bucket_at b t.buckets) ≤ cond (bucket_for w a == b) 1 0
  made_here a b low = by_test (has (made (bucket_at b t.buckets)) a) refl
    where
      by_test : (u : Bool) → has (made (bucket_at b t.buckets)) a ≡ u → times_begun a (bucket_at b t.buckets) ≤ cond (bucket_for w a == b) 1 0
      by_test true e =
          let k = made_own (fixed_at w b) (bucket_at b t.buckets) a (l.buckets b low) e in
          let q : bucket_for w a ≡ b = ap (bucket_by w.layout.rows) k.bears ∙ k.bucket in
          let z : (bucket_for w a == b) ≡ true = same (bucket_for w a) b q in
          let x : times_begun a (bucket_at b t.buckets) ≡ 1 = once (fixed_at w b) (bucket_at b t.buckets) a (l.buckets b low) ∙ ap one_if e in
          rw z (omega (arith, x))
      by_test false e =
          let x : times_begun a (bucket_at b t.buckets) ≡ 0 = once (fixed_at w b) (bucket_at b t.buckets) a (l.buckets b low) ∙ ap one_if e in omega (arith, x)

  made_once : (a : ℕ) → made_in t a ≤ 1
  made_once a = omega (
    arith,
    sum_le (length t.buckets) (λ b. times_begun a (bucket_at b t.buckets)) (λ b. cond (bucket_for w a == b) 1 0) (made_here a),
    at_most_one (length t.buckets) (bucket_for w a),
  )

  no_frame : (a : ℕ) → ((1 ≤ a) × (a ≤ length w.capture.seen) → ⊥) → made_in t a ≡ 0
  no_frame a not = sum_same (length t.buckets) (λ b. times_begun a (bucket_at b t.buckets)) (λ b. 0) none_there ∙ sum_zero (length t.buckets)
    where
      none_there : (b : ℕ) → b < length t.buckets → times_begun a (bucket_at b t.buckets) ≡ 0
      none_there b low = by_test (has (made (bucket_at b t.buckets)) a) refl
        where
          by_test : (u : Bool) → has (made (bucket_at b t.buckets)) a ≡ u → times_begun a (bucket_at b t.buckets) ≡ 0
          by_test true e = let k = made_own (fixed_at w b) (bucket_at b t.buckets) a (l.buckets b low) e in absurd (not (bearing_within w.capture a k.packet k.bears))
          by_test false e = once (fixed_at w b) (bucket_at b t.buckets) a (l.buckets b low) ∙ ap one_if e

  got_few : (a : ℕ) → count_in a (got_names t.pool) ≤ count_in a (numbers_to (length w.capture.seen))
  got_few zero = omega (arith, got_made 0, no_frame 0 (λ x. omega (arith, x.0)))
  got_few (suc a) = ⊎_elim
      (λ low. omega (arith, got_made (suc a), made_once (suc a), numbers_count (length w.capture.seen) (suc a) (omega arith) low))
      (λ high. omega (arith, got_made (suc a), no_frame (suc a) (λ x. omega (arith, x.1, high))))
      (split (suc a) (length w.capture.seen))
    where
      split : (x y : ℕ) → (x ≤ y) ⊎ (y < x)
      split x y = grind arith

  got_frames : length (got_names t.pool) ≤ length w.capture.seen
  got_frames = omega (arith, shorter (got_names t.pool) (numbers_to (length w.capture.seen)) got_few, numbers_length (length w.capture.seen))

  -- each run that waited was put
  waited_put : length (waited (manager w + 1) l.hands (suc r - 1)) ≤ length (given_names t.pool)
  waited_put =
      let x = pool_sum w t l.acts l.pool_roles l.bucket_roles l.own put_by put_in (λ n i. refl) (λ n. refl) (λ b n left. refl) in
      let y = sum_roles w.layout.workers (λ role. total put_by (l.acts role)) in
      let z = queue_puts (waited (manager w + 1) l.hands (suc r - 1)) [] (l.acts (recycler w)) l.recycle in
      omega (arith, x, y, z, puts_given t.pool)

  pub waits_few : suc r ≤ rounds w → PutsAreDue t.pool → length (waited (manager w + 1) l.hands (suc r - 1)) + length (next_queue w l.hands) ≤ length w.capture.seen
  waits_few p due = omega (arith, waited_put, out_at_round_end w t r p l due, out_count t.pool due, got_frames)

-- before the first round no hand is there
pub first_hands : (w : Setup) (t : Histories) (l : IsRoundEnd w t zero) (role : ℕ) → role < manager w + 1 → l.hands role ≡ []
first_hands w t l role low = ⊎_elim
    (λ e. nothing (l.hands role) (subst (λ (x : ℕ). length (l.hands x) ≡ 0) (sym e.1) (sweeps_hands w zero (l.acts (manager w)) (l.hands (manager w)) l.manage)))
    (λ e. (l.work role (omega (arith, low, e.1))).1)
    (eqb_tells role (manager w))
  where
    nothing : (xs : List (List Gone)) → length xs ≡ 0 → xs ≡ []
    nothing [] h = refl
    nothing (x ∷ xs) h = absurd (omega (arith, h))

pub first_queue : (w : Setup) (t : Histories) (l : IsRoundEnd w t zero) → next_queue w l.hands ≡ []
first_queue w t l = none_gathered (manager w + 1) l.hands (first_hands w t l)

-- what the recycler did, and what it is to do, are few acts
pub recycler_few : (w : Setup) (t : Histories) (r : ℕ) (l : IsRoundEnd w t r) → IsCapture w.capture → r ≤ rounds w → PutsAreDue t.pool
    → length (l.acts (recycler w)) + 2 * length (next_queue w l.hands) ≤ 8388608
recycler_few w t zero l is p due =
    let none : length (next_queue w l.hands) ≡ 0 = ap length (first_queue w t l) in
    let start : zero - 1 ≡ 0 = omega arith in
    let came : length (waited (manager w + 1) l.hands (zero - 1)) ≡ 0 = ap (λ (k : ℕ). length (waited (manager w + 1) l.hands k)) start in
    omega (arith, none, came, acts_few (waited (manager w + 1) l.hands (zero - 1)) (l.acts (recycler w)) l.recycle)
recycler_few w t (suc r) l is p due =
    omega (arith, waits_few w t r l p due, acts_few (waited (manager w + 1) l.hands (suc r - 1)) (l.acts (recycler w)) l.recycle, as_many_seen w.capture is, is.few)
