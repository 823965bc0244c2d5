-- What the recycler gives back after a round left its bucket in that round. It stood in what waited for the recycler at the end of the next one: the
-- hands of all rounds before. What is in the hand of a round left by an act that its role did when it had put away as many hands as there are rounds
-- before, and after the end of a round no role that acts on a bucket has put away fewer. Had it left in a round before the last, the recycler would
-- have given it back already, since it leaves once. What the end role gives back the roles of the rounds had let go, all of whose entries stand in
-- the last cut, or it drained it itself.
use Rattle.std.proofs.Common.{◌≡◌, ℕ, zero, suc, ◌==◌, ◌+◌, ◌-◌, ◌<◌, ◌≤◌, nat_lt, ◌⊎◌, inl, inr, ⊎_elim, All, Bool, true, false, cond, List, [], ◌∷◌, ◌++◌, length, Option, Some, None, refl, sym, ◌∙◌, ap, subst, arith, length-append}
use Rattle.std.proofs.lemmas.Bool.Decides.{eqb_tells}
use Rattle.std.proofs.lemmas.List.Elements.{All-head, All-tail}
use Rattle.bucket_laws.proofs.Steps.{legal_at}
use Rattle.bucket_laws.proofs.Tests.{below, both, same}
use Rattle.bucket_laws.specs.Counts.{one_if}
use Rattle.bucket_laws.specs.Leaving.{Gone}
use Rattle.bucket_laws.specs.Places.{At}
use Rattle.bucket_rules.specs.Row.{lets_go}
use Rattle.round_laws.proofs.Dealing.{work_from}
use Rattle.round_laws.proofs.Notes.{NoteOf, Notes}
use Rattle.round_laws.proofs.Rising.{did_before, last_ordered}
use Rattle.round_laws.proofs.SweepRounds.{swept_away, swept_on}
use Rattle.round_laws.proofs.WorkRounds.{ended_hands, put_away, worked_in}
use Rattle.round_laws.specs.Cuts.{HasCuts, IsInRounds}
use Rattle.round_laws.specs.Later.{ArePutLater, HasGone, HasGoneBefore, IsPutLater, by_drain, in_last_round}
use Rattle.round_laws.specs.Rising.{round_in}
use Rattle.run_laws.proofs.Acting.{at_ends, done}
use Rattle.run_laws.proofs.Counting.{is_own}
use Rattle.run_laws.proofs.Leavers.{count_gone}
use Rattle.run_laws.proofs.Parts.{met, pool_sum}
use Rattle.run_laws.proofs.Places.{from_bucket, from_entries, from_part, in_part, to_entries, to_pool}
use Rattle.run_laws.proofs.Serving.{manager_totals, queue_totals}
use Rattle.run_laws.proofs.Sums.{same_number}
use Rattle.run_laws.proofs.Uses.{given, made_once}
use Rattle.run_laws.proofs.Using.{ended_some, left_given, managed_some}
use Rattle.run_laws.proofs.Working.{count_append, only_some}
use Rattle.run_laws.specs.Counts.{gives, sum_below, tally}
use Rattle.run_laws.specs.Measures.{count_hands, count_run, given_by, left_by, total}
use Rattle.run_laws.specs.RoundEnd.{IsRoundEnd}
use Rattle.run_laws.specs.Setting.{IsSetup}
use Rattle.run_rules.specs.Acts.{Act, are_within, bucket_acts, on_bucket, on_pool, part, place_of, pool_acts}
use Rattle.run_rules.specs.Histories.{Histories, bucket_at}
use Rattle.run_rules.specs.Lawful.{AreScripted, gathered, nth, waited}
use Rattle.run_rules.specs.Manager.{managed, new_manager, swept_after}
use Rattle.run_rules.specs.Rounds.{SweptRounds}
use Rattle.run_rules.specs.Serving.{behind, front_is, queue_after, served}
use Rattle.run_rules.specs.Setup.{Setup, ender, fixed_at, manager, recycler, roles, rounds, work_of}
use Rattle.run_rules.specs.Worker.{Stand, fresh, moved, stand_after}
use Rattle.step_laws.proofs.Adding.{below_other}
use Rattle.step_laws.proofs.Leaving.{ender_puts}
use Rattle.step_laws.proofs.Letting.{in_front, queue_none, stood_at}
use Rattle.step_laws.proofs.Rounds.{Went, by_stand, by_sweep, count_at, in_waited, left_in, lets_at, none_held, nth_round, one_of, skip_front, stand_left, sweep_left, went}
use Rattle.step_laws.specs.Leaving.{HasLeftIn, IsOfEnd, ended_after, ended_by_stand, ended_by_sweep, of_drain, of_last}
use Rattle.suri_base.specs.History.{Begins, entries_of, entry}
use Rattle.suri_base.specs.declared.entry.BucketNote.{BucketNote}
use Rattle.suri_base.specs.declared.entry.Entry.{Entry}
use Rattle.suri_base.specs.declared.entry.PoolNote.{PoolNote}
use Rattle.suri_base.specs.declared.entry.PoolNote.TheVariants.{Put}

-- an element of a list that grew is one of those that came, behind the whole list from before, or stood there before
pub came_or_was : {A : Type 0} (x : A) (past since old : List A) → At x past (since ++ old) → Begins old past ⊎ At x past old
came_or_was x past [] old h = inr h
came_or_was x past (y ∷ since) old h = ⊎_elim (λ z. inl (since, sym z.1)) (λ z. came_or_was x past since old z) h

-- an entry of another role than all those that came stood there before
pub was : {N : Type 0} (role : ℕ) (e : Entry N) (past since old : List (Entry N)) → All (λ (d : Entry N). d.role ≡ role) since → (e.role ≡ role → ⊥) → At e past (since ++ old) → At e past old
was role e past [] old by apart h = h
was {N} role e past (y ∷ since) old by apart h = ⊎_elim
    (λ z. absurd (apart (subst (λ (d : Entry N). d.role ≡ role) z.0 (All-head (λ (d : Entry N). d.role ≡ role) y since by))))
    (λ z. was role e past since old (All-tail (λ (d : Entry N). d.role ≡ role) y since by) apart z) h

pub All-at : {A : Type 0} (P : A → Type 0) (x : A) (past h : List A) → All P h → At x past h → P x
All-at P x past [] all a = absurd a
All-at P x past (y ∷ h) all a = ⊎_elim (λ z. subst P z.0 (All-head P y h all)) (λ z. All-at P x past h (All-tail P y h all) z) a

-- of two ends of a list those that are as long are the same
same_rest : {A : Type 0} (xs ys a b : List A) → xs ++ a ≡ ys ++ b → length a ≡ length b → a ≡ b
same_rest [] [] a b e n = e
same_rest [] (y ∷ ys) a b e n = let z = ap length e in let k = length-append ys b in absurd (omega (arith, z, k, n))
same_rest (x ∷ xs) [] a b e n = let z = ap length e in let k = length-append xs a in absurd (omega (arith, z, k, n))
same_rest (x ∷ xs) (y ∷ ys) a b e n = let rest : xs ++ a ≡ ys ++ b = cc in same_rest xs ys a b rest n

place_below : (n : ℕ) (a : Act) (before acts : List Act) → are_within n acts ≡ true → At a before acts → place_of a < n
place_below n a before [] k h = absurd h
place_below n a before (x ∷ acts) k h =
    let z = both (nat_lt (place_of x) n) (are_within n acts) k in
    ⊎_elim (λ y. subst (λ (v : Act). place_of v < n) y.0 (below (place_of x) n z.0)) (λ y. place_below n a before acts z.1 y) h

-- what left by acts of two rounds left by two acts

left_two : (ended : List Act → Option ℕ) (a j k : ℕ) (acts : List Act) → (j ≡ k → ⊥) → left_in ended a j acts + left_in ended a k acts ≤ total (left_by a) acts
left_two ended a j k [] apart = omega arith
left_two ended a j k (x ∷ acts) apart = omega (arith, one (ended acts) (left_by a x), left_two ended a j k acts apart)
  where
    by : (m n : ℕ) (u v : Bool) → (m == j) ≡ u → (m == k) ≡ v → cond u n 0 + cond v n 0 ≤ n
    by m n true true e f = absurd (apart (sym (same_number m j e) ∙ same_number m k f))
    by m n true false e f = omega arith
    by m n false true e f = omega arith
    by m n false false e f = omega arith

    one : (o : Option ℕ) (n : ℕ) → lets_at j o n + lets_at k o n ≤ n
    one None n = omega arith
    one (Some m) n = by m n (m == j) (m == k) refl refl

left_at : (ended : List Act → Option ℕ) (a j : ℕ) (b : ℕ) (n : BucketNote) (left : List Gone) (before acts : List Act) → At (on_bucket b n left) before acts → ended before ≡ Some j
    → 1 ≤ count_run a left → 1 ≤ left_in ended a j acts
left_at ended a j b n left before [] h e counted = absurd h
left_at ended a j b n left before (x ∷ acts) h e counted = ⊎_elim
    (λ z. let y = full (ended acts) (left_by a x) (ap ended z.1 ∙ e) (subst (λ (v : Act). 1 ≤ left_by a v) (sym z.0) counted) in omega (arith, y))
    (λ z. let y = left_at ended a j b n left before acts z e counted in omega (arith, y)) h
  where
    full : (o : Option ℕ) (m : ℕ) → o ≡ Some j → 1 ≤ m → 1 ≤ lets_at j o m
    full o m is some = subst (λ (u : Option ℕ). 1 ≤ lets_at j u m) (sym is) (subst (λ (u : Bool). 1 ≤ cond u m 0) (sym (same j j refl)) some)

-- what some hand of a round before the last holds waited

hand_some : (a : ℕ) (hs : List (List Gone)) → 1 ≤ count_hands a hs → (i : ℕ) × (1 ≤ count_run a (nth i hs))
hand_some a [] h = absurd (omega (arith, h))
hand_some a (g ∷ hs) h = ⊎_elim (λ z. (0, z)) (λ z. let y = hand_some a hs z in (suc y.0, y.1)) (one_of (count_run a g) (count_hands a hs) h)

to_gathered : (a n k : ℕ) (hands : ℕ → List (List Gone)) (role : ℕ) → role < n → 1 ≤ count_run a (nth k (hands role)) → 1 ≤ count_run a (gathered n hands k)
to_gathered a zero k hands role low h = absurd (omega (arith, low))
to_gathered a (suc n) k hands role low h = ⊎_elim
    (λ e. let z = subst (λ (r : ℕ). 1 ≤ count_run a (nth k (hands r))) e.1 h in omega (arith, z, count_append a (gathered n hands k) (nth k (hands n))))
    (λ e. let z = to_gathered a n k hands role (less role n low e.1) h in omega (arith, z, count_append a (gathered n hands k) (nth k (hands n))))
    (eqb_tells role n)
  where
    less : (i m : ℕ) → i < suc m → (i ≡ m → ⊥) → i < m
    less i m h apart = omega (arith, h, apart)

to_waited : (a n k : ℕ) (hands : ℕ → List (List Gone)) (role i : ℕ) → role < n → i < k → 1 ≤ count_run a (nth (suc i) (hands role)) → 1 ≤ count_run a (waited n hands k)
to_waited a n zero hands role i low few h = absurd (omega (arith, few))
to_waited a n (suc k) hands role i low few h = ⊎_elim
    (λ e. let z = to_gathered a n (suc k) hands role low (subst (λ (m : ℕ). 1 ≤ count_run a (nth (suc m) (hands role))) e.1 h) in
    omega (arith, z, count_append a (gathered n hands (suc k)) (waited n hands k)))
    (λ e. let z = to_waited a n k hands role i low (less i k few e.1) h in omega (arith, z, count_append a (gathered n hands (suc k)) (waited n hands k)))
    (eqb_tells i k)
  where
    less : (i m : ℕ) → i < suc m → (i ≡ m → ⊥) → i < m
    less i m h apart = omega (arith, h, apart)

-- sums

pub member : (n k : ℕ) (f : ℕ → ℕ) → k < n → f k ≤ sum_below n f
member zero k f h = absurd (omega (arith, h))
member (suc n) k f h = ⊎_elim (λ e. let z = ap f e.1 in omega (arith, z)) (λ e. let z = member n k f (less k n h e.1) in omega (arith, z)) (eqb_tells k n)
  where
    less : (i m : ℕ) → i < suc m → (i ≡ m → ⊥) → i < m
    less i m h apart = omega (arith, h, apart)

total_more : (m : Act → ℕ) (now acts : List Act) → total m acts ≤ total m (now ++ acts)
total_more m [] acts = omega arith
total_more m (a ∷ now) acts = omega (arith, total_more m now acts)

tally_more : {N : Type 0} (m : N → ℕ) (since old : List (Entry N)) → tally m old ≤ tally m (since ++ old)
tally_more m [] old = omega arith
tally_more m (e ∷ since) old = omega (arith, tally_more m since old)

tally_at : {N : Type 0} (m : N → ℕ) (e : Entry N) (past h : List (Entry N)) → At e past h → m e.note + tally m past ≤ tally m h
tally_at m e past [] a = absurd a
tally_at {N} m e past (x ∷ h) a = ⊎_elim
    (λ z. let y = ap (λ (d : Entry N). m d.note) z.0 in let v = ap (tally m) z.1 in omega (arith, y, v))
    (λ z. omega (arith, tally_at m e past h z)) a

pub note_in : (P : BucketNote → Type 0) (b : ℕ) (n : BucketNote) (left : List Gone) (before acts : List Act) → Notes P acts → At (on_bucket b n left) before acts → P n
note_in P b n left before [] h a = absurd a
note_in P b n left before (x ∷ acts) h a = ⊎_elim (λ z. subst (λ (y : Act). NoteOf P y) z.0 h.0) (λ z. note_in P b n left before acts h.1 z) a

-- histories at the end of a round

module _ (w : Setup) (t : Histories) (r : ℕ) (at : IsRoundEnd w t r) where
  -- what left by an act was let go by its entry
  pub gone_by : (role b : ℕ) (n : BucketNote) (left : List Gone) (before : List Act) (run : ℕ) → role < roles w → At (on_bucket b n left) before (at.acts role) → 1 ≤ count_run run left
      → (g : HasGone w t run) × (g.note ≡ n)
  gone_by role b n left before run real a counted =
      let own = at.own role real in
      let there : b < length t.buckets = let x = place_below (length t.buckets + 2) (on_bucket b n left) before (at.acts role) own.within a in omega (arith, x) in
      let done : Act = on_bucket b n left in
      let own_part = subst (λ (u : List (Entry Act)). At (entry role (length before) done) (part role (b + 2) before) u) (sym (own.buckets b there))
      (in_part role (b + 2) done before (at.acts role) a refl) in
      let all = from_entries role (entry role (length before) done) (part role (b + 2) before) (bucket_acts w b (bucket_at b t.buckets)) own_part in
      let e = from_bucket w b b role (length before) n left all.0 (bucket_at b t.buckets) all.1 in
      let legal = legal_at (fixed_at w b) (entry role (length before) n) e.0 (bucket_at b t.buckets) (at.buckets b there) e.1 in
      let c = ap (count_run run) e.2 ∙ count_gone (fixed_at w b) e.0 n run legal.1 in
      (record { bucket = b; real = there; role = role; step = length before; note = n; past = e.0; place = e.1; left = is_so (lets_go (fixed_at w b) e.0 n run) (omega (arith, c, counted)) }, refl)
    where
      is_so : (u : Bool) → 1 ≤ one_if u → u ≡ true
      is_so true h = refl
      is_so false h = absurd (omega (arith, h))

  -- an entry of the pool is an act of its role
  pub act_of : (role step : ℕ) (n : PoolNote) (past : List (Entry PoolNote)) → role < roles w → At (entry role step n) past t.pool → (before : List Act) × At (on_pool n (length past + 1)) before (at.acts role)
  act_of role step n past real a =
      let done : Act = on_pool n (length past + 1) in
      let all = to_entries (entry role step done) (pool_acts past) (pool_acts t.pool) (to_pool (entry role step n) past t.pool a) in
      let x = from_part role 0 role step done (entries_of role (pool_acts past)) (at.acts role)
      (subst (λ (k : List (Entry Act)). At (entry role step done) (entries_of role (pool_acts past)) k) (at.own role real).pool all) in
      (x.0, x.1)

  -- what the recycler gave back waited for it
  put_waited : (step run : ℕ) (past : List (Entry PoolNote)) → At (entry (recycler w) step (Put run)) past t.pool → 1 ≤ count_run run (waited (manager w + 1) at.hands (r - 1))
  put_waited step run past a =
      let x = act_of (recycler w) step (Put run) past (omega arith) a in
      let queue : List Gone = waited (manager w + 1) at.hands (r - 1) in
      let k = stood_at served (λ acts. queue_after queue acts) (λ y acts. refl) (λ y. refl) (on_pool (Put run) (length past + 1)) x.0 (at.acts (recycler w)) [] at.recycle x.1 in
      let f = in_front run k.0 (only_some (front_is run k.0) (behind k.0) k.1 k.3).0 in
      let q = (queue_totals w run queue x.0 k.0 k.2).left in
      omega (arith, f, q, queue_none run queue k.0 x.0 k.2)

  -- what waited for the recycler it gave back
  waited_put : (run : ℕ) → 1 ≤ count_run run (waited (manager w + 1) at.hands (r - 1)) → 1 ≤ total (given_by run) (at.acts (recycler w))
  waited_put run h = let q = (queue_totals w run (waited (manager w + 1) at.hands (r - 1)) (at.acts (recycler w)) [] at.recycle).left in omega (arith, q, h)

  -- the end role has not begun
  none_of_ender : (step : ℕ) (n : PoolNote) (past : List (Entry PoolNote)) → At (entry (ender w) step n) past t.pool → ⊥
  none_of_ender step n past a =
      let x = act_of (ender w) step n past (omega arith) a in
      absurd (subst (λ (k : List Act). At (on_pool n (length past + 1)) x.0 k) at.drain x.1)

-- what left by an act of a round before the last that was ended, and is given back later, left in the last

module _
    (w : Setup)
    (d : IsSetup w)
    (t : Histories)
    (r : ℕ)
    (low : r < rounds w)
    (at : IsRoundEnd w t (suc r))
    (run : ℕ)
    (none : (role : ℕ) → role < roles w → total (given_by run) (at.acts role) ≡ 0)
    (role : ℕ)
    (real : role < manager w + 1)
    (single : total (left_by run) (at.acts role) ≤ 1)
    (long : length (at.hands role) ≡ suc r)
  where
    -- it is in no hand of a round before
    newest : (i : ℕ) → 1 ≤ count_run run (nth i (at.hands role)) → 1 ≤ count_at run r (at.hands role)
    newest zero h =
        let y = nth_round run 0 (at.hands role) h in
        let e : length (at.hands role) - 1 ≡ r = omega (arith, long) in
        subst (λ (k : ℕ). 1 ≤ count_at run k (at.hands role)) e y.1
    newest (suc i) h =
        let y = (nth_round run (suc i) (at.hands role) h).0 in
        let z = waited_put w t (suc r) at run (to_waited run (manager w + 1) (suc r - 1) at.hands role i real (omega (arith, y, long)) h) in
        let n = none (recycler w) (omega arith) in
        absurd (omega (arith, z, n))

    last_of : (ended : List Act → Option ℕ) → total (left_by run) (at.acts role) ≤ total (given_by run) (at.acts role) + count_hands run (at.hands role)
        → count_at run r (at.hands role) ≤ left_in ended run r (at.acts role) → (j : ℕ) → 1 ≤ left_in ended run j (at.acts role) → j ≡ r
    last_of ended held counted j left = ⊎_elim (λ e. e.1) (λ e. absurd (apart e.1)) (eqb_tells j r)
      where
        apart : (j ≡ r → ⊥) → ⊥
        apart not =
            let two = left_two ended run j r (at.acts role) not in
            let n = none role (omega (arith, real)) in
            let some = hand_some run (at.hands role) (omega (arith, two, left, held, n)) in
            let c = newest some.0 some.1 in
            omega (arith, two, left, single, counted, c)

-- from the end of one round to the end of the next

module _
    (w : Setup)
    (d : IsSetup w)
    (old new : Histories)
    (r : ℕ)
    (low : suc r < rounds w)
    (was_end : IsRoundEnd w old (suc r))
    (end : IsRoundEnd w new (suc (suc r)))
    (now : ℕ → List Act)
    (on : (k : ℕ) → end.acts k ≡ now k ++ was_end.acts k)
    (run : ℕ)
    (none : (role : ℕ) → role < roles w → total (given_by run) (was_end.acts role) ≡ 0)
    (single : (role : ℕ) → role < manager w + 1 → total (left_by run) (was_end.acts role) ≤ 1)
    (j : ℕ)
    (early : j < suc r)
  where
    abbrev Gone_in_last : Type 0
    Gone_in_last = (g : HasGone w old run) × (round_in w g.note ≡ r)

    abbrev Early : ℕ → Type 0
    Early role = 1 ≤ count_at run j (end.hands role) → Gone_in_last

    -- what left by an act that was done before the end of the earlier round
    gone_then : (role : ℕ) → role < roles w → (ended : List Act → Option ℕ) (x : Went ended run j (end.acts role)) → (Begins (was_end.acts role) x.before → ⊥)
        → (1 ≤ left_in ended run j (was_end.acts role) → j ≡ r) → j ≤ round_in w x.note → Gone_in_last
    gone_then role real ended x later last above =
        ⊎_elim
        (λ z. absurd (later z))
        (λ z.
        let g = gone_by w old (suc r) was_end role x.bucket x.note x.left x.before run real z x.counted in
        let e = last (left_at ended run j x.bucket x.note x.left x.before (was_end.acts role) z x.in_round x.counted) in
        let b = note_in (λ n. round_in w n < suc r) x.bucket x.note x.left x.before (was_end.acts role) (did_before w d old (suc r) (omega (arith, low)) was_end role real) z in
        let same_note : round_in w g.0.note ≡ round_in w x.note = ap (round_in w) g.1 in
        (g.0, omega (arith, e, b, above, same_note)))
        (came_or_was (on_bucket x.bucket x.note x.left) x.before (now role) (was_end.acts role)
        (subst (λ (k : List Act). At (on_bucket x.bucket x.note x.left) x.before k) (on role) x.place))

    some_is : (m n : ℕ) → Some m ≡ Some n → m ≡ n
    some_is m n e = cc

    worker_gone : (role : ℕ) → role < w.layout.workers → Early role
    worker_gone role real c =
        let from = work_from w d role 0 (rounds w) in
        let start : Stand = fresh (work_of w role) in
        let h = ended_hands w role from run j (suc r) low (end.acts role) (end.hands role) (end.work role real) in
        let k = stand_left run j w start h.0 (end.acts role) (none_held run j) h.1 in
        let x = went (by_stand w start) run j (end.acts role) (omega (arith, c, h.2, k)) in
        let s = stood_at (moved w) (stand_after w start) (λ a acts. refl) (λ a. refl) (on_bucket x.bucket x.note x.left) x.before (end.acts role) h.0 h.1 x.place in
        let q = some_is (length s.0.hands) j (sym (ap ended_by_stand s.2) ∙ x.in_round) in
        let u = ended_hands w role from run r r (omega (arith, low)) (was_end.acts role) (was_end.hands role) (was_end.work role real) in
        let v = stand_left run r w start u.0 (was_end.acts role) (none_held run r) u.1 in
        let on_time = worked_in w role from x.before s.0 s.1 x.bucket x.note x.left s.2 s.3 in
        gone_then role (omega (arith, real)) (by_stand w start) x
        (λ b.
        let p = put_away w role from (suc r) (omega (arith, low)) (was_end.acts role) b.0 (was_end.hands role) (was_end.work role real) s.0 s.1 x.bucket x.note x.left
        (subst (λ (y : List Act). stand_after w start y ≡ Some s.0) b.1 s.2) s.3 in
        omega (arith, p, q, early))
        (λ left. last_of w d old r (omega (arith, low)) was_end run none role (omega (arith, real)) (single role (omega (arith, real))) u.3 (by_stand w start) u.4 (omega (arith, u.2, v)) j left)
        (omega (arith, on_time, q))

    manager_gone : Early (manager w)
    manager_gone c =
        let at = end.manage in
        let held = subst (λ (hs : List (List Gone)). 1 ≤ count_at run j hs) (sym at.held) c in
        let k = sweep_left run j w new_manager at.sweep (end.acts (manager w)) (none_held run j) at.stood in
        let o = skip_front run j at.sweep.hand at.sweep.hands in
        let x = went (by_sweep w new_manager) run j (end.acts (manager w)) (omega (arith, held, k, o)) in
        let s = stood_at (managed w) (swept_after w new_manager) (λ a acts. refl) (λ a. refl) (on_bucket x.bucket x.note x.left) x.before (end.acts (manager w)) at.sweep at.stood x.place in
        let q = some_is (length s.0.hands) j (sym (ap ended_by_sweep s.2) ∙ x.in_round) in
        let on_time = swept_on w x.before s.0 s.1 x.bucket x.note x.left s.2 s.3 in
        gone_then (manager w) (omega arith) (by_sweep w new_manager) x
        (λ b.
        let p = swept_away w (suc r) (was_end.acts (manager w)) b.0 (was_end.hands (manager w)) was_end.manage s.0
        (subst (λ (y : List Act). swept_after w new_manager y ≡ Some s.0) b.1 s.2) in
        omega (arith, p, q, early))
        (λ left.
        let was : SweptRounds w (suc r) (was_end.acts (manager w)) (was_end.hands (manager w)) = was_end.manage in
        let u = manager_totals w run new_manager (refl, refl, refl) (was_end.acts (manager w)) was.sweep was.stood in
        let v = sweep_left run r w new_manager was.sweep (was_end.acts (manager w)) (none_held run r) was.stood in
        let f = skip_front run r was.sweep.hand was.sweep.hands in
        let g = ap (count_at run r) was.held in
        let y = ap (count_hands run) was.held in
        let z : count_run run was.sweep.hand ≡ 0 = ap (count_run run) was.empty in
        last_of w d old r (omega (arith, low)) was_end run none (manager w) (omega arith) (single (manager w) (omega arith)) (ap length (sym was.held) ∙ (u.1 ∙ was.round)) (by_sweep w new_manager)
        (omega (arith, u.0.left, y, z)) (omega (arith, v, f, g)) j left)
        (omega (arith, on_time, q))

    -- what is in the hand of a round before had gone in the last
    early_gone : (role : ℕ) → role < manager w + 1 → Early role
    early_gone role real = ⊎_elim (λ e. subst Early (sym e.1) manager_gone) (λ e. worker_gone role (omega (arith, real, e.1))) (eqb_tells role (manager w))

module _ (w : Setup) (d : IsSetup w) (t : Histories) (r : ℕ) (low : r < rounds w) (end : IsRoundEnd w t (suc r)) where
  -- each role has one hand for each round
  long : (role : ℕ) → role < manager w + 1 → length (end.hands role) ≡ suc r
  long role real = ⊎_elim
      (λ e. subst (λ (k : ℕ). length (end.hands k) ≡ suc r) (sym e.1)
      (ap length (sym end.manage.held) ∙ ((manager_totals w 0 new_manager (refl, refl, refl) (end.acts (manager w)) end.manage.sweep end.manage.stood).1 ∙ end.manage.round)))
      (λ e. (ended_hands w role (work_from w d role 0 (rounds w)) 0 0 r low (end.acts role) (end.hands role) (end.work role (omega (arith, real, e.1)))).3)
      (eqb_tells role (manager w))

-- what the recycler gives back in a round had gone in the last round before
put_gone : (w : Setup) (d : IsSetup w) (old new : Histories) (r : ℕ) (low : r < rounds w) (was_end : IsRoundEnd w old r) (end : IsRoundEnd w new (suc r)) (now : ℕ → List Act)
    → ((k : ℕ) → end.acts k ≡ now k ++ was_end.acts k) → (step run : ℕ) (past : List (Entry PoolNote)) → ((role : ℕ) → role < roles w → total (given_by run) (was_end.acts role) ≡ 0)
    → ((role : ℕ) → role < manager w + 1 → total (left_by run) (was_end.acts role) ≤ 1) → At (entry (recycler w) step (Put run)) past new.pool
    → (g : HasGone w old run) × (suc (round_in w g.note) ≡ r)
put_gone w d old new zero low was_end end now on step run past none single a = let n = put_waited w new 1 end step run past a in absurd (omega (arith, n))
put_gone w d old new (suc r) low was_end end now on step run past none single a =
    let v = in_waited run (manager w + 1) (suc (suc r) - 1) end.hands (put_waited w new (suc (suc r)) end step run past a) in
    let y = nth_round run (suc v.2) (end.hands v.0) v.3 in
    let n = long w d new (suc r) low end v.0 v.1 in
    let g = early_gone w d old new r low was_end end now on run none single (length (end.hands v.0) - suc (suc v.2)) (omega (arith, y.0, n)) v.0 v.1 y.1 in
    (g.0, ap suc g.1)

-- over all rounds

module _ (w : Setup) (d : IsSetup w) (t : Histories) (l : AreScripted w t) (i : IsInRounds w t l.acts) (step run : ℕ) (past : List (Entry PoolNote)) where
  abbrev c : HasCuts w i.last (rounds w) i.done
  c = i.cuts

  -- in all the object is given back once, and the run left once
  given_once : tally (gives run) t.pool ≤ 1
  given_once = let g = given w t l run in let m = made_once w t l run in omega (arith, g, m)

  left_once : (role : ℕ) → role < roles w → total (left_by run) (l.acts role) ≤ 1
  left_once role real =
      let p = pool_sum w t l.acts l.legal.pool_roles l.legal.bucket_roles (λ k h. met w t k (l.acts k) (l.own k h)) (given_by run) (gives run) (λ n k. refl) (λ n. refl) (λ b n left. refl) in
      let m = member (roles w) role (λ k. total (left_by run) (l.acts k)) real in
      omega (arith, given_once, p, left_given w t l run, m)

  did_up : (k r : ℕ) → r + k ≡ rounds w → (role : ℕ) → total (left_by run) (c.did r role) ≤ total (left_by run) (c.did (rounds w) role)
  did_up zero r e role =
      let is : r ≡ rounds w = omega (arith, e) in
      subst (λ (q : ℕ). total (left_by run) (c.did r role) ≤ total (left_by run) (c.did q role)) is (omega arith)
  did_up (suc k) r e role =
      let b = c.goes_on r (omega (arith, e)) role in
      let m = total_more (left_by run) b.0 (c.did r role) in
      let n = ap (total (left_by run)) b.1 in
      omega (arith, m, n, did_up k (suc r) (omega (arith, e)) role)

  left_so_far : (r : ℕ) → r ≤ rounds w → (role : ℕ) → role < manager w + 1 → total (left_by run) (c.did r role) ≤ 1
  left_so_far r low role real =
      let u = did_up (rounds w - r) r (omega (arith, low)) role in
      let v = ap (total (left_by run)) (c.last_did role ∙ i.all_done role (omega (arith, real))) in
      omega (arith, u, v, left_once role (omega (arith, real)))

  -- before it was given back by the recycler no role had given it back
  none_before : (r : ℕ) (low : r ≤ rounds w) → At (entry (recycler w) step (Put run)) past t.pool → Begins (c.cut r).pool past → (role : ℕ) → role < roles w
      → total (given_by run) ((c.ends r low).at.acts role) ≡ 0
  none_before r low a b role real =
      let at = (c.ends r low).at in
      let p = pool_sum w (c.cut r) at.acts at.pool_roles at.bucket_roles at.own (given_by run) (gives run) (λ n k. refl) (λ n. refl) (λ x n left. refl) in
      let m = member (roles w) role (λ k. total (given_by run) (at.acts k)) real in
      let h = tally_at (gives run) (entry (recycler w) step (Put run)) past t.pool a in
      let one : gives run (Put run) ≡ 1 = is_own run in
      let more = tally_more (gives run) b.0 (c.cut r).pool in
      let behind = ap (tally (gives run)) b.1 in
      omega (arith, p, m, h, one, more, behind, given_once)

  single_at : (r : ℕ) (low : r ≤ rounds w) (role : ℕ) → role < manager w + 1 → total (left_by run) ((c.ends r low).at.acts role) ≤ 1
  single_at r low role real = let e = ap (total (left_by run)) ((c.ends r low).acts_are role) in omega (arith, e, left_so_far r low role real)

  -- it was given back in one of the rounds
  put_by : (r : ℕ) → r ≤ rounds w → At (entry (recycler w) step (Put run)) past t.pool → At (entry (recycler w) step (Put run)) past (c.cut r).pool → IsPutLater w t l.acts i step run past
  put_by zero low whole a = let n = put_waited w (c.cut 0) 0 (c.ends 0 low).at step run past a in absurd (omega (arith, n))
  put_by (suc r) low whole a =
      let here : r ≤ rounds w = omega (arith, low) in
      let more : r < rounds w = omega (arith, low) in
      let next = c.ends (suc r) low in
      let g = (c.grows r more).pool in
      let now : ℕ → List Act = λ k. (c.goes_on r more k).0 in
      let on : (k : ℕ) → next.at.acts k ≡ now k ++ (c.ends r here).at.acts k
      = λ k. next.acts_are k ∙ ((c.goes_on r more k).1 ∙ ap (λ (y : List Act). now k ++ y) (sym ((c.ends r here).acts_are k))) in
      ⊎_elim
      (λ b.
      let x = put_gone w d (c.cut r) (c.cut (suc r)) r more (c.ends r here).at next.at now on step run past (none_before r here whole b) (single_at r here) a in
      record { round = r; within = more; gone = x.0; in_last = x.1; behind = b; in_next = a })
      (λ b. put_by r here whole b)
      (came_or_was (entry (recycler w) step (Put run)) past g.0 (c.cut r).pool (subst (λ (h : List (Entry PoolNote)). At (entry (recycler w) step (Put run)) past h) g.1 a))

  pub recycler_later : At (entry (recycler w) step (Put run)) past t.pool → IsPutLater w t l.acts i step run past
  recycler_later a =
      put_by (rounds w) (omega arith) a
      (subst (λ (h : Histories). At (entry (recycler w) step (Put run)) past h.pool) (sym c.last)
      (was (ender w) (entry (recycler w) step (Put run)) past i.rest.pool.0 i.last.pool i.rest.pool.2 (λ e. absurd (omega (arith, e)))
      (subst (λ (h : List (Entry PoolNote)). At (entry (recycler w) step (Put run)) past h) i.rest.pool.1 a)))

  -- what another role than the end role let go was gone by the last cut
  gone_last : (round : ℕ) → (h : HasLeftIn w t l.acts run round) → (g : HasGone w i.last run) × (g.note ≡ h.note)
  gone_last round h =
      let there : h.bucket < length i.last.buckets = omega (arith, h.real, i.rest.rows) in
      let g = i.rest.buckets h.bucket there in
      let e : Entry BucketNote = entry h.role (length h.before) h.note in (
        record {
          bucket = h.bucket;
          real = there;
          role = h.role;
          step = length h.before;
          note = h.note;
          past = h.past;
          place = was (ender w) e h.past g.0 (bucket_at h.bucket i.last.buckets) g.2 (λ q. absurd (omega (arith, q, h.other)))
              (subst (λ (k : List (Entry BucketNote)). At e h.past k) g.1 h.place);
          left = h.left;
        },
        refl,
      )

  at_last : IsRoundEnd w i.last (rounds w)
  at_last = subst (λ (h : Histories). IsRoundEnd w h (rounds w)) c.last (c.ends (rounds w) (omega arith)).at

  -- an entry of a role that had put so many hands away is of the round after them, or of a later one; and all were done in the rounds
  above : (round : ℕ) → (h : HasLeftIn w t l.acts run round) → round ≤ round_in w h.note
  above round h =
      let real : h.role < roles w = omega (arith, h.other) in
      let x = done w t l h.bucket h.real h.role (length h.before) h.note h.past real h.place in
      let b = at_ends (on_bucket h.bucket h.note x.left) x.before (l.acts h.role) x.act in
      let is : h.before ≡ x.before = same_rest h.began.0 b.0 h.before x.before (sym h.began.1 ∙ b.1) x.number in
      let a = subst (λ (k : List Act). At (on_bucket h.bucket h.note x.left) k (l.acts h.role)) (sym is) x.act in
      ⊎_elim
      (λ e. manager_above round h.bucket h.note x.left h.before
      (subst (λ (k : ℕ). At (on_bucket h.bucket h.note x.left) h.before (l.acts k)) e.1 a) (subst (λ (k : ℕ). ended_after w k h.before ≡ Some round) e.1 h.in_round))
      (λ e. worker_above round h.role (omega (arith, h.other, e.1)) h.bucket h.note x.left h.before a h.in_round)
      (eqb_tells h.role (manager w))
    where
      some_is : (m n : ℕ) → Some m ≡ Some n → m ≡ n
      some_is m n e = cc

      worker_above : (round role : ℕ) → role < w.layout.workers → (b : ℕ) (n : BucketNote) (left : List Gone) (before : List Act) → At (on_bucket b n left) before (l.acts role)
          → ended_after w role before ≡ Some round → round ≤ round_in w n
      worker_above round role real b n left before a e =
          let start : Stand = fresh (work_of w role) in
          let f = ended_some (stand_after w start (l.acts role)) (l.hands role) (l.work role real) in
          let s = stood_at (moved w) (stand_after w start) (λ x acts. refl) (λ x. refl) (on_bucket b n left) before (l.acts role) f.0 f.1 a in
          let z = worked_in w role (work_from w d role 0 (rounds w)) before s.0 s.1 b n left s.2 s.3 in
          let by : ended_by_stand (stand_after w start before) ≡ Some round
          = subst (λ (u : Bool). cond u (ended_by_sweep (swept_after w new_manager before)) (ended_by_stand (stand_after w start before)) ≡ Some round) (below_other role (manager w) real) e in
          let q = some_is (length s.0.hands) round (sym (ap ended_by_stand s.2) ∙ by) in
          omega (arith, z, q)

      manager_above : (round b : ℕ) (n : BucketNote) (left : List Gone) (before : List Act) → At (on_bucket b n left) before (l.acts (manager w))
          → ended_after w (manager w) before ≡ Some round → round ≤ round_in w n
      manager_above round b n left before a e =
          let f = managed_some w (swept_after w new_manager (l.acts (manager w))) (l.hands (manager w)) l.manage in
          let s = stood_at (managed w) (swept_after w new_manager) (λ x acts. refl) (λ x. refl) (on_bucket b n left) before (l.acts (manager w)) f.0 f.1 a in
          let z = swept_on w before s.0 s.1 b n left s.2 s.3 in
          let by : ended_by_sweep (swept_after w new_manager before) ≡ Some round
          = subst (λ (u : Bool). cond u (ended_by_sweep (swept_after w new_manager before)) (ended_by_stand (stand_after w (fresh (work_of w (manager w))) before)) ≡ Some round)
          (same (manager w) (manager w) refl) e in
          let q = some_is (length s.0.hands) round (sym (ap ended_by_sweep s.2) ∙ by) in
          omega (arith, z, q)

  below_end : (b : ℕ) → b < length i.last.buckets → (role step : ℕ) (n : BucketNote) (old : List (Entry BucketNote)) → At (entry role step n) old (bucket_at b i.last.buckets)
      → round_in w n < rounds w
  below_end b real role step n old a =
      All-at (λ (e : Entry BucketNote). round_in w e.note < rounds w) (entry role step n) old (bucket_at b i.last.buckets)
      (last_ordered w d i.last (rounds w) i.done c (omega arith) b real (omega (arith, real, i.rest.rows, l.legal.rows))).below a

  of_end : IsOfEnd w t l.acts step run → HasGoneBefore w t i.last step run
  of_end (of_last round h e) =
      let g = gone_last round h in
      let same_note : round_in w g.0.note ≡ round_in w h.note = ap (round_in w) g.1 in
      in_last_round g.0 (omega (arith, e, same_note, above round h, below_end g.0.bucket g.0.real g.0.role g.0.step g.0.note g.0.past g.0.place))
  of_end (of_drain h) = by_drain h

  pub end_later : At (entry (ender w) step (Put run)) past t.pool → HasGoneBefore w t i.last step run × Begins i.last.pool past
  end_later a = (of_end (ender_puts w t l step run past a), behind_all)
    where
      behind_all : Begins i.last.pool past
      behind_all =
          ⊎_elim (λ b. b) (λ b. absurd (none_of_ender w i.last (rounds w) at_last step (Put run) past b))
          (came_or_was (entry (ender w) step (Put run)) past i.rest.pool.0 i.last.pool (subst (λ (h : List (Entry PoolNote)). At (entry (ender w) step (Put run)) past h) i.rest.pool.1 a))

pub put_later : (w : Setup) → IsSetup w → (t : Histories) (l : AreScripted w t) (i : IsInRounds w t l.acts) → ArePutLater w t l i
put_later w d t l i = record { recycler = λ step run past a. recycler_later w d t l i step run past a; end = λ step run past a. end_later w d t l i step run past a }
