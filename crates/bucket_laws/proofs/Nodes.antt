-- The nodes of a bucket: each that was stored comes out again.
use Rattle.std.proofs.Common.{◌≡◌, ℕ, ◌==◌, ◌+◌, ◌-◌, ◌≤◌, Bool, true, false, cond, not, ◌&&◌, ◌||◌, List, [], ◌∷◌, ⊎_elim, refl, sym, ◌∙◌, ap, subst, eqb-true, arith}
use Rattle.std.specs.Prelude.{sum_by}
use Rattle.std.proofs.lemmas.List.Sums.{sum_by-cons}
use Rattle.std.proofs.lemmas.Bool.Decides.{eqb_tells}
use Rattle.suri_base.specs.declared.entry.BucketNote.{BucketNote}
use Rattle.suri_base.specs.declared.entry.BucketNote.TheVariants.{Found, Missing, Made, Refused, Stored, Stopped, Closed, Idle, Victim, AllInUse, Swept, Drained}
use Rattle.suri_base.specs.declared.entry.Entry.{Entry}
use Rattle.bucket_rules.specs.Row.{Row, blank, after, row, has, is_here, is_linked, detached, off_if, Off, made, made_by, waiting_of}
use Rattle.bucket_rules.specs.Rule.{Rule, IsLegal}
use Rattle.bucket_rules.specs.Sound.{IsSound, IsNumberSet}
use Rattle.bucket_rules.specs.declared.fixed.Fixed.{Fixed}
use Rattle.bucket_rules.proofs.Rowing.{begins}
use Rattle.bucket_rules.proofs.Words.{true_false}
use Rattle.bucket_laws.specs.Counts.{one_if}
use Rattle.bucket_laws.specs.Draining.{is_drained}
use Rattle.bucket_laws.specs.Nodes.{stored_in, freed_from, taken_by, holds, stores, frees, times_stored, times_freed, times_taken, all_stored, all_freed, all_taken, all_held}
use Rattle.bucket_rules.proofs.Soundness.{sound}
use Rattle.bucket_laws.proofs.Draining.{empty}
use Rattle.bucket_laws.proofs.Steps.{by_both, cond_now, cond_not, user_here, here_back, begins_blank, here_made}
use Rattle.bucket_laws.proofs.Tests.{no_true, or_left, or_right, other, same}

-- one run at one entry: what is stored, what is freed, what it takes along, what it still holds
kept : (st fr : ℕ) (w x : Row) → x.held + fr ≡ w.held + st → (is_here x ≡ true → is_here w ≡ true) → (is_here w ≡ false → (st ≡ 0) × (fr ≡ 0))
    → st + holds w ≡ fr + (cond (is_here w && not (is_here x)) x.held 0 + holds x)
kept st fr w x e back dead = by (is_here w) (is_here x) back dead
  where
    by : (p q : Bool) → (q ≡ true → p ≡ true) → (p ≡ false → (st ≡ 0) × (fr ≡ 0)) → st + cond p w.held 0 ≡ fr + (cond (p && not q) x.held 0 + cond q x.held 0)
    by true true b d = omega (arith, e)
    by true false b d = omega (arith, e)
    by false true b d = let z : false ≡ true = b refl in cc
    by false false b d = let z = d refl in omega (arith, z.0, z.1)

off-held : (t : Bool) (o : Off) (w : Row) → (off_if t o w).held ≡ w.held
off-held t o w = by_both (λ (v : Row). v.held) (is_linked w.place && t) (record w { place = detached o }) w w.held refl refl

cond_held : (t : Bool) (x w : Row) → x.held ≡ w.held → (cond t x w).held + 0 ≡ w.held + 0
cond_held true x w h = omega (arith, h)
cond_held false x w h = refl

store_held : (t : Bool) (x w : Row) → x.held ≡ w.held + 1 → (cond t x w).held + 0 ≡ w.held + one_if t
store_held true x w h = omega (arith, h)
store_held false x w h = refl

free_held : (t : Bool) (freed : ℕ) (x w : Row) → x.held ≡ w.held - freed → (t ≡ true → freed ≤ w.held) → (cond t x w).held + cond t freed 0 ≡ w.held + 0
free_held true freed x w e h = let z = h refl in omega (arith, z, e)
free_held false freed x w e h = refl

-- a close frees no more nodes than the run holds
frees_held : (m k freed : ℕ) → freed ≡ m - k → freed ≤ m
frees_held m k freed e = omega (arith, e)

held_step : (s : Fixed) (past : List (Entry BucketNote)) (r : ℕ) (n : BucketNote) (a : ℕ) → Rule s past r n → begins n a ≡ false
    → (after s a n (row s a past)).held + freed_from a n ≡ (row s a past).held + stored_in s a past n
held_step s past r (Found g emergency seen run said) a rule b = cond_held (run == a) _ (row s a past) refl
held_step s past r (Missing g emergency seen ended) a rule b = ap (λ m. m + 0) (off-held _ _ (row s a past))
held_step s past r (Made g said) a rule b = ap (λ m. m + 0) (cond_not (λ (w : Row). w.held) (g == a) _ (row s a past) b)
held_step s past r (Refused g) a rule b = refl
held_step s past r (Stored g) a rule b = store_held (has (row s a past).uses g) _ (row s a past) refl
held_step s past r (Stopped g) a rule b = cond_held (has (row s a past).uses g) _ (row s a past) refl
held_step s past r (Closed g app run freed ended) a rule b =
    free_held (run == a) freed _ (row s a past) refl
    (λ x. subst (λ (z : ℕ). freed ≤ (row s z past).held) (eqb-true run a x) (frees_held (row s run past).held (waiting_of s (row s run past)) freed rule.3))
held_step s past r (Idle g app) a rule b = refl
held_step s past r (Victim g run) a rule b = ap (λ m. m + 0) (off-held _ _ (row s a past))
held_step s past r (AllInUse g count) a rule b = refl
held_step s past r (Swept round emergency seen count) a rule b = ap (λ m. m + 0) (off-held _ _ (row s a past))
held_step s past r (Drained count) a rule b = ap (λ m. m + 0) (off-held _ _ (row s a past))

one_if_none : (t : Bool) → t ≡ false → one_if t ≡ 0
one_if_none true h = cc
one_if_none false h = refl

cond_zero : (t : Bool) (n : ℕ) → t ≡ false → cond t n 0 ≡ 0
cond_zero true n h = cc
cond_zero false n h = refl

-- nothing is stored in a run that isn't there, or freed from it
dead : (s : Fixed) (past : List (Entry BucketNote)) (r : ℕ) (n : BucketNote) (a : ℕ) → Rule s past r n → is_here (row s a past) ≡ false
    → (stored_in s a past n ≡ 0) × (freed_from a n ≡ 0)
dead s past r (Found g emergency seen run said) a rule h = (refl, refl)
dead s past r (Missing g emergency seen ended) a rule h = (refl, refl)
dead s past r (Made g said) a rule h = (refl, refl)
dead s past r (Refused g) a rule h = (refl, refl)
dead s past r (Stored g) a rule h =
    (one_if_none (has (row s a past).uses g) (no_true (has (row s a past).uses g) (λ x. true_false (user_here (row s a past) g x) h)), refl)
dead s past r (Stopped g) a rule h = (refl, refl)
dead s past r (Closed g app run freed ended) a rule h =
    let here = user_here (row s run past) g rule.2 in
    (refl, cond_zero (run == a) freed (no_true (run == a) (λ x. true_false (subst (λ (z : ℕ). is_here (row s z past) ≡ true) (eqb-true run a x) here) h)))
dead s past r (Idle g app) a rule h = (refl, refl)
dead s past r (Victim g run) a rule h = (refl, refl)
dead s past r (AllInUse g count) a rule h = (refl, refl)
dead s past r (Swept round emergency seen count) a rule h = (refl, refl)
dead s past r (Drained count) a rule h = (refl, refl)

blank_step : (t : Bool) (x w : Row) → t ≡ true → holds w ≡ 0 → x.held ≡ 0
    → 0 + holds w ≡ 0 + (cond (is_here w && not (is_here (cond t x w))) (cond t x w).held 0 + holds (cond t x w))
blank_step false x w e h k = cc
blank_step true x w e h k = by (is_here w) (is_here x) h
  where
    by : (p q : Bool) → cond p w.held 0 ≡ 0 → 0 + cond p w.held 0 ≡ 0 + (cond (p && not q) x.held 0 + cond q x.held 0)
    by true true h = omega (arith, h, k)
    by true false h = omega (arith, h, k)
    by false true h = omega (arith, k)
    by false false h = refl

holds_none : (w : Row) → w.held ≡ 0 → holds w ≡ 0
holds_none w e = by (is_here w)
  where
    by : (p : Bool) → cond p w.held 0 ≡ 0
    by true = e
    by false = refl

begun_step : (s : Fixed) (n : BucketNote) (a : ℕ) (past : List (Entry BucketNote)) (w : Row) → begins n a ≡ true → w ≡ blank
    → stored_in s a past n + holds w ≡ freed_from a n + (cond (is_here w && not (is_here (after s a n w))) (after s a n w).held 0 + holds (after s a n w))
begun_step s (Found g emergency seen run said) a past w b e = cc
begun_step s (Missing g emergency seen ended) a past w b e = cc
begun_step s (Made g said) a past w b e = blank_step (g == a) _ w b (ap holds e) refl
begun_step s (Refused g) a past w b e = cc
begun_step s (Stored g) a past w b e = cc
begun_step s (Stopped g) a past w b e = cc
begun_step s (Closed g app run freed ended) a past w b e = cc
begun_step s (Idle g app) a past w b e = cc
begun_step s (Victim g run) a past w b e = cc
begun_step s (AllInUse g count) a past w b e = cc
begun_step s (Swept round emergency seen count) a past w b e = cc
begun_step s (Drained count) a past w b e = cc

run_step : (s : Fixed) (past : List (Entry BucketNote)) (r : ℕ) (n : BucketNote) (a : ℕ) → IsSound s past → Rule s past r n
    → stored_in s a past n + holds (row s a past) ≡ freed_from a n + (taken_by s a past n + holds (after s a n (row s a past)))
run_step s past r n a snd rule = by (begins n a) refl
  where
    by : (b : Bool) → begins n a ≡ b → stored_in s a past n + holds (row s a past) ≡ freed_from a n + (taken_by s a past n + holds (after s a n (row s a past)))
    by true e = begun_step s n a past (row s a past) e (begins_blank s past r n a snd rule e)
    by false e = kept (stored_in s a past n) (freed_from a n) (row s a past) (after s a n (row s a past)) (held_step s past r n a rule e)
        (λ y. ⊎_elim (λ z. absurd (true_false z e)) (λ z. z) (here_back s past r n a rule y)) (dead s past r n a rule)

-- what was stored in a run was freed, left with it, or is held
pub run_nodes : (s : Fixed) (past : List (Entry BucketNote)) (a : ℕ) → IsLegal s past
    → times_stored s a past ≡ times_freed a past + (times_taken s a past + holds (row s a past))
run_nodes s [] a l = refl
run_nodes s (e ∷ past) a l = omega (arith, run_step s past e.role e.note a (sound s past l.1) l.0, run_nodes s past a l.1)

-- sums over lists of runs

sum_same : (f k : ℕ → ℕ) (xs : List ℕ) → ((a : ℕ) → has xs a ≡ true → f a ≡ k a) → sum_by f xs ≡ sum_by k xs
sum_same f k [] h = refl
sum_same f k (x ∷ xs) h =
    omega (arith, sum_by-cons f x xs, sum_by-cons k x xs, h x (or_left (x == x) (has xs x) (same x x refl)), sum_same f k xs (λ a i. h a (or_right (x == a) (has xs a) i)))

sum_plus : (f k : ℕ → ℕ) (xs : List ℕ) → sum_by (λ a. f a + k a) xs ≡ sum_by f xs + sum_by k xs
sum_plus f k [] = refl
sum_plus f k (x ∷ xs) = omega (arith, sum_by-cons f x xs, sum_by-cons k x xs, sum_by-cons (λ a. f a + k a) x xs, sum_plus f k xs)

sum_none : (f : ℕ → ℕ) (xs : List ℕ) → ((a : ℕ) → has xs a ≡ true → f a ≡ 0) → sum_by f xs ≡ 0
sum_none f [] h = refl
sum_none f (x ∷ xs) h =
    omega (arith, sum_by-cons f x xs, h x (or_left (x == x) (has xs x) (same x x refl)), sum_none f xs (λ a i. h a (or_right (x == a) (has xs a) i)))

-- of the runs of a set one has something
sum_one : (f : ℕ → ℕ) (r n : ℕ) (xs : List ℕ) → IsNumberSet xs → has xs r ≡ true → f r ≡ n → ((a : ℕ) → (r ≡ a → ⊥) → f a ≡ 0) → sum_by f xs ≡ n
sum_one f r n [] once h e none = cc
sum_one f r n (x ∷ xs) once h e none = ⊎_elim
    (λ q. let z : f x ≡ n = subst (λ y. f y ≡ n) (sym q.1) e in
    omega (arith, sum_by-cons f x xs, z, sum_none f xs (λ a i. none a (λ y. true_false i (subst (λ (u : ℕ). has xs u ≡ false) (q.1 ∙ y) once.0)))))
    (λ q. let z = sum_one f r n xs once.1 (rest (x == r) (has xs r) q.0 h) e none in
    omega (arith, sum_by-cons f x xs, z, none x (λ y. true_false (same x r (sym y)) q.0)))
    (eqb_tells x r)
  where
    rest : (p q : Bool) → p ≡ false → (p || q) ≡ true → q ≡ true
    rest true q h k = cc
    rest false q h k = k

-- at one entry, over the runs that had begun

stored_all : (s : Fixed) (past : List (Entry BucketNote)) (r : ℕ) (n : BucketNote) → IsSound s past → Rule s past r n
    → sum_by (λ a. stored_in s a past n) (made past) ≡ stores n
stored_all s past r (Found g emergency seen run said) snd rule = sum_none (λ a. 0) (made past) (λ a i. refl)
stored_all s past r (Missing g emergency seen ended) snd rule = sum_none (λ a. 0) (made past) (λ a i. refl)
stored_all s past r (Made g said) snd rule = sum_none (λ a. 0) (made past) (λ a i. refl)
stored_all s past r (Refused g) snd rule = sum_none (λ a. 0) (made past) (λ a i. refl)
stored_all s past r (Stored g) snd rule = let o = snd.owing r g rule in
    sum_one (λ a. one_if (has (row s a past).uses g)) o.run 1 (made past) snd.once
    (here_made s past o.run snd (user_here (row s o.run past) g o.uses)) (ap one_if o.uses)
    (λ a n. one_if_none (has (row s a past).uses g) (no_true (has (row s a past).uses g) (λ x. n ((snd.uses o.run g o.uses).only a x))))
stored_all s past r (Stopped g) snd rule = sum_none (λ a. 0) (made past) (λ a i. refl)
stored_all s past r (Closed g app run freed ended) snd rule = sum_none (λ a. 0) (made past) (λ a i. refl)
stored_all s past r (Idle g app) snd rule = sum_none (λ a. 0) (made past) (λ a i. refl)
stored_all s past r (Victim g run) snd rule = sum_none (λ a. 0) (made past) (λ a i. refl)
stored_all s past r (AllInUse g count) snd rule = sum_none (λ a. 0) (made past) (λ a i. refl)
stored_all s past r (Swept round emergency seen count) snd rule = sum_none (λ a. 0) (made past) (λ a i. refl)
stored_all s past r (Drained count) snd rule = sum_none (λ a. 0) (made past) (λ a i. refl)

freed_all : (s : Fixed) (past : List (Entry BucketNote)) (r : ℕ) (n : BucketNote) → IsSound s past → Rule s past r n
    → sum_by (λ a. freed_from a n) (made past) ≡ frees n
freed_all s past r (Found g emergency seen run said) snd rule = sum_none (λ a. 0) (made past) (λ a i. refl)
freed_all s past r (Missing g emergency seen ended) snd rule = sum_none (λ a. 0) (made past) (λ a i. refl)
freed_all s past r (Made g said) snd rule = sum_none (λ a. 0) (made past) (λ a i. refl)
freed_all s past r (Refused g) snd rule = sum_none (λ a. 0) (made past) (λ a i. refl)
freed_all s past r (Stored g) snd rule = sum_none (λ a. 0) (made past) (λ a i. refl)
freed_all s past r (Stopped g) snd rule = sum_none (λ a. 0) (made past) (λ a i. refl)
freed_all s past r (Closed g app run freed ended) snd rule =
    sum_one (λ a. cond (run == a) freed 0) run freed (made past) snd.once (here_made s past run snd (user_here (row s run past) g rule.2))
    (ap (λ (t : Bool). cond t freed 0) (same run run refl))
    (λ a n. cond_zero (run == a) freed (other run a n))
freed_all s past r (Idle g app) snd rule = sum_none (λ a. 0) (made past) (λ a i. refl)
freed_all s past r (Victim g run) snd rule = sum_none (λ a. 0) (made past) (λ a i. refl)
freed_all s past r (AllInUse g count) snd rule = sum_none (λ a. 0) (made past) (λ a i. refl)
freed_all s past r (Swept round emergency seen count) snd rule = sum_none (λ a. 0) (made past) (λ a i. refl)
freed_all s past r (Drained count) snd rule = sum_none (λ a. 0) (made past) (λ a i. refl)

old_runs : (s : Fixed) (past : List (Entry BucketNote)) (r : ℕ) (n : BucketNote) → IsSound s past → Rule s past r n
    → stores n + all_held s past ≡ frees n + (sum_by (λ a. taken_by s a past n) (made past) + sum_by (λ a. holds (after s a n (row s a past))) (made past))
old_runs s past r n snd rule =
    let left = sum_plus (λ a. stored_in s a past n) (λ a. holds (row s a past)) (made past) in
    let right = sum_plus (λ a. freed_from a n) (λ a. taken_by s a past n + holds (after s a n (row s a past))) (made past) in
    let split = sum_plus (λ a. taken_by s a past n) (λ a. holds (after s a n (row s a past))) (made past) in
    let each =
    sum_same (λ a. stored_in s a past n + holds (row s a past)) (λ a. freed_from a n + (taken_by s a past n + holds (after s a n (row s a past))))
    (made past) (λ a i. run_step s past r n a snd rule) in
    omega (arith, left, right, split, each, stored_all s past r n snd rule, freed_all s past r n snd rule)

-- a run that begins holds nothing
new_run : (s : Fixed) (past : List (Entry BucketNote)) (r : ℕ) (n : BucketNote) → IsSound s past → Rule s past r n
    → sum_by (λ a. holds (after s a n (row s a past))) (made_by n (made past)) ≡ sum_by (λ a. holds (after s a n (row s a past))) (made past)
new_run s past r (Found g emergency seen run said) snd rule = refl
new_run s past r (Missing g emergency seen ended) snd rule = refl
new_run s past r (Made g said) snd rule =
    let z : holds (after s g (Made g said) (row s g past)) ≡ 0 =
    holds_none (after s g (Made g said) (row s g past)) (cond_now (λ (w : Row). w.held) (g == g) _ (row s g past) 0 (same g g refl) refl) in
    let y = sum_by-cons (λ a. holds (after s a (Made g said) (row s a past))) g (made past) in
    omega (arith, y, z)
new_run s past r (Refused g) snd rule = refl
new_run s past r (Stored g) snd rule = refl
new_run s past r (Stopped g) snd rule = refl
new_run s past r (Closed g app run freed ended) snd rule = refl
new_run s past r (Idle g app) snd rule = refl
new_run s past r (Victim g run) snd rule = refl
new_run s past r (AllInUse g count) snd rule = refl
new_run s past r (Swept round emergency seen count) snd rule = refl
new_run s past r (Drained count) snd rule = refl

-- every node that was stored was freed, left with its run, or is held
pub all_nodes : (s : Fixed) (past : List (Entry BucketNote)) → IsLegal s past → all_stored past ≡ all_freed past + (all_taken s past + all_held s past)
all_nodes s [] l = refl
all_nodes s (e ∷ past) l =
    let snd = sound s past l.1 in
    omega (arith, old_runs s past e.role e.note snd l.0, new_run s past e.role e.note snd l.0, all_nodes s past l.1)

pub nodes_out : (s : Fixed) (past : List (Entry BucketNote)) → IsLegal s past → is_drained past ≡ true → all_stored past ≡ all_freed past + all_taken s past
nodes_out s past l x =
    let none = sum_none (λ a. holds (row s a past)) (made past) (λ a i. ap (λ (t : Bool). cond t (row s a past).held 0) ((empty s past l x).none a)) in
    omega (arith, all_nodes s past l, none)
