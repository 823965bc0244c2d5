-- A role's acts stay its acts where histories grow by other roles, and grow by one with each call: an act carries what its entry means, and
-- that hangs on the entries before it alone. So what each role did, as it saw the histories, is what it did in the whole trail.
use Rattle.std.proofs.Common.{◌≡◌, ℕ, ◌==◌, ◌+◌, ◌-◌, ◌<◌, ◌≢◌, nat_lt, Bool, true, false, cond, List, [], ◌∷◌, ◌++◌, length, Some, ⊎_elim, refl, sym, ◌∙◌, ap, subst, arith}
use Rattle.std.proofs.lemmas.Bool.Decides.{eqb_tells, nat_tests}
use Rattle.bucket_laws.specs.Leaving.{Gone, gone}
use Rattle.run_rules.specs.Acts.{Act, AreActs, are_within, bucket_acts, on_bucket, on_pool, on_segments, part, place_of, pool_acts, segment_acts}
use Rattle.run_rules.specs.Ending.{ending_after}
use Rattle.run_rules.specs.Growing.{Grew, GrewFor, SteppedOnBucket, SteppedOnPool, SteppedOnSegments}
use Rattle.run_rules.specs.Histories.{Histories, bucket_at}
use Rattle.run_rules.specs.Lawful.{AreLawful, AreLegal, PutsAreDue, left_over, waited}
use Rattle.run_rules.specs.Manager.{manager_ended, new_manager, swept_after}
use Rattle.run_rules.specs.Serving.{queue_after}
use Rattle.run_rules.specs.Setup.{Setup, ender, fixed_at, manager, recycler, roles, rounds, work_of}
use Rattle.run_rules.specs.Worker.{ended, fresh, stand_after}
use Rattle.suri_base.specs.History.{entries_of, entry}
use Rattle.suri_base.specs.declared.entry.BucketNote.{BucketNote}
use Rattle.suri_base.specs.declared.entry.Entry.{Entry}
use Rattle.suri_base.specs.declared.entry.PoolNote.{PoolNote}
use Rattle.suri_base.specs.declared.entry.SegNote.{SegNote}

-- an entry of another role is none of the role's, also as an act
not_own : {N M : Type 0} (role : ℕ) (e : Entry N) (d : Entry M) (since : List (Entry N)) (rest : List (Entry M)) → d.role ≡ e.role → entries_of role (e ∷ since) ≡ []
    → (entries_of role since ≡ []) × (entries_of role (d ∷ rest) ≡ entries_of role rest)
not_own role e d since rest same none = by_test (e.role == role) refl none
  where
    by_test : (t : Bool) → (e.role == role) ≡ t → cond t (e ∷ entries_of role since) (entries_of role since) ≡ [] → (entries_of role since ≡ []) × (entries_of role (d ∷ rest) ≡ entries_of role rest)
    by_test true h n = cc
    by_test false h n = let x : (d.role == role) ≡ false = ap (λ (r : ℕ). r == role) same ∙ h in (n, rw x refl)

pool_grew : (role : ℕ) (since old : List (Entry PoolNote)) → entries_of role since ≡ [] → entries_of role (pool_acts (since ++ old)) ≡ entries_of role (pool_acts old)
pool_grew role [] old n = refl
pool_grew role (e ∷ since) old n =
    let k = not_own role e (entry e.role e.step (on_pool e.note (length (since ++ old) + 1))) since (pool_acts (since ++ old)) refl n in
    k.1 ∙ pool_grew role since old k.0

segments_grew : (role : ℕ) (since old : List (Entry SegNote)) → entries_of role since ≡ [] → entries_of role (segment_acts (since ++ old)) ≡ entries_of role (segment_acts old)
segments_grew role [] old n = refl
segments_grew role (e ∷ since) old n =
    let k = not_own role e (entry e.role e.step (on_segments e.note)) since (segment_acts (since ++ old)) refl n in
    k.1 ∙ segments_grew role since old k.0

bucket_grew : (w : Setup) (b role : ℕ) (since old : List (Entry BucketNote)) → entries_of role since ≡ [] → entries_of role (bucket_acts w b (since ++ old)) ≡ entries_of role (bucket_acts w b old)
bucket_grew w b role [] old n = refl
bucket_grew w b role (e ∷ since) old n =
    let k = not_own role e (entry e.role e.step (on_bucket b e.note (gone (fixed_at w b) (since ++ old) e.note))) since (bucket_acts w b (since ++ old)) refl n in
    k.1 ∙ bucket_grew w b role since old k.0

pool_kept : (role : ℕ) (old new : List (Entry PoolNote)) → GrewFor role old new → entries_of role (pool_acts new) ≡ entries_of role (pool_acts old)
pool_kept role old new g = ap (λ (h : List (Entry PoolNote)). entries_of role (pool_acts h)) g.1 ∙ pool_grew role g.0 old g.2

segments_kept : (role : ℕ) (old new : List (Entry SegNote)) → GrewFor role old new → entries_of role (segment_acts new) ≡ entries_of role (segment_acts old)
segments_kept role old new g = ap (λ (h : List (Entry SegNote)). entries_of role (segment_acts h)) g.1 ∙ segments_grew role g.0 old g.2

bucket_kept : (w : Setup) (b role : ℕ) (old new : List (Entry BucketNote)) → GrewFor role old new → entries_of role (bucket_acts w b new) ≡ entries_of role (bucket_acts w b old)
bucket_kept w b role old new g = ap (λ (h : List (Entry BucketNote)). entries_of role (bucket_acts w b h)) g.1 ∙ bucket_grew w b role g.0 old g.2

-- what a role did stays what it did
pub carried : (w : Setup) (role : ℕ) (old new : Histories) (acts : List Act) → Grew role old new → AreActs w old role acts → AreActs w new role acts
carried w role old new acts g a = record {
  pool = pool_kept role old.pool new.pool g.pool ∙ a.pool;
  segments = segments_kept role old.segments new.segments g.segments ∙ a.segments;
  buckets = λ b h. let l : b < length old.buckets = subst (λ (n : ℕ). b < n) g.rows h in bucket_kept w b role (bucket_at b old.buckets) (bucket_at b new.buckets) (g.buckets b l) ∙ a.buckets b l;
  within = subst (λ (n : ℕ). are_within (n + 2) acts ≡ true) (sym g.rows) a.within;
}

-- one call more

own_first : {N : Type 0} (role step : ℕ) (n : N) (past : List (Entry N)) → entries_of role (entry role step n ∷ past) ≡ entry role step n ∷ entries_of role past
own_first role step n past = let x : (role == role) ≡ true = same_yes role in rw x refl
  where
    same_yes : (r : ℕ) → (r == r) ≡ true
    same_yes r = grind (arith, nat_tests)

part_other : (role p : ℕ) (a : Act) (acts : List Act) → (place_of a == p) ≡ false → part role p (a ∷ acts) ≡ part role p acts
part_other role p a acts h = rw h refl

part_own : (role p : ℕ) (a : Act) (acts : List Act) → (place_of a == p) ≡ true → part role p (a ∷ acts) ≡ entry role (length acts) a ∷ part role p acts
part_own role p a acts h = rw h refl

places : (b c : ℕ) → b ≢ c → (b + 2 == c + 2) ≡ false
places b c h = grind (arith, nat_tests)

zero_place : (b : ℕ) → (b + 2 == 0) ≡ false
zero_place b = grind (arith, nat_tests)

one_place : (b : ℕ) → (b + 2 == 1) ≡ false
one_place b = grind (arith, nat_tests)

place_zero : (b : ℕ) → (0 == b + 2) ≡ false
place_zero b = grind (arith, nat_tests)

place_one : (b : ℕ) → (1 == b + 2) ≡ false
place_one b = grind (arith, nat_tests)

low : (p n : ℕ) → p < 2 → nat_lt p (n + 2) ≡ true
low p n h = grind (arith, nat_tests)

high : (b n : ℕ) → b < n → nat_lt (b + 2) (n + 2) ≡ true
high b n h = grind (arith, nat_tests)

pub stepped_on_pool : (w : Setup) (role : ℕ) (old new : Histories) (n : PoolNote) (act : Act) (acts : List Act) → AreActs w old role acts
    → SteppedOnPool role old new (length acts) n act → AreActs w new role (act ∷ acts)
stepped_on_pool w role old new n act acts a s = subst (λ (x : Act). AreActs w new role (x ∷ acts)) (sym s.is) (record {
  pool = ap (λ (h : List (Entry PoolNote)). entries_of role (pool_acts h)) s.pool
      ∙ (own_first role (length acts) (on_pool n (length s.before + 1)) (pool_acts s.before) ∙ ap
      (λ (h : List (Entry Act)). entry role (length acts) (on_pool n (length s.before + 1)) ∷ h) (pool_kept role old.pool s.before s.grew ∙ a.pool));
  segments = ap (λ (h : List (Entry SegNote)). entries_of role (segment_acts h)) s.segments ∙ a.segments;
  buckets = λ b h. let l : b < length old.buckets = subst (λ (x : List (List (Entry BucketNote))). b < length x) s.buckets h in
      ap (λ (x : List (List (Entry BucketNote))). entries_of role (bucket_acts w b (bucket_at b x))) s.buckets ∙
      (a.buckets b l ∙ sym (part_other role (b + 2) (on_pool n (length s.before + 1)) acts (place_zero b)));
  within =
      let x : nat_lt 0 (length old.buckets + 2) ≡ true = low 0 (length old.buckets) (omega arith) in
      subst (λ (y : List (List (Entry BucketNote))). are_within (length y + 2) (on_pool n (length s.before + 1) ∷ acts) ≡ true) (sym s.buckets) (rw (x, a.within) refl);
})

pub stepped_on_segments : (w : Setup) (role : ℕ) (old new : Histories) (n : SegNote) (act : Act) (acts : List Act) → AreActs w old role acts
    → SteppedOnSegments role old new (length acts) n act → AreActs w new role (act ∷ acts)
stepped_on_segments w role old new n act acts a s = subst (λ (x : Act). AreActs w new role (x ∷ acts)) (sym s.is) (record {
  pool = ap (λ (h : List (Entry PoolNote)). entries_of role (pool_acts h)) s.pool ∙ a.pool;
  segments = ap (λ (h : List (Entry SegNote)). entries_of role (segment_acts h)) s.segments
      ∙ (own_first role (length acts) (on_segments n) (segment_acts s.before) ∙ ap (λ (h : List (Entry Act)). entry role (length acts) (on_segments n) ∷ h)
      (segments_kept role old.segments s.before s.grew ∙ a.segments));
  buckets = λ b h. let l : b < length old.buckets = subst (λ (x : List (List (Entry BucketNote))). b < length x) s.buckets h in
      ap (λ (x : List (List (Entry BucketNote))). entries_of role (bucket_acts w b (bucket_at b x))) s.buckets ∙ (a.buckets b l ∙ sym (part_other role (b + 2) (on_segments n) acts (place_one b)));
  within =
      let x : nat_lt 1 (length old.buckets + 2) ≡ true = low 1 (length old.buckets) (omega arith) in
      subst (λ (y : List (List (Entry BucketNote))). are_within (length y + 2) (on_segments n ∷ acts) ≡ true) (sym s.buckets) (rw (x, a.within) refl);
})

pub stepped_on_bucket : (w : Setup) (role : ℕ) (old new : Histories) (b : ℕ) (n : BucketNote) (act : Act) (acts : List Act) → AreActs w old role acts
    → SteppedOnBucket w role old new (length acts) b n act → AreActs w new role (act ∷ acts)
stepped_on_bucket w role old new b n act acts a s = subst (λ (x : Act). AreActs w new role (x ∷ acts)) (sym s.is) (record {
  pool = ap (λ (h : List (Entry PoolNote)). entries_of role (pool_acts h)) s.pool ∙ (a.pool ∙ sym (part_other role 0 (on_bucket b n (gone (fixed_at w b) s.before n)) acts (zero_place b)));
  segments =
      ap (λ (h : List (Entry SegNote)). entries_of role (segment_acts h)) s.segments ∙ (a.segments ∙ sym (part_other role 1 (on_bucket b n (gone (fixed_at w b) s.before n)) acts (one_place b)));
  buckets = λ c h. let l : c < length old.buckets = subst (λ (x : ℕ). c < x) s.rows h in ⊎_elim
      (λ e. subst (λ (x : ℕ). entries_of role (bucket_acts w x (bucket_at x new.buckets)) ≡ part role (x + 2) (on_bucket b n (gone (fixed_at w b) s.before n) ∷ acts)) (sym e.1) here)
      (λ e. ap (λ (x : List (Entry BucketNote)). entries_of role (bucket_acts w c x)) (s.others c e.1) ∙
      (a.buckets c l ∙ sym (part_other role (c + 2) (on_bucket b n (gone (fixed_at w b) s.before n)) acts (places b c (λ y. e.1 (sym y))))))
      (eqb_tells c b);
  within =
      let x : nat_lt (b + 2) (length old.buckets + 2) ≡ true = high b (length old.buckets) s.real in
      subst (λ (y : ℕ). are_within (y + 2) (on_bucket b n (gone (fixed_at w b) s.before n) ∷ acts) ≡ true) (sym s.rows) (rw (x, a.within) refl);
})
  where
    here : entries_of role (bucket_acts w b (bucket_at b new.buckets)) ≡ part role (b + 2) (on_bucket b n (gone (fixed_at w b) s.before n) ∷ acts)
    here = ap (λ (h : List (Entry BucketNote)). entries_of role (bucket_acts w b h)) s.bucket
        ∙ (own_first role (length acts) (on_bucket b n (gone (fixed_at w b) s.before n)) (bucket_acts w b s.before)
        ∙ (ap (λ (h : List (Entry Act)). entry role (length acts) (on_bucket b n (gone (fixed_at w b) s.before n)) ∷ h)
        (bucket_kept w b role (bucket_at b old.buckets) s.before s.grew ∙ a.buckets b s.real)
        ∙ sym (part_own role (b + 2) (on_bucket b n (gone (fixed_at w b) s.before n)) acts same)))
      where
        same : (b + 2 == b + 2) ≡ true
        same = grind (arith, nat_tests)

-- a trail of roles that each ended their script by what they have seen
pub put_together : (w : Setup) (t : Histories) (seen : ℕ → Histories) (acts : ℕ → List Act) (hands : ℕ → List (List Gone)) → AreLegal w t → PutsAreDue t.pool
    → ((role : ℕ) → role < roles w → Grew role (seen role) t × AreActs w (seen role) role (acts role))
    → ((role : ℕ) → role < w.layout.workers → ended (stand_after w (fresh (work_of w role)) (acts role)) ≡ Some (hands role))
    → manager_ended w (swept_after w new_manager (acts (manager w))) ≡ Some (hands (manager w))
    → queue_after (waited (manager w + 1) hands (rounds w - 1)) (acts (recycler w)) ≡ Some []
    → ending_after w (record { queue = left_over w hands; drained = 0 }) (acts (ender w)) ≡ Some (record { queue = []; drained = w.layout.rows })
    → AreLawful w t
put_together w t seen acts hands legal puts own work manage recycle drain = record {
  puts = puts;
  scripted = record {
    legal = legal;
    acts = acts;
    hands = hands;
    own = λ r h. let k = own r h in carried w r (seen r) t (acts r) k.0 k.1;
    work = work;
    manage = manage;
    recycle = recycle;
    drain = drain;
  };
}
