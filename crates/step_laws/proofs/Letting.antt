-- Of the acts of a role: what leaves by an act on a bucket was let go by that entry; what is in the hand of a round left by acts of that round; and what
-- the end role finishes was there before it began, or left by one of its drains.
use Rattle.std.proofs.Common.{◌≡◌, ℕ, ◌+◌, ◌<◌, ◌≤◌, Bool, true, false, List, [], ◌∷◌, length, Option, Some, None, ⊎_elim, refl, sym, ◌∙◌, ap, subst, arith, nat_lt}
use Rattle.bucket_laws.proofs.Steps.{legal_at}
use Rattle.bucket_laws.proofs.Tests.{below, both}
use Rattle.bucket_laws.specs.Counts.{one_if}
use Rattle.bucket_laws.specs.Leaving.{Gone, gone}
use Rattle.bucket_laws.specs.Places.{At}
use Rattle.bucket_rules.specs.Row.{lets_go}
use Rattle.run_laws.proofs.Acting.{at_ends, at_shorter}
use Rattle.run_laws.proofs.Counting.{is_own, same_yes}
use Rattle.run_laws.proofs.Leavers.{count_gone}
use Rattle.run_laws.proofs.Places.{from_bucket, from_entries, in_part}
use Rattle.run_laws.proofs.Working.{behind_count, only_some}
use Rattle.run_laws.specs.Measures.{count_run, left_by, total}
use Rattle.run_rules.specs.Acts.{Act, AreActs, are_within, bucket_acts, on_bucket, on_pool, on_segments, part, place_of}
use Rattle.run_rules.specs.Ending.{Ending, drain, end_on, ended_on, ending_after}
use Rattle.run_rules.specs.Histories.{Histories, bucket_at}
use Rattle.run_rules.specs.Lawful.{AreLegal}
use Rattle.run_rules.specs.Manager.{Sweep, new_manager, swept_after}
use Rattle.run_rules.specs.Serving.{behind, front_is, queue_after, serve, served}
use Rattle.run_rules.specs.Setup.{Setup, ender, fixed_at, manager, roles, work_of}
use Rattle.run_rules.specs.Worker.{Stand, fresh, stand_after}
use Rattle.step_laws.proofs.Adding.{below_other}
use Rattle.step_laws.proofs.Rounds.{Went, by_stand, by_sweep, count_at, left_in, none_held, stand_left, sweep_left, went}
use Rattle.step_laws.proofs.Stepping.{end_served}
use Rattle.step_laws.specs.Leaving.{HasDrained, HasLeftIn, ended_after}
use Rattle.suri_base.specs.History.{entry}
use Rattle.suri_base.specs.declared.entry.BucketNote.{BucketNote}
use Rattle.suri_base.specs.declared.entry.BucketNote.TheVariants.{AllInUse, Closed, Drained, Found, Idle, Made, Missing, Refused, Stopped, Stored, Swept, Victim}
use Rattle.suri_base.specs.declared.entry.Entry.{Entry}
use Rattle.suri_base.specs.declared.entry.PoolNote.TheVariants.{Put}

-- where a script stood before one of its acts

module _
    {S : Type 0}
    (step : Act → Option S → Option S)
    (after : List Act → Option S)
    (next : (a : Act) (acts : List Act) → after (a ∷ acts) ≡ step a (after acts))
    (none : (a : Act) → step a None ≡ None)
  where
    abbrev pub Stood : Act → List Act → Type 0
    Stood a before = (s : S) × (u : S) × (after before ≡ Some s) × (step a (Some s) ≡ Some u)

    stood_more : (a x : Act) (before acts : List Act) (t : S) (o : Option S) → after acts ≡ o → step x o ≡ Some t
        → ((s : S) → after acts ≡ Some s → At a before acts → Stood a before) → At a before (x ∷ acts) → Stood a before
    stood_more a x before acts t None e h k p = let z : None ≡ Some t = sym (none x) ∙ h in cc
    stood_more a x before acts t (Some s) e h k p = ⊎_elim
        (λ z. (s, t, subst (λ (y : List Act). after y ≡ Some s) z.1 e, subst (λ (y : Act). step y (Some s) ≡ Some t) z.0 h))
        (λ z. k s e z) p

    pub stood_at : (a : Act) (before acts : List Act) (t : S) → after acts ≡ Some t → At a before acts → Stood a before
    stood_at a before [] t h p = absurd p
    stood_at a before (x ∷ acts) t h p = stood_more a x before acts t (after acts) refl (sym (next x acts) ∙ h) (λ s e q. stood_at a before acts s e q) p

-- nothing leaves by an act of the recycler

serve_none : (a : ℕ) (q t : List Gone) (x : Act) → serve q x ≡ Some t → left_by a x ≡ 0
serve_none a q t (on_pool n i) h = refl
serve_none a q t (on_segments n) h = refl
serve_none a q t (on_bucket b n left) h = cc

served_none : (a : ℕ) (o : Option (List Gone)) (t : List Gone) (x : Act) (acts : List Act) → served x o ≡ Some t → ((q : List Gone) → o ≡ Some q → total (left_by a) acts ≡ 0)
    → total (left_by a) (x ∷ acts) ≡ 0
served_none a None t x acts h k = cc
served_none a (Some q) t x acts h k = omega (arith, serve_none a q t x h, k q refl)

pub queue_none : (a : ℕ) (q t : List Gone) (acts : List Act) → queue_after q acts ≡ Some t → total (left_by a) acts ≡ 0
queue_none a q t [] h = refl
queue_none a q t (x ∷ acts) h = served_none a (queue_after q acts) t x acts h (λ s e. queue_none a q s acts e)

-- the end role finishes what is in front, and lets runs go by its drains alone

pub end_front : (w : Setup) (queue : List Gone) (s next : Ending) (run i : ℕ) → end_on w queue s (on_pool (Put run) i) ≡ Some next → front_is run queue ≡ true
end_front w queue s next run i h = (only_some (front_is run queue) (behind queue) next.queue (end_served w queue s next (Put run) i h)).0

drain_note : (w : Setup) (s : Ending) (b : ℕ) (n : BucketNote) (left : List Gone) (next : Ending) → drain w s b n left ≡ Some next → (count : ℕ) × (n ≡ Drained count)
drain_note w s b (Drained count) left next h = (count, refl)
drain_note w s b (Found g e m run o) left next h = cc
drain_note w s b (Missing g e m gone) left next h = cc
drain_note w s b (Made g o) left next h = cc
drain_note w s b (Refused g) left next h = cc
drain_note w s b (Stored g) left next h = cc
drain_note w s b (Stopped g) left next h = cc
drain_note w s b (Closed g app run freed gone) left next h = cc
drain_note w s b (Idle g app) left next h = cc
drain_note w s b (Victim g run) left next h = cc
drain_note w s b (AllInUse g count) left next h = cc
drain_note w s b (Swept round e m count) left next h = cc

end_note : (w : Setup) (queue : List Gone) (s : Ending) (b : ℕ) (n : BucketNote) (left : List Gone) (next : Ending) → end_on w queue s (on_bucket b n left) ≡ Some next
    → (count : ℕ) × (n ≡ Drained count)
end_note w [] s b n left next h = drain_note w s b n left next h
end_note w (g ∷ queue) s b n left next h = cc

pub in_front : (run : ℕ) (queue : List Gone) → front_is run queue ≡ true → 1 ≤ count_run run queue
in_front run queue f = omega (arith, behind_count run run queue f, is_own run)

-- all acts are of some round
no_round : (a : ℕ) (acts : List Act) → left_in (λ before. Some 0) a 0 acts ≡ total (left_by a) acts
no_round a [] = refl
no_round a (x ∷ acts) = omega (arith, no_round a acts)

module _ (w : Setup) (t : Histories) (acts : ℕ → List Act) (legal : AreLegal w t) (own : (role : ℕ) → role < roles w → AreActs w t role (acts role)) where
  real_in : (b : ℕ) (n : BucketNote) (left : List Gone) (before done : List Act) → are_within (length t.buckets + 2) done ≡ true → At (on_bucket b n left) before done → b < length t.buckets
  real_in b n left before [] k a = absurd a
  real_in b n left before (x ∷ done) k a =
      let z = both (nat_lt (place_of x) (length t.buckets + 2)) (are_within (length t.buckets + 2) done) k in
      ⊎_elim (λ y. let q = below (place_of x) (length t.buckets + 2) z.0 in omega (arith, q, ap place_of y.0)) (λ y. real_in b n left before done z.1 y) a

  -- an act on a bucket as an entry
  act_entry : (r b : ℕ) (n : BucketNote) (left : List Gone) (before : List Act) → r < roles w → b < length t.buckets → At (on_bucket b n left) before (acts r)
      → (past : List (Entry BucketNote)) × At (entry r (length before) n) past (bucket_at b t.buckets) × (left ≡ gone (fixed_at w b) past n)
  act_entry r b n left before h k a =
      let x = in_part r (b + 2) (on_bucket b n left) before (acts r) a refl in
      let y = subst (λ (u : List (Entry Act)). At (entry r (length before) (on_bucket b n left)) (part r (b + 2) before) u) (sym ((own r h).buckets b k)) x in
      let z = from_entries r (entry r (length before) (on_bucket b n left)) (part r (b + 2) before) (bucket_acts w b (bucket_at b t.buckets)) y in
      let u = from_bucket w b b r (length before) n left z.0 (bucket_at b t.buckets) z.1 in
      (u.0, u.1, u.2)

  -- what left by an act was let go by that entry
  let_go : (r b : ℕ) (n : BucketNote) (left : List Gone) (before : List Act) (a : ℕ) → r < roles w → At (on_bucket b n left) before (acts r) → 1 ≤ count_run a left
      → (b < length t.buckets) × (past : List (Entry BucketNote)) × At (entry r (length before) n) past (bucket_at b t.buckets) × (lets_go (fixed_at w b) past n a ≡ true)
  let_go r b n left before a h at c =
      let real = real_in b n left before (acts r) (own r h).within at in
      let e = act_entry r b n left before h real at in
      let law = legal_at (fixed_at w b) (entry r (length before) n) e.0 (bucket_at b t.buckets) (legal.buckets b real) e.1 in
      let k = ap (count_run a) e.2 ∙ count_gone (fixed_at w b) e.0 n a law.1 in
      (real, e.0, e.1, counts (lets_go (fixed_at w b) e.0 n a) (omega (arith, k, c)))
    where
      counts : (u : Bool) → 1 ≤ one_if u → u ≡ true
      counts true h = refl
      counts false h = absurd (omega arith)

  module _ (a j : ℕ) where
    left_by_act : (role : ℕ) → role < manager w + 1 → (done : List Act → Option ℕ) → ((before : List Act) → ended_after w role before ≡ done before) → Went done a j (acts role)
        → HasLeftIn w t acts a j
    left_by_act role h done e x =
        let k = let_go role x.bucket x.note x.left x.before a (omega (arith, h)) x.place x.counted in
        record {
          role = role;
          other = h;
          bucket = x.bucket;
          real = k.0;
          before = x.before;
          began = at_ends (on_bucket x.bucket x.note x.left) x.before (acts role) x.place;
          in_round = e x.before ∙ x.in_round;
          note = x.note;
          past = k.1;
          place = k.2;
          left = k.3;
        }

    -- what is in a worker's hand of a round left in that round
    pub stand_hand_left : (role : ℕ) → role < w.layout.workers → (s : Stand) → stand_after w (fresh (work_of w role)) (acts role) ≡ Some s → 1 ≤ count_at a j (s.hand ∷ s.hands)
        → HasLeftIn w t acts a j
    stand_hand_left role h s e c =
        let k = stand_left a j w (fresh (work_of w role)) s (acts role) (none_held a j) e in
        left_by_act role (omega (arith, h)) (by_stand w (fresh (work_of w role))) (λ before. let f = below_other role (manager w) h in rw f refl)
        (went (by_stand w (fresh (work_of w role))) a j (acts role) (omega (arith, c, k)))

    -- and in the manager's
    pub sweep_hand_left : (s : Sweep) → swept_after w new_manager (acts (manager w)) ≡ Some s → 1 ≤ count_at a j (s.hand ∷ s.hands) → HasLeftIn w t acts a j
    sweep_hand_left s e c =
        let k = sweep_left a j w new_manager s (acts (manager w)) (none_held a j) e in
        left_by_act (manager w) (omega arith) (by_sweep w new_manager) (λ before. let f = same_yes (manager w) in rw f refl)
        (went (by_sweep w new_manager) a j (acts (manager w)) (omega (arith, c, k)))

  as_drain : (step run b at_step count : ℕ) (n : BucketNote) (past : List (Entry BucketNote)) → n ≡ Drained count → b < length t.buckets
      → At (entry (ender w) at_step n) past (bucket_at b t.buckets) → lets_go (fixed_at w b) past n run ≡ true → at_step < step → HasDrained w t step run
  as_drain step run b at_step count n past e real at left earlier = record {
    bucket = b;
    real = real;
    at_step = at_step;
    count = count;
    past = past;
    place = subst (λ (m : BucketNote). At (entry (ender w) at_step m) past (bucket_at b t.buckets)) e at;
    left = subst (λ (m : BucketNote). lets_go (fixed_at w b) past m run ≡ true) e left;
    earlier = earlier;
  }

  -- what left by these acts of the end role it drained
  pub from_drain : (run : ℕ) (start s : Ending) (done : List Act) → ending_after w start done ≡ Some s → ((x : Act) (before : List Act) → At x before done → At x before (acts (ender w)))
      → 1 ≤ total (left_by run) done → HasDrained w t (length done) run
  from_drain run start s done h sub c =
      let x = went (λ before. Some 0) run 0 done (omega (arith, c, no_round run done)) in
      let k = stood_at (ended_on w) (ending_after w start) (λ y before. refl) (λ y. refl) (on_bucket x.bucket x.note x.left) x.before done s h x.place in
      let n = end_note w k.0.queue k.0 x.bucket x.note x.left k.1 k.3 in
      let e = let_go (ender w) x.bucket x.note x.left x.before run (omega arith) (sub (on_bucket x.bucket x.note x.left) x.before x.place) x.counted in
      as_drain (length done) run x.bucket (length x.before) n.0 x.note e.1 n.1 e.0 e.2 e.3 (at_shorter (on_bucket x.bucket x.note x.left) x.before done x.place)
