-- Each run that an entry let go is named again soon. It was made, since a bucket's runs leave as often as they begin, and so some entry of the pool
-- gives its object back. A worker turns it in the round in which the run had gone, the recycler gives back in the next one, and the end role after
-- the last or after its drain; and the run leaves once, so that the entry that they speak of is this one.
use Rattle.std.proofs.Common.{◌≡◌, ℕ, zero, suc, ◌==◌, ◌+◌, ◌-◌, ◌<◌, ◌≤◌, inl, inr, ⊎_elim, Bool, true, false, List, [], ◌∷◌, ◌++◌, length, Some, refl, sym, ◌∙◌, ap, subst, arith}
use Rattle.std.proofs.lemmas.Bool.Decides.{eqb_tells}
use Rattle.bucket_laws.proofs.Draining.{all_left}
use Rattle.bucket_laws.proofs.Leaving.{once}
use Rattle.bucket_laws.specs.Counts.{one_if, times_begun, times_left}
use Rattle.bucket_laws.specs.Places.{At}
use Rattle.bucket_rules.specs.Row.{has, lets_go, made}
use Rattle.bucket_rules.specs.declared.fixed.Fixed.{Fixed}
use Rattle.round_laws.proofs.Later.{end_later, member, recycler_later}
use Rattle.round_laws.proofs.Turning.{turned_then}
use Rattle.round_laws.specs.Cuts.{IsInRounds}
use Rattle.round_laws.specs.Later.{HasGone, HasGoneBefore, by_drain, in_last_round}
use Rattle.round_laws.specs.Leaving.{AreNamedSoon, IsInRound, IsNamedSoon, put_at_end, put_in_next, turned_in_round}
use Rattle.round_laws.specs.Rising.{round_in}
use Rattle.run_laws.proofs.Acting.{done_on_pool}
use Rattle.run_laws.proofs.Drained.{drained}
use Rattle.run_laws.proofs.Leavers.{made_own}
use Rattle.run_laws.proofs.Places.{role_at}
use Rattle.run_laws.proofs.Sums.{same_number}
use Rattle.run_laws.proofs.Uses.{given}
use Rattle.run_laws.proofs.Using.{ended_some, managed_some}
use Rattle.run_laws.specs.Counts.{gives, is, made_in, tally}
use Rattle.run_laws.specs.Setting.{IsSetup}
use Rattle.run_rules.specs.Acts.{Act, on_pool}
use Rattle.run_rules.specs.Histories.{Histories, bucket_at}
use Rattle.run_rules.specs.Lawful.{AreScripted}
use Rattle.run_rules.specs.Manager.{Sweep, Task, leaving, manage, managed, new_manager, resting, sweeping, swept_after}
use Rattle.run_rules.specs.Setup.{Setup, bucket_by, bucket_for, ender, fixed_at, manager, recycler, roles, rounds, work_of}
use Rattle.run_rules.specs.Worker.{Stage, Stand, asking, between, closing, denied, evicting, freeing, fresh, granted, looking, missed, moved, pool_step, settling, stand_after, turning}
use Rattle.step_laws.proofs.Letting.{stood_at}
use Rattle.step_laws.proofs.Rounds.{one_of}
use Rattle.suri_base.specs.History.{entry}
use Rattle.suri_base.specs.declared.entry.BucketNote.{BucketNote}
use Rattle.suri_base.specs.declared.entry.BucketNote.TheVariants.{Drained}
use Rattle.suri_base.specs.declared.entry.Entry.{Entry}
use Rattle.suri_base.specs.declared.entry.PoolNote.{PoolNote}
use Rattle.suri_base.specs.declared.entry.PoolNote.TheVariants.{Full, Mode, Over, Put, Took, Turn}

abbrev History : Type 0
History = List (Entry BucketNote)

-- places in histories

still_at : {A : Type 0} (x : A) (past since old : List A) → At x past old → At x past (since ++ old)
still_at x past [] old a = a
still_at x past (y ∷ since) old a = inr (still_at x past since old a)

-- a run that leaves at most once leaves at one place

module _ (s : Fixed) (run : ℕ) where
  goes_here : (x e : Entry BucketNote) (h past : History) → x ≡ e → h ≡ past → lets_go s past e.note run ≡ true → one_if (lets_go s h x.note run) ≡ 1
  goes_here x e h past p q g = ap one_if (ap (λ (y : Entry BucketNote). lets_go s h y.note run) p ∙ (ap (λ (k : History). lets_go s k e.note run) q ∙ g))

  left_some : (e : Entry BucketNote) (past h : History) → At e past h → lets_go s past e.note run ≡ true → 1 ≤ times_left s run h
  left_some e past [] a g = absurd a
  left_some e past (x ∷ h) a g = ⊎_elim
      (λ z. let u = goes_here x e h past z.0 z.1 g in omega (arith, u))
      (λ z. let u = left_some e past h z g in omega (arith, u)) a

  left_at_one : (e f : Entry BucketNote) (past old h : History) → times_left s run h ≤ 1 → At e past h → At f old h → lets_go s past e.note run ≡ true → lets_go s old f.note run ≡ true → e ≡ f
  left_at_one e f past old [] few a b p q = absurd a
  left_at_one e f past old (x ∷ h) few a b p q = ⊎_elim
      (λ y. ⊎_elim
      (λ z. sym y.0 ∙ z.0)
      (λ z. let u = goes_here x e h past y.0 y.1 p in let n = left_some f old h z q in absurd (omega (arith, few, u, n))) b)
      (λ y. ⊎_elim
      (λ z. let u = goes_here x f h old z.0 z.1 q in let n = left_some e past h y p in absurd (omega (arith, few, u, n)))
      (λ z. left_at_one e f past old h (omega (arith, few)) y z p q) b) a

-- an entry of the pool that gives the object of a run back
giver : (run : ℕ) (h : List (Entry PoolNote)) → 1 ≤ tally (gives run) h → (e : Entry PoolNote) × (past : List (Entry PoolNote)) × At e past h × (1 ≤ gives run e.note)
giver run [] n = absurd (omega (arith, n))
giver run (x ∷ h) n = ⊎_elim
    (λ z. (x, h, inl (refl, refl), z))
    (λ z. let k = giver run h z in (k.0, k.1, inr k.2, k.3))
    (one_of (gives run x.note) (tally (gives run) h) n)

-- no worker puts, and the manager does not

no_put : (w : Setup) (p : Stage) (s t : Stand) (run i : ℕ) → pool_step w p s (Put run) i ≡ Some t → ⊥
no_put w between s t run i h = cc
no_put w (looking todo) s t run i h = cc
no_put w (missed g todo) s t run i h = cc
no_put w (evicting g k todo) s t run i h = cc
no_put w (turning g todo) s t run i h = cc
no_put w (granted g todo) s t run i h = cc
no_put w (denied g todo) s t run i h = cc
no_put w (asking g todo) s t run i h = cc
no_put w (settling g had todo) s t run i h = cc
no_put w (closing todo) s t run i h = cc
no_put w (freeing m todo) s t run i h = cc

manager_puts : (w : Setup) (k : Task) (s t : Sweep) (run i : ℕ) → manage w k s (on_pool (Put run) i) ≡ Some t → ⊥
manager_puts w resting s t run i h = cc
manager_puts w (sweeping k) s t run i h = cc
manager_puts w leaving s t run i h = cc

-- a run is let go by one entry

module _ (w : Setup) (d : IsSetup w) (t : Histories) (l : AreScripted w t) (i : IsInRounds w t l.acts) (run : ℕ) where
  -- the run of an entry that lets it go began in that bucket, and left it once
  began : (b : ℕ) → b < length t.buckets → (e : Entry BucketNote) (past : History) → At e past (bucket_at b t.buckets) → lets_go (fixed_at w b) past e.note run ≡ true
      → (1 ≤ times_begun run (bucket_at b t.buckets)) × (times_left (fixed_at w b) run (bucket_at b t.buckets) ≤ 1) × (bucket_for w run ≡ b)
  began b real e past a left =
      let h : History = bucket_at b t.buckets in
      let n = left_some (fixed_at w b) run e past h a left in
      let all = all_left (fixed_at w b) h run (l.legal.buckets b real) (drained w t l b real) in
      let first = once (fixed_at w b) h run (l.legal.buckets b real) in
      let own = made_own (fixed_at w b) h run (l.legal.buckets b real) (is_so (has (made h) run) (omega (arith, n, all, first))) in
      (omega (arith, n, all), omega (arith, all, first, at_most (has (made h) run)), ap (bucket_by w.layout.rows) own.bears ∙ own.bucket)
    where
      is_so : (u : Bool) → 1 ≤ one_if u → u ≡ true
      is_so true h = refl
      is_so false h = absurd (omega (arith, h))

      at_most : (u : Bool) → one_if u ≤ 1
      at_most true = omega arith
      at_most false = omega arith

  same_entry : (b c : ℕ) → b < length t.buckets → c < length t.buckets → (e f : Entry BucketNote) (past old : History)
      → At e past (bucket_at b t.buckets) → At f old (bucket_at c t.buckets) → lets_go (fixed_at w b) past e.note run ≡ true → lets_go (fixed_at w c) old f.note run ≡ true → e ≡ f
  same_entry b c real there e f past old a k left gone =
      let x = began b real e past a left in
      let y = began c there f old k gone in
      let same : c ≡ b = sym y.2 ∙ x.2 in
      left_at_one (fixed_at w b) run e f past old (bucket_at b t.buckets) x.1 a (subst (λ (n : ℕ). At f old (bucket_at n t.buckets)) same k) left
      (subst (λ (n : ℕ). lets_go (fixed_at w n) old f.note run ≡ true) same gone)

  -- what stands in a cut stands in the whole
  up_to_last : (e : Entry BucketNote) (past : History) (b k r : ℕ) → r + k ≡ rounds w → b < length (i.cuts.cut r).buckets → At e past (bucket_at b (i.cuts.cut r).buckets)
      → (b < length i.last.buckets) × At e past (bucket_at b i.last.buckets)
  up_to_last e past b zero r n real a =
      let is : r ≡ rounds w = omega (arith, n) in
      let z = ap (λ (q : ℕ). i.cuts.cut q) is ∙ i.cuts.last in
      (subst (λ (u : Histories). b < length u.buckets) z real, subst (λ (u : Histories). At e past (bucket_at b u.buckets)) z a)
  up_to_last e past b (suc k) r n real a =
      let low : r < rounds w = omega (arith, n) in
      let g = i.cuts.grows r low in
      let x = g.buckets b real in
      let m : suc r + k ≡ rounds w = omega (arith, n) in
      let more : b < length (i.cuts.cut (suc r)).buckets = omega (arith, real, g.rows) in
      up_to_last e past b k (suc r) m more (subst (λ (h : History). At e past h) (sym x.1) (still_at e past x.0 (bucket_at b (i.cuts.cut r).buckets) a))

  from_last : (e : Entry BucketNote) (past : History) (b : ℕ) → b < length i.last.buckets → At e past (bucket_at b i.last.buckets) → (b < length t.buckets) × At e past (bucket_at b t.buckets)
  from_last e past b real a =
      let g = i.rest.buckets b real in
      (omega (arith, real, i.rest.rows), subst (λ (h : History). At e past h) (sym g.1) (still_at e past g.0 (bucket_at b i.last.buckets) a))

  in_whole : (e : Entry BucketNote) (past : History) (b r : ℕ) → r ≤ rounds w → b < length (i.cuts.cut r).buckets → At e past (bucket_at b (i.cuts.cut r).buckets)
      → (b < length t.buckets) × At e past (bucket_at b t.buckets)
  in_whole e past b r within real a = let x = up_to_last e past b (rounds w - r) r (omega (arith, within)) real a in from_last e past b x.0 x.1

  module _ (b : ℕ) (real : b < length t.buckets) (e : Entry BucketNote) (past : History) (a : At e past (bucket_at b t.buckets)) (left : lets_go (fixed_at w b) past e.note run ≡ true) where
    -- an entry that let the run go is this one
    is_entry : (u : Histories) (g : HasGone w u run) → (g.bucket < length t.buckets) × At (entry g.role g.step g.note) g.past (bucket_at g.bucket t.buckets)
        → round_in w e.note ≡ round_in w g.note
    is_entry u g x =
        let z = same_entry b g.bucket real x.0 e (entry g.role g.step g.note) past g.past a x.1 left g.left in
        ap (λ (y : Entry BucketNote). round_in w y.note) z

    is_this : (r : ℕ) → r ≤ rounds w → (g : HasGone w (i.cuts.cut r) run) → round_in w e.note ≡ round_in w g.note
    is_this r within g = is_entry (i.cuts.cut r) g (in_whole (entry g.role g.step g.note) g.past g.bucket r within g.real g.place)

    abbrev Soon : Type 0
    Soon = IsNamedSoon w t l.acts i (round_in w e.note) run

    by_turn : (role step f : ℕ) (before : List (Entry PoolNote)) → At (entry role step (Turn run f)) before t.pool → Soon
    by_turn role step f before at =
        let x = turned_then w d t l i role step run f before at in
        let is : x.round ≡ round_in w e.note = sym (is_this (suc x.round) (omega (arith, x.in_round.within)) x.gone ∙ x.gone_then) in
        turned_in_round role step f before x.worker (subst (λ (r : ℕ). IsInRound w t l.acts i r (entry role step (Turn run f)) before) is x.in_round)

    by_recycler : (step : ℕ) (before : List (Entry PoolNote)) → At (entry (recycler w) step (Put run)) before t.pool → Soon
    by_recycler step before at =
        let x = recycler_later w d t l i step run before at in
        let this = is_this x.round (omega (arith, x.within)) x.gone in
        let is : x.round ≡ suc (round_in w e.note) = omega (arith, this, x.in_last) in
        put_in_next step before
        (subst (λ (r : ℕ). IsInRound w t l.acts i r (entry (recycler w) step (Put run)) before) is
        (record { within = x.within; in_pool = at; behind = x.behind; by_end = x.in_next }))

    late : (step : ℕ) → HasGoneBefore w t i.last step run → rounds w ≤ suc (round_in w e.note)
    late step (in_last_round g n) = let this = is_entry i.last g (from_last (entry g.role g.step g.note) g.past g.bucket g.real g.place) in omega (arith, n, this)
    late step (by_drain h) =
        let z = same_entry b h.bucket real h.real e (entry (ender w) h.at_step (Drained h.count)) past h.past a h.place left h.left in
        let n : round_in w e.note ≡ rounds w = ap (λ (y : Entry BucketNote). round_in w y.note) z in
        omega (arith, n)

    by_ender : (step : ℕ) (before : List (Entry PoolNote)) → At (entry (ender w) step (Put run)) before t.pool → Soon
    by_ender step before at = let x = end_later w d t l i step run before at in put_at_end step before (late step x.0) at x.1

    by_put : (role step : ℕ) (before : List (Entry PoolNote)) → At (entry role step (Put run)) before t.pool → Soon
    by_put role step before at =
        let low = role_at (roles w) (entry role step (Put run)) before t.pool l.legal.pool_roles at in
        let z = done_on_pool w t l role step (Put run) before low at in
        ⊎_elim (λ x. by_recycler step before (subst (λ (k : ℕ). At (entry k step (Put run)) before t.pool) x.1 at))
        (λ x. ⊎_elim (λ y. by_ender step before (subst (λ (k : ℕ). At (entry k step (Put run)) before t.pool) y.1 at))
        (λ y. ⊎_elim (λ v. absurd (of_manager z.at_length z.before (subst (λ (k : ℕ). At (on_pool (Put run) z.at_length) z.before (l.acts k)) v.1 z.act)))
        (λ v. absurd (of_worker (omega (arith, low, x.1, y.1, v.1)) z.at_length z.before z.act)) (eqb_tells role (manager w))) (eqb_tells role (ender w))) (eqb_tells role (recycler w))
      where
        of_manager : (n : ℕ) (done : List Act) → At (on_pool (Put run) n) done (l.acts (manager w)) → ⊥
        of_manager n done k =
            let m = managed_some w (swept_after w new_manager (l.acts (manager w))) (l.hands (manager w)) l.manage in
            let s = stood_at (managed w) (swept_after w new_manager) (λ x acts. refl) (λ x. refl) (on_pool (Put run) n) done (l.acts (manager w)) m.0 m.1 k in
            manager_puts w s.0.task s.0 s.1 run n s.3

        of_worker : role < w.layout.workers → (n : ℕ) (done : List Act) → At (on_pool (Put run) n) done (l.acts role) → ⊥
        of_worker worker n done k =
            let m = ended_some (stand_after w (fresh (work_of w role)) (l.acts role)) (l.hands role) (l.work role worker) in
            let s = stood_at (moved w) (stand_after w (fresh (work_of w role))) (λ x acts. refl) (λ x. refl) (on_pool (Put run) n) done (l.acts role) m.0 m.1 k in
            no_put w s.0.stage s.0 s.1 run n s.3

    is_one : (x : ℕ) → 1 ≤ is x run → x ≡ run
    is_one x h = by (x == run) refl h
      where
        by : (u : Bool) → (x == run) ≡ u → 1 ≤ one_if u → x ≡ run
        by true q k = same_number x run q
        by false q k = absurd (omega (arith, k))

    by_note : (role step : ℕ) (n : PoolNote) (before : List (Entry PoolNote)) → At (entry role step n) before t.pool → 1 ≤ gives run n → Soon
    by_note role step (Put x) before at h = by_put role step before (subst (λ (k : ℕ). At (entry role step (Put k)) before t.pool) (is_one x h) at)
    by_note role step (Turn x f) before at h = by_turn role step f before (subst (λ (k : ℕ). At (entry role step (Turn k f)) before t.pool) (is_one x h) at)
    by_note role step (Took f) before at h = absurd (omega (arith, h))
    by_note role step (Full f out limit) before at h = absurd (omega (arith, h))
    by_note role step (Mode on) before at h = absurd (omega (arith, h))
    by_note role step (Over round done) before at h = absurd (omega (arith, h))

    named : Soon
    named =
        let x = began b real e past a left in
        let m : times_begun run (bucket_at b t.buckets) ≤ made_in t run = member (length t.buckets) b (λ c. times_begun run (bucket_at c t.buckets)) real in
        let g = giver run t.pool (omega (arith, x.0, m, given w t l run)) in
        by_note g.0.role g.0.step g.0.note g.1 g.2 g.3

pub named_soon : (w : Setup) → IsSetup w → (t : Histories) (l : AreScripted w t) (i : IsInRounds w t l.acts) → AreNamedSoon w t l i
named_soon w d t l i = record {
  turned = λ role step run f past a. turned_then w d t l i role step run f past a;
  soon = λ b real e past a run left. named w d t l i run b real e past a left;
}
