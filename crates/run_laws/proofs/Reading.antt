-- Each look and each sweep uses the mode as its role last read it.
-- The last reading is an act of the role on the pool, whose entry tells the mode of the pool then; no act between is a reading.
use Rattle.std.proofs.Common.{◌≡◌, ℕ, ◌==◌, ◌+◌, ◌<◌, ◌≤◌, nat_lt, Bool, true, false, cond, ◌&&◌, List, [], ◌∷◌, ◌++◌, length, Option, Some, None, ⊎_elim, inl, inr, refl, sym, ◌∙◌, ap, subst, arith}
use Rattle.bucket_laws.proofs.Steps.{legal_at}
use Rattle.bucket_laws.proofs.Tests.{both}
use Rattle.bucket_laws.specs.Leaving.{Gone}
use Rattle.bucket_laws.specs.Places.{At}
use Rattle.bucket_rules.proofs.Settling.{worker_within}
use Rattle.run_laws.proofs.Acting.{at_before, at_shorter, at_through, cause_at, done, done_on_pool, pool_entry, worker_caused}
use Rattle.run_laws.proofs.Asking.{HasCause, Reading, last_reading}
use Rattle.run_laws.proofs.Causing.{AllCaused}
use Rattle.run_laws.proofs.Places.{legal_pool_at}
use Rattle.run_laws.proofs.Sums.{same_number}
use Rattle.run_laws.proofs.Using.{managed_some}
use Rattle.run_laws.proofs.Working.{only_some}
use Rattle.run_laws.specs.Causes.{IsRead}
use Rattle.run_laws.specs.Setting.{IsSetup}
use Rattle.run_rules.specs.Acts.{Act, on_bucket, on_pool, on_segments}
use Rattle.run_rules.specs.Histories.{Histories, bucket_at}
use Rattle.run_rules.specs.Lawful.{AreScripted, setting_for}
use Rattle.run_rules.specs.Manager.{Sweep, Task, end_round, leaving, manage, managed, new_manager, resting, start_round, sweep, sweep_on, sweeping, swept_after}
use Rattle.run_rules.specs.Setup.{Setup, fixed_at, manager, roles, rounds}
use Rattle.suri_base.specs.History.{entry}
use Rattle.suri_base.specs.Keys.{same_truth}
use Rattle.suri_base.specs.declared.entry.BucketNote.{BucketNote}
use Rattle.suri_base.specs.declared.entry.BucketNote.TheVariants.{AllInUse, Closed, Drained, Found, Idle, Made, Missing, Refused, Stopped, Stored, Swept, Victim}
use Rattle.suri_base.specs.declared.entry.Entry.{Entry}
use Rattle.suri_base.specs.declared.entry.PoolNote.{PoolNote}
use Rattle.suri_base.specs.declared.entry.PoolNote.TheVariants.{Full, Mode, Over, Put, Took, Turn}
use Rattle.suri_base.specs.declared.stream.Offer.{Offer}

pub both4 : (p q r s : Bool) → (p && q && r && s) ≡ true → (p ≡ true) × (q ≡ true) × (r ≡ true) × (s ≡ true)
both4 p q r s h = let a = both (p && q && r) s h in let b = both (p && q) r a.0 in let c = both p q b.0 in (c.0, c.1, b.1, a.1)

-- the last reading as an act
record LastRead (acts : List Act) (e : Bool) (n : ℕ) : Type 0 where
  pub before : List Act
  pub place : At (on_pool (Mode e) n) before acts
  pub newest : (told : Bool) (i : ℕ) (m : List Act) → At (on_pool (Mode told) i) m acts → length m ≤ length before

skip_reading : (x : Act) (acts : List Act) (e : Bool) (n : ℕ) → ((told : Bool) (i : ℕ) → x ≡ on_pool (Mode told) i → ⊥) → LastRead acts e n → LastRead (x ∷ acts) e n
skip_reading x acts e n never k = record { before = k.before; place = inr k.place; newest = λ told i m a. ⊎_elim (λ z. absurd (never told i z.0)) (λ z. k.newest told i m z) a }

reading_at : (acts : List Act) (e : Bool) (n : ℕ) → last_reading acts ≡ Some (record { on = e; seen = n }) → LastRead acts e n
reading_at [] e n h = cc
reading_at (on_pool (Mode f) i ∷ acts) e n h =
    let k : record { on = f; seen = i } ≡ record { on = e; seen = n } = cc in
    record {
      before = acts;
      place = inl (ap (λ (x : Reading). on_pool (Mode x.on) x.seen) k, refl);
      newest = λ told j m a. let z = at_shorter (on_pool (Mode told) j) m (on_pool (Mode f) i ∷ acts) a in omega (arith, z);
    }
reading_at (on_pool (Took g) i ∷ acts) e n h = skip_reading (on_pool (Took g) i) acts e n (λ told j y. cc) (reading_at acts e n h)
reading_at (on_pool (Full g m limit) i ∷ acts) e n h = skip_reading (on_pool (Full g m limit) i) acts e n (λ told j y. cc) (reading_at acts e n h)
reading_at (on_pool (Put run) i ∷ acts) e n h = skip_reading (on_pool (Put run) i) acts e n (λ told j y. cc) (reading_at acts e n h)
reading_at (on_pool (Turn run g) i ∷ acts) e n h = skip_reading (on_pool (Turn run g) i) acts e n (λ told j y. cc) (reading_at acts e n h)
reading_at (on_pool (Over round done) i ∷ acts) e n h = skip_reading (on_pool (Over round done) i) acts e n (λ told j y. cc) (reading_at acts e n h)
reading_at (on_segments m ∷ acts) e n h = skip_reading (on_segments m) acts e n (λ told j y. cc) (reading_at acts e n h)
reading_at (on_bucket b m left ∷ acts) e n h = skip_reading (on_bucket b m left) acts e n (λ told j y. cc) (reading_at acts e n h)

module _ (w : Setup) (d : IsSetup w) (t : Histories) (l : AreScripted w t) where
  -- what a reading says of the pool's history
  is_read_by : (role : ℕ) → role < roles w → (a : Act) (before : List Act) (step : ℕ) (e : Bool) (n : ℕ) → At a before (l.acts role) → step ≡ length before
      → last_reading before ≡ Some (record { on = e; seen = n }) → IsRead t role step e n
  is_read_by role r a before step e n at s h =
      let k = reading_at before e n h in
      let whole = at_through (on_pool (Mode e) n) a k.before before (l.acts role) k.place at in
      let p = pool_entry w t l role n (Mode e) k.before r whole in
      let q = legal_pool_at (setting_for w) (entry role (length k.before) (Mode e)) p.0 t.pool l.legal.pool p.1 in
      record {
        read_step = length k.before;
        past = p.0;
        read = p.1;
        number = p.2;
        on = sym q;
        earlier = omega (arith, s, at_shorter (on_pool (Mode e) n) k.before before k.place);
        newest = λ u told past x less.
            let z = done_on_pool w t l role u (Mode told) past r x in
            let y = at_before (on_pool (Mode told) z.at_length) a z.before before (l.acts role) z.act at (omega (arith, z.number, s, less)) in
            omega (arith, z.number, k.newest told z.at_length z.before y);
      }

  pub found_read : (b : ℕ) → b < length t.buckets → (role step f : ℕ) (e : Bool) (n run : ℕ) (o : Offer) (past : List (Entry BucketNote))
      → At (entry role step (Found f e n run o)) past (bucket_at b t.buckets) → IsRead t role step e n
  found_read b h role step f e n run o past a =
      let k = legal_at (fixed_at w b) (entry role step (Found f e n run o)) past (bucket_at b t.buckets) (l.legal.buckets b h) a in
      let real = worker_within (fixed_at w b) role f d.layout.workers.0 k.0.0.own in
      let r : role < roles w = omega (arith, real) in
      let z = done w t l b h role step (Found f e n run o) past r a in
      is_read_by role r (on_bucket b (Found f e n run o) z.left) z.before step e n z.act z.number
      (cause_at w role (on_bucket b (Found f e n run o) z.left) z.before (l.acts role) (worker_caused w t l role real) z.act)

  pub missing_read : (b : ℕ) → b < length t.buckets → (role step f : ℕ) (e : Bool) (n ended : ℕ) (past : List (Entry BucketNote))
      → At (entry role step (Missing f e n ended)) past (bucket_at b t.buckets) → IsRead t role step e n
  missing_read b h role step f e n ended past a =
      let k = legal_at (fixed_at w b) (entry role step (Missing f e n ended)) past (bucket_at b t.buckets) (l.legal.buckets b h) a in
      let real = worker_within (fixed_at w b) role f d.layout.workers.0 k.0.0.own in
      let r : role < roles w = omega (arith, real) in
      let z = done w t l b h role step (Missing f e n ended) past r a in
      is_read_by role r (on_bucket b (Missing f e n ended) z.left) z.before step e n z.act z.number
      (cause_at w role (on_bucket b (Missing f e n ended) z.left) z.before (l.acts role) (worker_caused w t l role real) z.act)

  -- the manager

  abbrev ReadBy : Task → Bool → ℕ → List Act → Type 0
  ReadBy resting e n acts = Unit {0}
  ReadBy (sweeping k) e n acts = last_reading acts ≡ Some (record { on = e; seen = n })
  ReadBy leaving e n acts = last_reading acts ≡ Some (record { on = e; seen = n })

  read_task : (k : ℕ) (e : Bool) (n : ℕ) (acts : List Act) → last_reading acts ≡ Some (record { on = e; seen = n }) → (t : Bool) → ReadBy (cond t leaving (sweeping k)) e n acts
  read_task k e n acts h true = h
  read_task k e n acts h false = h

  flags : (x y : Bool) → same_truth x y ≡ true → x ≡ y
  flags true true h = refl
  flags false false h = refl
  flags true false h = cc
  flags false true h = cc

  sweep_read : (k : ℕ) (s : Sweep) (b : ℕ) (n : BucketNote) (left : List Gone) (t' : Sweep) (acts : List Act) → sweep w k s b n left ≡ Some t'
      → last_reading acts ≡ Some (record { on = s.emergency; seen = s.seen })
      → HasCause w (manager w) acts (on_bucket b n left) × ReadBy t'.task t'.emergency t'.seen (on_bucket b n left ∷ acts)
  sweep_read k s b (Found g e n run o) left t' acts h u = cc
  sweep_read k s b (Missing g e n ended) left t' acts h u = cc
  sweep_read k s b (Made g o) left t' acts h u = cc
  sweep_read k s b (Refused g) left t' acts h u = cc
  sweep_read k s b (Stored g) left t' acts h u = cc
  sweep_read k s b (Stopped g) left t' acts h u = cc
  sweep_read k s b (Closed g app' run freed ended) left t' acts h u = cc
  sweep_read k s b (Idle g app') left t' acts h u = cc
  sweep_read k s b (Victim g run) left t' acts h u = cc
  sweep_read k s b (AllInUse g count) left t' acts h u = cc
  sweep_read k s b (Swept round e m count) left t' acts h u =
      let q = only_some ((b == k) && (round == s.round) && same_truth e s.emergency && (m == s.seen)) (record s { task = sweep_on (k + 1) w.layout.rows; hand = s.hand ++ left }) t' h in
      let z = both4 (b == k) (round == s.round) (same_truth e s.emergency) (m == s.seen) q.0 in (
        u ∙ ap Some (ap (λ (x : Bool). record { on = x; seen = s.seen }) (sym (flags e s.emergency z.2)) ∙ ap (λ (x : ℕ). record { on = e; seen = x }) (sym (same_number m s.seen z.3))),
        subst (λ (x : Sweep). ReadBy x.task x.emergency x.seen (on_bucket b (Swept round e m count) left ∷ acts)) q.1
            (read_task (k + 1) s.emergency s.seen (on_bucket b (Swept round e m count) left ∷ acts) u (k + 1 == w.layout.rows)),
      )
  sweep_read k s b (Drained count) left t' acts h u = cc

  start_read : (s : Sweep) (n : PoolNote) (i : ℕ) (t' : Sweep) (acts : List Act) → start_round w s n i ≡ Some t' → ReadBy t'.task t'.emergency t'.seen (on_pool n i ∷ acts)
  start_read s (Took g) i t' acts h = cc
  start_read s (Full g n limit) i t' acts h = cc
  start_read s (Put run) i t' acts h = cc
  start_read s (Turn run g) i t' acts h = cc
  start_read s (Mode e) i t' acts h =
      let q = only_some (nat_lt s.round (rounds w)) (record s { task = sweep_on 0 w.layout.rows; emergency = e; seen = i }) t' h in
      subst (λ (x : Sweep). ReadBy x.task x.emergency x.seen (on_pool (Mode e) i ∷ acts)) q.1 (read_task 0 e i (on_pool (Mode e) i ∷ acts) refl (0 == w.layout.rows))
  start_read s (Over round over) i t' acts h = cc

  end_read : (s : Sweep) (n : PoolNote) (i : ℕ) (t' : Sweep) (acts : List Act) → end_round w s n ≡ Some t' → ReadBy t'.task t'.emergency t'.seen (on_pool n i ∷ acts)
  end_read s (Took g) i t' acts h = cc
  end_read s (Full g n limit) i t' acts h = cc
  end_read s (Put run) i t' acts h = cc
  end_read s (Turn run g) i t' acts h = cc
  end_read s (Mode e) i t' acts h = cc
  end_read s (Over round over) i t' acts h =
      let q = only_some (round == s.round) (record s { task = resting; round = s.round + 1; hand = []; hands = s.hand ∷ s.hands }) t' h in
      subst (λ (x : Sweep). ReadBy x.task x.emergency x.seen (on_pool (Over round over) i ∷ acts)) q.1 tt

  manage_read : (k : Task) (s t' : Sweep) (a : Act) (acts : List Act) → manage w k s a ≡ Some t' → ReadBy k s.emergency s.seen acts
      → HasCause w (manager w) acts a × ReadBy t'.task t'.emergency t'.seen (a ∷ acts)
  manage_read resting s t' (on_pool n i) acts h u = (tt, start_read s n i t' acts h)
  manage_read resting s t' (on_segments n) acts h u = cc
  manage_read resting s t' (on_bucket b n left) acts h u = cc
  manage_read (sweeping k) s t' (on_pool n i) acts h u = cc
  manage_read (sweeping k) s t' (on_segments n) acts h u = cc
  manage_read (sweeping k) s t' (on_bucket b n left) acts h u = sweep_read k s b n left t' acts h u
  manage_read leaving s t' (on_pool n i) acts h u = (tt, end_read s n i t' acts h)
  manage_read leaving s t' (on_segments n) acts h u = cc
  manage_read leaving s t' (on_bucket b n left) acts h u = cc

  managed_more : (o : Option Sweep) (t' : Sweep) (a : Act) (acts : List Act) → managed w a o ≡ Some t'
      → ((s : Sweep) → o ≡ Some s → AllCaused w (manager w) acts × ReadBy s.task s.emergency s.seen acts)
      → AllCaused w (manager w) (a ∷ acts) × ReadBy t'.task t'.emergency t'.seen (a ∷ acts)
  managed_more None t' a acts h k = cc
  managed_more (Some s) t' a acts h k = let one = k s refl in let z = manage_read s.task s t' a acts h one.1 in ((z.0, one.0), z.1)

  managed_all : (acts : List Act) (t' : Sweep) → swept_after w new_manager acts ≡ Some t' → AllCaused w (manager w) acts × ReadBy t'.task t'.emergency t'.seen acts
  managed_all [] t' h = let e : new_manager ≡ t' = cc in (tt, subst (λ (x : Sweep). ReadBy x.task x.emergency x.seen []) e tt)
  managed_all (a ∷ acts) t' h = managed_more (swept_after w new_manager acts) t' a acts h (λ x e. managed_all acts x e)

  pub swept_read : (b : ℕ) → b < length t.buckets → (role step round : ℕ) (e : Bool) (n count : ℕ) (past : List (Entry BucketNote))
      → At (entry role step (Swept round e n count)) past (bucket_at b t.buckets) → IsRead t role step e n
  swept_read b h role step round e n count past a =
      let k = legal_at (fixed_at w b) (entry role step (Swept round e n count)) past (bucket_at b t.buckets) (l.legal.buckets b h) a in
      let same : role ≡ manager w = k.0.0.manager in
      let r : role < roles w = omega (arith, same) in
      let z = done w t l b h role step (Swept round e n count) past r a in
      let m = managed_some w (swept_after w new_manager (l.acts (manager w))) (l.hands (manager w)) l.manage in
      let c = (managed_all (l.acts (manager w)) m.0 m.1).0 in
      let at = subst (λ (x : ℕ). At (on_bucket b (Swept round e n count) z.left) z.before (l.acts x)) same z.act in
      is_read_by role r (on_bucket b (Swept round e n count) z.left) z.before step e n z.act z.number
      (cause_at w (manager w) (on_bucket b (Swept round e n count) z.left) z.before (l.acts (manager w)) c at)
