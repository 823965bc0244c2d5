-- The object of a run is given back after the run left: a worker turns only what its own earlier steps let go, and the rest is put by
-- the recycler or the end role.
use Rattle.std.proofs.Common.{◌≡◌, ℕ, ◌<◌, ◌≤◌, Bool, true, false, List, [], ◌∷◌, length, Option, Some, None, ◌⊎◌, ⊎_elim, inl, inr, refl, ◌∙◌, ap, subst, arith}
use Rattle.bucket_laws.proofs.Steps.{legal_at}
use Rattle.bucket_laws.specs.Counts.{one_if}
use Rattle.bucket_laws.specs.Leaving.{Gone}
use Rattle.bucket_laws.specs.Places.{At}
use Rattle.bucket_rules.specs.Row.{lets_go}
use Rattle.run_laws.proofs.Acting.{at_shorter, at_through, bucket_entry, done_on_pool, real_at}
use Rattle.run_laws.proofs.Leavers.{count_gone}
use Rattle.run_laws.proofs.Places.{role_at}
use Rattle.run_laws.proofs.Using.{ended_some, managed_some}
use Rattle.run_laws.proofs.Working.{given_back_after}
use Rattle.run_laws.specs.Measures.{count_run, left_by, total}
use Rattle.run_laws.specs.Returning.{HasLetGo, IsGivenBack, by_end, by_itself, by_recycler}
use Rattle.run_rules.specs.Acts.{Act, on_bucket, on_pool, on_segments}
use Rattle.run_rules.specs.Histories.{Histories, bucket_at}
use Rattle.run_rules.specs.Lawful.{AreScripted}
use Rattle.run_rules.specs.Manager.{Sweep, Task, leaving, manage, managed, new_manager, resting, sweeping, swept_after}
use Rattle.run_rules.specs.Setup.{Setup, ender, fixed_at, manager, recycler, roles, work_of}
use Rattle.run_rules.specs.Worker.{Stage, Stand, after_act, asking, between, closing, denied, evicting, freeing, fresh, granted, looking, missed, moved, pool_step, settling, stand_after, turning}
use Rattle.suri_base.specs.History.{entry}
use Rattle.suri_base.specs.declared.entry.BucketNote.{BucketNote}
use Rattle.suri_base.specs.declared.entry.Entry.{Entry}
use Rattle.suri_base.specs.declared.entry.PoolNote.{PoolNote}
use Rattle.suri_base.specs.declared.entry.PoolNote.TheVariants.{Put, Turn}

-- a run that is counted left by one of the acts
record LeftIn (run : ℕ) (acts : List Act) : Type 0 where
  pub bucket : ℕ
  pub note : BucketNote
  pub left : List Gone
  pub before : List Act
  pub place : At (on_bucket bucket note left) before acts
  pub counted : 1 ≤ count_run run left

some_left : (run : ℕ) (acts : List Act) → 1 ≤ total (left_by run) acts → LeftIn run acts
some_left run [] h = absurd (omega arith)
some_left run (on_pool n i ∷ acts) h =
    let k = some_left run acts (omega (arith, h)) in
    record { bucket = k.bucket; note = k.note; left = k.left; before = k.before; place = inr k.place; counted = k.counted }
some_left run (on_segments n ∷ acts) h =
    let k = some_left run acts (omega (arith, h)) in
    record { bucket = k.bucket; note = k.note; left = k.left; before = k.before; place = inr k.place; counted = k.counted }
some_left run (on_bucket b n left ∷ acts) h = ⊎_elim
    (λ z. record { bucket = b; note = n; left = left; before = acts; place = inl (refl, refl); counted = z })
    (λ z. let k = some_left run acts (omega (arith, h, z)) in record { bucket = k.bucket; note = k.note; left = k.left; before = k.before; place = inr k.place; counted = k.counted })
    (some_or_none (count_run run left))
  where
    some_or_none : (x : ℕ) → (1 ≤ x) ⊎ (x ≡ 0)
    some_or_none x = grind arith

-- where the worker stood before one of its acts
record StoodAt (w : Setup) (start : Stand) (a : Act) (before : List Act) : Type 0 where
  pub stand : Stand
  pub then : Stand
  pub stood : stand_after w start before ≡ Some stand
  pub moves : after_act w stand a ≡ Some then

stood_more : (w : Setup) (start : Stand) (a x : Act) (before acts : List Act) (t : Stand) (o : Option Stand) → stand_after w start acts ≡ o → moved w x o ≡ Some t
    → ((s : Stand) → stand_after w start acts ≡ Some s → At a before acts → StoodAt w start a before) → At a before (x ∷ acts) → StoodAt w start a before
stood_more w start a x before acts t None e h k p = cc
stood_more w start a x before acts t (Some s) e h k p = ⊎_elim
    (λ z. record { stand = s; then = t; stood = subst (λ (u : List Act). stand_after w start u ≡ Some s) z.1 e; moves = subst (λ (u : Act). after_act w s u ≡ Some t) z.0 h })
    (λ z. k s e z) p

stood_at : (w : Setup) (start : Stand) (a : Act) (before acts : List Act) (t : Stand) → stand_after w start acts ≡ Some t → At a before acts → StoodAt w start a before
stood_at w start a before [] t h p = absurd p
stood_at w start a before (x ∷ acts) t h p = stood_more w start a x before acts t (stand_after w start acts) refl h (λ s e q. stood_at w start a before acts s e q) p

-- no worker puts
no_put : (w : Setup) (p : Stage) (s t : Stand) (run i : ℕ) → pool_step w p s (Put run) i ≡ Some t → ⊥
no_put w (between) s t run i h = cc
no_put w (looking todo) s t run i h = cc
no_put w (missed g todo) s t run i h = cc
no_put w (evicting g k todo) s t run i h = cc
no_put w (turning g todo) s t run i h = cc
no_put w (granted g todo) s t run i h = cc
no_put w (denied g todo) s t run i h = cc
no_put w (asking g todo) s t run i h = cc
no_put w (settling g had todo) s t run i h = cc
no_put w (closing todo) s t run i h = cc
no_put w (freeing m todo) s t run i h = cc

-- the manager neither puts nor turns

manager_put : (w : Setup) (k : Task) (s t : Sweep) (run i : ℕ) → manage w k s (on_pool (Put run) i) ≡ Some t → ⊥
manager_put w resting s t run i h = cc
manager_put w (sweeping k) s t run i h = cc
manager_put w leaving s t run i h = cc

manager_turn : (w : Setup) (k : Task) (s t : Sweep) (run f i : ℕ) → manage w k s (on_pool (Turn run f) i) ≡ Some t → ⊥
manager_turn w resting s t run f i h = cc
manager_turn w (sweeping k) s t run f i h = cc
manager_turn w leaving s t run f i h = cc

-- what the manager may do where it does one of its acts
abbrev StoodManager : Setup → Act → Type 0
StoodManager w a = (s : Sweep) × (u : Sweep) × (manage w s.task s a ≡ Some u)

one_of : (w : Setup) (a x : Act) (before acts : List Act) (t : Sweep) (o : Option Sweep) → managed w x o ≡ Some t
    → ((s : Sweep) → o ≡ Some s → At a before acts → StoodManager w a) → At a before (x ∷ acts) → StoodManager w a
one_of w a x before acts t None h k p = cc
one_of w a x before acts t (Some s) h k p = ⊎_elim (λ z. (s, t, subst (λ (y : Act). manage w s.task s y ≡ Some t) z.0 h)) (λ z. k s refl z) p

managed_at : (w : Setup) (start : Sweep) (a : Act) (before acts : List Act) (t : Sweep) → swept_after w start acts ≡ Some t → At a before acts → StoodManager w a
managed_at w start a before [] t h p = absurd p
managed_at w start a before (x ∷ acts) t h p = one_of w a x before acts t (swept_after w start acts) h (λ s e q. managed_at w start a before acts s e q) p

module _ (w : Setup) (t : Histories) (l : AreScripted w t) where
  -- what left by an act of the role was let go by that entry
  let_go : (role step run : ℕ) → role < roles w → (before : List Act) → ((a : Act) (m : List Act) → At a m before → At a m (l.acts role)) → step ≡ length before
      → 1 ≤ total (left_by run) before → HasLetGo w t role step run
  let_go role step run r before sub s h =
      let k = some_left run before h in
      let at = sub (on_bucket k.bucket k.note k.left) k.before k.place in
      let real = real_at w t l role k.bucket k.note k.left k.before r at in
      let e = bucket_entry w t l role k.bucket k.note k.left k.before r real at in
      let legal = legal_at (fixed_at w k.bucket) (entry role (length k.before) k.note) e.0 (bucket_at k.bucket t.buckets) (l.legal.buckets k.bucket real) e.1 in
      let c = ap (count_run run) e.2 ∙ count_gone (fixed_at w k.bucket) e.0 k.note run legal.1 in
      record {
        bucket = k.bucket;
        real = real;
        at_step = length k.before;
        note = k.note;
        past = e.0;
        place = e.1;
        left = counts (lets_go (fixed_at w k.bucket) e.0 k.note run) (omega (arith, c, k.counted));
        earlier = omega (arith, s, at_shorter (on_bucket k.bucket k.note k.left) k.before before k.place);
      }
    where
      counts : (b : Bool) → 1 ≤ one_if b → b ≡ true
      counts true h = refl
      counts false h = absurd (omega arith)

  -- a role is one of the workers, the manager, the recycler or the end role
  by_role_of : (role : ℕ) → role < roles w → (role < w.layout.workers) ⊎ ((role ≡ manager w) ⊎ ((role ≡ recycler w) ⊎ (role ≡ ender w)))
  by_role_of role h = grind arith

  pub put_back : (role step run : ℕ) (past : List (Entry PoolNote)) → At (entry role step (Put run)) past t.pool → IsGivenBack w t role step run
  put_back role step run past a =
      let r = role_at (roles w) (entry role step (Put run)) past t.pool l.legal.pool_roles a in
      let z = done_on_pool w t l role step (Put run) past r a in
      ⊎_elim
      (λ x.
      let e = ended_some (stand_after w (fresh (work_of w role)) (l.acts role)) (l.hands role) (l.work role x) in
      let k = stood_at w (fresh (work_of w role)) (on_pool (Put run) z.at_length) z.before (l.acts role) e.0 e.1 z.act in
      absurd (no_put w k.stand.stage k.stand k.then run z.at_length k.moves))
      (λ x. ⊎_elim
      (λ y.
      let m = managed_some w (swept_after w new_manager (l.acts (manager w))) (l.hands (manager w)) l.manage in
      let at = subst (λ (u : ℕ). At (on_pool (Put run) z.at_length) z.before (l.acts u)) y z.act in
      let k = managed_at w new_manager (on_pool (Put run) z.at_length) z.before (l.acts (manager w)) m.0 m.1 at in
      absurd (manager_put w k.0.task k.0 k.1 run z.at_length k.2))
      (λ y. ⊎_elim (λ v. by_recycler v) (λ v. by_end v) y) x)
      (by_role_of role r)

  pub turned_back : (role step run f : ℕ) (past : List (Entry PoolNote)) → At (entry role step (Turn run f)) past t.pool → IsGivenBack w t role step run
  turned_back role step run f past a =
      let r = role_at (roles w) (entry role step (Turn run f)) past t.pool l.legal.pool_roles a in
      let z = done_on_pool w t l role step (Turn run f) past r a in
      ⊎_elim
      (λ x.
      let e = ended_some (stand_after w (fresh (work_of w role)) (l.acts role)) (l.hands role) (l.work role x) in
      let k = stood_at w (fresh (work_of w role)) (on_pool (Turn run f) z.at_length) z.before (l.acts role) e.0 e.1 z.act in
      by_itself (let_go role step run r z.before
      (λ b m q. at_through b (on_pool (Turn run f) z.at_length) m z.before (l.acts role) q z.act) z.number
      (given_back_after w (fresh (work_of w role)) k.stand k.then run f z.at_length z.before refl refl refl refl k.stood k.moves)))
      (λ x. ⊎_elim
      (λ y.
      let m = managed_some w (swept_after w new_manager (l.acts (manager w))) (l.hands (manager w)) l.manage in
      let at = subst (λ (u : ℕ). At (on_pool (Turn run f) z.at_length) z.before (l.acts u)) y z.act in
      let k = managed_at w new_manager (on_pool (Turn run f) z.at_length) z.before (l.acts (manager w)) m.0 m.1 at in
      absurd (manager_turn w k.0.task k.0 k.1 run f z.at_length k.2))
      (λ y. ⊎_elim (λ v. by_recycler v) (λ v. by_end v) y) x)
      (by_role_of role r)
