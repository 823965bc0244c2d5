-- A run that a worker turns had gone in the round in which it is turned. It is in front of the worker's hand, which has what left by acts of the
-- round that the worker is in; that is the round of the frame for which the object is turned. So these acts stand behind the cut before that round,
-- and the turn too; and a worker that has ended the round turns no object for a frame of it.
use Rattle.std.proofs.Common.{◌≡◌, ℕ, zero, suc, ◌+◌, ◌-◌, ◌<◌, ◌≤◌, ⊎_elim, Bool, cond, List, [], ◌∷◌, ◌++◌, length, Some, refl, sym, ◌∙◌, ap, subst, arith, length-append}
use Rattle.std.proofs.lemmas.Bool.Decides.{eqb_tells}
use Rattle.bucket_laws.proofs.Tests.{same}
use Rattle.bucket_laws.specs.Leaving.{Gone}
use Rattle.bucket_laws.specs.Places.{At}
use Rattle.round_laws.proofs.Dealing.{work_from}
use Rattle.round_laws.proofs.Later.{act_of, came_or_was, gone_by, note_in, was}
use Rattle.round_laws.proofs.Rising.{did_before}
use Rattle.round_laws.proofs.WorkRounds.{ended_hands, turned_away, turned_in, worked_in}
use Rattle.round_laws.specs.Cuts.{HasCuts, IsInRounds}
use Rattle.round_laws.specs.Later.{HasGone}
use Rattle.round_laws.specs.Leaving.{IsTurnedThen}
use Rattle.round_laws.specs.Rising.{round_in}
use Rattle.run_laws.proofs.Acting.{at_through, done_on_pool}
use Rattle.run_laws.proofs.Places.{from_entries, from_pool, in_part, role_at}
use Rattle.run_laws.proofs.Using.{managed_some}
use Rattle.run_laws.specs.Measures.{count_run}
use Rattle.run_laws.specs.RoundEnd.{IsRoundEnd}
use Rattle.run_laws.specs.Setting.{IsSetup}
use Rattle.run_rules.specs.Acts.{Act, on_bucket, on_pool, part, pool_acts}
use Rattle.run_rules.specs.Ending.{Ending, end_on, ended_on, ending_after}
use Rattle.run_rules.specs.Histories.{Histories}
use Rattle.run_rules.specs.Lawful.{AreScripted, left_over, waited}
use Rattle.run_rules.specs.Manager.{Sweep, Task, leaving, manage, managed, new_manager, resting, sweeping, swept_after}
use Rattle.run_rules.specs.Serving.{queue_after, serve, served}
use Rattle.run_rules.specs.Setup.{Setup, ender, manager, recycler, roles, rounds, work_of}
use Rattle.run_rules.specs.Worker.{Stand, after_act, fresh, moved, stand_after}
use Rattle.step_laws.proofs.Letting.{in_front, stood_at}
use Rattle.step_laws.proofs.Rounds.{Went, by_stand, count_at, none_held, stand_left, went}
use Rattle.step_laws.specs.Leaving.{ended_by_stand}
use Rattle.suri_base.specs.Dealing.{round_of}
use Rattle.suri_base.specs.History.{Begins, entry}
use Rattle.suri_base.specs.declared.entry.Entry.{Entry}
use Rattle.suri_base.specs.declared.entry.PoolNote.{PoolNote}
use Rattle.suri_base.specs.declared.entry.PoolNote.TheVariants.{Turn}

shorter : {A : Type 0} (x : A) (past h : List A) → At x past h → length past < length h
shorter x past [] a = absurd a
shorter x past (y ∷ h) a = ⊎_elim (λ z. let k = ap length z.1 in omega (arith, k)) (λ z. let k = shorter x past h z in omega (arith, k)) a

-- the hand of the round that a worker is in
newest : (a : ℕ) (hand : List Gone) (hands : List (List Gone)) → count_at a (length hands) (hand ∷ hands) ≡ count_run a hand
newest a hand hands = ap (λ (u : Bool). cond u (count_run a hand) (count_at a (length hands) hands)) (same (length hands) (length hands) refl)

some_is : (m n : ℕ) → Some m ≡ Some n → m ≡ n
some_is m n e = cc

-- where a worker stands that turns an object, and an act before by which the run left
record TurnedFrom (w : Setup) (role run f : ℕ) (before : List Act) (i : ℕ) : Type 0 where
  pub stand : Stand
  pub then : Stand
  pub stood : stand_after w (fresh (work_of w role)) before ≡ Some stand
  pub moves : after_act w stand (on_pool (Turn run f) i) ≡ Some then
  pub packet : round_of f w.layout.round ≡ length stand.hands
  pub left : Went (by_stand w (fresh (work_of w role))) run (length stand.hands) before
  pub left_then : round_in w left.note ≡ length stand.hands

turned_from : (w : Setup) (d : IsSetup w) (role : ℕ) (acts : List Act) (t : Stand) → stand_after w (fresh (work_of w role)) acts ≡ Some t
    → (run f i : ℕ) (before : List Act) → At (on_pool (Turn run f) i) before acts → TurnedFrom w role run f before i
turned_from w d role acts t h run f i before a =
    let from = work_from w d role 0 (rounds w) in
    let start : Stand = fresh (work_of w role) in
    let s = stood_at (moved w) (stand_after w start) (λ x l. refl) (λ x. refl) (on_pool (Turn run f) i) before acts t h a in
    let z = turned_in w role from before s.0 s.1 run f i s.2 s.3 in
    let front = in_front run s.0.hand z.1 in
    let all = stand_left run (length s.0.hands) w start s.0 before (none_held run (length s.0.hands)) s.2 in
    let x = went (by_stand w start) run (length s.0.hands) before (omega (arith, front, all, newest run s.0.hand s.0.hands)) in
    let u = stood_at (moved w) (stand_after w start) (λ y l. refl) (λ y. refl) (on_bucket x.bucket x.note x.left) x.before before s.0 s.2 x.place in
    let q = some_is (length u.0.hands) (length s.0.hands) (sym (ap ended_by_stand u.2) ∙ x.in_round) in
    let on_time = worked_in w role from x.before u.0 u.1 x.bucket x.note x.left u.2 u.3 in
    record { stand = s.0; then = s.1; stood = s.2; moves = s.3; packet = z.0; left = x; left_then = omega (arith, q, on_time) }

-- an act of a role on the pool, that it had done by the end of a round, is an entry of the pool then
entry_then : (w : Setup) (t : Histories) (r : ℕ) (at : IsRoundEnd w t r) (role i : ℕ) (n : PoolNote) (before : List Act) → role < roles w → At (on_pool n i) before (at.acts role)
    → (past : List (Entry PoolNote)) × At (entry role (length before) n) past t.pool × (i ≡ length past + 1)
entry_then w t r at role i n before real a =
    let x = in_part role 0 (on_pool n i) before (at.acts role) a refl in
    let y = subst (λ (k : List (Entry Act)). At (entry role (length before) (on_pool n i)) (part role 0 before) k) (sym (at.own role real).pool) x in
    let z = from_entries role (entry role (length before) (on_pool n i)) (part role 0 before) (pool_acts t.pool) y in
    from_pool role (length before) i n z.0 t.pool z.1

-- from the end of one round to the end of the next
turn_gone : (w : Setup) (d : IsSetup w) (old new : Histories) (r : ℕ) (low : r < rounds w) (was_end : IsRoundEnd w old r) (end : IsRoundEnd w new (suc r)) (now : ℕ → List Act)
    → ((k : ℕ) → end.acts k ≡ now k ++ was_end.acts k) → (role step run f : ℕ) (past : List (Entry PoolNote)) → role < w.layout.workers
    → At (entry role step (Turn run f)) past new.pool → Begins old.pool past
    → (round_of f w.layout.round ≡ r) × (g : HasGone w new run) × (round_in w g.note ≡ r)
turn_gone w d old new r low was_end end now on role step run f past worker a behind =
    let real : role < roles w = omega (arith, worker) in
    let from = work_from w d role 0 (rounds w) in
    let x = act_of w new (suc r) end role step (Turn run f) past real a in
    let h = ended_hands w role from 0 0 r low (end.acts role) (end.hands role) (end.work role worker) in
    let y = turned_from w d role (end.acts role) h.0 h.1 run f (length past + 1) x.0 x.1 in
    let inside = at_through (on_bucket y.left.bucket y.left.note y.left.left) (on_pool (Turn run f) (length past + 1)) y.left.before x.0 (end.acts role) y.left.place x.1 in
    let upper : round_in w y.left.note < suc r
    = note_in (λ n. round_in w n < suc r) y.left.bucket y.left.note y.left.left y.left.before (end.acts role) (did_before w d new (suc r) (omega (arith, low)) end role real) inside in
    let lower : r ≤ length y.stand.hands = ⊎_elim
    (λ b. turned_away w role from r (omega (arith, low)) (was_end.acts role) b.0 (was_end.hands role) (was_end.work role worker) y.stand y.then run f (length past + 1)
    (subst (λ (l : List Act). stand_after w (fresh (work_of w role)) l ≡ Some y.stand) b.1 y.stood) y.moves)
    (λ z. let e = entry_then w old r was_end role (length past + 1) (Turn run f) x.0 real z in absurd (not_twice (length x.0) e.0 e.1 e.2))
    (came_or_was (on_pool (Turn run f) (length past + 1)) x.0 (now role) (was_end.acts role)
    (subst (λ (l : List Act). At (on_pool (Turn run f) (length past + 1)) x.0 l) (on role) x.1)) in
    let g = gone_by w new (suc r) end role y.left.bucket y.left.note y.left.left y.left.before run real inside y.left.counted in
    let is : length y.stand.hands ≡ r = omega (arith, y.left_then, upper, lower) in
    (y.packet ∙ is, g.0, ap (round_in w) g.1 ∙ (y.left_then ∙ is))
  where
    not_twice : (m : ℕ) (early : List (Entry PoolNote)) → At (entry role m (Turn run f)) early old.pool → length past + 1 ≡ length early + 1 → ⊥
    not_twice m early there e =
        let s = shorter (entry role m (Turn run f)) early old.pool there in
        let b = ap length behind.1 in
        let k = length-append behind.0 old.pool in
        omega (arith, s, e, b, k)

-- no other role than a worker turns

manager_turns : (w : Setup) (k : Task) (s t : Sweep) (run f i : ℕ) → manage w k s (on_pool (Turn run f) i) ≡ Some t → ⊥
manager_turns w resting s t run f i h = cc
manager_turns w (sweeping k) s t run f i h = cc
manager_turns w leaving s t run f i h = cc

recycler_turns : (queue t : List Gone) (run f i : ℕ) → serve queue (on_pool (Turn run f) i) ≡ Some t → ⊥
recycler_turns queue t run f i h = cc

ender_turns : (w : Setup) (queue : List Gone) (s t : Ending) (run f i : ℕ) → end_on w queue s (on_pool (Turn run f) i) ≡ Some t → ⊥
ender_turns w [] s t run f i h = cc
ender_turns w (g ∷ queue) s t run f i h = cc

module _ (w : Setup) (d : IsSetup w) (t : Histories) (l : AreScripted w t) (i : IsInRounds w t l.acts) (role step run f : ℕ) (past : List (Entry PoolNote)) where
  abbrev c : HasCuts w i.last (rounds w) i.done
  c = i.cuts

  abbrev turn : Entry PoolNote
  turn = entry role step (Turn run f)

  worker_turned : At turn past t.pool → role < w.layout.workers
  worker_turned a =
      let real = role_at (roles w) turn past t.pool l.legal.pool_roles a in
      let z = done_on_pool w t l role step (Turn run f) past real a in
      ⊎_elim (λ x. absurd (by_manager z.at_length z.before (subst (λ (k : ℕ). At (on_pool (Turn run f) z.at_length) z.before (l.acts k)) x.1 z.act)))
      (λ x. ⊎_elim (λ y. absurd (by_recycler z.at_length z.before (subst (λ (k : ℕ). At (on_pool (Turn run f) z.at_length) z.before (l.acts k)) y.1 z.act)))
      (λ y. ⊎_elim (λ v. absurd (by_ender z.at_length z.before (subst (λ (k : ℕ). At (on_pool (Turn run f) z.at_length) z.before (l.acts k)) v.1 z.act)))
      (λ v. omega (arith, real, x.1, y.1, v.1)) (eqb_tells role (ender w))) (eqb_tells role (recycler w))) (eqb_tells role (manager w))
    where
      by_manager : (n : ℕ) (before : List Act) → At (on_pool (Turn run f) n) before (l.acts (manager w)) → ⊥
      by_manager n before at =
          let m = managed_some w (swept_after w new_manager (l.acts (manager w))) (l.hands (manager w)) l.manage in
          let s = stood_at (managed w) (swept_after w new_manager) (λ x acts. refl) (λ x. refl) (on_pool (Turn run f) n) before (l.acts (manager w)) m.0 m.1 at in
          manager_turns w s.0.task s.0 s.1 run f n s.3

      by_recycler : (n : ℕ) (before : List Act) → At (on_pool (Turn run f) n) before (l.acts (recycler w)) → ⊥
      by_recycler n before at =
          let queue : List Gone = waited (manager w + 1) l.hands (rounds w - 1) in
          let s = stood_at served (λ acts. queue_after queue acts) (λ x acts. refl) (λ x. refl) (on_pool (Turn run f) n) before (l.acts (recycler w)) [] l.recycle at in
          recycler_turns s.0 s.1 run f n s.3

      by_ender : (n : ℕ) (before : List Act) → At (on_pool (Turn run f) n) before (l.acts (ender w)) → ⊥
      by_ender n before at =
          let start : Ending = record { queue = left_over w l.hands; drained = 0 } in
          let stop : Ending = record { queue = []; drained = w.layout.rows } in
          let s = stood_at (ended_on w) (ending_after w start) (λ x acts. refl) (λ x. refl) (on_pool (Turn run f) n) before (l.acts (ender w)) stop l.drain at in
          ender_turns w s.0.queue s.0 s.1 run f n s.3

  turned_by : role < w.layout.workers → At turn past t.pool → (r : ℕ) → r ≤ rounds w → At turn past (c.cut r).pool → IsTurnedThen w t l.acts i role step run f past
  turned_by worker whole zero low a =
      let end = (c.ends 0 low).at in
      let x = act_of w (c.cut 0) 0 end role step (Turn run f) past (omega (arith, worker)) a in
      absurd (subst (λ (k : List Act). At (on_pool (Turn run f) (length past + 1)) x.0 k) (end.work role worker).0 x.1)
  turned_by worker whole (suc r) low a =
      let here : r ≤ rounds w = omega (arith, low) in
      let more : r < rounds w = omega (arith, low) in
      let next = c.ends (suc r) low in
      let g = (c.grows r more).pool in
      let now : ℕ → List Act = λ k. (c.goes_on r more k).0 in
      let on : (k : ℕ) → next.at.acts k ≡ now k ++ (c.ends r here).at.acts k
      = λ k. next.acts_are k ∙ ((c.goes_on r more k).1 ∙ ap (λ (y : List Act). now k ++ y) (sym ((c.ends r here).acts_are k))) in
      ⊎_elim
      (λ b.
      let x = turn_gone w d (c.cut r) (c.cut (suc r)) r more (c.ends r here).at next.at now on role step run f past worker a b in
      record { worker = worker; round = r; in_round = record { within = more; in_pool = whole; behind = b; by_end = a }; packet = x.0; gone = x.1; gone_then = x.2 })
      (λ b. turned_by worker whole r here b)
      (came_or_was turn past g.0 (c.cut r).pool (subst (λ (h : List (Entry PoolNote)). At turn past h) g.1 a))

  pub turned_then : At turn past t.pool → IsTurnedThen w t l.acts i role step run f past
  turned_then a =
      let worker = worker_turned a in
      turned_by worker a (rounds w) (omega arith)
      (subst (λ (h : Histories). At turn past h.pool) (sym c.last)
      (was (ender w) turn past i.rest.pool.0 i.last.pool i.rest.pool.2 (λ e. absurd (omega (arith, e, worker)))
      (subst (λ (h : List (Entry PoolNote)). At turn past h) i.rest.pool.1 a)))
