-- A trail that is lawful so far stays so with one entry more by a role, where that is the role's next act. The role stands where the act leads, all
-- others where they stood. The rounds that were over stay over, so what came to the recycler is the same; where a worker, the manager or the
-- recycler has an act left, the end role has not begun; and what is put is out, by counting.
use Rattle.std.proofs.Common.{◌≡◌, ℕ, suc, ◌==◌, ◌+◌, ◌<◌, Bool, true, false, cond, List, [], ◌∷◌, ◌++◌, length, Some, ⊎_elim, inl, inr, refl, ◌∙◌, ap, sym, subst, arith}
use Rattle.bucket_laws.proofs.Tests.{other}
use Rattle.bucket_laws.specs.Leaving.{Gone}
use Rattle.flow_pool.specs.Counting.{flows_out}
use Rattle.run_laws.proofs.Rounding.{queue_longer}
use Rattle.run_laws.proofs.Sums.{same_number}
use Rattle.run_rules.specs.Acts.{Act, on_bucket, on_pool, on_segments}
use Rattle.run_rules.specs.Ending.{Ending, end_on, ended_on, ending_after}
use Rattle.run_rules.specs.Histories.{Histories}
use Rattle.run_rules.specs.Lawful.{IsDue, PutsAreDue}
use Rattle.run_rules.specs.Manager.{Sweep, manage, managed, new_manager, swept_after}
use Rattle.run_rules.specs.Serving.{queue_after, serve, served}
use Rattle.run_rules.specs.Setup.{Setup, ender, manager, recycler, roles, work_of}
use Rattle.run_rules.specs.SoFar.{AreLawfulSoFar, OthersEnded, first_hands, hands_by, passed_at, round_hands, to_drain}
use Rattle.run_rules.specs.Worker.{Stand, after_act, fresh, moved, stand_after}
use Rattle.step_laws.proofs.Adding.{above_other, below_other, changed, changed_other, changed_own, still_legal, still_own}
use Rattle.step_laws.proofs.Counted.{end_due, recycler_due}
use Rattle.step_laws.proofs.Handing.{begun_longer, first_begun}
use Rattle.step_laws.proofs.Stepping.{manager_due, manager_grows, manager_stops, recycler_stops, worker_due, worker_grows, worker_stops}
use Rattle.step_laws.specs.Adding.{IsAdded}
use Rattle.step_laws.specs.Passing.{HasPassed, MayPass}
use Rattle.step_laws.specs.Staying.{HasStepped}
use Rattle.suri_base.specs.History.{Begins}
use Rattle.suri_base.specs.declared.entry.Entry.{Entry}
use Rattle.suri_base.specs.declared.entry.PoolNote.{PoolNote}

-- where an act puts an object, one is out

abbrev IsDueBy : ℕ → Act → Type 0
IsDueBy out (on_pool n i) = IsDue out n
IsDueBy out (on_segments n) = Unit {0}
IsDueBy out (on_bucket b n left) = Unit {0}

puts_after : (w : Setup) (role step : ℕ) (old new : Histories) (a : Act) → IsAdded w role step old new a → PutsAreDue old.pool → IsDueBy (flows_out old.pool) a → PutsAreDue new.pool
puts_after w role step old new (on_pool n i) h p d = subst (λ (x : List (Entry PoolNote)). PutsAreDue x) (sym h.pool) (d, p)
puts_after w role step old new (on_segments n) h p d = subst (λ (x : List (Entry PoolNote)). PutsAreDue x) (sym h.pool) p
puts_after w role step old new (on_bucket b n left) h p d = subst (λ (x : List (Entry PoolNote)). PutsAreDue x) (sym h.pool) p

module _ (w : Setup) (t new : Histories) (l : AreLawfulSoFar w t) (a : Act) where
  abbrev acts_now : ℕ → ℕ → List Act
  acts_now role = changed role (a ∷ l.scripted.acts role) l.scripted.acts

  abbrev hands_then : ℕ → List (List Gone)
  hands_then = hands_by w l.scripted.stands l.scripted.sweep

  -- a worker
  module _
      (role : ℕ)
      (low : role < w.layout.workers)
      (next : Stand)
      (moves : after_act w (l.scripted.stands role) a ≡ Some next)
      (added : IsAdded w role (length (l.scripted.acts role)) t new a)
    where
      abbrev stands_now : ℕ → Stand
      stands_now = changed role next l.scripted.stands

      worker_real : role < roles w
      worker_real = omega (arith, low)

      stand_begins : (r : ℕ) → Begins (passed_at (l.scripted.stands r).stage (l.scripted.stands r)) (passed_at (stands_now r).stage (stands_now r))
      stand_begins r = by_test (role == r) refl
        where
          by_test : (u : Bool) → (role == r) ≡ u
              → Begins (passed_at (l.scripted.stands r).stage (l.scripted.stands r)) (passed_at (cond u next (l.scripted.stands r)).stage (cond u next (l.scripted.stands r)))
          by_test true e = subst (λ (x : ℕ). Begins (passed_at (l.scripted.stands x).stage (l.scripted.stands x)) (passed_at next.stage next)) (same_number role r e)
              (worker_grows w (l.scripted.stands role) next a moves)
          by_test false e = ([], refl)

      worker_begins : (r : ℕ) → Begins (hands_then r) (hands_by w stands_now l.scripted.sweep r)
      worker_begins r = by_test (r == manager w)
        where
          by_test : (u : Bool) → Begins (cond u l.scripted.sweep.hands (passed_at (l.scripted.stands r).stage (l.scripted.stands r)))
              (cond u l.scripted.sweep.hands (passed_at (stands_now r).stage (stands_now r)))
          by_test true = ([], refl)
          by_test false = stand_begins r

      worker_stood : (r : ℕ) → r < w.layout.workers → stand_after w (fresh (work_of w r)) (acts_now role r) ≡ Some (stands_now r)
      worker_stood r h = by_test (role == r) refl
        where
          by_test : (u : Bool) → (role == r) ≡ u
              → stand_after w (fresh (work_of w r)) (cond u (a ∷ l.scripted.acts role) (l.scripted.acts r)) ≡ Some (cond u next (l.scripted.stands r))
          by_test true e =
              subst (λ (x : ℕ). stand_after w (fresh (work_of w x)) (a ∷ l.scripted.acts role) ≡ Some next) (same_number role r e) (ap (moved w a) (l.scripted.work role low) ∙ moves)
          by_test false e = l.scripted.work r h

      worker_first : l.scripted.acts (ender w) ≡ []
      worker_first = ⊎_elim (λ z. z) (λ o. absurd (worker_stops w (l.scripted.stands role) next a (hands_then role) (o.work role low) moves)) l.scripted.last

      worker_ender : acts_now role (ender w) ≡ []
      worker_ender = changed_other role (a ∷ l.scripted.acts role) l.scripted.acts (ender w) (below_other role (ender w) (omega (arith, low))) ∙ worker_first

      pays : (x : Act) → after_act w (l.scripted.stands role) x ≡ Some next → IsDueBy (flows_out t.pool) x
      pays (on_pool n i) e = worker_due w (l.scripted.stands role) next n i (flows_out t.pool) e
      pays (on_segments n) e = tt
      pays (on_bucket b n left) e = tt

      abbrev worker_lawful : AreLawfulSoFar w new
      worker_lawful = record {
        puts = puts_after w role (length (l.scripted.acts role)) t new a added l.puts (pays a moves);
        scripted = record {
          legal = still_legal w role (length (l.scripted.acts role)) t new a worker_real added l.scripted.legal;
          acts = acts_now role;
          own = still_own w role t new l.scripted.acts a worker_real added l.scripted.own;
          stands = stands_now;
          work = worker_stood;
          sweep = l.scripted.sweep;
          manage = ap (λ (x : List Act). swept_after w new_manager x)
              (changed_other role (a ∷ l.scripted.acts role) l.scripted.acts (manager w) (below_other role (manager w) low)) ∙ l.scripted.manage;
          served = l.scripted.served;
          not_last = l.scripted.not_last;
          were_ended = λ r h. let k = begun_longer (hands_then r) (hands_by w stands_now l.scripted.sweep r) (worker_begins r) in omega (arith, k, l.scripted.were_ended r h);
          waiting = l.scripted.waiting;
          recycle = ap (λ (x : List Gone). queue_after x (acts_now role (recycler w)))
              (first_begun (manager w + 1) hands_then (hands_by w stands_now l.scripted.sweep) l.scripted.served (λ r h. worker_begins r) l.scripted.were_ended)
              ∙ (ap (λ (x : List Act). queue_after (first_hands (manager w + 1) hands_then l.scripted.served) x)
              (changed_other role (a ∷ l.scripted.acts role) l.scripted.acts (recycler w) (below_other role (recycler w) (omega (arith, low)))) ∙ l.scripted.recycle);
          ending = to_drain w (hands_by w stands_now l.scripted.sweep);
          drain = ap (λ (x : List Act). ending_after w (to_drain w (hands_by w stands_now l.scripted.sweep)) x) worker_ender;
          last = inl worker_ender;
        };
      }

      pub worker_steps : HasStepped w t new l role a
      worker_steps = record {
        lawful = worker_lawful;
        own = changed_own role (a ∷ l.scripted.acts role) l.scripted.acts;
        others = λ r e. changed_other role (a ∷ l.scripted.acts role) l.scripted.acts r (other role r (λ z. e (sym z)));
        served = refl;
      }

  -- the manager
  module _
      (next : Sweep)
      (moves : manage w l.scripted.sweep.task l.scripted.sweep a ≡ Some next)
      (added : IsAdded w (manager w) (length (l.scripted.acts (manager w))) t new a)
    where
      manager_real : manager w < roles w
      manager_real = omega arith

      manager_begins : (r : ℕ) → Begins (hands_then r) (hands_by w l.scripted.stands next r)
      manager_begins r = by_test (r == manager w)
        where
          by_test : (u : Bool) → Begins (cond u l.scripted.sweep.hands (passed_at (l.scripted.stands r).stage (l.scripted.stands r)))
              (cond u next.hands (passed_at (l.scripted.stands r).stage (l.scripted.stands r)))
          by_test true = manager_grows w l.scripted.sweep next a moves
          by_test false = ([], refl)

      manager_first : l.scripted.acts (ender w) ≡ []
      manager_first = ⊎_elim (λ z. z) (λ o. absurd (manager_stops w l.scripted.sweep next a l.scripted.sweep.hands o.manage moves)) l.scripted.last

      manager_ender : acts_now (manager w) (ender w) ≡ []
      manager_ender = changed_other (manager w) (a ∷ l.scripted.acts (manager w)) l.scripted.acts (ender w) (below_other (manager w) (ender w) (omega arith)) ∙ manager_first

      manager_pays : (x : Act) → manage w l.scripted.sweep.task l.scripted.sweep x ≡ Some next → IsDueBy (flows_out t.pool) x
      manager_pays (on_pool n i) e = manager_due w l.scripted.sweep next n i (flows_out t.pool) e
      manager_pays (on_segments n) e = tt
      manager_pays (on_bucket b n left) e = tt

      abbrev manager_lawful : AreLawfulSoFar w new
      manager_lawful = record {
        puts = puts_after w (manager w) (length (l.scripted.acts (manager w))) t new a added l.puts (manager_pays a moves);
        scripted = record {
          legal = still_legal w (manager w) (length (l.scripted.acts (manager w))) t new a manager_real added l.scripted.legal;
          acts = acts_now (manager w);
          own = still_own w (manager w) t new l.scripted.acts a manager_real added l.scripted.own;
          stands = l.scripted.stands;
          work = λ r h. ap (λ (x : List Act). stand_after w (fresh (work_of w r)) x)
              (changed_other (manager w) (a ∷ l.scripted.acts (manager w)) l.scripted.acts r (above_other (manager w) r h)) ∙ l.scripted.work r h;
          sweep = next;
          manage = ap (λ (x : List Act). swept_after w new_manager x) (changed_own (manager w) (a ∷ l.scripted.acts (manager w)) l.scripted.acts)
              ∙ (ap (managed w a) l.scripted.manage ∙ moves);
          served = l.scripted.served;
          not_last = l.scripted.not_last;
          were_ended = λ r h. let k = begun_longer (hands_then r) (hands_by w l.scripted.stands next r) (manager_begins r) in omega (arith, k, l.scripted.were_ended r h);
          waiting = l.scripted.waiting;
          recycle = ap (λ (x : List Gone). queue_after x (acts_now (manager w) (recycler w)))
              (first_begun (manager w + 1) hands_then (hands_by w l.scripted.stands next) l.scripted.served (λ r h. manager_begins r) l.scripted.were_ended)
              ∙ (ap (λ (x : List Act). queue_after (first_hands (manager w + 1) hands_then l.scripted.served) x)
              (changed_other (manager w) (a ∷ l.scripted.acts (manager w)) l.scripted.acts (recycler w) (below_other (manager w) (recycler w) (omega arith))) ∙ l.scripted.recycle);
          ending = to_drain w (hands_by w l.scripted.stands next);
          drain = ap (λ (x : List Act). ending_after w (to_drain w (hands_by w l.scripted.stands next)) x) manager_ender;
          last = inl manager_ender;
        };
      }

      pub manager_steps : HasStepped w t new l (manager w) a
      manager_steps = record {
        lawful = manager_lawful;
        own = changed_own (manager w) (a ∷ l.scripted.acts (manager w)) l.scripted.acts;
        others = λ r e. changed_other (manager w) (a ∷ l.scripted.acts (manager w)) l.scripted.acts r (other (manager w) r (λ z. e (sym z)));
        served = refl;
      }

  -- the recycler
  module _ (next : List Gone) (moves : serve l.scripted.waiting a ≡ Some next) (added : IsAdded w (recycler w) (length (l.scripted.acts (recycler w))) t new a) where
    recycler_real : recycler w < roles w
    recycler_real = omega arith

    recycler_first : l.scripted.acts (ender w) ≡ []
    recycler_first = ⊎_elim (λ z. z) (λ o. absurd (recycler_stops l.scripted.waiting a next o.none_waits moves)) l.scripted.last

    others_stay : (r : ℕ) → (recycler w == r) ≡ false → acts_now (recycler w) r ≡ l.scripted.acts r
    others_stay r h = changed_other (recycler w) (a ∷ l.scripted.acts (recycler w)) l.scripted.acts r h

    recycler_pays : (x : Act) → serve l.scripted.waiting x ≡ Some next → IsDueBy (flows_out t.pool) x
    recycler_pays (on_pool n i) e = recycler_due w t l.scripted n i next l.puts recycler_first e
    recycler_pays (on_segments n) e = tt
    recycler_pays (on_bucket b n left) e = tt

    abbrev recycler_lawful : AreLawfulSoFar w new
    recycler_lawful = record {
      puts = puts_after w (recycler w) (length (l.scripted.acts (recycler w))) t new a added l.puts (recycler_pays a moves);
      scripted = record {
        legal = still_legal w (recycler w) (length (l.scripted.acts (recycler w))) t new a recycler_real added l.scripted.legal;
        acts = acts_now (recycler w);
        own = still_own w (recycler w) t new l.scripted.acts a recycler_real added l.scripted.own;
        stands = l.scripted.stands;
        work = λ r h. ap (λ (x : List Act). stand_after w (fresh (work_of w r)) x) (others_stay r (above_other (recycler w) r (omega (arith, h)))) ∙ l.scripted.work r h;
        sweep = l.scripted.sweep;
        manage = ap (λ (x : List Act). swept_after w new_manager x) (others_stay (manager w) (above_other (recycler w) (manager w) (omega arith))) ∙ l.scripted.manage;
        served = l.scripted.served;
        not_last = l.scripted.not_last;
        were_ended = l.scripted.were_ended;
        waiting = next;
        recycle = ap (λ (x : List Act). queue_after (first_hands (manager w + 1) hands_then l.scripted.served) x)
            (changed_own (recycler w) (a ∷ l.scripted.acts (recycler w)) l.scripted.acts) ∙ (ap (served a) l.scripted.recycle ∙ moves);
        ending = l.scripted.ending;
        drain = ap (λ (x : List Act). ending_after w (to_drain w hands_then) x) (others_stay (ender w) (below_other (recycler w) (ender w) (omega arith))) ∙ l.scripted.drain;
        last = inl (others_stay (ender w) (below_other (recycler w) (ender w) (omega arith)) ∙ recycler_first);
      };
    }

    pub recycler_steps : HasStepped w t new l (recycler w) a
    recycler_steps = record {
      lawful = recycler_lawful;
      own = changed_own (recycler w) (a ∷ l.scripted.acts (recycler w)) l.scripted.acts;
      others = λ r e. changed_other (recycler w) (a ∷ l.scripted.acts (recycler w)) l.scripted.acts r (other (recycler w) r (λ z. e (sym z)));
      served = refl;
    }

  -- the end role
  module _
      (next : Ending)
      (others : OthersEnded w l.scripted.stands l.scripted.sweep l.scripted.served l.scripted.waiting)
      (moves : end_on w l.scripted.ending.queue l.scripted.ending a ≡ Some next)
      (added : IsAdded w (ender w) (length (l.scripted.acts (ender w))) t new a)
    where
      ender_real : ender w < roles w
      ender_real = omega arith

      rest_stay : (r : ℕ) → (ender w == r) ≡ false → acts_now (ender w) r ≡ l.scripted.acts r
      rest_stay r h = changed_other (ender w) (a ∷ l.scripted.acts (ender w)) l.scripted.acts r h

      ender_pays : (x : Act) → end_on w l.scripted.ending.queue l.scripted.ending x ≡ Some next → IsDueBy (flows_out t.pool) x
      ender_pays (on_pool n i) e = end_due w t l.scripted n i next l.puts others e
      ender_pays (on_segments n) e = tt
      ender_pays (on_bucket b n left) e = tt

      abbrev ender_lawful : AreLawfulSoFar w new
      ender_lawful = record {
        puts = puts_after w (ender w) (length (l.scripted.acts (ender w))) t new a added l.puts (ender_pays a moves);
        scripted = record {
          legal = still_legal w (ender w) (length (l.scripted.acts (ender w))) t new a ender_real added l.scripted.legal;
          acts = acts_now (ender w);
          own = still_own w (ender w) t new l.scripted.acts a ender_real added l.scripted.own;
          stands = l.scripted.stands;
          work = λ r h. ap (λ (x : List Act). stand_after w (fresh (work_of w r)) x) (rest_stay r (above_other (ender w) r (omega (arith, h)))) ∙ l.scripted.work r h;
          sweep = l.scripted.sweep;
          manage = ap (λ (x : List Act). swept_after w new_manager x) (rest_stay (manager w) (above_other (ender w) (manager w) (omega arith))) ∙ l.scripted.manage;
          served = l.scripted.served;
          not_last = l.scripted.not_last;
          were_ended = l.scripted.were_ended;
          waiting = l.scripted.waiting;
          recycle = ap (λ (x : List Act). queue_after (first_hands (manager w + 1) hands_then l.scripted.served) x)
              (rest_stay (recycler w) (above_other (ender w) (recycler w) (omega arith))) ∙ l.scripted.recycle;
          ending = next;
          drain = ap (λ (x : List Act). ending_after w (to_drain w hands_then) x) (changed_own (ender w) (a ∷ l.scripted.acts (ender w)) l.scripted.acts)
              ∙ (ap (ended_on w a) l.scripted.drain ∙ moves);
          last = inr others;
        };
      }

      pub ender_steps : HasStepped w t new l (ender w) a
      ender_steps = record {
        lawful = ender_lawful;
        own = changed_own (ender w) (a ∷ l.scripted.acts (ender w)) l.scripted.acts;
        others = λ r e. changed_other (ender w) (a ∷ l.scripted.acts (ender w)) l.scripted.acts r (other (ender w) r (λ z. e (sym z)));
        served = refl;
      }

-- one round more comes to the recycler: it waits behind what waited, and the end role has not begun, since this round isn't the last

module _ (w : Setup) (t : Histories) (l : AreLawfulSoFar w t) (m : MayPass w t l) where
  abbrev hands_of_all : ℕ → List (List Gone)
  hands_of_all = hands_by w l.scripted.stands l.scripted.sweep

  abbrev more_waits : List Gone
  more_waits = l.scripted.waiting ++ round_hands (manager w + 1) hands_of_all l.scripted.served

  queue_passed : queue_after (first_hands (manager w + 1) hands_of_all (l.scripted.served + 1)) (l.scripted.acts (recycler w)) ≡ Some more_waits
  queue_passed =
      let e : l.scripted.served + 1 ≡ suc l.scripted.served = omega arith in
      ap (λ (k : ℕ). queue_after (first_hands (manager w + 1) hands_of_all k) (l.scripted.acts (recycler w))) e
      ∙ queue_longer (first_hands (manager w + 1) hands_of_all l.scripted.served) (round_hands (manager w + 1) hands_of_all l.scripted.served) l.scripted.waiting
      (l.scripted.acts (recycler w)) l.scripted.recycle

  unbegun : l.scripted.acts (ender w) ≡ []
  unbegun = ⊎_elim (λ z. z) (λ o. absurd (omega (arith, o.all_served, m.not_last))) l.scripted.last

  abbrev passed_lawful : AreLawfulSoFar w t
  passed_lawful = record {
    puts = l.puts;
    scripted = record {
      legal = l.scripted.legal;
      acts = l.scripted.acts;
      own = l.scripted.own;
      stands = l.scripted.stands;
      work = l.scripted.work;
      sweep = l.scripted.sweep;
      manage = l.scripted.manage;
      served = l.scripted.served + 1;
      not_last = m.not_last;
      were_ended = m.ended;
      waiting = more_waits;
      recycle = queue_passed;
      ending = l.scripted.ending;
      drain = l.scripted.drain;
      last = inl unbegun;
    };
  }

  pub round_passes : HasPassed w t l
  round_passes = record { lawful = passed_lawful; served = refl; waiting = refl; acts = refl; stands = refl; sweep = refl }
