-- A batch begins by a reading of the mode, and ends where the next one begins; so the batches of a round follow one another.
use Rattle.std.proofs.Common.{◌≡◌, ℕ, ◌+◌, ◌<◌, ◌^◌, Bool, List, [], ◌∷◌, ◌++◌, length, reverse, Some, refl, sym, ◌∙◌, ap, subst, arith, append_assoc}
use Rattle.bucket_laws.specs.Leaving.{Gone}
use Rattle.flow_pool.specs.Pool.{FlowPoolAnswers, setting_of}
use Rattle.flow_pool.specs.declared.calls.PoolCall.TheVariants as poolcall
use Rattle.flow_pool.specs.declared.calls.PoolReply.TheVariants as poolreply
use Rattle.flow_worker.specs.Batching.{DidBatch, IsBetween, MayBegin, MayPass, GoesTo, is_begun, is_looked}
use Rattle.flow_worker.specs.Standing.{IsAt}
use Rattle.flow_worker.proofs.Moving.{moves_through}
use Rattle.flow_worker.proofs.Short.{few_acts}
use Rattle.flow_worker.proofs.Words.{finished_append, nil_end}
use Rattle.hist_lock.specs.Locks.{made_with, seen_by}
use Rattle.role_steps.specs.Calls.{CalledPool}
use Rattle.role_steps.specs.Items.{Items, LinesOf}
use Rattle.role_steps.specs.Roles.{Acted, number_of, seen, setup_of}
use Rattle.role_steps.specs.declared.roles.Passes.{Passes}
use Rattle.role_steps.specs.declared.roles.Shared.{Shared}
use Rattle.role_steps.specs.declared.roles.Worker.{Worker}
use Rattle.role_steps.proofs.LettingGo.{items_grow}
use Rattle.role_steps.proofs.Stepping.{acted_pool, acted_through}
use Rattle.run_rules.specs.Acts.{Act, AreActs, on_pool}
use Rattle.run_rules.specs.Serving.{finished}
use Rattle.run_rules.specs.Setup.{work_of}
use Rattle.run_rules.specs.Worker.{Stage, Stand, between, closing, fresh, held_at, look_on, moved, pool_step, stand_after}
use Rattle.suri_base.specs.declared.entry.PoolNote.{PoolNote}
use Rattle.suri_base.specs.declared.entry.PoolNote.TheVariants.{Mode}

noted_mode : (s : _) (past : _) (role : ℕ) (b : Bool) (said : PoolNote) → FlowPoolAnswers s past role poolcall.Mode (poolreply.On b) said → said ≡ Mode b
noted_mode s past role b said h = h.1 ∙ ap Mode (sym h.0)

-- a reading of the mode is an act
pub mode_read : (s : Shared) (old new : Passes) (b : Bool) (n : ℕ) → CalledPool s old new poolcall.Mode (poolreply.On b) → n ≡ length (seen_by new.pool)
    → Acted s old new (on_pool (Mode b) n ∷ [])
mode_read s old new b n c is =
    let at : length c.stepped.before + 1 ≡ n = sym (is ∙ (ap length c.stepped.pool ∙ omega arith)) in
    subst (λ (a : Act). Acted s old new (a ∷ []))
    (c.stepped.is ∙ (ap (λ (m : PoolNote). on_pool m (length c.stepped.before + 1)) (noted_mode (setting_of (made_with s.pool)) c.stepped.before (number_of old) b c.note c.answer)
    ∙ ap (λ (i : ℕ). on_pool (Mode b) i) at))
    (acted_pool s old new poolcall.Mode (poolreply.On b) c)

-- where a batch begins
abbrev pub at_batch : List ℕ → List (List ℕ) → List (List (List ℕ)) → List Gone → List (List Gone) → Bool → ℕ → Stand
at_batch fs batches later hand hands e n = record { stage = look_on fs fs; batch = fs; emergency = e; seen = n; rounds = batches ∷ later; hand = hand; hands = hands }

module _ (s : Shared) where
  pub few_between : (k : Worker) (before : List Act) (batches : List (List ℕ)) (later : List (List (List ℕ))) (hand : List Gone) (hands : List (List Gone))
      → IsBetween s k before batches later hand hands
      → k.passes.step + 1 < 2 ^ 36
  few_between k before batches later hand hands is = omega (arith, is.step, few_acts (setup_of s) (number_of k.passes) is.setup before is.stand is.stood)

  pub begun_at : (old new : Worker) (before : List Act) (fs : List ℕ) (batches : List (List ℕ)) (later : List (List (List ℕ))) (hand : List Gone) (hands : List (List Gone)) (e : Bool) (n : ℕ)
      → IsBetween s old before (fs ∷ batches) later hand hands → Acted s old.passes new.passes (on_pool (Mode e) n ∷ []) → new.hand ≡ old.hand
      → IsAt s new (on_pool (Mode e) n ∷ before) (at_batch fs batches later hand hands e n)
  begun_at old new before fs batches later hand hands e n is a same =
      let w = setup_of s in
      let stood : stand_after w (fresh (work_of w (number_of old.passes))) (on_pool (Mode e) n ∷ before) ≡ Some (at_batch fs batches later hand hands e n) =
      ap (moved w (on_pool (Mode e) n)) is.stood ∙ (ap (λ (p : Stage). pool_step w p is.stand (Mode e) n) is.stage ∙ is.next e n) in
      record {
        setup = is.setup;
        fits = a.fits;
        worker = subst (λ (r : ℕ). r < s.layout.workers) (sym a.number) is.worker;
        step = omega (arith, is.step, a.step);
        own = subst (λ (r : ℕ). AreActs w (seen new.passes) r (on_pool (Mode e) n ∷ before)) (sym a.number) (a.own before is.step is.own);
        stood = subst (λ (r : ℕ). stand_after w (fresh (work_of w r)) (on_pool (Mode e) n ∷ before) ≡ Some (at_batch fs batches later hand hands e n)) (sym a.number) stood;
        hand = subst (λ h. Items w (seen new.passes) hand h.items) (sym same) (items_grow w (seen old.passes) (seen new.passes) a.grown hand old.hand.items is.items);
      }

  -- the batch may be looked up
  pub may_look_all : (old new : Worker) (fs : List ℕ) (e : Bool) (n : ℕ) → MayBegin s old fs → Acted s old.passes new.passes (on_pool (Mode e) n ∷ []) → new.hand ≡ old.hand
      → MayPass s new (is_begun fs e n)
  may_look_all old new fs e n m a same = record {
    before = on_pool (Mode e) n ∷ m.before;
    stand = at_batch fs m.batches m.later m.hand m.hands e n;
    is = begun_at old new m.before fs m.batches m.later m.hand m.hands e n m.is a same;
    there = record { stage = refl; batch = refl; mode = refl; read = refl };
  }

  -- and then closed
  pub may_close_all : (a b : Worker) (fs : List ℕ) (e : Bool) (n : ℕ) → MayPass s a (is_begun fs e n) → GoesTo s a b (is_begun fs e n) (closing fs) → MayPass s b (is_looked fs)
  may_close_all a b fs e n m p = let g = p m.before m.stand m.is m.there in record { before = g.1.now ++ m.before; stand = held_at (closing fs) g.1.hand m.stand; is = g.1.is; there = refl }

  pub did_batch : (old mid looked new : Worker) (fs : List ℕ) (e : Bool) (n : ℕ) → Acted s old.passes mid.passes (on_pool (Mode e) n ∷ []) → mid.hand ≡ old.hand → mid.lines ≡ old.lines
      → GoesTo s mid looked (is_begun fs e n) (closing fs) → GoesTo s looked new (is_looked fs) between → DidBatch s old new fs
  did_batch old mid looked new fs e n a same lines look close = λ before batches later hand hands is.
      let w = setup_of s in
      let mode = on_pool (Mode e) n in
      let st = at_batch fs batches later hand hands e n in
      let at = begun_at old mid before fs batches later hand hands e n is a same in
      let g = look (mode ∷ before) st at (record { stage = refl; batch = refl; mode = refl; read = refl }) in
      let h = close (g.1.now ++ mode ∷ before) (held_at (closing fs) g.1.hand st) g.1.is refl in
      let m = moves_through s mid looked new (mode ∷ before) st (closing fs) between g.0 h.0 g.1 h.1 in
      let done : finished (m.now ++ mode ∷ []) ≡ finished m.now = finished_append m.now (mode ∷ []) ∙ nil_end (finished m.now) in
      record {
        now = m.now ++ mode ∷ [];
        acted = acted_through s old.passes mid.passes new.passes (mode ∷ []) m.now a m.acted;
        lines = m.lines;
        grew = m.grew ∙ ap (λ l. l.items ++ m.lines) lines;
        told = subst (λ (x : List ℕ). LinesOf w (seen new.passes) (reverse x) m.lines) (sym done) m.told;
        hand = m.hand;
        is = subst (λ (x : List Act). IsBetween s new x batches later m.hand hands) (sym (append_assoc m.now (mode ∷ []) before))
            (record {
              setup = m.is.setup;
              fits = m.is.fits;
              worker = m.is.worker;
              step = m.is.step;
              own = m.is.own;
              stand = held_at between m.hand st;
              stood = m.is.stood;
              stage = refl;
              next = λ e n. refl;
              over = refl;
              items = m.is.hand;
            });
      }
