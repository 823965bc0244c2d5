-- What a round makes of a role: by more acts of its script it ended the round, and has just the flows in its hand that its script says, and the lines
-- of all runs that it finished. Then it meets the others and hands its hand on, and all of that stays so over the longer histories.
use Rattle.std.proofs.Common.{◌≡◌, ℕ, suc, ◌+◌, ◌-◌, ◌<◌, false, List, [], ◌∷◌, ◌++◌, length, reverse, Some, refl, sym, ◌∙◌, ap, subst, arith, length-append}
use Rattle.std.proofs.lemmas.List.{reverse-append}
use Rattle.bucket_laws.specs.Leaving.{Gone, runs}
use Rattle.flow_manager.specs.Sweeping.{SweptAll}
use Rattle.flow_object.specs.Ending.{EndedFlow}
use Rattle.flow_object.specs.declared.outcome.FlowLine.{FlowLine}
use Rattle.flow_worker.proofs.Moving.{lines_grow}
use Rattle.flow_worker.proofs.Words.{finished_append, pairs_append}
use Rattle.flow_worker.specs.Working.{Worked}
use Rattle.recycler.specs.Recycling.{Recycled}
use Rattle.role_meets.specs.Meets.{Informed}
use Rattle.role_meets.specs.Parts.{hand_of, kind_at, kind_of, lines_of, passes_in, passes_of, waiting_of}
use Rattle.role_meets.specs.declared.roles.Part.{Part}
use Rattle.role_meets.specs.declared.roles.Part.TheVariants.{Work, Manage, Recycle}
use Rattle.role_meets.specs.declared.roles.Role.{Role}
use Rattle.role_steps.proofs.LettingGo.{items_grow}
use Rattle.role_steps.specs.Items.{IsLine, Items, LinesOf}
use Rattle.role_steps.specs.Roles.{Fits, number_of, seen, setup_of}
use Rattle.role_steps.specs.declared.roles.Manager.{Manager}
use Rattle.role_steps.specs.declared.roles.Passes.{Passes}
use Rattle.role_steps.specs.declared.roles.Recycler.{Recycler}
use Rattle.role_steps.specs.declared.roles.Shared.{Shared}
use Rattle.role_steps.specs.declared.roles.Worker.{Worker}
use Rattle.round_laws.proofs.Resting.{RestsPart, has_swept, has_worked, is_queue, manager_at, recycler_at, worker_low}
use Rattle.round_laws.proofs.Sweeps.{sweeps_finish_none}
use Rattle.round_laws.specs.Between.{IsLaidOut, Rests}
use Rattle.round_laws.specs.Playing.{IsHandedOn, Played}
use Rattle.run_laws.specs.RoundEnd.{IsRoundEnd, next_queue}
use Rattle.run_rules.specs.Acts.{Act, AreActs}
use Rattle.run_rules.specs.Growing.{HasGrown}
use Rattle.run_rules.specs.Histories.{Histories}
use Rattle.run_rules.specs.Lawful.{waited}
use Rattle.run_rules.specs.Rounds.{EndedRounds, SweptRounds}
use Rattle.run_rules.specs.Serving.{finished, queue_after}
use Rattle.run_rules.specs.Setup.{Setup, manager, recycler}

-- the lines of the runs that were finished before, and of those that are finished now
lines_more : (w : Setup) (t u : Histories) → HasGrown t u → (acts now : List Act) (old more new : List FlowLine) → LinesOf w t (reverse (finished acts)) old
    → LinesOf w u (reverse (finished now)) more → new ≡ old ++ more → LinesOf w u (reverse (finished (now ++ acts))) new
lines_more w t u grown acts now old more new was told grew =
    subst (λ (l : List FlowLine). LinesOf w u (reverse (finished (now ++ acts))) l) (sym grew)
    (subst (λ (x : List ℕ). LinesOf w u x (old ++ more)) (sym (ap reverse (finished_append now acts) ∙ reverse-append (finished now) (finished acts)))
    (pairs_append (λ x l. IsLine w u x l) (reverse (finished acts)) (reverse (finished now)) old more (lines_grow w t u grown (reverse (finished acts)) old was) told))

-- the role went on by these acts; its script left this in its hand
pub record Stepped (s : Shared) (t : Histories) (round k : ℕ) (acts : List Act) (hands : List (List Gone)) (came : List Gone) (p : Part) (now : List Act) (left : List Gone) : Type 0 where
  pub number : number_of (passes_in p) ≡ k
  pub kind : kind_of p ≡ kind_at s.layout.workers k
  pub own : AreActs (setup_of s) (seen (passes_in p)) k (now ++ acts)
  pub step : length (now ++ acts) ≡ (passes_in p).step
  pub items : Items (setup_of s) (seen (passes_in p)) left (hand_of p)
  pub lines : LinesOf (setup_of s) (seen (passes_in p)) (reverse (finished (now ++ acts))) (lines_of p)
  pub work : k < s.layout.workers → EndedRounds (setup_of s) k (suc round) (now ++ acts) (left ∷ hands)
  pub manage : k ≡ manager (setup_of s) → SweptRounds (setup_of s) (suc round) (now ++ acts) (left ∷ hands)
  pub recycle : k ≡ recycler (setup_of s) → (queue_after came (now ++ acts) ≡ Some []) × (left ≡ [])

module _ (s : Shared) (laid : IsLaidOut s) (t : Histories) (round : ℕ) (at : IsRoundEnd (setup_of s) t round) where
  abbrev queue : List Gone
  queue = next_queue (setup_of s) at.hands

  abbrev pub came : List Gone
  came = waited (manager (setup_of s) + 1) at.hands (round - 1) ++ queue

  abbrev pub Steps : ℕ → Part → List Act → List Gone → Type 0
  Steps k p now left = Stepped s t round k (at.acts k) (at.hands k) came p now left

  worked : (k : ℕ) (a b : Worker) → RestsPart s t k (at.acts k) (Work a) → Worked s a b round → (x : List Act × List Gone) × Steps k (Work b) x.0 x.1
  worked k a b r played =
      let h = has_worked s laid t round at k a r in
      let y = played (at.acts k) (at.hands k) h in
      let low = worker_low s laid t round at k a r in (
        (y.now, y.left),
        record {
          number = y.acted.number ∙ r.number;
          kind = r.kind;
          own = subst (λ (n : ℕ). AreActs (setup_of s) (seen b.passes) n (y.now ++ at.acts k)) r.number (y.acted.own (at.acts k) h.step h.own);
          step = omega (arith, length-append y.now (at.acts k), y.acted.step, r.step);
          items = y.items;
          lines = lines_more (setup_of s) t (seen b.passes) (subst (λ (x : Histories). HasGrown x (seen b.passes)) r.knows y.acted.grown) (at.acts k) y.now a.lines.items y.lines b.lines.items
              r.lines y.told y.grew;
          work = λ l. subst (λ (n : ℕ). EndedRounds (setup_of s) n (suc round) (y.now ++ at.acts k) (y.left ∷ at.hands k)) r.number y.ended;
          manage = λ e. absurd (omega (arith, low, e));
          recycle = λ e. absurd (omega (arith, low, e));
        },
      )

  swept : (k : ℕ) (a b : Manager) → RestsPart s t k (at.acts k) (Manage a) → SweptAll s a b round → (x : List Act × List Gone) × Steps k (Manage b) x.0 x.1
  swept k a b r y =
      let h = has_swept s laid t round at k a r in
      let here = manager_at s laid t round at k a r in
      let after = y.after (at.acts k) (at.hands k) h in (
        (y.now, y.left),
        record {
          number = y.number ∙ r.number;
          kind = r.kind;
          own = subst (λ (n : ℕ). AreActs (setup_of s) (seen b.passes) n (y.now ++ at.acts k)) r.number after.own;
          step = omega (arith, length-append y.now (at.acts k), y.step, r.step);
          items = y.items;
          lines = subst (λ (x : List ℕ). LinesOf (setup_of s) (seen b.passes) (reverse x) [])
              (sym (sweeps_finish_none (setup_of s) (suc round) (y.now ++ at.acts k) (y.left ∷ at.hands k) after.stands)) tt;
          work = λ l. absurd (omega (arith, l, here));
          manage = λ e. after.stands;
          recycle = λ e. absurd (omega (arith, here, e));
        },
      )

  recycled : (k : ℕ) (a b : Recycler) → k < s.layout.workers + 2 → RestsPart s t k (at.acts k) (Recycle a) → Items (setup_of s) t queue a.waiting.items → Recycled s a b
      → (x : List Act × List Gone) × Steps k (Recycle b) x.0 x.1
  recycled k a b real r items y =
      let q = is_queue s laid t round at k a real r items in
      let here = recycler_at s laid t round at k a real r in
      let o = y.over t (at.acts k) (waited (manager (setup_of s) + 1) at.hands (round - 1)) queue q in
      let grown = subst (λ (x : Histories). HasGrown x (seen b.passes)) r.knows y.grown in
      let none : List Gone = [] in (
        (y.now, none),
        record {
          number = y.number ∙ r.number;
          kind = r.kind;
          own = subst (λ (n : ℕ). AreActs (setup_of s) (seen b.passes) n (y.now ++ at.acts k)) r.number o.own;
          step = omega (arith, length-append y.now (at.acts k), y.step, r.step);
          items = tt;
          lines = lines_more (setup_of s) t (seen b.passes) grown (at.acts k) y.now a.lines.items o.lines b.lines.items r.lines
              (subst (λ (x : List ℕ). LinesOf (setup_of s) (seen b.passes) x o.lines) (sym o.finished) (lines_grow (setup_of s) t (seen b.passes) grown (runs queue) o.lines o.told)) o.grew;
          work = λ l. absurd (omega (arith, l, here));
          manage = λ e. absurd (omega (arith, here, e));
          recycle = λ e. (o.emptied, refl);
        },
      )

  pub stepped : (k : ℕ) (p q : Part) → k < s.layout.workers + 2 → RestsPart s t k (at.acts k) p → (k ≡ recycler (setup_of s) → Items (setup_of s) t queue (waiting_of p)) → Played s round p q
      → (x : List Act × List Gone) × Steps k q x.0 x.1
  stepped k (Work a) (Work b) real r items played = worked k a b r played
  stepped k (Manage a) (Manage b) real r items played = swept k a b r played
  stepped k (Recycle a) (Recycle b) real r items played = recycled k a b real r (items (recycler_at s laid t round at k a real r)) played.0
  stepped k (Work a) (Manage b) real r items played = absurd played
  stepped k (Work a) (Recycle b) real r items played = absurd played
  stepped k (Manage a) (Work b) real r items played = absurd played
  stepped k (Manage a) (Recycle b) real r items played = absurd played
  stepped k (Recycle a) (Work b) real r items played = absurd played
  stepped k (Recycle a) (Manage b) real r items played = absurd played

-- after it met the others and handed its hand on
module _ (s : Shared) (t u : Histories) (round k : ℕ) (acts : List Act) (hands : List (List Gone)) (came : List Gone) (old mid : Role) (now : List Act) (left : List Gone)
    (y : Stepped s t round k acts hands came old.part now left) (i : Informed s u old mid) where
  grown_on : HasGrown (seen (passes_of old)) u
  grown_on = subst (λ (x : Histories). HasGrown (seen (passes_of old)) x) i.knows i.grown.grown

  own_on : AreActs (setup_of s) u k (now ++ acts)
  own_on =
      subst (λ (x : Histories). AreActs (setup_of s) x k (now ++ acts)) i.knows
      (subst (λ (n : ℕ). AreActs (setup_of s) (seen (passes_of mid)) n (now ++ acts)) y.number
      (i.grown.acts (now ++ acts) (subst (λ (n : ℕ). AreActs (setup_of s) (seen (passes_of old)) n (now ++ acts)) (sym y.number) y.own)))

  pub items_on : Items (setup_of s) u left (hand_of mid.part)
  items_on = subst (λ (l : List EndedFlow). Items (setup_of s) u left l) (sym i.same.hand) (items_grow (setup_of s) (seen (passes_of old)) u grown_on left (hand_of old.part) y.items)

  pub rests_on : (queue : List EndedFlow) (new : Role) → IsHandedOn queue mid new → old.failed ≡ false → Rests s u k (now ++ acts) new
  rests_on whole new h well = record {
    fits = subst (λ (p : Passes). Fits s p) (sym h.passes) i.grown.fits;
    number = ap number_of h.passes ∙ (i.grown.number ∙ y.number);
    kind = h.kind ∙ (i.same.kind ∙ y.kind);
    knows = ap seen h.passes ∙ i.knows;
    own = own_on;
    step = y.step ∙ (sym i.grown.step ∙ sym (ap (λ (p : Passes). p.step) h.passes));
    hand = h.hand;
    lines = subst (λ (l : List FlowLine). LinesOf (setup_of s) u (reverse (finished (now ++ acts))) l) (sym (h.lines ∙ i.same.lines))
        (lines_grow (setup_of s) (seen (passes_of old)) u grown_on (reverse (finished (now ++ acts))) (lines_of old.part) y.lines);
    well = h.failed ∙ (i.same.failed ∙ well);
  }
