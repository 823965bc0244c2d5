-- What is said of a role between two rounds, said of its part; and that its acts are those over what it has seen itself, since that is the common
-- histories. So each role may begin a round.
use Rattle.std.proofs.Common.{◌≡◌, ℕ, ◌+◌, ◌-◌, ◌<◌, List, [], length, reverse, Some, sym, ◌∙◌, ap, subst, arith}
use Rattle.flow_manager.specs.Sweeping.{HasSwept}
use Rattle.flow_worker.specs.Working.{HasWorked}
use Rattle.lock_rows.proofs.Placed.{pairs_length}
use Rattle.recycler.specs.Recycling.{IsQueue}
use Rattle.role_meets.specs.Parts.{hand_of, kind_at, kind_of, lines_of, passes_in, waiting_of}
use Rattle.role_meets.specs.declared.roles.Part.{Part}
use Rattle.role_meets.specs.declared.roles.Part.TheVariants.{Work, Manage, Recycle}
use Rattle.role_meets.specs.declared.roles.Role.{Role}
use Rattle.role_steps.specs.Items.{IsItem, Items, LinesOf}
use Rattle.role_steps.specs.Roles.{Fits, number_of, seen, setup_of}
use Rattle.role_steps.specs.declared.roles.Manager.{Manager}
use Rattle.role_steps.specs.declared.roles.Passes.{Passes}
use Rattle.role_steps.specs.declared.roles.Recycler.{Recycler}
use Rattle.role_steps.specs.declared.roles.Shared.{Shared}
use Rattle.role_steps.specs.declared.roles.Worker.{Worker}
use Rattle.round_laws.proofs.Few.{recycler_few}
use Rattle.round_laws.proofs.Parts.{is_manager, is_recycler, is_worker}
use Rattle.round_laws.proofs.Seen.{own_choice}
use Rattle.round_laws.proofs.Sweeps.{sweeps_few}
use Rattle.round_laws.specs.Between.{IsLaidOut, Rests}
use Rattle.round_laws.specs.Playing.{MayPlay}
use Rattle.run_laws.specs.RoundEnd.{IsRoundEnd, next_queue}
use Rattle.run_rules.specs.Acts.{Act, AreActs}
use Rattle.run_rules.specs.Histories.{Histories}
use Rattle.run_rules.specs.Lawful.{PutsAreDue, waited}
use Rattle.run_rules.specs.Rounds.{EndedRounds, SweptRounds}
use Rattle.run_rules.specs.Serving.{finished, queue_after}
use Rattle.run_rules.specs.Setup.{manager, recycler, rounds}

pub record RestsPart (s : Shared) (t : Histories) (k : ℕ) (acts : List Act) (p : Part) : Type 0 where
  pub fits : Fits s (passes_in p)
  pub number : number_of (passes_in p) ≡ k
  pub kind : kind_of p ≡ kind_at s.layout.workers k
  pub knows : seen (passes_in p) ≡ t
  pub own : AreActs (setup_of s) t k acts
  pub step : length acts ≡ (passes_in p).step
  pub hand : hand_of p ≡ []
  pub lines : LinesOf (setup_of s) t (reverse (finished acts)) (lines_of p)

pub rests_part : (s : Shared) (t : Histories) (k : ℕ) (acts : List Act) (r : Role) → Rests s t k acts r → RestsPart s t k acts r.part
rests_part s t k acts r x = record { fits = x.fits; number = x.number; kind = x.kind; knows = x.knows; own = x.own; step = x.step; hand = x.hand; lines = x.lines }

-- the role's acts, over what it has seen
own_seen : (s : Shared) (p : Passes) (t : Histories) (k : ℕ) (acts : List Act) → seen p ≡ t → number_of p ≡ k → AreActs (setup_of s) t k acts
    → AreActs (setup_of s) (seen p) (number_of p) acts
own_seen s p t k acts knows number a =
    subst (λ (h : Histories). AreActs (setup_of s) h (number_of p) acts) (sym knows) (subst (λ (r : ℕ). AreActs (setup_of s) t r acts) (sym number) a)

module _ (s : Shared) (laid : IsLaidOut s) (t : Histories) (round : ℕ) (at : IsRoundEnd (setup_of s) t round) where
  -- a worker

  pub worker_low : (k : ℕ) (a : Worker) → RestsPart s t k (at.acts k) (Work a) → k < s.layout.workers
  worker_low k a r = is_worker s.layout.workers k r.kind

  pub has_worked : (k : ℕ) (a : Worker) → RestsPart s t k (at.acts k) (Work a) → HasWorked s a round (at.acts k) (at.hands k)
  has_worked k a r = record {
    own = own_seen s a.passes t k (at.acts k) r.knows r.number r.own;
    step = r.step;
    ended = subst (λ (n : ℕ). EndedRounds (setup_of s) n round (at.acts k) (at.hands k)) (sym r.number) (at.work k (worker_low k a r));
  }

  -- the manager

  pub manager_at : (k : ℕ) (a : Manager) → RestsPart s t k (at.acts k) (Manage a) → k ≡ manager (setup_of s)
  manager_at k a r = is_manager s.layout.workers k r.kind

  pub has_swept : (k : ℕ) (a : Manager) → RestsPart s t k (at.acts k) (Manage a) → HasSwept s a round (at.acts k) (at.hands k)
  has_swept k a r = record {
    own = own_seen s a.passes t k (at.acts k) r.knows r.number r.own;
    step = r.step;
    stands = subst (λ (n : ℕ). SweptRounds (setup_of s) round (at.acts n) (at.hands n)) (sym (manager_at k a r)) at.manage;
  }

  -- the recycler

  pub recycler_at : (k : ℕ) (a : Recycler) → k < s.layout.workers + 2 → RestsPart s t k (at.acts k) (Recycle a) → k ≡ recycler (setup_of s)
  recycler_at k a real r = is_recycler s.layout.workers k r.kind real

  pub is_queue : (k : ℕ) (a : Recycler) → k < s.layout.workers + 2 → RestsPart s t k (at.acts k) (Recycle a)
      → Items (setup_of s) t (next_queue (setup_of s) at.hands) a.waiting.items
      → IsQueue s a t (at.acts k) (waited (manager (setup_of s) + 1) at.hands (round - 1)) (next_queue (setup_of s) at.hands)
  is_queue k a real r items = record {
    choice = own_choice s a.passes t laid.shared r.fits r.knows;
    own = own_seen s a.passes t k (at.acts k) r.knows r.number r.own;
    step = r.step;
    served = subst (λ (n : ℕ). queue_after (waited (manager (setup_of s) + 1) at.hands (round - 1)) (at.acts n) ≡ Some []) (sym (recycler_at k a real r)) at.recycle;
    items = items;
  }

  -- each may begin the round
  pub may_play : round < rounds (setup_of s) → PutsAreDue t.pool → (k : ℕ) (p : Part) → k < s.layout.workers + 2 → RestsPart s t k (at.acts k) p
      → (k ≡ recycler (setup_of s) → Items (setup_of s) t (next_queue (setup_of s) at.hands) (waiting_of p)) → MayPlay s round p
  may_play low due k (Work a) real r items = record {
    shared = laid.shared;
    layout = laid.layout;
    fits = r.fits;
    worker = subst (λ (n : ℕ). n < s.layout.workers) (sym r.number) (worker_low k a r);
    within = low;
    hand = r.hand;
    before = at.acts k;
    hands = at.hands k;
    worked = has_worked k a r;
  }
  may_play low due k (Manage a) real r items =
      let h = has_swept k a r in record {
        shared = laid.shared;
        fits = r.fits;
        number = r.number ∙ manager_at k a r;
        within = low;
        hand = r.hand;
        steps = omega (arith, r.step, sweeps_few (setup_of s) round (at.acts k) (at.hands k) h.stands (omega (arith, low)) laid.layout.rows.0 laid.few, laid.layout.rows.1);
        before = at.acts k;
        hands = at.hands k;
        swept = h;
      }
  may_play low due k (Recycle a) real r items =
      let q = items (recycler_at k a real r) in
      let few = recycler_few (setup_of s) t round at laid.shared.capture (omega (arith, low)) due in
      let acts : length (at.acts k) ≡ length (at.acts (recycler (setup_of s))) = ap (λ (n : ℕ). length (at.acts n)) (recycler_at k a real r) in
      let count = pairs_length (λ g e. IsItem (setup_of s) t g e) (next_queue (setup_of s) at.hands) a.waiting.items q in
      record {
        shared = laid.shared;
        fits = r.fits;
        number = r.number ∙ recycler_at k a real r;
        steps = omega (arith, r.step, acts, count, few);
        choice = t;
        before = at.acts k;
        came = waited (manager (setup_of s) + 1) at.hands (round - 1);
        queue = next_queue (setup_of s) at.hands;
        waits = is_queue k a real r q;
      }
