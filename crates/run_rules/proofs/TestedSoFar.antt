-- A test of histories for being lawful so far: those that pass it are, and those that are pass it.
use Rattle.std.proofs.Common.{◌≡◌, ◌⊎◌, inl, inr, ℕ, zero, suc, ◌+◌, ◌-◌, ◌==◌, ◌<◌, ◌≤◌, nat_le, Bool, true, false, ◌&&◌, ◌||◌, List, [], ◌∷◌, ◌++◌, length, Option, Some, None, refl, sym, ◌∙◌, ap, subst, arith, eqb-true, eq-eqb}
use Rattle.std.specs.Option.{is_some}
use Rattle.bucket_laws.specs.Leaving.{Gone}
use Rattle.run_rules.specs.Acts.{Act, AreActs}
use Rattle.run_rules.specs.Ending.{Ending, ending_after}
use Rattle.run_rules.specs.Histories.{Histories}
use Rattle.run_rules.specs.Manager.{Sweep, new_manager, swept_after, manager_ended}
use Rattle.run_rules.specs.Serving.{queue_after}
use Rattle.run_rules.specs.Setup.{Setup, manager, recycler, ender, roles, rounds, work_of}
use Rattle.run_rules.specs.SoFar.{passed_at, hands_by, hand_of_round, round_hands, first_hands, to_drain, OthersEnded, AreScriptedSoFar, AreLawfulSoFar}
use Rattle.run_rules.specs.Steps.{acts_of}
use Rattle.run_rules.specs.Worker.{Stand, fresh, stand_after, ended}
use Rattle.run_rules.proofs.Finding.{acts_found}
use Rattle.run_rules.proofs.Same.{both, and_both}
use Rattle.run_rules.proofs.SoFar.{at_is, rests_is, left_same, by_kind, worker_by, manager_by}
use Rattle.run_rules.proofs.Tested.{all_below, below_all, all_of, le_is, le_of, puts_due, puts_so, so_puts, are_legal, legal_so, so_legal, are_acts, acts_so, so_acts, is_served, served_is}

abbrev or_this : {A : Type 0} → A → Option A → A
or_this d None = d
or_this d (Some x) = x

some_now : {A : Type 0} (d : A) (o : Option A) → is_some o ≡ true → o ≡ Some (or_this d o)
some_now d None h = cc
some_now d (Some x) h = refl

abbrev any_below : ℕ → (ℕ → Bool) → Bool
any_below zero test = false
any_below (suc n) test = test n || any_below n test

any_is : (n : ℕ) (test : ℕ → Bool) → any_below n test ≡ true → (k : ℕ) × (test k ≡ true)
any_is zero test h = cc
any_is (suc n) test h = by (test n) refl h (any_is n test)
  where
    by : (b : Bool) → test n ≡ b → (b || any_below n test) ≡ true → (any_below n test ≡ true → (k : ℕ) × (test k ≡ true)) → (k : ℕ) × (test k ≡ true)
    by true e h later = (n, e)
    by false e h later = later h

any_of : (n : ℕ) (test : ℕ → Bool) (k : ℕ) → k < n → test k ≡ true → any_below n test ≡ true
any_of zero test k l h = absurd (omega (arith, l))
any_of (suc n) test k l h = by (k == n) refl (any_of n test k)
  where
    or_true : (b : Bool) → (b || true) ≡ true
    or_true true = refl
    or_true false = refl

    by : (b : Bool) → (k == n) ≡ b → (k < n → test k ≡ true → any_below n test ≡ true) → (test n || any_below n test) ≡ true
    by true e later = ap (λ (b : Bool). b || any_below n test) (subst (λ (i : ℕ). test i ≡ true) (eqb-true k n e) h)
    by false e later =
        let no : k ≡ n → ⊥ = λ i. (let z : true ≡ false = sym (eq-eqb k n i) ∙ e in cc) in
        ap (λ (b : Bool). test n || b) (later (grind (arith, no, l)) h) ∙ or_true (test n)

-- where the roles stand, by the acts that are found by their steps

abbrev stand_found : Setup → Histories → ℕ → Option Stand
stand_found w t role = stand_after w (fresh (work_of w role)) (acts_of w t role)

abbrev stand_now : Setup → Histories → ℕ → Stand
stand_now w t role = or_this (fresh []) (stand_found w t role)

abbrev sweep_found : Setup → Histories → Option Sweep
sweep_found w t = swept_after w new_manager (acts_of w t (manager w))

abbrev sweep_now : Setup → Histories → Sweep
sweep_now w t = or_this new_manager (sweep_found w t)

abbrev hands_now : Setup → Histories → ℕ → List (List Gone)
hands_now w t = hands_by w (stand_now w t) (sweep_now w t)

abbrev queue_found : Setup → Histories → ℕ → Option (List Gone)
queue_found w t served = queue_after (first_hands (manager w + 1) (hands_now w t) served) (acts_of w t (recycler w))

abbrev ending_found : Setup → Histories → Option Ending
ending_found w t = ending_after w (to_drain w (hands_now w t)) (acts_of w t (ender w))

-- the test, piece by piece

abbrev own_so : Setup → Histories → Bool
own_so w t = all_below (roles w) (λ role. are_acts w t role (acts_of w t role))

abbrev stand_so : Setup → Histories → Bool
stand_so w t = all_below w.layout.workers (λ role. is_some (stand_found w t role)) && is_some (sweep_found w t)

abbrev served_so : Setup → Histories → ℕ → Bool
served_so w t served =
    nat_le served (rounds w - 1) && (all_below (manager w + 1) (λ role. nat_le served (length (hands_now w t role))) && is_some (queue_found w t served))

abbrev others_so : Setup → Histories → ℕ → Bool
others_so w t served =
    all_below w.layout.workers (λ role. is_some (ended (Some (stand_now w t role))))
    && (is_some (manager_ended w (Some (sweep_now w t))) && ((served == rounds w - 1) && is_served (queue_found w t served)))

abbrev is_nothing : List Act → Bool
is_nothing [] = true
is_nothing (a ∷ acts) = false

abbrev end_so : Setup → Histories → ℕ → Bool
end_so w t served = is_some (ending_found w t) && (is_nothing (acts_of w t (ender w)) || others_so w t served)

-- where the recycler began to serve the hands of so many rounds
abbrev is_so_far_by : Setup → Histories → ℕ → Bool
is_so_far_by w t served = are_legal w t && (puts_due t.pool && (own_so w t && (stand_so w t && (served_so w t served && end_so w t served))))

abbrev pub is_so_far : Setup → Histories → Bool
is_so_far w t = any_below (rounds w - 1 + 1) (λ served. is_so_far_by w t served)

-- what passes is lawful so far

others_are : (w : Setup) (t : Histories) (served : ℕ) → others_so w t served ≡ true → OthersEnded w (stand_now w t) (sweep_now w t) served (or_this [] (queue_found w t served))
others_are w t served h =
    let a = both (all_below w.layout.workers (λ role. is_some (ended (Some (stand_now w t role)))))
    (is_some (manager_ended w (Some (sweep_now w t))) && ((served == rounds w - 1) && is_served (queue_found w t served))) h in
    let b = both (is_some (manager_ended w (Some (sweep_now w t)))) ((served == rounds w - 1) && is_served (queue_found w t served)) a.1 in
    let c = both (served == rounds w - 1) (is_served (queue_found w t served)) b.1 in
    let m = some_now [] (manager_ended w (Some (sweep_now w t))) b.0 in
    record {
      work = λ role r. (let e = some_now [] (ended (Some (stand_now w t role))) (below_all w.layout.workers (λ role. is_some (ended (Some (stand_now w t role)))) a.0 role r) in
          e ∙ ap Some (sym (worker_by w (stand_now w t) (sweep_now w t) role r ∙ (at_is (stand_now w t role).stage (stand_now w t role) (or_this [] (ended (Some (stand_now w t role)))) e).0)));
      manage = m ∙ ap Some (sym (rests_is w (sweep_now w t).task (sweep_now w t) (or_this [] (manager_ended w (Some (sweep_now w t)))) m).0);
      all_served = eqb-true served (rounds w - 1) c.0;
      none_waits = ap (λ (o : Option (List Gone)). or_this [] o) (served_is (queue_found w t served) c.1);
    }

nothing_is : (acts : List Act) → is_nothing acts ≡ true → acts ≡ []
nothing_is [] h = refl
nothing_is (a ∷ acts) h = cc

last_is : {A : Type 0} (acts : List Act) (b : Bool) → (is_nothing acts || b) ≡ true → (b ≡ true → A) → (acts ≡ []) ⊎ A
last_is {A} acts b h k = by (is_nothing acts) refl h
  where
    by : (p : Bool) → is_nothing acts ≡ p → (p || b) ≡ true → (acts ≡ []) ⊎ A
    by true e h = inl (nothing_is acts e)
    by false e h = inr (k h)

so_far_by : (w : Setup) (t : Histories) (served : ℕ) → is_so_far_by w t served ≡ true → AreLawfulSoFar w t
so_far_by w t served h =
    let a = both (are_legal w t) (puts_due t.pool && (own_so w t && (stand_so w t && (served_so w t served && end_so w t served)))) h in
    let b = both (puts_due t.pool) (own_so w t && (stand_so w t && (served_so w t served && end_so w t served))) a.1 in
    let c = both (own_so w t) (stand_so w t && (served_so w t served && end_so w t served)) b.1 in
    let d = both (stand_so w t) (served_so w t served && end_so w t served) c.1 in
    let e = both (served_so w t served) (end_so w t served) d.1 in
    let s = both (all_below w.layout.workers (λ role. is_some (stand_found w t role))) (is_some (sweep_found w t)) d.0 in
    let q = both (nat_le served (rounds w - 1)) (all_below (manager w + 1) (λ role. nat_le served (length (hands_now w t role))) && is_some (queue_found w t served)) e.0 in
    let p = both (all_below (manager w + 1) (λ role. nat_le served (length (hands_now w t role)))) (is_some (queue_found w t served)) q.1 in
    let f = both (is_some (ending_found w t)) (is_nothing (acts_of w t (ender w)) || others_so w t served) e.1 in
    record {
      scripted = record {
        legal = legal_so w t a.0;
        acts = acts_of w t;
        own = λ role r. acts_so w t role (acts_of w t role) (below_all (roles w) (λ role. are_acts w t role (acts_of w t role)) c.0 role r);
        stands = stand_now w t;
        work = λ role r. some_now (fresh []) (stand_found w t role) (below_all w.layout.workers (λ role. is_some (stand_found w t role)) s.0 role r);
        sweep = sweep_now w t;
        manage = some_now new_manager (sweep_found w t) s.1;
        served = served;
        not_last = le_is served (rounds w - 1) q.0;
        were_ended = λ role r. le_is served (length (hands_now w t role)) (below_all (manager w + 1) (λ role. nat_le served (length (hands_now w t role))) p.0 role r);
        waiting = or_this [] (queue_found w t served);
        recycle = some_now [] (queue_found w t served) p.1;
        ending = or_this (to_drain w (hands_now w t)) (ending_found w t);
        drain = some_now (to_drain w (hands_now w t)) (ending_found w t) f.0;
        last = last_is (acts_of w t (ender w)) (others_so w t served) f.1 (others_are w t served);
      };
      puts = puts_so t.pool b.0;
    }

pub lawful_so_far : (w : Setup) (t : Histories) → is_so_far w t ≡ true → AreLawfulSoFar w t
lawful_so_far w t h = let k = any_is (rounds w - 1 + 1) (λ served. is_so_far_by w t served) h in so_far_by w t k.0 k.1

-- and what is lawful so far passes

round_same : (n : ℕ) (a b : ℕ → List (List Gone)) (k : ℕ) → ((r : ℕ) → r < n → a r ≡ b r) → round_hands n a k ≡ round_hands n b k
round_same zero a b k h = refl
round_same (suc r) a b k h =
    ap (λ (x : List Gone). x ++ hand_of_round k (a r)) (round_same r a b k (λ q l. h q (omega (arith, l))))
    ∙ ap (λ (x : List (List Gone)). round_hands r b k ++ hand_of_round k x) (h r (omega arith))

first_same : (n : ℕ) (a b : ℕ → List (List Gone)) (k : ℕ) → ((r : ℕ) → r < n → a r ≡ b r) → first_hands n a k ≡ first_hands n b k
first_same n a b zero h = refl
first_same n a b (suc k) h =
    ap (λ (x : List Gone). x ++ round_hands n a k) (first_same n a b k h) ∙ ap (λ (x : List Gone). first_hands n b k ++ x) (round_same n a b k h)

module _ (w : Setup) (t : Histories) (l : AreScriptedSoFar w t) where
  found : (role : ℕ) → role < roles w → acts_of w t role ≡ l.acts role
  found role r = acts_found w t role (l.acts role) (l.own role r)

  own_too : own_so w t ≡ true
  own_too = all_of (roles w) (λ role. are_acts w t role (acts_of w t role))
      (λ role r. so_acts w t role (acts_of w t role) (subst (λ (acts : List Act). AreActs w t role acts) (sym (found role r)) (l.own role r)))

  stand_is : (role : ℕ) → role < w.layout.workers → stand_found w t role ≡ Some (l.stands role)
  stand_is role r = ap (λ (acts : List Act). stand_after w (fresh (work_of w role)) acts) (found role (omega (arith, r))) ∙ l.work role r

  sweep_is : sweep_found w t ≡ Some l.sweep
  sweep_is = ap (λ (acts : List Act). swept_after w new_manager acts) (found (manager w) (omega arith)) ∙ l.manage

  now_is : (role : ℕ) → role < w.layout.workers → stand_now w t role ≡ l.stands role
  now_is role r = ap (λ (o : Option Stand). or_this (fresh []) o) (stand_is role r)

  swept_now : sweep_now w t ≡ l.sweep
  swept_now = ap (λ (o : Option Sweep). or_this new_manager o) sweep_is

  hands_are : (role : ℕ) → role < manager w + 1 → hands_now w t role ≡ hands_by w l.stands l.sweep role
  hands_are = by_kind w {P = λ role. hands_now w t role ≡ hands_by w l.stands l.sweep role}
      (λ role r. worker_by w (stand_now w t) (sweep_now w t) role r ∙ (ap (λ (s : Stand). passed_at s.stage s) (now_is role r) ∙ sym (worker_by w l.stands l.sweep role r)))
      (manager_by w (stand_now w t) (sweep_now w t) ∙ (ap (λ (s : Sweep). s.hands) swept_now ∙ sym (manager_by w l.stands l.sweep)))

  queue_is : queue_found w t l.served ≡ Some l.waiting
  queue_is =
      ap (λ (queue : List Gone). queue_after queue (acts_of w t (recycler w))) (first_same (manager w + 1) (hands_now w t) (hands_by w l.stands l.sweep) l.served hands_are)
      ∙ (ap (λ (acts : List Act). queue_after (first_hands (manager w + 1) (hands_by w l.stands l.sweep) l.served) acts) (found (recycler w) (omega arith)) ∙ l.recycle)

  ending_is : ending_found w t ≡ Some l.ending
  ending_is =
      ap (λ (queue : List Gone). ending_after w (record { queue = queue; drained = 0 }) (acts_of w t (ender w))) (left_same w (hands_now w t) (hands_by w l.stands l.sweep) hands_are)
      ∙ (ap (λ (acts : List Act). ending_after w (to_drain w (hands_by w l.stands l.sweep)) acts) (found (ender w) (omega arith)) ∙ l.drain)

  others_too : OthersEnded w l.stands l.sweep l.served l.waiting → others_so w t l.served ≡ true
  others_too o =
      and_both (all_below w.layout.workers (λ role. is_some (ended (Some (stand_now w t role)))))
      (is_some (manager_ended w (Some (sweep_now w t))) && ((l.served == rounds w - 1) && is_served (queue_found w t l.served)))
      (all_of w.layout.workers (λ role. is_some (ended (Some (stand_now w t role))))
      (λ role r. ap (λ (s : Stand). is_some (ended (Some s))) (now_is role r) ∙ ap (λ (p : Option (List (List Gone))). is_some p) (o.work role r)))
      (and_both (is_some (manager_ended w (Some (sweep_now w t)))) ((l.served == rounds w - 1) && is_served (queue_found w t l.served))
      (ap (λ (s : Sweep). is_some (manager_ended w (Some s))) swept_now ∙ ap (λ (p : Option (List (List Gone))). is_some p) o.manage)
      (and_both (l.served == rounds w - 1) (is_served (queue_found w t l.served)) (eq-eqb l.served (rounds w - 1) o.all_served)
      (ap is_served (queue_is ∙ ap Some o.none_waits))))

  or_first : (a b : Bool) → a ≡ true → (a || b) ≡ true
  or_first a b h = ap (λ (p : Bool). p || b) h

  or_second : (a b : Bool) → b ≡ true → (a || b) ≡ true
  or_second true b h = refl
  or_second false b h = h

  last_too : (l.acts (ender w) ≡ []) ⊎ OthersEnded w l.stands l.sweep l.served l.waiting → (is_nothing (acts_of w t (ender w)) || others_so w t l.served) ≡ true
  last_too (inl e) = or_first (is_nothing (acts_of w t (ender w))) (others_so w t l.served) (ap is_nothing (found (ender w) (omega arith) ∙ e))
  last_too (inr o) = or_second (is_nothing (acts_of w t (ender w))) (others_so w t l.served) (others_too o)

  served_too : served_so w t l.served ≡ true
  served_too =
      and_both (nat_le l.served (rounds w - 1)) (all_below (manager w + 1) (λ role. nat_le l.served (length (hands_now w t role))) && is_some (queue_found w t l.served))
      (le_of l.served (rounds w - 1) l.not_last)
      (and_both (all_below (manager w + 1) (λ role. nat_le l.served (length (hands_now w t role)))) (is_some (queue_found w t l.served))
      (all_of (manager w + 1) (λ role. nat_le l.served (length (hands_now w t role)))
      (λ role r. le_of l.served (length (hands_now w t role)) (subst (λ (hands : List (List Gone)). l.served ≤ length hands) (sym (hands_are role r)) (l.were_ended role r))))
      (ap (λ (o : Option (List Gone)). is_some o) queue_is))

  stand_too : stand_so w t ≡ true
  stand_too =
      and_both (all_below w.layout.workers (λ role. is_some (stand_found w t role))) (is_some (sweep_found w t))
      (all_of w.layout.workers (λ role. is_some (stand_found w t role)) (λ role r. ap (λ (o : Option Stand). is_some o) (stand_is role r)))
      (ap (λ (o : Option Sweep). is_some o) sweep_is)

  end_too : end_so w t l.served ≡ true
  end_too =
      and_both (is_some (ending_found w t)) (is_nothing (acts_of w t (ender w)) || others_so w t l.served) (ap (λ (o : Option Ending). is_some o) ending_is) (last_too l.last)

pub passes_so_far : (w : Setup) (t : Histories) → AreLawfulSoFar w t → is_so_far w t ≡ true
passes_so_far w t l =
    let s = l.scripted in
    any_of (rounds w - 1 + 1) (λ served. is_so_far_by w t served) s.served (let k = s.not_last in omega (arith, k))
    (and_both (are_legal w t) (puts_due t.pool && (own_so w t && (stand_so w t && (served_so w t s.served && end_so w t s.served)))) (so_legal w t s.legal)
    (and_both (puts_due t.pool) (own_so w t && (stand_so w t && (served_so w t s.served && end_so w t s.served))) (so_puts t.pool l.puts)
    (and_both (own_so w t) (stand_so w t && (served_so w t s.served && end_so w t s.served)) (own_too w t s)
    (and_both (stand_so w t) (served_so w t s.served && end_so w t s.served) (stand_too w t s)
    (and_both (served_so w t s.served) (end_so w t s.served) (served_too w t s) (end_too w t s))))))

-- what fails the test is not lawful so far
pub unlawful_so_far : (w : Setup) (t : Histories) → is_so_far w t ≡ false → AreLawfulSoFar w t → ⊥
unlawful_so_far w t h l = let z : true ≡ false = sym (passes_so_far w t l) ∙ h in cc
