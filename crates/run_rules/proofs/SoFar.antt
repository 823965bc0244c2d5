-- Histories are lawful exactly where they are lawful so far and every script has ended.
use Rattle.std.proofs.Common.{◌≡◌, inr, ℕ, zero, suc, ◌+◌, ◌-◌, ◌==◌, ◌<◌, Bool, true, false, cond, List, [], ◌∷◌, ◌++◌, length, Option, Some, None, refl, sym, ◌∙◌, ap, subst, arith, eqb-true, eq-eqb, append-nil, append_assoc}
use Rattle.std.proofs.lemmas.List.FromFn.{length-map-range_with_len}
use Rattle.capture_index.specs.Batches.{batches_of}
use Rattle.bucket_laws.specs.Leaving.{Gone}
use Rattle.run_rules.specs.Acts.{Act}
use Rattle.run_rules.specs.Ending.{ending_after}
use Rattle.run_rules.specs.Histories.{Histories}
use Rattle.run_rules.specs.Lawful.{AreScripted, AreLawful, gathered, left_over, nth, waited}
use Rattle.run_rules.specs.Manager.{Sweep, Task, resting, sweeping, leaving, idle, rests, new_manager, swept_after, manager_ended}
use Rattle.run_rules.specs.Serving.{queue_after}
use Rattle.run_rules.specs.Setup.{Setup, manager, recycler, ender, rounds, work_of}
use Rattle.run_rules.specs.SoFar.{passed, passed_at, hands_by, hand_of_round, round_hands, first_hands, OthersEnded, AreScriptedSoFar, AreLawfulSoFar, HaveEnded}
use Rattle.run_rules.specs.Worker.{Stage, Stand, between, fresh, stand_after, over, ended_at, ended}
use Rattle.run_rules.proofs.Ended.{AreCounted, stand_counted, IsCounted, sweep_counted}

-- a script that has ended

over_is : (rounds : List (List (List ℕ))) (hand : List Gone) (hands hs : List (List Gone)) → over rounds hand hands ≡ Some hs
    → (passed rounds hand hands ≡ hs) × (length hs ≡ length rounds + length hands)
over_is [] [] hands hs h = let k : hands ≡ hs = cc in (k, ap length (sym k) ∙ omega arith)
over_is [] (g ∷ hand) hands hs h = cc
over_is ([] ∷ later) hand hands hs h = let k = over_is later [] (hand ∷ hands) hs h in (k.0, omega (arith, k.1))
over_is ((b ∷ bs) ∷ later) hand hands hs h = cc

pub at_is : (p : Stage) (s : Stand) (hs : List (List Gone)) → ended_at p s ≡ Some hs → (passed_at p s ≡ hs) × (length hs ≡ length s.rounds + length s.hands)
at_is between s hs h = over_is s.rounds s.hand s.hands hs h
at_is _ s hs h = cc

ended_is : (o : Option Stand) (hs : List (List Gone)) → ended o ≡ Some hs
    → (s : Stand) × (o ≡ Some s) × (passed_at s.stage s ≡ hs) × (length hs ≡ length s.rounds + length s.hands)
ended_is None hs h = cc
ended_is (Some s) hs h = let k = at_is s.stage s hs h in (s, refl, k.0, k.1)

idle_is : (hand : List Gone) (hands hs : List (List Gone)) → idle hand hands ≡ Some hs → hands ≡ hs
idle_is [] hands hs h = let k : hands ≡ hs = cc in k
idle_is (g ∷ hand) hands hs h = cc

pub rests_is : (w : Setup) (p : Task) (s : Sweep) (hs : List (List Gone)) → rests w p s ≡ Some hs → (s.hands ≡ hs) × (s.round ≡ rounds w)
rests_is w resting s hs h = by (s.round == rounds w) refl h
  where
    by : (b : Bool) → (s.round == rounds w) ≡ b → cond b (idle s.hand s.hands) None ≡ Some hs → (s.hands ≡ hs) × (s.round ≡ rounds w)
    by true e h = (idle_is s.hand s.hands hs h, eqb-true s.round (rounds w) e)
    by false e h = cc
rests_is w (sweeping k) s hs h = cc
rests_is w leaving s hs h = cc

managed_is : (w : Setup) (o : Option Sweep) (hs : List (List Gone)) → manager_ended w o ≡ Some hs → (s : Sweep) × (o ≡ Some s) × (s.hands ≡ hs) × (s.round ≡ rounds w)
managed_is w None hs h = cc
managed_is w (Some s) hs h = let k = rests_is w s.task s hs h in (s, refl, k.0, k.1)

work_length : (w : Setup) (role : ℕ) → length (work_of w role) ≡ rounds w
work_length w role = length-map-range_with_len (λ r. batches_of w.layout w.capture.seen role r) 0 (rounds w)

-- each round's hand is there
worker_hands : (w : Setup) (role : ℕ) (acts : List Act) (hs : List (List Gone)) → ended (stand_after w (fresh (work_of w role)) acts) ≡ Some hs → length hs ≡ rounds w
worker_hands w role acts hs h =
    let k = ended_is (stand_after w (fresh (work_of w role)) acts) hs h in
    let c : AreCounted (length (work_of w role) + 0) (Some k.0) =
    subst (λ (o : Option Stand). AreCounted (length (work_of w role) + 0) o) k.1 (stand_counted w (length (work_of w role) + 0) (fresh (work_of w role)) acts refl) in
    omega (arith, k.3, c, work_length w role)

manager_hands : (w : Setup) (acts : List Act) (hs : List (List Gone)) → manager_ended w (swept_after w new_manager acts) ≡ Some hs → length hs ≡ rounds w
manager_hands w acts hs h =
    let k = managed_is w (swept_after w new_manager acts) hs h in
    let c : length k.0.hands ≡ k.0.round = subst (λ (o : Option Sweep). IsCounted o) k.1 (sweep_counted w acts) in
    ap length (sym k.2) ∙ (c ∙ k.3)

-- the hands of all roles

pub gathered_same : (n : ℕ) (a b : ℕ → List (List Gone)) (k : ℕ) → ((r : ℕ) → r < n → a r ≡ b r) → gathered n a k ≡ gathered n b k
gathered_same zero a b k h = refl
gathered_same (suc r) a b k h =
    ap (λ (x : List Gone). x ++ nth k (a r)) (gathered_same r a b k (λ q l. h q (omega (arith, l)))) ∙ ap (λ (x : List (List Gone)). gathered r b k ++ nth k x) (h r (omega arith))

pub waited_same : (n : ℕ) (a b : ℕ → List (List Gone)) (k : ℕ) → ((r : ℕ) → r < n → a r ≡ b r) → waited n a k ≡ waited n b k
waited_same n a b zero h = refl
waited_same n a b (suc k) h =
    ap (λ (x : List Gone). x ++ waited n a k) (gathered_same n a b (suc k) h) ∙ ap (λ (x : List Gone). gathered n b (suc k) ++ x) (waited_same n a b k h)

pub left_same : (w : Setup) (a b : ℕ → List (List Gone)) → ((r : ℕ) → r < manager w + 1 → a r ≡ b r) → left_over w a ≡ left_over w b
left_same w a b h = gathered_same (manager w + 1) a b 0 h

-- a round counted from the first, and from the last
round_same : (n : ℕ) (hands : ℕ → List (List Gone)) (m j k : ℕ) → ((r : ℕ) → r < n → length (hands r) ≡ m) → m - suc j ≡ k → round_hands n hands j ≡ gathered n hands k
round_same zero hands m j k h e = refl
round_same (suc r) hands m j k h e =
    ap (λ (x : List Gone). x ++ hand_of_round j (hands r)) (round_same r hands m j k (λ q l. h q (omega (arith, l))) e)
    ∙ ap (λ (i : ℕ). gathered r hands k ++ nth i (hands r)) (ap (λ (x : ℕ). x - suc j) (h r (omega arith)) ∙ e)

first_waited : (n : ℕ) (hands : ℕ → List (List Gone)) (m : ℕ) → ((r : ℕ) → r < n → length (hands r) ≡ m) → (k j : ℕ) → j + k + 1 ≡ m
    → first_hands n hands j ++ waited n hands k ≡ first_hands n hands (j + k)
first_waited n hands m h zero j e = append-nil (first_hands n hands j) ∙ (let q : j ≡ j + 0 = omega arith in ap (λ (i : ℕ). first_hands n hands i) q)
first_waited n hands m h (suc k) j e =
    sym (append_assoc (first_hands n hands j) (gathered n hands (suc k)) (waited n hands k))
    ∙ (ap (λ (x : List Gone). (first_hands n hands j ++ x) ++ waited n hands k) (sym (round_same n hands m j (suc k) h (omega (arith, e))))
    ∙ (first_waited n hands m h k (suc j) (omega (arith, e)) ∙ (let q : suc j + k ≡ j + suc k = omega arith in ap (λ (i : ℕ). first_hands n hands i) q)))

-- what came to the recycler in all, where all have ended all rounds
all_waited : (n : ℕ) (hands : ℕ → List (List Gone)) (m : ℕ) → ((r : ℕ) → r < n → length (hands r) ≡ m) → waited n hands (m - 1) ≡ first_hands n hands (m - 1)
all_waited n hands zero h = refl
all_waited n hands (suc m) h =
    let k : suc m - 1 ≡ m = omega arith in
    let q : 0 + m ≡ suc m - 1 = omega arith in
    ap (λ (i : ℕ). waited n hands i) k ∙ (first_waited n hands (suc m) h m 0 (omega arith) ∙ ap (λ (i : ℕ). first_hands n hands i) q)

module _ (w : Setup) where
  -- a worker, or the manager
  pub by_kind : {P : ℕ → Type 0} → ((role : ℕ) → role < w.layout.workers → P role) → P (manager w) → (role : ℕ) → role < manager w + 1 → P role
  by_kind {P} work manage role h = by (role == manager w) refl
    where
      by : (b : Bool) → (role == manager w) ≡ b → P role
      by true e = subst P (sym (eqb-true role (manager w) e)) manage
      by false e = work role (other e)
        where
          other : (role == manager w) ≡ false → role < w.layout.workers
          other e = grind (arith)

  pub worker_by : (stands : ℕ → Stand) (sweep : Sweep) (role : ℕ) → role < w.layout.workers → hands_by w stands sweep role ≡ passed_at (stands role).stage (stands role)
  worker_by stands sweep role h = by (role == manager w) refl
    where
      by : (b : Bool) → (role == manager w) ≡ b → cond b sweep.hands (passed_at (stands role).stage (stands role)) ≡ passed_at (stands role).stage (stands role)
      by true e = let k = eqb-true role (manager w) e in absurd (omega (arith, k, h))
      by false e = refl

  pub manager_by : (stands : ℕ → Stand) (sweep : Sweep) → hands_by w stands sweep (manager w) ≡ sweep.hands
  manager_by stands sweep = ap (λ (b : Bool). cond b sweep.hands (passed_at (stands (manager w)).stage (stands (manager w)))) (eq-eqb (manager w) (manager w) refl)

-- where a worker stands, if its acts are of its script
abbrev stand_or : Option Stand → Stand
stand_or None = fresh []
stand_or (Some s) = s

-- histories that are lawful are lawful so far, and every script has ended

module _ (w : Setup) (t : Histories) (l : AreScripted w t) where
  abbrev stand_of : ℕ → Stand
  stand_of role = stand_or (stand_after w (fresh (work_of w role)) (l.acts role))

  stood : (role : ℕ) → role < w.layout.workers
      → (stand_after w (fresh (work_of w role)) (l.acts role) ≡ Some (stand_of role)) × (passed_at (stand_of role).stage (stand_of role) ≡ l.hands role)
  stood role h =
      let k = ended_is (stand_after w (fresh (work_of w role)) (l.acts role)) (l.hands role) (l.work role h) in
      let e : stand_of role ≡ k.0 = ap stand_or k.1 in
      (k.1 ∙ ap Some (sym e), ap (λ (s : Stand). passed_at s.stage s) e ∙ k.2)

  swept : (s : Sweep) × (swept_after w new_manager (l.acts (manager w)) ≡ Some s) × (s.hands ≡ l.hands (manager w)) × (s.round ≡ rounds w)
  swept = managed_is w (swept_after w new_manager (l.acts (manager w))) (l.hands (manager w)) l.manage

  abbrev hands_too : ℕ → List (List Gone)
  hands_too = hands_by w stand_of swept.0

  same_hands : (role : ℕ) → role < manager w + 1 → hands_too role ≡ l.hands role
  same_hands = by_kind w {P = λ role. hands_too role ≡ l.hands role} (λ role h. worker_by w stand_of swept.0 role h ∙ (stood role h).1) (manager_by w stand_of swept.0 ∙ swept.2)

  hand_count : (role : ℕ) → role < manager w + 1 → length (l.hands role) ≡ rounds w
  hand_count = by_kind w {P = λ role. length (l.hands role) ≡ rounds w} (λ role h. worker_hands w role (l.acts role) (l.hands role) (l.work role h)) (manager_hands w (l.acts (manager w)) (l.hands (manager w)) l.manage)

  count_too : (role : ℕ) → role < manager w + 1 → length (hands_too role) ≡ rounds w
  count_too role h = ap length (same_hands role h) ∙ hand_count role h

  all_ended : OthersEnded w stand_of swept.0 (rounds w - 1) []
  all_ended = record {
    work = λ role h. ap ended (sym (stood role h).0) ∙ (l.work role h ∙ ap Some (sym (same_hands role (omega (arith, h)))));
    manage = ap (manager_ended w) (sym swept.1) ∙ (l.manage ∙ ap Some (sym swept.2));
    all_served = refl;
    none_waits = refl;
  }

  pub scripted_so_far : AreScriptedSoFar w t
  scripted_so_far = record {
    legal = l.legal;
    acts = l.acts;
    own = l.own;
    stands = stand_of;
    work = λ role h. (stood role h).0;
    sweep = swept.0;
    manage = swept.1;
    served = rounds w - 1;
    not_last = omega arith;
    were_ended = λ role h. let k = count_too role h in omega (arith, k);
    waiting = [];
    recycle = ap (λ (q : List Gone). queue_after q (l.acts (recycler w)))
        (sym (all_waited (manager w + 1) hands_too (rounds w) count_too) ∙ waited_same (manager w + 1) hands_too l.hands (rounds w - 1) same_hands) ∙ l.recycle;
    ending = record { queue = []; drained = w.layout.rows };
    drain = ap (λ (q : List Gone). ending_after w (record { queue = q; drained = 0 }) (l.acts (ender w))) (left_same w hands_too l.hands same_hands) ∙ l.drain;
    last = inr all_ended;
  }

  pub scripts_ended : HaveEnded w t scripted_so_far
  unfolding scripted_so_far
  scripts_ended = record { others = all_ended; drained = refl }

pub so_far : (w : Setup) (t : Histories) → AreLawful w t → (l : AreLawfulSoFar w t) × HaveEnded w t l.scripted
so_far w t l = (record { scripted = scripted_so_far w t l.scripted; puts = l.puts }, scripts_ended w t l.scripted)

-- and the other way

module _ (w : Setup) (t : Histories) (l : AreScriptedSoFar w t) (e : HaveEnded w t l) where
  abbrev hands_then : ℕ → List (List Gone)
  hands_then = hands_by w l.stands l.sweep

  work_then : (role : ℕ) → role < w.layout.workers → ended (stand_after w (fresh (work_of w role)) (l.acts role)) ≡ Some (hands_then role)
  work_then role h = ap ended (l.work role h) ∙ e.others.work role h

  manage_then : manager_ended w (swept_after w new_manager (l.acts (manager w))) ≡ Some (hands_then (manager w))
  manage_then = ap (manager_ended w) l.manage ∙ (e.others.manage ∙ ap Some (sym (manager_by w l.stands l.sweep)))

  count_then : (role : ℕ) → role < manager w + 1 → length (hands_then role) ≡ rounds w
  count_then = by_kind w {P = λ role. length (hands_then role) ≡ rounds w} (λ role h. worker_hands w role (l.acts role) (hands_then role) (work_then role h))
      (manager_hands w (l.acts (manager w)) (hands_then (manager w)) manage_then)

  pub whole_scripts : AreScripted w t
  whole_scripts = record {
    legal = l.legal;
    acts = l.acts;
    hands = hands_then;
    own = l.own;
    work = work_then;
    manage = manage_then;
    recycle = ap (λ (q : List Gone). queue_after q (l.acts (recycler w)))
        (all_waited (manager w + 1) hands_then (rounds w) count_then ∙ ap (λ (k : ℕ). first_hands (manager w + 1) hands_then k) (sym e.others.all_served))
        ∙ (l.recycle ∙ ap Some e.others.none_waits);
    drain = l.drain ∙ ap Some e.drained;
  }

pub whole : (w : Setup) (t : Histories) (l : AreLawfulSoFar w t) → HaveEnded w t l.scripted → AreLawful w t
whole w t l e = record { scripted = whole_scripts w t l.scripted e; puts = l.puts }
