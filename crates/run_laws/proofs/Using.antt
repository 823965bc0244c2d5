-- Over all roles: objects are got as often as runs are made, and what left is given back, since what waits at the end of a round is handed on
-- and nothing waits in the end. The same holds of nodes.
use Rattle.std.proofs.Common.{◌≡◌, ℕ, suc, ◌==◌, ◌+◌, ◌-◌, ◌<◌, ◌≤◌, Bool, true, false, cond, List, [], ◌∷◌, length, Option, Some, None, ⊎_elim, refl, sym, ◌∙◌, ap, subst, arith}
use Rattle.std.proofs.lemmas.Bool.Decides.{eqb_tells}
use Rattle.std.proofs.lemmas.List.FromFn.{length-map-range_with_len}
use Rattle.bucket_laws.specs.Leaving.{Gone, sum_nodes}
use Rattle.capture_index.specs.Batches.{batches_of}
use Rattle.run_laws.proofs.Hands.{all_hands, handed_on}
use Rattle.run_laws.proofs.Serving.{Totals, ending_totals, manager_totals, queue_totals, sweep_holds, sweep_nodes}
use Rattle.run_laws.proofs.Sums.{same_number, sum_plus, sum_same}
use Rattle.run_laws.proofs.Working.{count_append, kept_all, nodes_append, owed_node, owed_nodes, owed_run}
use Rattle.run_laws.specs.Counts.{sum_below}
use Rattle.run_laws.specs.Measures.{begun_by, count_hands, count_run, freed_by, gave_by, given_by, got_by, hand_nodes, left_by, stored_by, took_by, total}
use Rattle.run_rules.specs.Acts.{Act}
use Rattle.run_rules.specs.Histories.{Histories}
use Rattle.run_rules.specs.Lawful.{AreScripted, left_over, waited}
use Rattle.run_rules.specs.Manager.{Sweep, Task, idle, leaving, manager_ended, new_manager, resting, rests, sweeping, swept_after}
use Rattle.run_rules.specs.Setup.{Setup, ender, manager, recycler, roles, rounds, work_of}
use Rattle.run_rules.specs.Worker.{Stage, Stand, asking, between, closing, denied, ended, ended_at, evicting, freeing, fresh, granted, looking, missed, over, settling, stand_after, turning}

-- the end of a worker's script

over_sum : (a : ℕ) (rounds : List (List (List ℕ))) (hand : List Gone) (hands all : List (List Gone)) → over rounds hand hands ≡ Some all
    → (count_hands a all ≡ count_run a hand + count_hands a hands) × (length all ≡ length rounds + length hands) × (hand_nodes all ≡ sum_nodes hand + hand_nodes hands)
over_sum a [] [] hands all h =
    let e : hands ≡ all = cc in
    subst (λ (x : List (List Gone)). (count_hands a x ≡ 0 + count_hands a hands) × (length x ≡ 0 + length hands) × (hand_nodes x ≡ 0 + hand_nodes hands)) e (omega arith, omega arith, omega arith)
over_sum a [] (g ∷ hand) hands all h = cc
over_sum a ([] ∷ later) hand hands all h = let k = over_sum a later [] (hand ∷ hands) all h in (omega (arith, k.0), omega (arith, k.1), omega (arith, k.2))
over_sum a ((b ∷ bs) ∷ later) hand hands all h = cc

ended_place : (p : Stage) (s : Stand) (all : List (List Gone)) → ended_at p s ≡ Some all → (p ≡ between) × (over s.rounds s.hand s.hands ≡ Some all)
ended_place between s all h = (refl, h)
ended_place (looking todo) s all h = cc
ended_place (missed f todo) s all h = cc
ended_place (evicting f k todo) s all h = cc
ended_place (turning f todo) s all h = cc
ended_place (granted f todo) s all h = cc
ended_place (denied f todo) s all h = cc
ended_place (asking f todo) s all h = cc
ended_place (settling f had todo) s all h = cc
ended_place (closing todo) s all h = cc
ended_place (freeing n todo) s all h = cc

pub ended_some : (o : Option Stand) (all : List (List Gone)) → ended o ≡ Some all → (s : Stand) × (o ≡ Some s) × (s.stage ≡ between) × (over s.rounds s.hand s.hands ≡ Some all)
ended_some None all h = cc
ended_some (Some s) all h = let k = ended_place s.stage s all h in (s, refl, k.0, k.1)

idle_some : (hand : List Gone) (hands all : List (List Gone)) → idle hand hands ≡ Some all → (hand ≡ []) × (hands ≡ all)
idle_some [] hands all h = (refl, let e : hands ≡ all = cc in e)
idle_some (g ∷ hand) hands all h = cc

if_some : {A : Type 0} (t : Bool) (x : Option A) (y : A) → cond t x None ≡ Some y → (t ≡ true) × (x ≡ Some y)
if_some true x y h = (refl, h)
if_some false x y h = cc

rests_some : (w : Setup) (k : Task) (s : Sweep) (all : List (List Gone)) → rests w k s ≡ Some all → (s.round ≡ rounds w) × (s.hand ≡ []) × (s.hands ≡ all)
rests_some w resting s all h = let k = if_some (s.round == rounds w) (idle s.hand s.hands) all h in let l = idle_some s.hand s.hands all k.1 in (same_number s.round (rounds w) k.0, l.0, l.1)
rests_some w (sweeping k) s all h = cc
rests_some w leaving s all h = cc

pub managed_some : (w : Setup) (o : Option Sweep) (all : List (List Gone)) → manager_ended w o ≡ Some all → (s : Sweep) × (o ≡ Some s) × (s.round ≡ rounds w) × (s.hand ≡ []) × (s.hands ≡ all)
managed_some w None all h = cc
managed_some w (Some s) all h = let k = rests_some w s.task s all h in (s, refl, k.0, k.1, k.2)

pub length_rounds : (w : Setup) (role : ℕ) → length (work_of w role) ≡ rounds w
length_rounds w role = length-map-range_with_len (λ r. batches_of w.layout w.capture.seen role r) 0 (rounds w)

-- what a role took and gave back in all, what it was brought, and what its hands held
pub record RoleTotals (a : ℕ) (acts : List Act) (brought brought_nodes : ℕ) (hands : List (List Gone)) : Type 0 where
  pub got : total (got_by a) acts ≡ total (begun_by a) acts
  pub took : total took_by acts ≡ total stored_by acts
  pub left : total (left_by a) acts + brought ≡ total (given_by a) acts + count_hands a hands
  pub freed : total freed_by acts + brought_nodes ≡ total gave_by acts + hand_nodes hands

worker_totals : (w : Setup) (a role : ℕ) (acts : List Act) (all : List (List Gone)) → ended (stand_after w (fresh (work_of w role)) acts) ≡ Some all
    → RoleTotals a acts 0 0 all × (length all ≡ rounds w)
worker_totals w a role acts all h =
    let e = ended_some (stand_after w (fresh (work_of w role)) acts) all h in
    let k = kept_all w a (length (work_of w role)) (fresh (work_of w role)) (record { got = refl; left = refl; nodes = refl; freed = refl; rounds = omega arith }) acts e.0 e.1 in
    let o = over_sum a e.0.rounds e.0.hand e.0.hands all e.3 in
    let p : owed_run a e.0.stage ≡ 0 = ap (owed_run a) e.2 in
    let q : owed_node e.0.stage ≡ 0 = ap owed_node e.2 in
    let r : owed_nodes e.0.stage ≡ 0 = ap owed_nodes e.2 in (
      record { got = omega (arith, k.got, p); took = omega (arith, k.nodes, q); left = omega (arith, k.left, o.0); freed = omega (arith, k.freed, o.2, r) },
      o.1 ∙ (k.rounds ∙ length_rounds w role),
    )

manager_role : (w : Setup) (a : ℕ) (acts : List Act) (all : List (List Gone)) → manager_ended w (swept_after w new_manager acts) ≡ Some all → RoleTotals a acts 0 0 all × (length all ≡ rounds w)
manager_role w a acts all h =
    let e = managed_some w (swept_after w new_manager acts) all h in
    let k = manager_totals w a new_manager (refl, refl, refl) acts e.0 e.1 in
    let z : sweep_holds a e.0 ≡ count_hands a all = rw (e.3, e.4) (omega arith) in
    let y : sweep_nodes e.0 ≡ hand_nodes all = rw (e.3, e.4) (omega arith) in
    (record { got = k.0.got; took = k.0.took; left = omega (arith, k.0.left, z); freed = omega (arith, k.0.freed, y) }, ap length (sym e.4) ∙ (k.1 ∙ e.2))

-- sums over all roles: the workers, the manager, the recycler and the end role
pub sum_roles : (n : ℕ) (f : ℕ → ℕ) → sum_below (n + 3) f ≡ sum_below n f + f n + f (n + 1) + f (n + 2)
sum_roles n f =
    subst (λ (m : ℕ). sum_below m f ≡ sum_below n f + f n + f (n + 1) + f (n + 2)) e
    (ap (λ (x : ℕ). sum_below n f + f n + x + f (suc (suc n))) (ap f s) ∙ ap (λ (x : ℕ). sum_below n f + f n + f (n + 1) + x) (ap f r))
  where
    e : suc (suc (suc n)) ≡ n + 3
    e = omega arith

    s : suc n ≡ n + 1
    s = omega arith

    r : suc (suc n) ≡ n + 2
    r = omega arith

pub all_count : (a : ℕ) (hs : List (List Gone)) → all_hands (count_run a) refl (count_append a) hs ≡ count_hands a hs
all_count a [] = refl
all_count a (h ∷ hs) = ap (λ (x : ℕ). count_run a h + x) (all_count a hs)

all_nodes : (hs : List (List Gone)) → all_hands sum_nodes refl nodes_append hs ≡ hand_nodes hs
all_nodes [] = refl
all_nodes (h ∷ hs) = ap (λ (x : ℕ). sum_nodes h + x) (all_nodes hs)

module _ (w : Setup) (t : Histories) (l : AreScripted w t) (a : ℕ) where
  worker_sum : (r : ℕ) → r < w.layout.workers → RoleTotals a (l.acts r) 0 0 (l.hands r) × (length (l.hands r) ≡ rounds w)
  worker_sum r h = worker_totals w a r (l.acts r) (l.hands r) (l.work r h)

  manager_sum : RoleTotals a (l.acts (manager w)) 0 0 (l.hands (manager w)) × (length (l.hands (manager w)) ≡ rounds w)
  manager_sum = manager_role w a (l.acts (manager w)) (l.hands (manager w)) l.manage

  recycler_sum : Totals w a (l.acts (recycler w)) (count_run a (waited (manager w + 1) l.hands (rounds w - 1))) 0 (sum_nodes (waited (manager w + 1) l.hands (rounds w - 1))) 0
  recycler_sum = queue_totals w a (waited (manager w + 1) l.hands (rounds w - 1)) (l.acts (recycler w)) [] l.recycle

  ender_sum : Totals w a (l.acts (ender w)) (count_run a (left_over w l.hands)) 0 (sum_nodes (left_over w l.hands)) 0
  ender_sum = ending_totals w a (record { queue = left_over w l.hands; drained = 0 }) (l.acts (ender w)) (record { queue = []; drained = w.layout.rows }) l.drain

  few : (r : ℕ) → r < manager w + 1 → length (l.hands r) ≤ suc (rounds w - 1)
  few r h = ⊎_elim (λ e. omega (arith, subst (λ (x : ℕ). length (l.hands x) ≡ rounds w) (sym e.1) manager_sum.1)) (λ e. omega (arith, (worker_sum r (omega (arith, e.1))).1)) (eqb_tells r (manager w))

  -- what is handed on is what was held
  handed : count_run a (waited (manager w + 1) l.hands (rounds w - 1)) + count_run a (left_over w l.hands) ≡ sum_below (w.layout.workers)
      (λ r. count_hands a (l.hands r)) + count_hands a (l.hands (manager w))
  handed = handed_on (count_run a) refl (count_append a) (manager w + 1) (rounds w - 1) l.hands few
      ∙ (sum_same (manager w + 1) (λ r. all_hands (count_run a) refl (count_append a) (l.hands r)) (λ r. count_hands a (l.hands r)) (λ r h. all_count a (l.hands r))
      ∙ last (manager w) (λ r. count_hands a (l.hands r)))
    where
      last : (n : ℕ) (f : ℕ → ℕ) → sum_below (n + 1) f ≡ sum_below n f + f n
      last n f = let e : suc n ≡ n + 1 = omega arith in subst (λ (m : ℕ). sum_below m f ≡ sum_below n f + f n) e refl

  abbrev pub over_roles : (Act → ℕ) → ℕ
  over_roles m = sum_below (roles w) (λ r. total m (l.acts r))

  pub got_made : over_roles (got_by a) ≡ over_roles (begun_by a)
  got_made =
      let x = sum_roles w.layout.workers (λ r. total (got_by a) (l.acts r)) in
      let y = sum_roles w.layout.workers (λ r. total (begun_by a) (l.acts r)) in
      let z = sum_same w.layout.workers (λ r. total (got_by a) (l.acts r)) (λ r. total (begun_by a) (l.acts r)) (λ r h. (worker_sum r h).0.got) in
      omega (arith, x, y, z, manager_sum.0.got, recycler_sum.got, ender_sum.got)

  pub left_given : over_roles (left_by a) ≡ over_roles (given_by a)
  left_given =
      let x = sum_roles w.layout.workers (λ r. total (left_by a) (l.acts r)) in
      let y = sum_roles w.layout.workers (λ r. total (given_by a) (l.acts r)) in
      let z = sum_same w.layout.workers (λ r. total (left_by a) (l.acts r)) (λ r. total (given_by a) (l.acts r) + count_hands a (l.hands r)) (λ r h. omega (arith, (worker_sum r h).0.left)) in
      let u = sum_plus w.layout.workers (λ r. total (given_by a) (l.acts r)) (λ r. count_hands a (l.hands r)) in
      omega (arith, x, y, z, u, handed, manager_sum.0.left, recycler_sum.left, ender_sum.left)

  handed_nodes : sum_nodes (waited (manager w + 1) l.hands (rounds w - 1)) + sum_nodes (left_over w l.hands) ≡ sum_below (w.layout.workers)
      (λ r. hand_nodes (l.hands r)) + hand_nodes (l.hands (manager w))
  handed_nodes = handed_on sum_nodes refl nodes_append (manager w + 1) (rounds w - 1) l.hands few
      ∙ (sum_same (manager w + 1) (λ r. all_hands sum_nodes refl nodes_append (l.hands r)) (λ r. hand_nodes (l.hands r)) (λ r h. all_nodes (l.hands r))
      ∙ last (manager w) (λ r. hand_nodes (l.hands r)))
    where
      last : (n : ℕ) (f : ℕ → ℕ) → sum_below (n + 1) f ≡ sum_below n f + f n
      last n f = let e : suc n ≡ n + 1 = omega arith in subst (λ (m : ℕ). sum_below m f ≡ sum_below n f + f n) e refl

  pub took_stored : over_roles took_by ≡ over_roles stored_by
  took_stored =
      let x = sum_roles w.layout.workers (λ r. total took_by (l.acts r)) in
      let y = sum_roles w.layout.workers (λ r. total stored_by (l.acts r)) in
      let z = sum_same w.layout.workers (λ r. total took_by (l.acts r)) (λ r. total stored_by (l.acts r)) (λ r h. (worker_sum r h).0.took) in
      omega (arith, x, y, z, manager_sum.0.took, recycler_sum.took, ender_sum.took)

  pub freed_gave : over_roles freed_by ≡ over_roles gave_by
  freed_gave =
      let x = sum_roles w.layout.workers (λ r. total freed_by (l.acts r)) in
      let y = sum_roles w.layout.workers (λ r. total gave_by (l.acts r)) in
      let z = sum_same w.layout.workers (λ r. total freed_by (l.acts r)) (λ r. total gave_by (l.acts r) + hand_nodes (l.hands r)) (λ r h. omega (arith, (worker_sum r h).0.freed)) in
      let u = sum_plus w.layout.workers (λ r. total gave_by (l.acts r)) (λ r. hand_nodes (l.hands r)) in
      omega (arith, x, y, z, u, handed_nodes, manager_sum.0.freed, recycler_sum.freed, ender_sum.freed)
