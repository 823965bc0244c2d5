-- What each role's script does next may be called. A worker knows it of its own notes, which are all that its calls hang on; the manager
-- sweeps within the rounds that there are; and when all workers have ended, each frame was closed, so that the end role may drain.
use Rattle.std.proofs.Common.{◌≡◌, ℕ, ◌==◌, ◌+◌, ◌<◌, ◌≤◌, nat_lt, Bool, true, false, ◌&&◌, if◌then◌else◌, List, [], ◌∷◌, ◌++◌, length, Option, Some, None, ⊎_elim, refl, sym, ◌∙◌, ap, subst, arith, mod-lt}
use Rattle.std.proofs.lemmas.Bool.Decides.{nat_tests}
use Rattle.bucket_laws.proofs.Tests.{below, both}
use Rattle.bucket_laws.specs.Leaving.{Gone}
use Rattle.bucket_laws.specs.Places.{In}
use Rattle.bucket_rules.specs.Fixing.{Asked, asked}
use Rattle.bucket_rules.specs.Own.{is_closed, owes}
use Rattle.bucket_rules.specs.Packets.{bearing}
use Rattle.bucket_rules.specs.Rule.{IsPacketOf}
use Rattle.capture_index.proofs.Batching.{begins_within}
use Rattle.run_laws.proofs.Dealt.{IsMine, flat, work_whole}
use Rattle.run_laws.proofs.Notes.{awaits_are, awaits_of, closed_by_own, closed_of, fresh_are, fresh_of, notes_in, open_are, open_of, owes_are, owes_by, own_notes, own_notes_are}
use Rattle.run_laws.proofs.Reading.{both4}
use Rattle.run_laws.proofs.Scripting.{CanAsk, can_act, knows, pending}
use Rattle.run_laws.proofs.Sums.{same_number}
use Rattle.run_laws.proofs.Working.{only_some}
use Rattle.run_laws.specs.Calling.{MayAct, MayAsk}
use Rattle.run_laws.specs.Setting.{IsSetup}
use Rattle.run_rules.specs.Acts.{Act, on_bucket, on_pool, on_segments}
use Rattle.run_rules.specs.Ending.{Ending, drain, end_on}
use Rattle.run_rules.specs.Histories.{Histories, bucket_at}
use Rattle.run_rules.specs.Manager.{Sweep, Task, end_round, leaving, manage, managed, new_manager, resting, start_round, sweep, sweep_on, sweeping, swept_after}
use Rattle.run_rules.specs.Serving.{serve}
use Rattle.run_rules.specs.Setup.{Setup, bucket_by, bucket_for, ender, fixed_at, manager, recycler, roles, rounds}
use Rattle.run_rules.specs.SoFar.{AreScriptedSoFar, OthersEnded, hands_by}
use Rattle.run_rules.specs.Worker.{Stage, Stand, after_act, asking, between, closing, denied, ended_at, evicting, freeing, granted, looking, missed, over, settling, turning}
use Rattle.suri_base.specs.Dealing.{bucket_of, worker_of}
use Rattle.suri_base.specs.Hash.{fnv1a, key_bytes}
use Rattle.suri_base.specs.Keys.{same_truth}
use Rattle.suri_base.specs.declared.entry.BucketNote.{BucketNote}
use Rattle.suri_base.specs.declared.entry.BucketNote.TheVariants.{AllInUse, Closed, Drained, Found, Idle, Made, Missing, Refused, Stopped, Stored, Swept, Victim}
use Rattle.suri_base.specs.declared.entry.Entry.{Entry}
use Rattle.suri_base.specs.declared.entry.PoolNote.{PoolNote}
use Rattle.suri_base.specs.declared.entry.PoolNote.TheVariants.{Full, Mode, Over, Put, Took, Turn}
use Rattle.suri_base.specs.declared.facts.Facts.{Facts}
use Rattle.bucket_rules.specs.Fixing as asks

-- the manager

abbrev SweepsWithin : Setup → Task → ℕ → Type 0
SweepsWithin w resting round = Unit {0}
SweepsWithin w (sweeping k) round = (k < w.layout.rows) × (round < rounds w)
SweepsWithin w leaving round = Unit {0}

sweeps_on : (w : Setup) (k round : ℕ) (t : Bool) → (k == w.layout.rows) ≡ t → k ≤ w.layout.rows → round < rounds w → SweepsWithin w (if t then leaving else sweeping k) round
sweeps_on w k round true e h l = tt
sweeps_on w k round false e h l = (less k w.layout.rows e h, l)
  where
    less : (x y : ℕ) → (x == y) ≡ false → x ≤ y → x < y
    less x y e h = grind (arith, nat_tests)

swept_within : (w : Setup) (k : ℕ) (s : Sweep) (b : ℕ) (n : BucketNote) (left : List Gone) (next : Sweep) → sweep w k s b n left ≡ Some next → SweepsWithin w (sweeping k) s.round
    → SweepsWithin w next.task next.round × (b < w.layout.rows) × ((past : List (Entry BucketNote)) → MayAsk (fixed_at w b) past (manager w) (asked n))
swept_within w k s b (Found g e m run o) left next h l = cc
swept_within w k s b (Missing g e m ended) left next h l = cc
swept_within w k s b (Made g o) left next h l = cc
swept_within w k s b (Refused g) left next h l = cc
swept_within w k s b (Stored g) left next h l = cc
swept_within w k s b (Stopped g) left next h l = cc
swept_within w k s b (Closed g app run freed ended) left next h l = cc
swept_within w k s b (Idle g app) left next h l = cc
swept_within w k s b (Victim g run) left next h l = cc
swept_within w k s b (AllInUse g count) left next h l = cc
swept_within w k s b (Swept round e m count) left next h l =
    let z = only_some ((b == k) && (round == s.round) && same_truth e s.emergency && (m == s.seen)) (record s { task = sweep_on (k + 1) w.layout.rows; hand = s.hand ++ left }) next h in
    let q = both4 (b == k) (round == s.round) (same_truth e s.emergency) (m == s.seen) z.0 in
    let here : b ≡ k = same_number b k q.0 in
    let now : round ≡ s.round = same_number round s.round q.1 in (
      subst (λ (v : Sweep). SweepsWithin w v.task v.round) z.1 (sweeps_on w (k + 1) s.round (k + 1 == w.layout.rows) refl (let x = l.0 in omega (arith, x)) l.1),
      (subst (λ (u : ℕ). u < w.layout.rows) (sym here) l.0),
      λ past. record { manager = refl; within = begins_within (length w.capture.frames) w.layout.round round (subst (λ (u : ℕ). u < rounds w) (sym now) l.1) },
    )
swept_within w k s b (Drained count) left next h l = cc

started_within : (w : Setup) (s : Sweep) (n : PoolNote) (i : ℕ) (next : Sweep) → start_round w s n i ≡ Some next → SweepsWithin w next.task next.round
started_within w s (Mode e) i next h =
    let z = only_some (nat_lt s.round (rounds w)) (record s { task = sweep_on 0 w.layout.rows; emergency = e; seen = i }) next h in
    subst (λ (v : Sweep). SweepsWithin w v.task v.round) z.1 (sweeps_on w 0 s.round (0 == w.layout.rows) refl (omega arith) (below s.round (rounds w) z.0))
started_within w s (Took g) i next h = cc
started_within w s (Full g n limit) i next h = cc
started_within w s (Put run) i next h = cc
started_within w s (Turn run g) i next h = cc
started_within w s (Over round done) i next h = cc

ended_within : (w : Setup) (s : Sweep) (n : PoolNote) (next : Sweep) → end_round w s n ≡ Some next → SweepsWithin w next.task next.round
ended_within w s (Over round done) next h =
    let z = only_some (round == s.round) (record s { task = resting; round = s.round + 1; hand = []; hands = s.hand ∷ s.hands }) next h in
    subst (λ (v : Sweep). SweepsWithin w v.task v.round) z.1 tt
ended_within w s (Took g) next h = cc
ended_within w s (Full g n limit) next h = cc
ended_within w s (Put run) next h = cc
ended_within w s (Turn run g) next h = cc
ended_within w s (Mode e) next h = cc

manages_within : (w : Setup) (k : Task) (s : Sweep) (a : Act) (next : Sweep) → manage w k s a ≡ Some next → SweepsWithin w k s.round → SweepsWithin w next.task next.round
manages_within w resting s (on_pool n i) next h k = started_within w s n i next h
manages_within w resting s (on_segments n) next h k = cc
manages_within w resting s (on_bucket b n left) next h k = cc
manages_within w (sweeping j) s (on_pool n i) next h k = cc
manages_within w (sweeping j) s (on_segments n) next h k = cc
manages_within w (sweeping j) s (on_bucket b n left) next h k = (swept_within w j s b n left next h k).0
manages_within w leaving s (on_pool n i) next h k = ended_within w s n next h
manages_within w leaving s (on_segments n) next h k = cc
manages_within w leaving s (on_bucket b n left) next h k = cc

managed_within : (w : Setup) (o : Option Sweep) (a : Act) (next : Sweep) → managed w a o ≡ Some next → ((s : Sweep) → o ≡ Some s → SweepsWithin w s.task s.round) → SweepsWithin w next.task next.round
managed_within w None a next h k = cc
managed_within w (Some s) a next h k = manages_within w s.task s a next h (k s refl)

all_within : (w : Setup) (acts : List Act) (s : Sweep) → swept_after w new_manager acts ≡ Some s → SweepsWithin w s.task s.round
all_within w [] s h = let e : new_manager ≡ s = cc in subst (λ (v : Sweep). SweepsWithin w v.task v.round) e tt
all_within w (a ∷ acts) s h = managed_within w (swept_after w new_manager acts) a s h (λ x e. all_within w acts x e)

-- a worker that ended has no frame left

over_flat : (left : List (List (List ℕ))) (hand : List Gone) (hands all : List (List Gone)) → over left hand hands ≡ Some all → (g : ℕ) → In g (flat left) → ⊥
over_flat [] hand hands all h g i = i
over_flat ([] ∷ later) hand hands all h g i = over_flat later [] (hand ∷ hands) all h g i
over_flat ((b ∷ bs) ∷ later) hand hands all h g i = cc

none_left : (p : Stage) (s : Stand) (all : List (List Gone)) (w : Setup) (role : ℕ) → ended_at p s ≡ Some all → (g : ℕ) → In g (pending w role p s.batch s.rounds) → ⊥
none_left between s all w role h g i = over_flat s.rounds s.hand s.hands all h g i
none_left (looking todo) s all w role h g i = cc
none_left (missed f todo) s all w role h g i = cc
none_left (evicting f k todo) s all w role h g i = cc
none_left (turning f todo) s all w role h g i = cc
none_left (granted f todo) s all w role h g i = cc
none_left (denied f todo) s all w role h g i = cc
none_left (asking f todo) s all w role h g i = cc
none_left (settling f had todo) s all w role h g i = cc
none_left (closing todo) s all w role h g i = cc
none_left (freeing m todo) s all w role h g i = cc

module _ (w : Setup) (d : IsSetup w) (t : Histories) (s : AreScriptedSoFar w t) where
  real : (b : ℕ) → b < w.layout.rows → b < length t.buckets
  real b h = subst (λ (n : ℕ). b < n) (sym s.legal.rows) h

  module _ (role : ℕ) (h : role < w.layout.workers) where
    own : role < roles w
    own = omega (arith, h)

    notes : (b : ℕ) → b < length t.buckets → own_notes role (bucket_at b t.buckets) ≡ notes_in b (s.acts role)
    notes b l = own_notes_are w t role b (s.acts role) (s.own role own) l

    no_offer : (b : ℕ) (o : Option ℕ) → b < length t.buckets → owes_by (notes_in b (s.acts role)) ≡ o → owes role (bucket_at b t.buckets) ≡ o
    no_offer b o l e = owes_are role (bucket_at b t.buckets) ∙ (ap owes_by (notes b l) ∙ e)

    may_ask : (b : ℕ) (q : Asked) → b < length t.buckets → CanAsk w role b q (s.acts role) → MayAsk (fixed_at w b) (bucket_at b t.buckets) role q
    may_ask b (asks.look f emergency seen) l k = record {
      own = subst (λ (u : ℕ). IsPacketOf (fixed_at w u) role f) (sym k.0) k.1;
      fresh = fresh_are role f (bucket_at b t.buckets) ∙ (ap (fresh_of f) (notes b l) ∙ k.2);
      settled = no_offer b None l k.3;
    }
    may_ask b (asks.make f) l k = awaits_are role f (bucket_at b t.buckets) ∙ (ap (awaits_of f) (notes b l) ∙ k)
    may_ask b (asks.refuse f) l k = awaits_are role f (bucket_at b t.buckets) ∙ (ap (awaits_of f) (notes b l) ∙ k)
    may_ask b (asks.store f) l k = no_offer b (Some f) l k
    may_ask b (asks.stop f) l k = no_offer b (Some f) l k
    may_ask b (asks.close f app) l k = record { answered = open_are role f (bucket_at b t.buckets) ∙ (ap (open_of f) (notes b l) ∙ k.0); settled = no_offer b None l k.1 }
    may_ask b (asks.evict f) l k = record { worker = h; settled = no_offer b None l k }
    may_ask b (asks.sweep round emergency seen) l k = absurd k
    may_ask b asks.drain l k = absurd k

    pub worker_may : (a : Act) (next : Stand) → after_act w (s.stands role) a ≡ Some next → MayAct w t role a
    worker_may (on_pool n i) next e = tt
    worker_may (on_segments n) next e = tt
    worker_may (on_bucket b n left) next e =
        let c = can_act w role d (s.acts role) (s.stands role) next (on_bucket b n left) (s.work role h) e in
        (real b c.0, may_ask b (asked n) (real b c.0) c.1)

  manager_acts : (k : Task) (a : Act) (next : Sweep) → manage w k s.sweep a ≡ Some next → SweepsWithin w k s.sweep.round → MayAct w t (manager w) a
  manager_acts k (on_pool n i) next e l = tt
  manager_acts k (on_segments n) next e l = tt
  manager_acts resting (on_bucket b n left) next e l = cc
  manager_acts (sweeping j) (on_bucket b n left) next e l = let z = swept_within w j s.sweep b n left next e l in (real b z.1, z.2 (bucket_at b t.buckets))
  manager_acts leaving (on_bucket b n left) next e l = cc

  pub manager_may : (a : Act) (next : Sweep) → manage w s.sweep.task s.sweep a ≡ Some next → MayAct w t (manager w) a
  manager_may a next e = manager_acts s.sweep.task a next e (all_within w (s.acts (manager w)) s.sweep s.manage)

  pub recycler_may : (a : Act) (next : List Gone) → serve s.waiting a ≡ Some next → MayAct w t (recycler w) a
  recycler_may (on_pool n i) next e = tt
  recycler_may (on_segments n) next e = tt
  recycler_may (on_bucket b n left) next e = cc

  -- every frame of a bucket was closed there
  all_closed : OthersEnded w s.stands s.sweep s.served s.waiting → (b f : ℕ) (p : Facts) → b < length t.buckets → bearing w.capture f ≡ Some p → bucket_of p.key w.layout.rows ≡ b
      → is_closed f (bucket_at b t.buckets) ≡ true
  all_closed o b f p l e q =
      let role = worker_of p.key w.layout.workers in
      let h : role < w.layout.workers = mod-lt (fnv1a (key_bytes p.key)) d.layout.workers.0 in
      let m : IsMine w role f = record { packet = p; bears = e; bucket = sym (ap (bucket_by w.layout.rows) e); worker = refl } in
      let here : bucket_for w f ≡ b = ap (bucket_by w.layout.rows) e ∙ q in
      let k = knows w role d (s.acts role) (s.stands role) (s.work role h) in
      ⊎_elim
      (λ x. absurd (none_left (s.stands role).stage (s.stands role) (hands_by w s.stands s.sweep role) w role (o.work role h) f x))
      (λ x.
      let y : closed_of f (notes_in b (s.acts role)) ≡ true = subst (λ (c : ℕ). closed_of f (notes_in c (s.acts role)) ≡ true) here x in
      closed_by_own role f (bucket_at b t.buckets) (ap (closed_of f) (notes role h b l) ∙ y))
      (k.done f (work_whole w role f d m))

  drains : (x : Ending) (b : ℕ) (n : BucketNote) (left : List Gone) (next : Ending) → OthersEnded w s.stands s.sweep s.served s.waiting → drain w x b n left ≡ Some next
      → MayAct w t (ender w) (on_bucket b n left)
  drains x b (Found g em m run said) left next o e = cc
  drains x b (Missing g em m ended) left next o e = cc
  drains x b (Made g said) left next o e = cc
  drains x b (Refused g) left next o e = cc
  drains x b (Stored g) left next o e = cc
  drains x b (Stopped g) left next o e = cc
  drains x b (Closed g app run freed ended) left next o e = cc
  drains x b (Idle g app) left next o e = cc
  drains x b (Victim g run) left next o e = cc
  drains x b (AllInUse g count) left next o e = cc
  drains x b (Swept round em m count) left next o e = cc
  drains x b (Drained count) left next o e =
      let z = only_some ((b == x.drained) && nat_lt b w.layout.rows) (record { queue = left; drained = x.drained + 1 }) next e in
      let l = real b (below b w.layout.rows (both (b == x.drained) (nat_lt b w.layout.rows) z.0).1) in
      (l, record { end = refl; done = λ f p y q. all_closed o b f p l y q })

  end_acts : (queue : List Gone) (x : Ending) (a : Act) (next : Ending) → OthersEnded w s.stands s.sweep s.served s.waiting → end_on w queue x a ≡ Some next → MayAct w t (ender w) a
  end_acts queue x (on_pool n i) next o e = tt
  end_acts queue x (on_segments n) next o e = tt
  end_acts [] x (on_bucket b n left) next o e = drains x b n left next o e
  end_acts (g ∷ queue) x (on_bucket b n left) next o e = cc

  pub end_may : (a : Act) (next : Ending) → OthersEnded w s.stands s.sweep s.served s.waiting → end_on w s.ending.queue s.ending a ≡ Some next → MayAct w t (ender w) a
  end_may a next o e = end_acts s.ending.queue s.ending a next o e
