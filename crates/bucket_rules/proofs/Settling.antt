-- The offers that roles have to settle, and the runs whose newest member asks for a node.
use Rattle.std.proofs.Common.{◌≡◌, ℕ, ◌==◌, ◌≤◌, ◌<◌, Bool, true, false, cond, List, [], ◌∷◌, Option, Some, None, ◌⊎◌, ⊎_elim, inl, inr, refl, sym, ◌∙◌, ap, subst, arith, eq-eqb, mod-lt}
use Rattle.std.proofs.lemmas.Bool.{false_from_ne_true, or_left}
use Rattle.suri_base.specs.Hash.{fnv1a, key_bytes}
use Rattle.std.proofs.lemmas.Bool.Decides.{eqb_tells}
use Rattle.suri_base.specs.Dealing.{worker_of}
use Rattle.suri_base.specs.History.{entry}
use Rattle.suri_base.specs.declared.entry.BucketNote.{BucketNote}
use Rattle.suri_base.specs.declared.entry.BucketNote.TheVariants.{Found, Missing, Made, Refused, Stored, Stopped, Closed, Idle, Victim, AllInUse, Swept, Drained}
use Rattle.suri_base.specs.declared.entry.Entry.{Entry}
use Rattle.suri_base.specs.declared.facts.Facts.{Facts}
use Rattle.suri_base.specs.declared.key.Key.{Key}
use Rattle.suri_base.proofs.SameKeys.{same_key-is}
use Rattle.flow_sum.specs.Run.{oldest_of}
use Rattle.bucket_rules.specs.declared.fixed.Fixed.{Fixed}
use Rattle.bucket_rules.specs.Own.{is_needing, owed, owes}
use Rattle.bucket_rules.specs.Packets.{bearing, has_key}
use Rattle.bucket_rules.specs.Row.{is_none_of, Row, row, after, has, with_packet}
use Rattle.bucket_rules.specs.Rule.{MayClose, IsPacketOf, Rule}
use Rattle.bucket_rules.specs.Sound.{IsOwing, IsAsking, IsSound}
use Rattle.bucket_rules.proofs.Words.{true_false, cond_other, cond_this, some_is, none_some}
use Rattle.bucket_rules.proofs.Rowing.{found-uses, made-uses, uses_after, members_after, asks_after, after-uses, after-members, after-asks, joins_key}
use Rattle.bucket_rules.proofs.Owning.{owes_own, owes_other}
use Rattle.bucket_rules.proofs.Beginning.{used_begun}
use Rattle.bucket_rules.proofs.Opening.{uses_kept, spared}

-- two packets of the key of the same members have one worker
pub one_worker : (s : Fixed) (r f q g : ℕ) (p : IsPacketOf s r f) (o : IsPacketOf s q g) (ms : List Facts) → has_key ms p.packet.key ≡ true
    → has_key ms o.packet.key ≡ true → r ≡ q
one_worker s r f q g p o ms h k = p.worker ∙ ap (λ (x : Key). worker_of x s.layout.workers) (keys_same ms p.packet.key o.packet.key h k) ∙ sym o.worker
  where
    keys_same : (ms : List Facts) (k l : Key) → has_key ms k ≡ true → has_key ms l ≡ true → k ≡ l
    keys_same [] k l h i = cc
    keys_same (m ∷ ms) k l h i = sym (same_key-is (oldest_of m ms).key k h) ∙ same_key-is (oldest_of m ms).key l i

-- a run has the key of each packet that uses it
pub use_key : (s : Fixed) (past : List (Entry BucketNote)) (a q f : ℕ) → IsSound s past → has (row s a past).uses f ≡ true → (p : IsPacketOf s q f)
    → has_key (row s a past).members p.packet.key ≡ true
use_key s past a q f snd h p =
    let u = snd.uses a f h in
    subst (λ (t : Facts). has_key (row s a past).members t.key ≡ true) (some_is u.bears p.bears) u.key

owed_if : (b : Bool) (g f : ℕ) → cond b (Some g) None ≡ Some f → (b ≡ true) × (g ≡ f)
owed_if true g f h = (refl, some_is refl h)
owed_if false g f h = cc

-- the entry makes its role owe
owing_new : (s : Fixed) (past : List (Entry BucketNote)) (r step : ℕ) (n : BucketNote) (f : ℕ) → IsSound s past → Rule s past r n → owed n ≡ Some f
    → IsOwing s (entry r step n ∷ past) r f
owing_new s past r step (Found g emergency seen run said) f snd rule h =
    let k = owed_if (is_needing said) g f h in
    let own = subst (λ (x : ℕ). IsPacketOf s r x) k.1 rule.0.own in
    let w = row s run past in
    record {
      own = own;
      run = run;
      uses = ap (λ us. has us f) (found-uses s run g emergency seen said w) ∙ or_left (g == f) (has w.uses f) (eq-eqb g f k.1);
      asks = after-asks s run (Found g emergency seen run said) w ∙ cond_this run (is_needing said) w.asks ∙ k.0;
      older = w.members;
      newest = after-members s run (Found g emergency seen run said) w ∙ cond_this run (with_packet (bearing s.capture g) w.members) w.members
          ∙ ap (λ (o : Option Facts). with_packet o w.members) (ap (λ (x : ℕ). bearing s.capture x) k.1 ∙ own.bears);
    }
owing_new s past r step (Made g said) f snd rule h =
    let k = owed_if (is_needing said) g f h in
    let own = subst (λ (x : ℕ). IsPacketOf s r x) k.1 (snd.waits r g rule.0).own in
    let w = row s g past in
    record {
      own = own;
      run = g;
      uses = ap (λ us. has us f) (made-uses s g said w) ∙ or_left (g == f) false (eq-eqb g f k.1);
      asks = after-asks s g (Made g said) w ∙ cond_this g (is_needing said) w.asks ∙ k.0;
      older = [];
      newest = after-members s g (Made g said) w ∙ cond_this g (with_packet (bearing s.capture g) []) w.members
          ∙ ap (λ (o : Option Facts). with_packet o []) (ap (λ (x : ℕ). bearing s.capture x) k.1 ∙ own.bears);
    }
owing_new s past r step (Missing g emergency seen ended) f snd rule h = cc
owing_new s past r step (Refused g) f snd rule h = cc
owing_new s past r step (Stored g) f snd rule h = cc
owing_new s past r step (Stopped g) f snd rule h = cc
owing_new s past r step (Closed g app run freed ended) f snd rule h = cc
owing_new s past r step (Idle g app) f snd rule h = cc
owing_new s past r step (Victim g run) f snd rule h = cc
owing_new s past r step (AllInUse g count) f snd rule h = cc
owing_new s past r step (Swept round emergency seen count) f snd rule h = cc
owing_new s past r step (Drained count) f snd rule h = cc

-- an entry leaves the newest member of a run that asks as it is
record IsLeft (s : Fixed) (n : BucketNote) (a : ℕ) (w : Row) : Type 0 where
  asks : asks_after n a w.uses w.asks ≡ true
  members : members_after s n a w.members ≡ w.members

-- what another role settles is of another run
unsettled : (s : Fixed) (past : List (Entry BucketNote)) (r g q f : ℕ) → IsSound s past → owes r past ≡ Some g → (r ≡ q → ⊥) → (o : IsOwing s past q f)
    → has (row s o.run past).uses g ≡ false
unsettled s past r g q f snd h ne o = false_from_ne_true (has (row s o.run past).uses g) (λ u.
    let own = (snd.owing r g h).own in
    ne (one_worker s r g q f own o.own (row s o.run past).members (use_key s past o.run r g snd u own) (use_key s past o.run q f snd o.uses o.own)))

-- an entry of another role does so to the run that is owed to
owing_left : (s : Fixed) (past : List (Entry BucketNote)) (r : ℕ) (n : BucketNote) (q f : ℕ) → IsSound s past → Rule s past r n → (r ≡ q → ⊥)
    → (o : IsOwing s past q f) → IsLeft s n o.run (row s o.run past)
owing_left s past r (Found g emergency seen run said) q f snd rule ne o = record { asks = cond_other run o.run _ _ apart ∙ o.asks; members = cond_other run o.run _ _ apart }
  where
    apart : run ≡ o.run → ⊥
    apart e = ne (one_worker s r g q f rule.0.own o.own (row s o.run past).members
        (subst (λ (x : ℕ). has_key (row s x past).members rule.0.own.packet.key ≡ true) e
        (joins_key emergency (row s run past) (bearing s.capture g) rule.0.own.packet rule.0.own.bears rule.1))
        (use_key s past o.run q f snd o.uses o.own))
owing_left s past r (Made g said) q f snd rule ne o = record { asks = cond_other g o.run _ _ apart ∙ o.asks; members = cond_other g o.run _ _ apart }
  where
    apart : g ≡ o.run → ⊥
    apart e = true_false (eq-eqb g o.run e) (used_begun s past r (Made g said) o.run f snd rule o.uses)
owing_left s past r (Stored g) q f snd rule ne o = record {
  asks = ap (λ (b : Bool). cond b false (row s o.run past).asks) (unsettled s past r g q f snd rule ne o) ∙ o.asks;
  members = refl;
}
owing_left s past r (Stopped g) q f snd rule ne o = record {
  asks = ap (λ (b : Bool). cond b false (row s o.run past).asks) (unsettled s past r g q f snd rule ne o) ∙ o.asks;
  members = refl;
}
owing_left s past r (Missing g emergency seen ended) q f snd rule ne o = record { asks = o.asks; members = refl }
owing_left s past r (Refused g) q f snd rule ne o = record { asks = o.asks; members = refl }
owing_left s past r (Closed g app run freed ended) q f snd rule ne o = record { asks = o.asks; members = refl }
owing_left s past r (Idle g app) q f snd rule ne o = record { asks = o.asks; members = refl }
owing_left s past r (Victim g run) q f snd rule ne o = record { asks = o.asks; members = refl }
owing_left s past r (AllInUse g count) q f snd rule ne o = record { asks = o.asks; members = refl }
owing_left s past r (Swept round emergency seen count) q f snd rule ne o = record { asks = o.asks; members = refl }
owing_left s past r (Drained count) q f snd rule ne o = record { asks = o.asks; members = refl }

owing_kept : (s : Fixed) (past : List (Entry BucketNote)) (r step : ℕ) (n : BucketNote) (q f : ℕ) → IsSound s past → Rule s past r n → (r ≡ q → ⊥)
    → IsOwing s past q f → IsOwing s (entry r step n ∷ past) q f
owing_kept s past r step n q f snd rule ne o =
    let w = row s o.run past in
    let left = owing_left s past r n q f snd rule ne o in
    record {
      own = o.own;
      run = o.run;
      uses = ap (λ us. has us f) (after-uses s o.run n w) ∙ uses_kept f o.run n w.uses (used_begun s past r n o.run f snd rule o.uses) (spared s past r n q f snd rule ne o.own) o.uses;
      asks = after-asks s o.run n w ∙ left.asks;
      older = o.older;
      newest = after-members s o.run n w ∙ left.members ∙ o.newest;
    }

pub owing_after : (s : Fixed) (past : List (Entry BucketNote)) (r step : ℕ) (n : BucketNote) → IsSound s past → Rule s past r n → (q f : ℕ)
    → owes q (entry r step n ∷ past) ≡ Some f → IsOwing s (entry r step n ∷ past) q f
owing_after s past r step n snd rule q f h = ⊎_elim
    (λ m. subst (λ (x : ℕ). IsOwing s (entry r step n ∷ past) x f) m.1
    (owing_new s past r step n f snd rule (sym (owes_own r step n past) ∙ ap (λ (x : ℕ). owes x (entry r step n ∷ past)) m.1 ∙ h)))
    (λ m. owing_kept s past r step n q f snd rule m.1 (snd.owing q f (sym (owes_other q (entry r step n) past m.1) ∙ h)))
    (eqb_tells r q)

-- the entry settles an offer of a run with these uses
abbrev settles : BucketNote → List ℕ → Bool
settles (Stored g) us = has us g
settles (Stopped g) us = has us g
settles _ us = false

settled_not : (b asks : Bool) → cond b false asks ≡ true → (asks ≡ true) × (b ≡ false)
settled_not true asks h = cc
settled_not false asks h = (h, refl)

-- where a run asks after an entry, the entry made it ask, or it asked before and the entry doesn't settle that
asks_cases : (n : BucketNote) (a : ℕ) (us : List ℕ) (asks : Bool) → asks_after n a us asks ≡ true
    → ((f : ℕ) × (owed n ≡ Some f) × (has (uses_after n a us) f ≡ true)) ⊎ ((asks ≡ true) × (settles n us ≡ false))
asks_cases (Found g emergency seen run said) a us asks h = by (run == a) (is_needing said) h
  where
    by : (b c : Bool) → cond b c asks ≡ true → ((f : ℕ) × (cond c (Some g) None ≡ Some f) × (has (cond b (g ∷ us) us) f ≡ true)) ⊎ ((asks ≡ true) × (false ≡ false))
    by true true h = inl (g, refl, or_left (g == g) (has us g) (eq-eqb g g refl))
    by true false h = cc
    by false c h = inr (h, refl)
asks_cases (Made g said) a us asks h = by (g == a) (is_needing said) h
  where
    by : (b c : Bool) → cond b c asks ≡ true → ((f : ℕ) × (cond c (Some g) None ≡ Some f) × (has (cond b (g ∷ []) us) f ≡ true)) ⊎ ((asks ≡ true) × (false ≡ false))
    by true true h = inl (g, refl, or_left (g == g) false (eq-eqb g g refl))
    by true false h = cc
    by false c h = inr (h, refl)
asks_cases (Stored g) a us asks h = inr (settled_not (has us g) asks h)
asks_cases (Stopped g) a us asks h = inr (settled_not (has us g) asks h)
asks_cases (Missing g emergency seen ended) a us asks h = inr (h, refl)
asks_cases (Refused g) a us asks h = inr (h, refl)
asks_cases (Closed g app run freed ended) a us asks h = inr (h, refl)
asks_cases (Idle g app) a us asks h = inr (h, refl)
asks_cases (Victim g run) a us asks h = inr (h, refl)
asks_cases (AllInUse g count) a us asks h = inr (h, refl)
asks_cases (Swept round emergency seen count) a us asks h = inr (h, refl)
asks_cases (Drained count) a us asks h = inr (h, refl)

-- the worker of a key is none of the other roles
pub worker_within : (s : Fixed) (r f : ℕ) → 1 ≤ s.layout.workers → IsPacketOf s r f → r < s.layout.workers
worker_within s r f h p = subst (λ (x : ℕ). x < s.layout.workers) (sym p.worker) (mod-lt (fnv1a (key_bytes p.packet.key)) h)

-- a role that owes makes no entry but to settle
owing_role : (s : Fixed) (past : List (Entry BucketNote)) (r : ℕ) (n : BucketNote) (f : ℕ) (us : List ℕ) → IsSound s past → Rule s past r n → 1 ≤ s.layout.workers
    → owes r past ≡ Some f → has us f ≡ true → settles n us ≡ false → ⊥
owing_role s past r (Found g emergency seen run said) f us snd rule w h u k = none_some rule.0.settled h
owing_role s past r (Missing g emergency seen ended) f us snd rule w h u k = none_some rule.0.settled h
owing_role s past r (Made g said) f us snd rule w h u k = none_some (snd.waits r g rule.0).settled h
owing_role s past r (Refused g) f us snd rule w h u k = none_some (snd.waits r g rule).settled h
owing_role s past r (Stored g) f us snd rule w h u k = true_false (subst (λ (x : ℕ). has us x ≡ true) (some_is h rule) u) k
owing_role s past r (Stopped g) f us snd rule w h u k = true_false (subst (λ (x : ℕ). has us x ≡ true) (some_is h rule) u) k
owing_role s past r (Closed g app run freed ended) f us snd rule w h u k = none_some rule.0.settled h
owing_role s past r (Idle g app) f us snd rule w h u k = none_some rule.0.settled h
owing_role s past r (Victim g run) f us snd rule w h u k = none_some rule.0.settled h
owing_role s past r (AllInUse g count) f us snd rule w h u k = none_some rule.0.settled h
owing_role s past r (Swept round emergency seen count) f us snd rule w h u k = let m = worker_within s r f w (snd.owing r f h).own in let e = rule.0.manager in omega (arith, m, e)
owing_role s past r (Drained count) f us snd rule w h u k = let m = worker_within s r f w (snd.owing r f h).own in let e = rule.0.end in omega (arith, m, e)

asking_new : (s : Fixed) (past : List (Entry BucketNote)) (r step : ℕ) (n : BucketNote) (a f : ℕ) → owed n ≡ Some f
    → has (uses_after n a (row s a past).uses) f ≡ true → IsAsking s (entry r step n ∷ past) a
asking_new s past r step n a f h u = record {
  role = r;
  frame = f;
  owes = owes_own r step n past ∙ h;
  uses = ap (λ us. has us f) (after-uses s a n (row s a past)) ∙ u;
}

asking_kept : (s : Fixed) (past : List (Entry BucketNote)) (r step : ℕ) (n : BucketNote) (a : ℕ) → IsSound s past → Rule s past r n → 1 ≤ s.layout.workers
    → settles n (row s a past).uses ≡ false → IsAsking s past a
    → IsAsking s (entry r step n ∷ past) a
asking_kept s past r step n a snd rule w k x = record {
  role = x.role;
  frame = x.frame;
  owes = owes_other x.role (entry r step n) past other ∙ x.owes;
  uses = ap (λ us. has us x.frame) (after-uses s a n (row s a past))
      ∙ uses_kept x.frame a n (row s a past).uses (used_begun s past r n a x.frame snd rule x.uses)
      (spared s past r n x.role x.frame snd rule other (snd.owing x.role x.frame x.owes).own) x.uses;
}
  where
    other : r ≡ x.role → ⊥
    other e = owing_role s past r n x.frame (row s a past).uses snd rule w (ap (λ (q : ℕ). owes q past) e ∙ x.owes) x.uses k

pub asking_after : (s : Fixed) (past : List (Entry BucketNote)) (r step : ℕ) (n : BucketNote) → IsSound s past → Rule s past r n → 1 ≤ s.layout.workers → (a : ℕ)
    → (after s a n (row s a past)).asks ≡ true → IsAsking s (entry r step n ∷ past) a
asking_after s past r step n snd rule w a h = ⊎_elim
    (λ m. asking_new s past r step n a m.0 m.1 m.2)
    (λ m. asking_kept s past r step n a snd rule w m.1 (snd.asking w a m.0))
    (asks_cases n a (row s a past).uses (row s a past).asks (sym (after-asks s a n (row s a past)) ∙ h))

-- what a caller may rely on

-- the newest member of a run that asks is the frame that is owed
pub asking_newest : (s : Fixed) (past : List (Entry BucketNote)) (a : ℕ) → IsSound s past → (x : IsAsking s past a)
    → (own : IsPacketOf s x.role x.frame) × (older : List Facts) × ((row s a past).members ≡ own.packet ∷ older)
asking_newest s past a snd x =
    let o = snd.owing x.role x.frame x.owes in
    let same : a ≡ o.run = (snd.uses a x.frame x.uses).only o.run o.uses in
    (o.own, o.older, ap (λ (b : ℕ). (row s b past).members) same ∙ o.newest)

-- no run of the key of a packet asks while its worker owes nothing
pub unasking : (s : Fixed) (past : List (Entry BucketNote)) (r f a : ℕ) → IsSound s past → 1 ≤ s.layout.workers → (p : IsPacketOf s r f) → owes r past ≡ None
    → has_key (row s a past).members p.packet.key ≡ true → (row s a past).asks ≡ false
unasking s past r f a snd w p settled h = false_from_ne_true (row s a past).asks (λ k.
    let x = snd.asking w a k in
    let o = (snd.owing x.role x.frame x.owes).own in
    let same = one_worker s r f x.role x.frame p o (row s a past).members h (use_key s past a x.role x.frame snd x.uses o) in
    none_some settled (ap (λ (q : ℕ). owes q past) same ∙ x.owes))

-- nor does a run that a frame uses which may be closed
pub unasking_used : (s : Fixed) (past : List (Entry BucketNote)) (r f a : ℕ) → IsSound s past → 1 ≤ s.layout.workers → MayClose past r f
    → has (row s a past).uses f ≡ true → (row s a past).asks ≡ false
unasking_used s past r f a snd w may u =
    let own = (snd.opened r f may.answered).own in
    unasking s past r f a snd w own may.settled (use_key s past a r f snd u own)

-- nor does a run that no frame uses
pub unasking_unused : (s : Fixed) (past : List (Entry BucketNote)) (a : ℕ) → IsSound s past → 1 ≤ s.layout.workers → is_none_of (row s a past).uses ≡ true
    → (row s a past).asks ≡ false
unasking_unused s past a snd w h = false_from_ne_true (row s a past).asks (λ k. let x = snd.asking w a k in none_has (row s a past).uses x.frame h x.uses)
  where
    none_has : (us : List ℕ) (f : ℕ) → is_none_of us ≡ true → has us f ≡ true → ⊥
    none_has [] f h u = cc
    none_has (v ∷ us) f h u = cc
