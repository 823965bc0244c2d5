-- The packet that came next of a run's key, where an entry detaches the run.
use Rattle.std.proofs.Common.{◌≡◌, ℕ, ◌==◌, ◌<◌, ◌≤◌, Bool, true, cond, List, [], ◌∷◌, ◌++◌, Option, Some, ◌⊎◌, ⊎_elim, inl, inr, refl, sym, ◌∙◌, ap, subst, eqb-true, arith}
use Rattle.suri_base.specs.Capture.{Captured, IsCapture}
use Rattle.suri_base.specs.Dealing.{bucket_of, worker_of}
use Rattle.suri_base.specs.History.{entry}
use Rattle.suri_base.specs.declared.entry.BucketNote.{BucketNote}
use Rattle.suri_base.specs.declared.entry.BucketNote.TheVariants.{Found, Missing, Made, Refused, Stored, Stopped, Closed, Idle, Victim, AllInUse, Swept, Drained}
use Rattle.suri_base.specs.declared.entry.Entry.{Entry}
use Rattle.suri_base.specs.declared.facts.Facts.{Facts}
use Rattle.suri_base.specs.declared.key.Key.{Key}
use Rattle.suri_base.proofs.SameKeys.{same_key-refl}
use Rattle.flow_sum.specs.Run.{first_of}
use Rattle.bucket_rules.specs.Own.{looked, is_fresh, awaits, awaits_by}
use Rattle.bucket_rules.specs.Packets.{bearing, has_key}
use Rattle.bucket_rules.specs.Row.{Off, Place, unbegun, linked, detached, after, row, has, is_linked, with_packet}
use Rattle.bucket_rules.specs.Rule.{Rule, IsLegal}
use Rattle.bucket_rules.specs.declared.fixed.Fixed.{Fixed}
use Rattle.bucket_rules.proofs.Owning.{fresh_split, awaits_split}
use Rattle.bucket_rules.proofs.Soundness.{sound}
use Rattle.bucket_rules.proofs.Words.{true_false, some_is}
use Rattle.bucket_laws.specs.Draining.{is_drained}
use Rattle.bucket_laws.specs.Ends.{is_detached, detaches, next_of, IsOverFor, NextFits}
use Rattle.bucket_laws.specs.Keys.{answers, answered, pieces, all_packets, packets_of}
use Rattle.bucket_laws.specs.Places.{At}
use Rattle.bucket_laws.proofs.Answering.{answers_of, frames, answered_at, fresh_above, frames_below, frames_fall, own_answer, worker_answers, closed_answered}
use Rattle.bucket_laws.proofs.Cutting.{cut_so_far}
use Rattle.bucket_laws.proofs.Draining.{empty}
use Rattle.bucket_laws.proofs.Ending.{end_split}
use Rattle.bucket_laws.proofs.Falling.{all_below, NumbersFall, in_below, has_filter}
use Rattle.bucket_laws.proofs.Listing.{is_of, of_is, is_of_its, packets_at, bearing_within}
use Rattle.bucket_laws.proofs.Next.{IsNext, next_is}
use Rattle.bucket_laws.proofs.Steps.{legal_at}
use Rattle.bucket_laws.proofs.Tests.{both, all_of, either, or_left, same}

-- the newest answered packet of the key is the last member of the linked run

heads : {A : Type 0} {x y : A} {xs ys : List A} → x ∷ xs ≡ y ∷ ys → x ≡ y
heads h = cc

frames_head : (c : Captured) (k : Key) (fs : List ℕ) (m : Facts) (more : List Facts) → ((g : ℕ) → has fs g ≡ true → is_of c k g ≡ true)
    → packets_at c fs ≡ m ∷ more
    → (f : ℕ) × (rest : List ℕ) × (fs ≡ f ∷ rest) × (bearing c f ≡ Some m) × (m.key ≡ k)
frames_head c k [] m more of h = cc
frames_head c k (f ∷ fs) m more of h =
    let o = of_is c k f (of f (or_left (f == f) (has fs f) (same f f refl))) in
    let e : o.0 ≡ m = heads (sym (ap (λ (x : Option Facts). with_packet x (packets_at c fs)) o.1) ∙ h) in
    (f, fs, refl, o.1 ∙ ap (λ (t : Facts). Some t) e, subst (λ (t : Facts). t.key ≡ k) e o.2)

frames_of : (s : Fixed) (k : Key) (past : List (Entry BucketNote)) (g : ℕ) → has (frames s k past) g ≡ true → is_of s.capture k g ≡ true
frames_of s k past g h = (both (is_of s.capture k g) (has (answers_of past) g) (sym (has_filter (is_of s.capture k) g (answers_of past)) ∙ h)).0

-- the last member of a linked run
record IsLast (s : Fixed) (k : Key) (past : List (Entry BucketNote)) (a : ℕ) : Type 0 where
  frame : ℕ
  packet : Facts
  before : List ℕ
  newest : frames s k past ≡ frame ∷ before
  bears : bearing s.capture frame ≡ Some packet
  key : packet.key ≡ k
  next : next_of (row s a past).members ≡ packet.next

last_member : (s : Fixed) (k : Key) (past : List (Entry BucketNote)) (a : ℕ) → IsLegal s past → is_linked (row s a past).place ≡ true
    → has_key (row s a past).members k ≡ true → IsLast s k past a
last_member s k past a l on key =
    let c = cut_so_far s k past l in
    let z = c.top a on key in
    let own : packets_of a (pieces s k past) ≡ (row s a past).members = c.cut.runs a z.4 ∙ ap (λ (b : Bool). cond b (row s a past).members []) key in
    let first : packets_of a (pieces s k past) ≡ z.0.packets =
    ap (packets_of a) z.2 ∙ ap (λ (b : Bool). cond b z.0.packets (packets_of a z.1)) (same z.0.run a z.3) in
    let whole : answered s k past ≡ z.0.packets ++ all_packets z.1 = sym c.cut.whole ∙ ap all_packets z.2 in
    by (row s a past).members refl key (all_packets z.1) (sym (answered_at s k past) ∙ (whole ∙ ap (λ ts. ts ++ all_packets z.1) (sym first ∙ own)))
  where
    by : (ms : List Facts) → (row s a past).members ≡ ms → has_key ms k ≡ true → (more : List Facts)
        → packets_at s.capture (frames s k past) ≡ ms ++ more → IsLast s k past a
    by [] e h more all = cc
    by (m ∷ older) e h more all =
        let x = frames_head s.capture k (frames s k past) m (older ++ more) (frames_of s k past) all in
        record { frame = x.0; packet = m; before = x.1; newest = x.2; bears = x.3; key = x.4; next = ap next_of e }

-- no answered frame of the key is above it
none_above : (s : Fixed) (k : Key) (past : List (Entry BucketNote)) (a q : ℕ) → IsLegal s past → (z : IsLast s k past a) → is_of s.capture k q ≡ true
    → has (answers_of past) q ≡ true → z.frame < q → ⊥
none_above s k past a q l z of h up =
    let here : has (frames s k past) q ≡ true =
    has_filter (is_of s.capture k) q (answers_of past) ∙ all_of (is_of s.capture k q) (has (answers_of past) q) of h in
    let fall : NumbersFall (z.frame ∷ z.before) = subst NumbersFall z.newest (frames_fall s k past l) in
    ⊎_elim (λ x. absurd (omega (arith, up, eqb-true z.frame q x))) (λ x. absurd (omega (arith, up, in_below z.frame q z.before fall.0 x)))
    (either (z.frame == q) (has z.before q) (subst (λ (fs : List ℕ). has fs q ≡ true) z.newest here))

-- an answered packet is of the bucket
answered_own : (s : Fixed) (past : List (Entry BucketNote)) (f : ℕ) (t : Facts) → IsLegal s past → has (answers_of past) f ≡ true
    → bearing s.capture f ≡ Some t → bucket_of t.key s.layout.rows ≡ s.number
answered_own s [] f t l h b = cc
answered_own s (e ∷ past) f t l h b = by (either (answers e.note == f) (has (answers_of past) f) h) (λ k. answered_own s past f t l.1 k b)
  where
    by : ((answers e.note == f) ≡ true) ⊎ (has (answers_of past) f ≡ true)
        → (has (answers_of past) f ≡ true → bucket_of t.key s.layout.rows ≡ s.number) → bucket_of t.key s.layout.rows ≡ s.number
    by (inl x) more =
        let c : bearing s.capture (answers e.note) ≡ Some t = ap (bearing s.capture) (eqb-true (answers e.note) f x) ∙ b in
        let own = own_answer s past e.role e.note t (sound s past l.1) l.0 c in
        ap (λ (u : Facts). bucket_of u.key s.layout.rows) (some_is c own.bears) ∙ own.bucket
    by (inr x) more = more x

last_own : (s : Fixed) (k : Key) (past : List (Entry BucketNote)) (a : ℕ) → IsLegal s past → (z : IsLast s k past a)
    → bucket_of z.packet.key s.layout.rows ≡ s.number
last_own s k past a l z =
    let here : has (frames s k past) z.frame ≡ true =
    subst (λ (fs : List ℕ). has fs z.frame ≡ true) (sym z.newest) (or_left (z.frame == z.frame) (has z.before z.frame) (same z.frame z.frame refl)) in
    let two = both (is_of s.capture k z.frame) (has (answers_of past) z.frame) (sym (has_filter (is_of s.capture k) z.frame (answers_of past)) ∙ here) in
    answered_own s past z.frame z.packet l two.1 z.bears

split : (x y : ℕ) → (x < y) ⊎ (y ≤ x)
split x y = grind arith

-- a look that detaches a run

record IsMissed (s : Fixed) (past : List (Entry BucketNote)) (r g a : ℕ) : Type 0 where
  key : Key
  worker : r ≡ worker_of key s.layout.workers
  of : is_of s.capture key g ≡ true
  last : IsLast s key past a
  above : last.frame < last.packet.next
  next : is_of s.capture key last.packet.next ≡ true
  within : last.packet.next ≤ g

detached_by : (x : Place) → is_detached x ≡ true → (o : Off) × (x ≡ detached o)
detached_by unbegun h = cc
detached_by linked h = cc
detached_by (detached o) h = (o, refl)

missed : (s : Fixed) (past : List (Entry BucketNote)) (r g : ℕ) (emergency : Bool) (seen ended a : ℕ) → IsCapture s.capture → IsLegal s past
    → Rule s past r (Missing g emergency seen ended)
    → detaches s past (Missing g emergency seen ended) a ≡ true → IsMissed s past r g a
missed s past r g emergency seen ended a is l rule d =
    let p = both (is_linked (row s a past).place) (is_detached (after s a (Missing g emergency seen ended) (row s a past)).place) d in
    let o = detached_by (after s a (Missing g emergency seen ended) (row s a past)).place p.1 in
    ⊎_elim (λ x. absurd (true_false p.0 (ap is_linked x))) (λ x. by x.1) (end_split s past r (Missing g emergency seen ended) a o.0 rule o.1)
  where
    by : {o : Off} → IsOverFor s g emergency (row s a past) o → IsMissed s past r g a
    by {o} v =
        let p = both (is_linked (row s a past).place) (is_detached (after s a (Missing g emergency seen ended) (row s a past)).place) d in
        let k = v.packet.key in
        let w : r ≡ worker_of k s.layout.workers =
        rule.0.own.worker ∙ ap (λ (u : Facts). worker_of u.key s.layout.workers) (some_is rule.0.own.bears v.bears) in
        let z = last_member s k past a l p.0 v.key in
        let low : all_below g (z.frame ∷ z.before) =
        subst (all_below g) z.newest (frames_below s k past r g l w (fresh_above s past r g l (bearing_within s.capture g v.packet v.bears).0 rule.0.fresh)) in
        let of : is_of s.capture k g ≡ true = is_of_its s.capture g v.packet v.bears in
        comes z k w of low.0 (next_is s.capture z.frame z.packet is z.bears)
      where
        comes : (z : IsLast s v.packet.key past a) (k : Key) → r ≡ worker_of v.packet.key s.layout.workers → is_of s.capture v.packet.key g ≡ true
            → z.frame < g → IsNext s.capture z.frame z.packet → IsMissed s past r g a
        comes z k w of low (inl y) = absurd (true_false (subst (λ (x : Key). is_of s.capture x g ≡ true) (sym z.key) of) (y.1 g low))
        comes z k w of low (inr y) = record {
          key = v.packet.key;
          worker = w;
          of = of;
          last = z;
          above = y.0;
          next = subst (λ (x : Key). is_of s.capture x z.packet.next ≡ true) z.key y.1;
          within =
              ⊎_elim (λ u. absurd (true_false (subst (λ (x : Key). is_of s.capture x g ≡ true) (sym z.key) of) (y.2 g low u))) (λ u. u) (split g z.packet.next);
        }

-- nothing was to come when the bucket was drained
drained_next : (s : Fixed) (past : List (Entry BucketNote)) (r count a : ℕ) → IsCapture s.capture → IsLegal s past → Rule s past r (Drained count)
    → is_linked (row s a past).place ≡ true → next_of (row s a past).members ≡ 0
drained_next s past r count a is l rule on = by (row s a past).members refl
  where
    comes : (k : Key) (z : IsLast s k past a) → IsNext s.capture z.frame z.packet → z.packet.next ≡ 0
    comes k z (inl y) = y.0
    comes k z (inr y) =
        let u = of_is s.capture z.packet.key z.packet.next y.1 in
        let closed = rule.0.done z.packet.next u.0 u.1 (ap (λ (x : Key). bucket_of x s.layout.rows) u.2 ∙ last_own s k past a l z) in
        let same_key = subst (λ (x : Key). is_of s.capture x z.packet.next ≡ true) z.key y.1 in
        absurd (none_above s k past a z.packet.next l z same_key (closed_answered s past z.packet.next l closed) y.0)

    by : (ms : List Facts) → (row s a past).members ≡ ms → next_of ms ≡ 0
    by [] e = refl
    by (m ∷ ms) e =
        let k = (first_of (record { newest = m; older = ms })).key in
        let z = last_member s k past a l on (subst (λ (us : List Facts). has_key us k ≡ true) (sym e) (same_key-refl k)) in
        sym (ap next_of e) ∙ (z.next ∙ comes k z (next_is s.capture z.frame z.packet is z.bears))

fits : (s : Fixed) (past : List (Entry BucketNote)) (r : ℕ) (n : BucketNote) (a : ℕ) → IsCapture s.capture → IsLegal s past → Rule s past r n
    → detaches s past n a ≡ true → NextFits n (next_of (row s a past).members)
fits s past r (Found g emergency seen run said) a is l rule d = tt
fits s past r (Missing g emergency seen ended) a is l rule d = let z = missed s past r g emergency seen ended a is l rule d in
    let up = z.above in
    let in_time = z.within in
    subst (λ (x : ℕ). (1 ≤ x) × (x ≤ g)) (sym z.last.next) (omega (arith, up), in_time)
fits s past r (Made g said) a is l rule d = tt
fits s past r (Refused g) a is l rule d = tt
fits s past r (Stored g) a is l rule d = tt
fits s past r (Stopped g) a is l rule d = tt
fits s past r (Closed g app run freed ended) a is l rule d = tt
fits s past r (Idle g app) a is l rule d = tt
fits s past r (Victim g run) a is l rule d = tt
fits s past r (AllInUse g count) a is l rule d = tt
fits s past r (Swept round emergency seen count) a is l rule d = tt
fits s past r (Drained count) a is l rule d =
    drained_next s past r count a is l rule (both (is_linked (row s a past).place) (is_detached (after s a (Drained count) (row s a past)).place) d).0

pub next_fits : (s : Fixed) (a : ℕ) (history : List (Entry BucketNote)) → IsCapture s.capture → IsLegal s history
    → (e : Entry BucketNote) (past : List (Entry BucketNote)) → At e past history → detaches s past e.note a ≡ true
    → NextFits e.note (next_of (row s a past).members)
next_fits s a history is l e past at d = let k = legal_at s e past history l at in fits s past e.role e.note a is k.1 k.0 d

-- what the looker answers after its look

fresh_at : (r q : ℕ) (e : Entry BucketNote) (past h : List (Entry BucketNote)) → is_fresh r q h ≡ true → At e past h → e.role ≡ r → looked e.note < q
fresh_at r q e past [] f a own = absurd a
fresh_at r q e past (x ∷ h) f a own =
    let k = fresh_split r q x h f in
    ⊎_elim (λ z. subst (λ (y : Entry BucketNote). looked y.note < q) z.0 (k.0 (ap (λ (y : Entry BucketNote). y.role) z.0 ∙ own)))
    (λ z. fresh_at r q e past h k.1 z own) a

module _ (s : Fixed) (r step g : ℕ) (emergency : Bool) (seen ended : ℕ) (past : List (Entry BucketNote)) where
  abbrev look : Entry BucketNote
  look = entry r step (Missing g emergency seen ended)

  await_by : (h : List (Entry BucketNote)) (role : ℕ) (n : BucketNote) (q : ℕ) → role ≡ r → Rule s h role n → awaits_by q n (awaits r q h) ≡ true
      → At look past h → (awaits r q h ≡ true → g ≤ q) → g ≤ q
  await_by h role (Found c emergency2 seen2 run said) q own rule k at more = cc
  await_by h role (Missing c emergency2 seen2 ended2) q own rule k at more =
      let t : is_fresh r q h ≡ true = subst (λ (x : ℕ). is_fresh r x h ≡ true) (eqb-true c q k) (subst (λ (x : ℕ). is_fresh x c h ≡ true) own rule.0.fresh) in
      let j = fresh_at r q look past h t at refl in
      omega (arith, j)
  await_by h role (Made c said) q own rule k at more = cc
  await_by h role (Refused c) q own rule k at more = cc
  await_by h role (Stored c) q own rule k at more = cc
  await_by h role (Stopped c) q own rule k at more = cc
  await_by h role (Closed c app run freed ended2) q own rule k at more = cc
  await_by h role (Idle c app) q own rule k at more = cc
  await_by h role (Victim c run) q own rule k at more = more k
  await_by h role (AllInUse c count) q own rule k at more = more k
  await_by h role (Swept round emergency2 seen2 count) q own rule k at more = cc
  await_by h role (Drained count) q own rule k at more = cc

  await_now : (q : ℕ) (h : List (Entry BucketNote)) → awaits r q (look ∷ h) ≡ true → g ≤ q
  await_now q h k = ⊎_elim (λ v. omega (arith, eqb-true g q v.1)) (λ v. absurd (v.0 refl)) (awaits_split r q look h k)

  -- it waits for no frame before the one that it looked up
  awaits_at : (h : List (Entry BucketNote)) (q : ℕ) → IsLegal s h → At look past h → awaits r q h ≡ true → g ≤ q
  awaits_at [] q l a k = absurd a
  awaits_at (y ∷ h) q l a k = by a (λ z. awaits_at h q l.1 z)
    where
      by : ((y ≡ look) × (h ≡ past)) ⊎ At look past h → (At look past h → awaits r q h ≡ true → g ≤ q) → g ≤ q
      by (inl z) more = await_now q h (subst (λ (x : Entry BucketNote). awaits r q (x ∷ h) ≡ true) z.0 k)
      by (inr z) more = ⊎_elim
          (λ v. await_by h y.role y.note q v.0 l.0 v.1 z (more z))
          (λ v. more z v.1)
          (awaits_split r q y h k)

  answer_after : (k : Key) (h : List (Entry BucketNote)) (role : ℕ) (n : BucketNote) → role ≡ r → IsLegal s h → Rule s h role n → At look past h
      → is_of s.capture k (answers n) ≡ true → g ≤ answers n
  answer_after k h role (Found c emergency2 seen2 run said) own l rule at of =
      let j = fresh_at r c look past h (subst (λ (x : ℕ). is_fresh x c h ≡ true) own rule.0.fresh) at refl in omega (arith, j)
  answer_after k h role (Missing c emergency2 seen2 ended2) own l rule at of = cc
  answer_after k h role (Made c said) own l rule at of = awaits_at h c l at (subst (λ (x : ℕ). awaits x c h ≡ true) own rule.0)
  answer_after k h role (Refused c) own l rule at of = awaits_at h c l at (subst (λ (x : ℕ). awaits x c h ≡ true) own rule)
  answer_after k h role (Stored c) own l rule at of = cc
  answer_after k h role (Stopped c) own l rule at of = cc
  answer_after k h role (Closed c app run freed ended2) own l rule at of = cc
  answer_after k h role (Idle c app) own l rule at of = cc
  answer_after k h role (Victim c run) own l rule at of = cc
  answer_after k h role (AllInUse c count) own l rule at of = cc
  answer_after k h role (Swept round emergency2 seen2 count) own l rule at of = cc
  answer_after k h role (Drained count) own l rule at of = cc

  -- a packet of the key that was answered after the look is not before it
  later : (k : Key) → r ≡ worker_of k s.layout.workers → (h : List (Entry BucketNote)) (q : ℕ) → IsLegal s h → At look past h
      → is_of s.capture k q ≡ true → has (answers_of h) q ≡ true → (has (answers_of past) q ≡ true) ⊎ (g ≤ q)
  later k w [] q l a of x = absurd a
  later k w (y ∷ h) q l a of x = by a (λ z u. later k w h q l.1 z of u)
    where
      nobody : (0 == q) ≡ true → ⊥
      nobody e = zero (subst (λ (u : ℕ). is_of s.capture k u ≡ true) (sym (eqb-true 0 q e)) of)
        where
          zero : is_of s.capture k 0 ≡ true → ⊥
          zero h = cc

      now : has (answers_of (look ∷ h)) q ≡ true → h ≡ past → has (answers_of past) q ≡ true
      now u e =
          subst (λ (v : List (Entry BucketNote)). has (answers_of v) q ≡ true) e
          (⊎_elim (λ c. absurd (nobody c)) (λ c. c) (either (0 == q) (has (answers_of h) q) u))

      by : ((y ≡ look) × (h ≡ past)) ⊎ At look past h → (At look past h → has (answers_of h) q ≡ true → (has (answers_of past) q ≡ true) ⊎ (g ≤ q))
          → (has (answers_of past) q ≡ true) ⊎ (g ≤ q)
      by (inl z) more = inl (now (subst (λ (v : Entry BucketNote). has (answers_of (v ∷ h)) q ≡ true) z.0 x) z.1)
      by (inr z) more = ⊎_elim
          (λ c. let e = eqb-true (answers y.note) q c in
          let o : is_of s.capture k (answers y.note) ≡ true = subst (λ (v : ℕ). is_of s.capture k v ≡ true) (sym e) of in
          inr (subst (λ (v : ℕ). g ≤ v) e (answer_after k h y.role y.note (worker_answers s h y.role y.note k (sound s h l.1) l.0 o ∙ sym w) l.1 l.0 z o)))
          (λ c. more z c)
          (either (answers y.note == q) (has (answers_of h) q) x)

-- in a drained history the look that detached a run came at the very next packet of its key
pub next_looked : (s : Fixed) (a r step g : ℕ) (emergency : Bool) (seen ended : ℕ) (past history : List (Entry BucketNote)) → IsCapture s.capture
    → IsLegal s history → is_drained history ≡ true
    → At (entry r step (Missing g emergency seen ended)) past history → detaches s past (Missing g emergency seen ended) a ≡ true
    → next_of (row s a past).members ≡ g
next_looked s a r step g emergency seen ended past history is l x at d =
    let t = legal_at s (entry r step (Missing g emergency seen ended)) past history l at in
    let z = missed s past r g emergency seen ended a is t.1 t.0 d in
    z.last.next ∙ ⊎_elim (λ low. absurd (between z t.1 low)) (λ high. level z high) (split z.last.packet.next g)
  where
    level : (z : IsMissed s past r g a) → g ≤ z.last.packet.next → z.last.packet.next ≡ g
    level z high = let w = z.within in omega (arith, w, high)

    between : (z : IsMissed s past r g a) → IsLegal s past → z.last.packet.next < g → ⊥
    between z lp low =
        let q = z.last.packet.next in
        let u = of_is s.capture z.key q z.next in
        let own = ap (λ (k : Key). bucket_of k s.layout.rows) (u.2 ∙ sym z.last.key) ∙ last_own s z.key past a lp z.last in
        let inn = closed_answered s history q l ((empty s history l x).closed q u.0 u.1 own) in
        ⊎_elim (λ y. none_above s z.key past a q lp z.last z.next y z.above) (λ y. absurd (omega (arith, low, y)))
        (later s r step g emergency seen ended past z.key z.worker history q l at z.next inn)
