-- In each bucket's history the rounds of the entries never fall, and each entry stands behind the sweeps of all rounds before its own. By its script each role acted before a cut in the rounds before it alone, and
-- after it in none of these; the entries of a role are its acts. So up to the cut after a round all entries are of that round or of one before it,
-- and since the cut before it of no earlier one. What stands behind the last cut is the end role's, which drains.
use Rattle.std.proofs.Common.{◌≡◌, ◌≢◌, ℕ, zero, suc, ◌==◌, ◌+◌, ◌-◌, ◌<◌, ◌≤◌, All, Bool, true, false, cond, List, [], ◌∷◌, ◌++◌, length, inl, inr, ⊎_elim, refl, sym, ◌∙◌, ap, subst, arith}
use Rattle.std.proofs.lemmas.Bool.Decides.{eqb_tells}
use Rattle.std.proofs.lemmas.List.{append_cancel_right}
use Rattle.std.proofs.lemmas.List.Elements.{All-append, All-cons, All-head, All-nil, All-tail, All-weaker}
use Rattle.bucket_laws.proofs.Tests.{same}
use Rattle.round_laws.proofs.Dealing.{work_from}
use Rattle.round_laws.proofs.Notes.{Held, Notes, held_in}
use Rattle.round_laws.proofs.SweepRounds.{drained_last, none_served, swept_before, swept_since}
use Rattle.round_laws.proofs.SweptAll.{SweptIn, swept_in}
use Rattle.round_laws.proofs.WorkRounds.{worked_before, worked_since}
use Rattle.round_laws.specs.Cuts.{EndsRound, HasCuts, IsInRounds}
use Rattle.round_laws.specs.Rising.{IsSwept, RoundsRise, SweepsLead, WentByRounds, round_in}
use Rattle.run_laws.proofs.Notes.{notes_in, own_notes, own_notes_are}
use Rattle.run_laws.specs.RoundEnd.{IsRoundEnd}
use Rattle.run_laws.specs.Setting.{IsSetup}
use Rattle.run_rules.specs.Acts.{Act, on_bucket, on_pool, on_segments}
use Rattle.run_rules.specs.Histories.{Histories, bucket_at}
use Rattle.run_rules.specs.Lawful.{AreScripted, left_over, waited}
use Rattle.run_rules.specs.Rounds.{EndedRounds, SweptRounds}
use Rattle.run_rules.specs.Setup.{Setup, ender, manager, recycler, roles, rounds}
use Rattle.suri_base.specs.declared.entry.BucketNote.{BucketNote}
use Rattle.suri_base.specs.declared.entry.Entry.{Entry}

-- the entries of a role, and its notes

abbrev History : Type 0
History = List (Entry BucketNote)

module _ (role : ℕ) where
  own_append : (since old : History) → own_notes role (since ++ old) ≡ own_notes role since ++ own_notes role old
  own_append [] old = refl
  own_append (e ∷ since) old = by (e.role == role) (own_append since old)
    where
      by : (t : Bool) → own_notes role (since ++ old) ≡ own_notes role since ++ own_notes role old
          → cond t (e.note ∷ own_notes role (since ++ old)) (own_notes role (since ++ old)) ≡ cond t (e.note ∷ own_notes role since) (own_notes role since) ++ own_notes role old
      by true k = ap (λ (ns : List BucketNote). e.note ∷ ns) k
      by false k = k

  -- of what came since, the role has just the notes of what it did since
  own_since : (b : ℕ) (since old : History) (now acts : List Act) → own_notes role (since ++ old) ≡ notes_in b (now ++ acts) → own_notes role old ≡ notes_in b acts
      → own_notes role since ≡ notes_in b now
  own_since b since old now acts whole was =
      append_cancel_right (own_notes role since) (notes_in b now) (notes_in b acts)
      (ap (λ (ns : List BucketNote). own_notes role since ++ ns) (sym was) ∙ (sym (own_append since old) ∙ (whole ∙ notes_append now)))
    where
      notes_append : (now : List Act) → notes_in b (now ++ acts) ≡ notes_in b now ++ notes_in b acts
      notes_append [] = refl
      notes_append (on_pool n i ∷ now) = notes_append now
      notes_append (on_segments n ∷ now) = notes_append now
      notes_append (on_bucket c n left ∷ now) = by (c == b) (notes_append now)
        where
          by : (t : Bool) → notes_in b (now ++ acts) ≡ notes_in b now ++ notes_in b acts
              → cond t (n ∷ notes_in b (now ++ acts)) (notes_in b (now ++ acts)) ≡ cond t (n ∷ notes_in b now) (notes_in b now) ++ notes_in b acts
          by true k = ap (λ (ns : List BucketNote). n ∷ ns) k
          by false k = k

module _ (P : BucketNote → Type 0) where
  notes_front : (now acts : List Act) → Notes P (now ++ acts) → Notes P now
  notes_front [] acts h = tt
  notes_front (a ∷ now) acts h = (h.0, notes_front now acts h.1)

  held_front : (ns ms : List BucketNote) → Held P (ns ++ ms) → Held P ns
  held_front [] ms h = tt
  held_front (n ∷ ns) ms h = (h.0, held_front ns ms h.1)

  -- what holds of the notes of each role holds of each entry
  own_held : (n : ℕ) (h : History) → All (λ e. e.role < n) h → ((k : ℕ) → k < n → Held P (own_notes k h)) → All (λ e. P e.note) h
  own_held n [] low held = All-nil (λ (e : Entry BucketNote). P e.note)
  own_held n (e ∷ h) low held =
      All-cons (λ (d : Entry BucketNote). P d.note) e h first
      (own_held n h (All-tail (λ (d : Entry BucketNote). d.role < n) e h low) (λ k l. by k (e.role == k) (held k l)))
    where
      first : P e.note
      first =
          (subst (λ (t : Bool). Held P (cond t (e.note ∷ own_notes e.role h) (own_notes e.role h))) (same e.role e.role refl)
          (held e.role (All-head (λ (d : Entry BucketNote). d.role < n) e h low))).0

      by : (k : ℕ) (t : Bool) → Held P (cond t (e.note ∷ own_notes k h) (own_notes k h)) → Held P (own_notes k h)
      by k true x = x.1
      by k false x = x

  -- the same where all entries are of one role
  own_all : (role : ℕ) (h : History) → All (λ e. e.role ≡ role) h → Held P (own_notes role h) → All (λ e. P e.note) h
  own_all role [] of held = All-nil (λ (e : Entry BucketNote). P e.note)
  own_all role (e ∷ h) of held =
      let one : e.role ≡ role = All-head (λ (d : Entry BucketNote). d.role ≡ role) e h of in
      let x = subst (λ (t : Bool). Held P (cond t (e.note ∷ own_notes role h) (own_notes role h))) (same e.role role one) held in
      All-cons (λ (d : Entry BucketNote). P d.note) e h x.0 (own_all role h (All-tail (λ (d : Entry BucketNote). d.role ≡ role) e h of) x.1)

front : (P : Entry BucketNote → Type 0) (since old : History) → All P (since ++ old) → All P since
front P [] old h = All-nil P
front P (e ∷ since) old h = All-cons P e since (All-head P e (since ++ old) h) (front P since old (All-tail P e (since ++ old) h))

-- what each role did up to the end of a round, and in the next one

by_role : (w : Setup) (P : ℕ → Type 0) → ((k : ℕ) → k < w.layout.workers → P k) → P (manager w) → P (recycler w) → P (ender w) → (k : ℕ) → k < roles w → P k
by_role w P work manage recycle drain k low =
    ⊎_elim (λ x. subst P (sym x.1) manage)
    (λ x. ⊎_elim (λ y. subst P (sym y.1) recycle) (λ y. ⊎_elim (λ z. subst P (sym z.1) drain) (λ z. work k (worker x.1 y.1 z.1)) (eqb_tells k (ender w))) (eqb_tells k (recycler w)))
    (eqb_tells k (manager w))
  where
    worker : k ≢ manager w → k ≢ recycler w → k ≢ ender w → k < w.layout.workers
    worker x y z = omega (arith, x, y, z, low)

module _ (w : Setup) (d : IsSetup w) where
  pub did_before : (t : Histories) (r : ℕ) → r ≤ rounds w → (at : IsRoundEnd w t r) (k : ℕ) → k < roles w → Notes (λ n. round_in w n < r) (at.acts k)
  did_before t r within at k low =
      by_role w (λ i. Notes (λ n. round_in w n < r) (at.acts i))
      (λ i l. worked_before w i (work_from w d i 0 (rounds w)) r within (at.acts i) (at.hands i) (at.work i l))
      (swept_before w r (at.acts (manager w)) (at.hands (manager w)) at.manage)
      (none_served (λ n. round_in w n < r) (waited (manager w + 1) at.hands (r - 1)) (at.acts (recycler w)) [] at.recycle)
      (subst (λ (l : List Act). Notes (λ n. round_in w n < r) l) (sym at.drain) tt) k low

  did_since : (t u : Histories) (r : ℕ) → r < rounds w → (at : IsRoundEnd w t r) (end : IsRoundEnd w u (suc r)) (now : ℕ → List Act) → ((k : ℕ) → end.acts k ≡ now k ++ at.acts k)
      → (k : ℕ) → k < roles w → Notes (λ n. r ≤ round_in w n) (now k)
  did_since t u r within at end now is k low =
      by_role w (λ i. Notes (λ n. r ≤ round_in w n) (now i))
      (λ i l. worked_since w i (work_from w d i 0 (rounds w)) r within (at.acts i) (now i) (at.hands i) (end.hands i) (at.work i l)
      (subst (λ (a : List Act). EndedRounds w i (suc r) a (end.hands i)) (is i) (end.work i l)))
      (swept_since w r (at.acts (manager w)) (now (manager w)) (at.hands (manager w)) (end.hands (manager w)) at.manage
      (subst (λ (a : List Act). SweptRounds w (suc r) a (end.hands (manager w))) (is (manager w)) end.manage))
      (notes_front (λ n. r ≤ round_in w n) (now (recycler w)) (at.acts (recycler w))
      (subst (λ (a : List Act). Notes (λ n. r ≤ round_in w n) a) (is (recycler w))
      (none_served (λ n. r ≤ round_in w n) (waited (manager w + 1) end.hands (suc r - 1)) (end.acts (recycler w)) [] end.recycle)))
      (notes_front (λ n. r ≤ round_in w n) (now (ender w)) (at.acts (ender w)) (subst (λ (a : List Act). Notes (λ n. r ≤ round_in w n) a) (sym end.drain ∙ is (ender w)) tt)) k low

-- entries of later rounds behind entries of earlier ones

rise_none : (w : Setup) (h : History) → All (λ e. round_in w e.note < 0) h → RoundsRise w h
rise_none w [] low = tt
rise_none w (e ∷ h) low = let x = All-head (λ (d : Entry BucketNote). round_in w d.note < 0) e h low in absurd (omega (arith, x))

rise_append : (w : Setup) (r : ℕ) (since old : History) → All (λ e. round_in w e.note ≤ r) (since ++ old) → All (λ e. r ≤ round_in w e.note) since → RoundsRise w old
    → RoundsRise w (since ++ old)
rise_append w r [] old high low rise = rise
rise_append w r (e ∷ since) old high low rise =
    let here = All-head (λ (d : Entry BucketNote). r ≤ round_in w d.note) e since low in
    let past = All-tail (λ (d : Entry BucketNote). round_in w d.note ≤ r) e (since ++ old) high in (
      All-weaker (λ (d : Entry BucketNote). round_in w d.note ≤ r) (λ (d : Entry BucketNote). round_in w d.note ≤ round_in w e.note) (λ d x. omega (arith, x, here)) (since ++ old) past,
      rise_append w r since old past (All-tail (λ (d : Entry BucketNote). r ≤ round_in w d.note) e since low) rise,
    )

-- entries behind the sweeps of the rounds before theirs

is_swept : (q role : ℕ) (h : History) → SweptIn q (own_notes role h) → IsSwept q h
is_swept q role [] x = x
is_swept q role (e ∷ h) x = by (e.role == role) x (λ y. is_swept q role h y)
  where
    by : (t : Bool) → SweptIn q (cond t (e.note ∷ own_notes role h) (own_notes role h)) → (SweptIn q (own_notes role h) → IsSwept q h) → IsSwept q (e ∷ h)
    by true y more = ⊎_elim (λ z. inl z) (λ z. inr (more z)) y
    by false y more = inr (more y)

swept_append : (q : ℕ) (since old : History) → IsSwept q old → IsSwept q (since ++ old)
swept_append q [] old x = x
swept_append q (e ∷ since) old x = inr (swept_append q since old x)

lead_none : (w : Setup) (h : History) → All (λ e. round_in w e.note < 0) h → SweepsLead w h
lead_none w [] low = tt
lead_none w (e ∷ h) low = let x = All-head (λ (d : Entry BucketNote). round_in w d.note < 0) e h low in absurd (omega (arith, x))

lead_append : (w : Setup) (r : ℕ) (since old : History) → All (λ e. round_in w e.note ≤ r) (since ++ old) → ((q : ℕ) → q < r → IsSwept q old) → SweepsLead w old → SweepsLead w (since ++ old)
lead_append w r [] old high swept lead = lead
lead_append w r (e ∷ since) old high swept lead =
    let here = All-head (λ (d : Entry BucketNote). round_in w d.note ≤ r) e (since ++ old) high in (
      λ q low. swept_append q since old (swept q (omega (arith, low, here))),
      lead_append w r since old (All-tail (λ (d : Entry BucketNote). round_in w d.note ≤ r) e (since ++ old) high) swept lead,
    )

module _ (w : Setup) (d : IsSetup w) (t : Histories) (round : ℕ) (acts : ℕ → List Act) (c : HasCuts w t round acts) (within : round ≤ rounds w) where
  abbrev history : ℕ → ℕ → History
  history r b = bucket_at b (c.cut r).buckets

  all_before : (r : ℕ) → r ≤ round → (b : ℕ) → b < length (c.cut r).buckets → All (λ e. round_in w e.note < r) (history r b)
  all_before r low b real =
      let e = c.ends r low in
      own_held (λ n. round_in w n < r) (roles w) (history r b) (e.at.bucket_roles b real)
      (λ k l. subst (λ (ns : List BucketNote). Held (λ n. round_in w n < r) ns) (sym (own_notes_are w (c.cut r) k b (c.did r k) (e.own k l) real))
      (held_in (λ n. round_in w n < r) b (c.did r k) (subst (λ (a : List Act). Notes (λ n. round_in w n < r) a) (e.acts_are k) (did_before w d (c.cut r) r (omega (arith, low, within)) e.at k l))))

  -- by the end of a round the bucket was swept in each of the rounds so far
  all_swept : (r : ℕ) → r ≤ round → (b : ℕ) → b < length (c.cut r).buckets → b < w.layout.rows → (q : ℕ) → q < r → IsSwept q (history r b)
  all_swept r low b real inside q below =
      let e = c.ends r low in
      is_swept q (manager w) (history r b)
      (subst (λ (ns : List BucketNote). SweptIn q ns) (sym (own_notes_are w (c.cut r) (manager w) b (c.did r (manager w)) (e.own (manager w) (omega arith)) real))
      (subst (λ (a : List Act). SweptIn q (notes_in b a)) (e.acts_are (manager w))
      (swept_in w q b inside r (e.at.acts (manager w)) (e.at.hands (manager w)) e.at.manage below)))

  module _ (r : ℕ) (low : r < round) (b : ℕ) (real : b < length (c.cut r).buckets) where
    abbrev old_end : EndsRound w (c.cut r) r (c.did r)
    old_end = c.ends r (omega (arith, low))

    abbrev new_end : EndsRound w (c.cut (suc r)) (suc r) (c.did (suc r))
    new_end = c.ends (suc r) (omega (arith, low))

    still : b < length (c.cut (suc r)).buckets
    still = omega (arith, real, (c.grows r low).rows)

    abbrev since : History
    since = ((c.grows r low).buckets b real).0

    grew : history (suc r) b ≡ since ++ history r b
    grew = ((c.grows r low).buckets b real).1

    abbrev now : ℕ → List Act
    now k = (c.goes_on r low k).0

    on : (k : ℕ) → c.did (suc r) k ≡ now k ++ c.did r k
    on k = (c.goes_on r low k).1

    notes_since : (k : ℕ) → k < roles w → own_notes k since ≡ notes_in b (now k)
    notes_since k l =
        own_since k b since (history r b) (now k) (c.did r k)
        (subst (λ (h : History). own_notes k h ≡ notes_in b (now k ++ c.did r k)) grew
        (own_notes_are w (c.cut (suc r)) k b (c.did (suc r) k) (new_end.own k l) still ∙ ap (notes_in b) (on k)))
        (own_notes_are w (c.cut r) k b (c.did r k) (old_end.own k l) real)

    all_since : All (λ e. r ≤ round_in w e.note) since
    all_since =
        own_held (λ n. r ≤ round_in w n) (roles w) since
        (front (λ (e : Entry BucketNote). e.role < roles w) since (history r b) (subst (λ (h : History). All (λ (e : Entry BucketNote). e.role < roles w) h) grew (new_end.at.bucket_roles b still)))
        (λ k l. subst (λ (ns : List BucketNote). Held (λ n. r ≤ round_in w n) ns) (sym (notes_since k l))
        (held_in (λ n. r ≤ round_in w n) b (now k)
        (did_since w d (c.cut r) (c.cut (suc r)) r (omega (arith, low, within)) old_end.at new_end.at now
        (λ i. new_end.acts_are i ∙ (on i ∙ ap (λ (a : List Act). now i ++ a) (sym (old_end.acts_are i)))) k l)))

    all_up_to : All (λ e. round_in w e.note ≤ r) (since ++ history r b)
    all_up_to =
        All-weaker (λ (e : Entry BucketNote). round_in w e.note < suc r) (λ (e : Entry BucketNote). round_in w e.note ≤ r) (λ e x. omega (arith, x)) (since ++ history r b)
        (subst (λ (h : History). All (λ (e : Entry BucketNote). round_in w e.note < suc r) h) grew (all_before (suc r) (omega (arith, low)) b still))

    rise_next : RoundsRise w (history r b) → RoundsRise w (history (suc r) b)
    rise_next rise = subst (λ (h : History). RoundsRise w h) (sym grew) (rise_append w r since (history r b) all_up_to all_since rise)

    lead_next : b < w.layout.rows → SweepsLead w (history r b) → SweepsLead w (history (suc r) b)
    lead_next inside lead =
        subst (λ (h : History). SweepsLead w h) (sym grew) (lead_append w r since (history r b) all_up_to (all_swept r (omega (arith, low)) b real inside) lead)

  was_there : (r b : ℕ) → (low : r < round) → b < length (c.cut (suc r)).buckets → b < length (c.cut r).buckets
  was_there r b low real = omega (arith, real, (c.grows r low).rows)

  rise_at : (r : ℕ) → r ≤ round → (b : ℕ) → b < length (c.cut r).buckets → RoundsRise w (history r b)
  rise_at zero low b real = rise_none w (history zero b) (all_before zero low b real)
  rise_at (suc r) low b real =
      let l : r < round = omega (arith, low) in let old = was_there r b l real in rise_next r l b old (rise_at r (omega (arith, low)) b old)

  lead_at : (r : ℕ) → r ≤ round → (b : ℕ) → b < length (c.cut r).buckets → b < w.layout.rows → SweepsLead w (history r b)
  lead_at zero low b real inside = lead_none w (history zero b) (all_before zero low b real)
  lead_at (suc r) low b real inside =
      let l : r < round = omega (arith, low) in let old = was_there r b l real in lead_next r l b old inside (lead_at r (omega (arith, low)) b old inside)

  -- so of a bucket's history at the end of the last of these rounds
  pub record IsOrdered (h : History) : Type 0 where
    pub below : All (λ e. round_in w e.note < round) h
    pub rise : RoundsRise w h
    pub swept : (q : ℕ) → q < round → IsSwept q h
    pub lead : SweepsLead w h

  pub last_ordered : (b : ℕ) → b < length t.buckets → b < w.layout.rows → IsOrdered (bucket_at b t.buckets)
  last_ordered b real inside =
      let there = subst (λ (u : Histories). b < length u.buckets) (sym c.last) real in
      subst (λ (u : Histories). IsOrdered (bucket_at b u.buckets)) c.last
      (record { below = all_before round (omega arith) b there; rise = rise_at round (omega arith) b there; swept = all_swept round (omega arith) b there inside; lead = lead_at round (omega arith) b there inside })

-- the end role drains after all rounds
module _ (w : Setup) (d : IsSetup w) (t : Histories) (l : AreScripted w t) (i : IsInRounds w t l.acts) (b : ℕ) (real : b < length t.buckets) where
  was : b < length i.last.buckets
  was = omega (arith, real, i.rest.rows)

  abbrev drains : History
  drains = (i.rest.buckets b was).0

  abbrev old : History
  old = bucket_at b i.last.buckets

  ends_so : bucket_at b t.buckets ≡ drains ++ old
  ends_so = (i.rest.buckets b was).1

  all_drained : All (λ e. round_in w e.note ≡ rounds w) drains
  all_drained =
      let end = drained_last w (record { queue = left_over w l.hands; drained = 0 }) (l.acts (ender w)) (record { queue = []; drained = w.layout.rows }) l.drain in
      let own = own_notes_are w t (ender w) b (l.acts (ender w)) (l.own (ender w) (omega arith)) real in
      let held = subst (λ (ns : List BucketNote). Held (λ n. round_in w n ≡ rounds w) ns) (sym own) (held_in (λ n. round_in w n ≡ rounds w) b (l.acts (ender w)) end) in
      own_all (λ n. round_in w n ≡ rounds w) (ender w) drains (i.rest.buckets b was).2
      (held_front (λ n. round_in w n ≡ rounds w) (own_notes (ender w) drains) (own_notes (ender w) old)
      (subst (λ (ns : List BucketNote). Held (λ n. round_in w n ≡ rounds w) ns) (ap (own_notes (ender w)) ends_so ∙ own_append (ender w) drains old) held))

  abbrev before : IsOrdered w d i.last (rounds w) i.done i.cuts (omega arith) old
  before = last_ordered w d i.last (rounds w) i.done i.cuts (omega arith) b was (omega (arith, real, l.legal.rows))

  none_later : All (λ e. round_in w e.note ≤ rounds w) (drains ++ old)
  none_later =
      All-append (λ (e : Entry BucketNote). round_in w e.note ≤ rounds w) drains old
      (All-weaker (λ (e : Entry BucketNote). round_in w e.note ≡ rounds w) (λ (e : Entry BucketNote). round_in w e.note ≤ rounds w) (λ e h. omega (arith, h)) drains all_drained)
      (All-weaker (λ (e : Entry BucketNote). round_in w e.note < rounds w) (λ (e : Entry BucketNote). round_in w e.note ≤ rounds w) (λ e h. omega (arith, h)) old before.below)

  rise_all : RoundsRise w (bucket_at b t.buckets)
  rise_all =
      subst (λ (h : History). RoundsRise w h) (sym ends_so)
      (rise_append w (rounds w) drains old none_later
      (All-weaker (λ (e : Entry BucketNote). round_in w e.note ≡ rounds w) (λ (e : Entry BucketNote). rounds w ≤ round_in w e.note) (λ e h. omega (arith, h)) drains all_drained) before.rise)

  lead_all : SweepsLead w (bucket_at b t.buckets)
  lead_all = subst (λ (h : History). SweepsLead w h) (sym ends_so) (lead_append w (rounds w) drains old none_later before.swept before.lead)

pub went_by_rounds : (w : Setup) → IsSetup w → (t : Histories) (l : AreScripted w t) → IsInRounds w t l.acts → WentByRounds w t l
went_by_rounds w d t l i = record { in_rounds = i; rise = λ b real. rise_all w d t l i b real; lead = λ b real. lead_all w d t l i b real }
