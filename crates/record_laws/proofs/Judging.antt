-- The verdicts of a run's closes. Beside the row of a run stand two lists: the frames that joined it, and those that were closed of it, the
-- newest first. A frame that joined uses the run or was closed, so where no frame uses it the two lists have the same frames. Both fall: the
-- members of a run come in file order, and so do the closes, since all of them are of one worker. So the lists are one, and the verdicts at the
-- closes are those on the members.
use Rattle.std.proofs.Common.{◌≡◌, ℕ, ◌==◌, ◌+◌, ◌<◌, Bool, true, false, cond, not, ◌&&◌, ◌||◌, List, [], ◌∷◌, ◌++◌, length, map, Option, Some, ⊎_elim, refl, sym, ◌∙◌, ap, subst, arith, eqb-true, mod-lt, All}
use Rattle.std.proofs.lemmas.Bool.Decides.{eqb_tells}
use Rattle.std.proofs.lemmas.List.Elements.{All-head, All-tail}
use Rattle.bucket_laws.proofs.Falling.{NumbersFall, all_below, same_falling}
use Rattle.bucket_laws.proofs.Firsts.{named_by_first}
use Rattle.bucket_laws.proofs.Listing.{bearing_no, packets_at}
use Rattle.bucket_laws.proofs.Placing.{members_fall}
use Rattle.bucket_laws.proofs.Steps.{here_made, user_here}
use Rattle.bucket_laws.proofs.Tests.{neither, other, same}
use Rattle.bucket_laws.specs.Keys.{Falls}
use Rattle.bucket_rules.proofs.Rowing.{after-members, after-uses, members_after, uses_after}
use Rattle.bucket_rules.proofs.Settling.{use_key}
use Rattle.bucket_rules.proofs.Soundness.{sound}
use Rattle.bucket_rules.proofs.Words.{has-without, some_is}
use Rattle.bucket_rules.specs.Packets.{bearing, has_key}
use Rattle.bucket_rules.specs.Row.{Off, Row, after, detached, has, is_here, is_linked, is_none_of, made, off_if, row, with_packet, without}
use Rattle.bucket_rules.specs.Rule.{IsLegal, IsPacketOf, Rule}
use Rattle.bucket_rules.specs.Sound.{IsSound}
use Rattle.bucket_rules.specs.declared.fixed.Fixed.{Fixed}
use Rattle.flow_sum.specs.Run.{first_of}
use Rattle.record_laws.proofs.Closing.{AllJudged, ClosesWell, below_right, closed_by, closed_in, closes_well}
use Rattle.run_laws.proofs.Leavers.{made_own}
use Rattle.run_laws.proofs.Notes.{own_notes, own_notes_are}
use Rattle.run_laws.proofs.Using.{ended_some}
use Rattle.run_laws.specs.Setting.{IsSetup}
use Rattle.run_rules.specs.Histories.{Histories, bucket_at}
use Rattle.run_rules.specs.Lawful.{AreScripted}
use Rattle.run_rules.specs.Runs.{verdicts_on}
use Rattle.run_rules.specs.Setup.{Setup, fixed_at, verdict_by, verdict_for, work_of}
use Rattle.run_rules.specs.Worker.{fresh, stand_after}
use Rattle.suri_base.specs.Capture.{Captured, IsCapture}
use Rattle.suri_base.specs.Dealing.{worker_of}
use Rattle.suri_base.specs.Hash.{fnv1a, key_bytes}
use Rattle.suri_base.specs.declared.app.App.{App}
use Rattle.suri_base.specs.declared.entry.BucketNote.{BucketNote}
use Rattle.suri_base.specs.declared.entry.BucketNote.TheVariants.{AllInUse, Closed, Drained, Found, Idle, Made, Missing, Refused, Stopped, Stored, Swept, Victim}
use Rattle.suri_base.specs.declared.entry.Entry.{Entry}
use Rattle.suri_base.specs.declared.facts.Facts.{Facts}
use Rattle.suri_base.specs.declared.key.Key.{Key}
use Rattle.suri_base.proofs.SameKeys.{same_key-is}

-- the frames that joined run a, and those that were closed of it, the newest first

abbrev joined_after : BucketNote → ℕ → List ℕ → List ℕ
joined_after (Found f emergency seen run said) a fs = cond (run == a) (f ∷ fs) fs
joined_after (Made f said) a fs = cond (f == a) (f ∷ []) fs
joined_after _ a fs = fs

abbrev joined_frames : ℕ → List (Entry BucketNote) → List ℕ
joined_frames a [] = []
joined_frames a (e ∷ past) = joined_after e.note a (joined_frames a past)

abbrev closed_after : BucketNote → ℕ → List ℕ → List ℕ
closed_after (Made f said) a fs = cond (f == a) [] fs
closed_after (Closed f app run freed ended) a fs = cond (run == a) (f ∷ fs) fs
closed_after _ a fs = fs

abbrev closed_frames : ℕ → List (Entry BucketNote) → List ℕ
closed_frames a [] = []
closed_frames a (e ∷ past) = closed_after e.note a (closed_frames a past)

-- the verdicts after an entry
abbrev judged_after : BucketNote → ℕ → List App → List App
judged_after (Made f said) a js = cond (f == a) [] js
judged_after (Closed f app run freed ended) a js = cond (run == a) (app ∷ js) js
judged_after _ a js = js

by_cond : {A : Type 0} (h : Row → A) (b : Bool) (x y : Row) (u v : A) → h x ≡ u → h y ≡ v → h (cond b x y) ≡ cond b u v
by_cond h true x y u v p q = p
by_cond h false x y u v p q = q

by_both : {A : Type 0} (h : Row → A) (b : Bool) (x y : Row) (u : A) → h x ≡ u → h y ≡ u → h (cond b x y) ≡ u
by_both h true x y u p q = p
by_both h false x y u p q = q

off_judged : (t : Bool) (o : Off) (w : Row) → (off_if t o w).judged ≡ w.judged
off_judged t o w = by_both (λ (v : Row). v.judged) (is_linked w.place && t) (record w { place = detached o }) w w.judged refl refl

after_judged : (s : Fixed) (a : ℕ) (n : BucketNote) (w : Row) → (after s a n w).judged ≡ judged_after n a w.judged
after_judged s a (Found f emergency seen run said) w = by_both (λ (v : Row). v.judged) (run == a) _ w _ refl refl
after_judged s a (Missing f emergency seen ended) w = off_judged _ _ w
after_judged s a (Made f said) w = by_cond (λ (v : Row). v.judged) (f == a) _ w _ _ refl refl
after_judged s a (Refused f) w = refl
after_judged s a (Stored f) w = by_both (λ (v : Row). v.judged) (has w.uses f) _ w _ refl refl
after_judged s a (Stopped f) w = by_both (λ (v : Row). v.judged) (has w.uses f) _ w _ refl refl
after_judged s a (Closed f app run freed ended) w = by_cond (λ (v : Row). v.judged) (run == a) _ w _ _ refl refl
after_judged s a (Idle f app) w = refl
after_judged s a (Victim f run) w = off_judged _ _ w
after_judged s a (AllInUse f count) w = refl
after_judged s a (Swept round emergency seen count) w = off_judged _ _ w
after_judged s a (Drained count) w = off_judged _ _ w

-- the members are the packets of the frames that joined

cond_packets : (c : Captured) (b : Bool) (xs ys : List ℕ) (us vs : List Facts) → us ≡ packets_at c xs → vs ≡ packets_at c ys → cond b us vs ≡ packets_at c (cond b xs ys)
cond_packets c true xs ys us vs p q = p
cond_packets c false xs ys us vs p q = q

members_joined : (s : Fixed) (n : BucketNote) (a : ℕ) (fs : List ℕ) (ms : List Facts) → ms ≡ packets_at s.capture fs → members_after s n a ms ≡ packets_at s.capture (joined_after n a fs)
members_joined s (Found f emergency seen run said) a fs ms e = cond_packets s.capture (run == a) (f ∷ fs) fs _ ms (ap (λ (us : List Facts). with_packet (bearing s.capture f) us) e) e
members_joined s (Missing f emergency seen ended) a fs ms e = e
members_joined s (Made f said) a fs ms e = cond_packets s.capture (f == a) (f ∷ []) fs _ ms refl e
members_joined s (Refused f) a fs ms e = e
members_joined s (Stored f) a fs ms e = e
members_joined s (Stopped f) a fs ms e = e
members_joined s (Closed f app run freed ended) a fs ms e = e
members_joined s (Idle f app) a fs ms e = e
members_joined s (Victim f run) a fs ms e = e
members_joined s (AllInUse f count) a fs ms e = e
members_joined s (Swept round emergency seen count) a fs ms e = e
members_joined s (Drained count) a fs ms e = e

members_are : (s : Fixed) (a : ℕ) (h : List (Entry BucketNote)) → (row s a h).members ≡ packets_at s.capture (joined_frames a h)
members_are s a [] = refl
members_are s a (e ∷ past) = after-members s a e.note (row s a past) ∙ members_joined s e.note a (joined_frames a past) (row s a past).members (members_are s a past)

-- each of these frames bears a packet

abbrev AllBorne : Captured → List ℕ → Type 0
AllBorne c [] = Unit {0}
AllBorne c (f ∷ fs) = ((t : Facts) × (bearing c f ≡ Some t)) × AllBorne c fs

cond_borne : (c : Captured) (b : Bool) (xs ys : List ℕ) → AllBorne c xs → AllBorne c ys → AllBorne c (cond b xs ys)
cond_borne c true xs ys p q = p
cond_borne c false xs ys p q = q

joins_borne : (s : Fixed) (past : List (Entry BucketNote)) (r : ℕ) (n : BucketNote) (a : ℕ) (fs : List ℕ) → IsSound s past → Rule s past r n → AllBorne s.capture fs
    → AllBorne s.capture (joined_after n a fs)
joins_borne s past r (Found f emergency seen run said) a fs snd rule k = let o = rule.0.own in cond_borne s.capture (run == a) (f ∷ fs) fs ((o.packet, o.bears), k) k
joins_borne s past r (Missing f emergency seen ended) a fs snd rule k = k
joins_borne s past r (Made f said) a fs snd rule k = let o = (snd.waits r f rule.0).own in cond_borne s.capture (f == a) (f ∷ []) fs ((o.packet, o.bears), tt) k
joins_borne s past r (Refused f) a fs snd rule k = k
joins_borne s past r (Stored f) a fs snd rule k = k
joins_borne s past r (Stopped f) a fs snd rule k = k
joins_borne s past r (Closed f app run freed ended) a fs snd rule k = k
joins_borne s past r (Idle f app) a fs snd rule k = k
joins_borne s past r (Victim f run) a fs snd rule k = k
joins_borne s past r (AllInUse f count) a fs snd rule k = k
joins_borne s past r (Swept round emergency seen count) a fs snd rule k = k
joins_borne s past r (Drained count) a fs snd rule k = k

all_borne : (s : Fixed) (a : ℕ) (h : List (Entry BucketNote)) → IsLegal s h → AllBorne s.capture (joined_frames a h)
all_borne s a [] l = tt
all_borne s a (e ∷ past) l = joins_borne s past e.role e.note a (joined_frames a past) (sound s past l.1) l.0 (all_borne s a past l.1)

-- frames whose packets fall do so themselves

packets_cons : (c : Captured) (f : ℕ) (fs : List ℕ) (t : Facts) → bearing c f ≡ Some t → packets_at c (f ∷ fs) ≡ t ∷ packets_at c fs
packets_cons c f fs t e = ap (λ (o : Option Facts). with_packet o (packets_at c fs)) e

frames_below : (c : Captured) → IsCapture c → (f : ℕ) (fs : List ℕ) → AllBorne c fs → All (λ (u : Facts). u.no < f) (packets_at c fs) → all_below f fs
frames_below c d f [] b h = tt
frames_below c d f (g ∷ fs) b h =
    let k = subst (λ (us : List Facts). All (λ (u : Facts). u.no < f) us) (packets_cons c g fs b.0.0 b.0.1) h in (
      subst (λ (x : ℕ). x < f) (bearing_no c g b.0.0 d b.0.1) (All-head (λ (u : Facts). u.no < f) b.0.0 (packets_at c fs) k),
      frames_below c d f fs b.1 (All-tail (λ (u : Facts). u.no < f) b.0.0 (packets_at c fs) k),
    )

frames_fall : (c : Captured) → IsCapture c → (fs : List ℕ) → AllBorne c fs → Falls (packets_at c fs) → NumbersFall fs
frames_fall c d [] b h = tt
frames_fall c d (f ∷ fs) b h =
    let k = subst Falls (packets_cons c f fs b.0.0 b.0.1) h in
    (frames_below c d f fs b.1 (subst (λ (x : ℕ). All (λ (u : Facts). u.no < x) (packets_at c fs)) (bearing_no c f b.0.0 d b.0.1) k.0), frames_fall c d fs b.1 k.1)

-- the verdicts on them
verdicts_are : (w : Setup) (fs : List ℕ) → AllBorne w.capture fs → verdicts_on w.capture.bytes (packets_at w.capture fs) ≡ map (λ f. verdict_for w f) fs
verdicts_are w [] b = refl
verdicts_are w (f ∷ fs) b =
    ap (λ (us : List Facts). verdicts_on w.capture.bytes us) (packets_cons w.capture f fs b.0.0 b.0.1)
    ∙ (ap (λ (js : List App). verdict_by w.capture.bytes (Some b.0.0) ∷ js) (verdicts_are w fs b.1)
    ∙ ap (λ (o : Option Facts). verdict_by w.capture.bytes o ∷ map (λ g. verdict_for w g) fs) (sym b.0.1))

-- a frame that joined uses the run or was closed

or_third : (p q r : Bool) → (p || (q || r)) ≡ ((p || q) || r)
or_third true q r = refl
or_third false q r = refl

-- a close takes the use away
close_moves : (f g : ℕ) (us cs : List ℕ) → has us f ≡ true → (has us g || has cs g) ≡ (has (without f us) g || has (f ∷ cs) g)
close_moves f g us cs h = ⊎_elim
    (λ z. now (has us g) (has (without f us) g) (f == g) (has cs g) (subst (λ (x : ℕ). has us x ≡ true) z.1 h) z.0)
    (λ z. later (has us g) (has (without f us) g) (f == g) (g == f) (has cs g) (has-without f g us) (other g f (λ e. z.1 (sym e))) z.0)
    (eqb_tells f g)
  where
    now : (u x p c : Bool) → u ≡ true → p ≡ true → (u || c) ≡ (x || (p || c))
    now true true p c h k = refl
    now true false true c h k = refl
    now true false false c h k = cc
    now false x p c h k = cc

    later : (u x p q c : Bool) → x ≡ (u && not q) → q ≡ false → p ≡ false → (u || c) ≡ (x || (p || c))
    later u x true q c e i j = cc
    later u x false true c e i j = cc
    later true true false false c e i j = refl
    later true false false false c e i j = cc
    later false true false false c e i j = cc
    later false false false false c e i j = refl

-- one entry
joined_or : (s : Fixed) (past : List (Entry BucketNote)) (r : ℕ) (n : BucketNote) (a g : ℕ) (fs cs : List ℕ) → Rule s past r n → has fs g ≡ (has (row s a past).uses g || has cs g)
    → has (joined_after n a fs) g ≡ (has (uses_after n a (row s a past).uses) g || has (closed_after n a cs) g)
joined_or s past r (Found f emergency seen run said) a g fs cs rule e = by (run == a)
  where
    by : (b : Bool) → has (cond b (f ∷ fs) fs) g ≡ (has (cond b (f ∷ (row s a past).uses) (row s a past).uses) g || has cs g)
    by true = ap (λ (x : Bool). (f == g) || x) e ∙ or_third (f == g) (has (row s a past).uses g) (has cs g)
    by false = e
joined_or s past r (Missing f emergency seen ended) a g fs cs rule e = e
joined_or s past r (Made f said) a g fs cs rule e = by (f == a)
  where
    by : (b : Bool) → has (cond b (f ∷ []) fs) g ≡ (has (cond b (f ∷ []) (row s a past).uses) g || has (cond b [] cs) g)
    by true = or_third (f == g) false false
    by false = e
joined_or s past r (Refused f) a g fs cs rule e = e
joined_or s past r (Stored f) a g fs cs rule e = e
joined_or s past r (Stopped f) a g fs cs rule e = e
joined_or s past r (Closed f app run freed ended) a g fs cs rule e = by (run == a) refl
  where
    by : (b : Bool) → (run == a) ≡ b → has fs g ≡ (has (cond b (without f (row s a past).uses) (row s a past).uses) g || has (cond b (f ∷ cs) cs) g)
    by true q = e ∙ close_moves f g (row s a past).uses cs (subst (λ (x : ℕ). has (row s x past).uses f ≡ true) (eqb-true run a q) rule.2)
    by false q = e
joined_or s past r (Idle f app) a g fs cs rule e = e
joined_or s past r (Victim f run) a g fs cs rule e = e
joined_or s past r (AllInUse f count) a g fs cs rule e = e
joined_or s past r (Swept round emergency seen count) a g fs cs rule e = e
joined_or s past r (Drained count) a g fs cs rule e = e

joined_are : (s : Fixed) (a g : ℕ) (h : List (Entry BucketNote)) → IsLegal s h → has (joined_frames a h) g ≡ (has (row s a h).uses g || has (closed_frames a h) g)
joined_are s a g [] l = refl
joined_are s a g (e ∷ past) l =
    joined_or s past e.role e.note a g (joined_frames a past) (closed_frames a past) l.0 (joined_are s a g past l.1)
    ∙ ap (λ (us : List ℕ). has us g || has (closed_after e.note a (closed_frames a past)) g) (sym (after-uses s a e.note (row s a past)))

none_used : (us cs : List ℕ) (g : ℕ) → is_none_of us ≡ true → (has us g || has cs g) ≡ has cs g
none_used [] cs g h = refl
none_used (u ∷ us) cs g h = cc

-- what an entry does to the closes of a run
data Change (n : BucketNote) (a : ℕ) (cs : List ℕ) (js : List App) : Type 0 where
  keeps : closed_after n a cs ≡ cs → judged_after n a js ≡ js → Change n a cs js
  anew : closed_after n a cs ≡ [] → judged_after n a js ≡ [] → Change n a cs js
  closes : (f : ℕ) (app : App) (freed : ℕ) (ended : Bool) → n ≡ Closed f app a freed ended → closed_after n a cs ≡ f ∷ cs → judged_after n a js ≡ app ∷ js → Change n a cs js

change : (n : BucketNote) (a : ℕ) (cs : List ℕ) (js : List App) → Change n a cs js
change (Found f emergency seen run said) a cs js = keeps refl refl
change (Missing f emergency seen ended) a cs js = keeps refl refl
change (Made f said) a cs js = by (f == a) refl
  where
    by : (b : Bool) → (f == a) ≡ b → Change (Made f said) a cs js
    by true e = anew (ap (λ (b : Bool). cond b [] cs) e) (ap (λ (b : Bool). cond b [] js) e)
    by false e = keeps (ap (λ (b : Bool). cond b [] cs) e) (ap (λ (b : Bool). cond b [] js) e)
change (Refused f) a cs js = keeps refl refl
change (Stored f) a cs js = keeps refl refl
change (Stopped f) a cs js = keeps refl refl
change (Closed f app run freed ended) a cs js = by (run == a) refl
  where
    by : (b : Bool) → (run == a) ≡ b → Change (Closed f app run freed ended) a cs js
    by true e = closes f app freed ended (ap (λ (x : ℕ). Closed f app x freed ended) (eqb-true run a e)) (ap (λ (b : Bool). cond b (f ∷ cs) cs) e) (ap (λ (b : Bool). cond b (app ∷ js) js) e)
    by false e = keeps (ap (λ (b : Bool). cond b (f ∷ cs) cs) e) (ap (λ (b : Bool). cond b (app ∷ js) js) e)
change (Idle f app) a cs js = keeps refl refl
change (Victim f run) a cs js = keeps refl refl
change (AllInUse f count) a cs js = keeps refl refl
change (Swept round emergency seen count) a cs js = keeps refl refl
change (Drained count) a cs js = keeps refl refl

-- the packets of a run are closed by the worker of its key
close_role : (s : Fixed) (past : List (Entry BucketNote)) (r f : ℕ) (app : App) (run freed : ℕ) (ended : Bool) → IsLegal s past → Rule s past r (Closed f app run freed ended)
    → (p : Facts) → bearing s.capture run ≡ Some p → r ≡ worker_of p.key s.layout.workers
close_role s past r f app run freed ended l rule p e =
    let snd = sound s past l in
    let own : IsPacketOf s r f = (snd.opened r f rule.0.answered).own in
    let key = use_key s past run r f snd rule.2 own in
    let named = named_by_first s past run l (here_made s past run snd (user_here (row s run past) f rule.2)) in
    let keys : (first_of named.run).key ≡ own.packet.key = same_key-is (first_of named.run).key own.packet.key (subst (λ (ms : List Facts). has_key ms own.packet.key ≡ true) named.members key) in
    own.worker ∙ ap (λ (k : Key). worker_of k s.layout.workers) (sym keys ∙ ap (λ (t : Facts). t.key) (some_is named.first e))

fall_right : (xs ys : List ℕ) → NumbersFall (xs ++ ys) → NumbersFall ys
fall_right [] ys h = h
fall_right (x ∷ xs) ys h = fall_right xs ys h.1

module _ (s : Fixed) (a : ℕ) (p : Facts) (bears : bearing s.capture a ≡ Some p) where
  -- the worker of the run's key, and its notes
  abbrev closer : ℕ
  closer = worker_of p.key s.layout.workers

  abbrev its_notes : List (Entry BucketNote) → List BucketNote
  its_notes h = own_notes closer h

  -- an entry that closes the run is one of them
  its_close : (e : Entry BucketNote) (past : List (Entry BucketNote)) (f : ℕ) (app : App) (freed : ℕ) (ended : Bool) → IsLegal s (e ∷ past) → e.note ≡ Closed f app a freed ended
      → its_notes (e ∷ past) ≡ Closed f app a freed ended ∷ its_notes past
  its_close e past f app freed ended l n =
      let r = close_role s past e.role f app a freed ended l.1 (subst (λ (x : BucketNote). Rule s past e.role x) n l.0) p bears in
      ap (λ (b : Bool). cond b (e.note ∷ its_notes past) (its_notes past)) (same e.role closer r) ∙ ap (λ (x : BucketNote). x ∷ its_notes past) n

  below_before : (x : ℕ) (b : Bool) (n : BucketNote) (ns : List BucketNote) → all_below x (closed_in (cond b (n ∷ ns) ns)) → all_below x (closed_in ns)
  below_before x true n ns h = below_right x (closed_by n) (closed_in ns) h
  below_before x false n ns h = h

  falls_before : (b : Bool) (n : BucketNote) (ns : List BucketNote) → NumbersFall (closed_in (cond b (n ∷ ns) ns)) → NumbersFall (closed_in ns)
  falls_before true n ns h = fall_right (closed_by n) (closed_in ns) h
  falls_before false n ns h = h

  judged_before : (w : Setup) (b : Bool) (n : BucketNote) (ns : List BucketNote) → AllJudged w (cond b (n ∷ ns) ns) → AllJudged w ns
  judged_before w true n ns h = h.1
  judged_before w false n ns h = h

  closed_below : (x : ℕ) (h : List (Entry BucketNote)) → IsLegal s h → all_below x (closed_in (its_notes h)) → all_below x (closed_frames a h)
  closed_below x [] l k = tt
  closed_below x (e ∷ past) l k =
      by (change e.note a (closed_frames a past) []) (closed_below x past l.1 (below_before x (e.role == closer) e.note (its_notes past) k))
    where
      by : Change e.note a (closed_frames a past) [] → all_below x (closed_frames a past) → all_below x (closed_after e.note a (closed_frames a past))
      by (keeps c j) more = subst (all_below x) (sym c) more
      by (anew c j) more = subst (all_below x) (sym c) tt
      by (closes f app freed ended n c j) more =
          subst (all_below x) (sym c) ((subst (λ (ns : List BucketNote). all_below x (closed_in ns)) (its_close e past f app freed ended l n) k).0, more)

  closed_fall : (h : List (Entry BucketNote)) → IsLegal s h → NumbersFall (closed_in (its_notes h)) → NumbersFall (closed_frames a h)
  closed_fall [] l k = tt
  closed_fall (e ∷ past) l k =
      by (change e.note a (closed_frames a past) []) (closed_fall past l.1 (falls_before (e.role == closer) e.note (its_notes past) k))
    where
      by : Change e.note a (closed_frames a past) [] → NumbersFall (closed_frames a past) → NumbersFall (closed_after e.note a (closed_frames a past))
      by (keeps c j) more = subst NumbersFall (sym c) more
      by (anew c j) more = subst NumbersFall (sym c) tt
      by (closes f app freed ended n c j) more =
          subst NumbersFall (sym c)
          (closed_below f past l.1 (subst (λ (ns : List BucketNote). NumbersFall (closed_in ns)) (its_close e past f app freed ended l n) k).0, more)

  judged_are : (w : Setup) (h : List (Entry BucketNote)) → IsLegal s h → AllJudged w (its_notes h) → (row s a h).judged ≡ map (λ f. verdict_for w f) (closed_frames a h)
  judged_are w [] l k = refl
  judged_are w (e ∷ past) l k =
      after_judged s a e.note (row s a past)
      ∙ by (change e.note a (closed_frames a past) (row s a past).judged) (judged_are w past l.1 (judged_before w (e.role == closer) e.note (its_notes past) k))
    where
      by : Change e.note a (closed_frames a past) (row s a past).judged → (row s a past).judged ≡ map (λ f. verdict_for w f) (closed_frames a past)
          → judged_after e.note a (row s a past).judged ≡ map (λ f. verdict_for w f) (closed_after e.note a (closed_frames a past))
      by (keeps c j) more = j ∙ (more ∙ ap (λ (fs : List ℕ). map (λ f. verdict_for w f) fs) (sym c))
      by (anew c j) more = j ∙ ap (λ (fs : List ℕ). map (λ f. verdict_for w f) fs) (sym c)
      by (closes f app freed ended n c j) more =
          let told : app ≡ verdict_for w f = (subst (λ (ns : List BucketNote). AllJudged w ns) (its_close e past f app freed ended l n) k).0 in
          j ∙ (ap (λ (x : App). x ∷ (row s a past).judged) told
          ∙ (ap (λ (xs : List App). verdict_for w f ∷ xs) more ∙ ap (λ (fs : List ℕ). map (λ f. verdict_for w f) fs) (sym c)))

-- where no packet uses a run any more, the verdicts of its closes are those on its packets
pub judged_as_packets : (w : Setup) (t : Histories) → IsSetup w → AreScripted w t → (b : ℕ) → b < length t.buckets → (a : ℕ) → has (made (bucket_at b t.buckets)) a ≡ true
    → is_none_of (row (fixed_at w b) a (bucket_at b t.buckets)).uses ≡ true
    → (row (fixed_at w b) a (bucket_at b t.buckets)).judged ≡ verdicts_on w.capture.bytes (row (fixed_at w b) a (bucket_at b t.buckets)).members
judged_as_packets w t d l b x a m u =
    let s = fixed_at w b in
    let h = bucket_at b t.buckets in
    let legal = l.legal.buckets b x in
    let o = made_own s h a legal m in
    let r = worker_of o.packet.key w.layout.workers in
    let low : r < w.layout.workers = mod-lt (fnv1a (key_bytes o.packet.key)) d.layout.workers.0 in
    let real : r < w.layout.workers + 3 = omega (arith, low) in
    let e = ended_some (stand_after w (fresh (work_of w r)) (l.acts r)) (l.hands r) (l.work r low) in
    let c : ClosesWell w (own_notes r h) = subst (λ (ns : List BucketNote). ClosesWell w ns) (sym (own_notes_are w t r b (l.acts r) (l.own r real) x)) (closes_well w d r b (l.acts r) e.0 e.1) in
    let borne = all_borne s a h legal in
    let one : joined_frames a h ≡ closed_frames a h = same_falling (joined_frames a h) (closed_frames a h)
    (frames_fall w.capture d.capture (joined_frames a h) borne (subst Falls (members_are s a h) (members_fall s h a d.capture legal)))
    (closed_fall s a o.packet o.bears h legal c.fall)
    (λ g. joined_are s a g h legal ∙ none_used (row s a h).uses (closed_frames a h) g u) in
    judged_are s a o.packet o.bears w h legal c.judged
    ∙ (ap (λ (fs : List ℕ). map (λ f. verdict_for w f) fs) (sym one)
    ∙ (sym (verdicts_are w (joined_frames a h) borne) ∙ ap (λ (ms : List Facts). verdicts_on w.capture.bytes ms) (sym (members_are s a h))))

unused : (v : Row) → is_here v ≡ false → is_none_of v.uses ≡ true
unused v h = by (is_none_of v.uses) (neither (is_linked v.place) (not (is_none_of v.uses)) h).1
  where
    by : (b : Bool) → not b ≡ false → b ≡ true
    by true e = refl
    by false e = cc

-- so it is of every run that isn't in its bucket
pub judged_when_gone : (w : Setup) (t : Histories) → IsSetup w → AreScripted w t → (b : ℕ) → b < length t.buckets → (a : ℕ)
    → is_here (row (fixed_at w b) a (bucket_at b t.buckets)) ≡ false
    → (row (fixed_at w b) a (bucket_at b t.buckets)).judged ≡ verdicts_on w.capture.bytes (row (fixed_at w b) a (bucket_at b t.buckets)).members
judged_when_gone w t d l b x a e = by (has (made (bucket_at b t.buckets)) a) refl
  where
    by : (q : Bool) → has (made (bucket_at b t.buckets)) a ≡ q
        → (row (fixed_at w b) a (bucket_at b t.buckets)).judged ≡ verdicts_on w.capture.bytes (row (fixed_at w b) a (bucket_at b t.buckets)).members
    by true m = judged_as_packets w t d l b x a m (unused (row (fixed_at w b) a (bucket_at b t.buckets)) e)
    by false m =
        subst (λ (v : Row). v.judged ≡ verdicts_on w.capture.bytes v.members) (sym ((sound (fixed_at w b) (bucket_at b t.buckets) (l.legal.buckets b x)).begun a m)) refl
