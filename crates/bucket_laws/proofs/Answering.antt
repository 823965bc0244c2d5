-- What a bucket answered of a key comes in file order, and after a drain it is all packets of the key.
use Rattle.std.proofs.Common.{◌≡◌, ℕ, ◌==◌, ◌<◌, ◌≤◌, Bool, true, false, cond, ◌&&◌, ◌||◌, List, [], ◌∷◌, ◌++◌, filter, length, reverse, Option, Some, None, ◌⊎◌, ⊎_elim, inl, inr, refl, sym, ◌∙◌, ap, subst, eqb-true}
use Rattle.suri_base.specs.Capture.{IsCapture, packets_in}
use Rattle.suri_base.specs.Dealing.{bucket_of, worker_of}
use Rattle.suri_base.specs.History.{Begins}
use Rattle.suri_base.specs.Keys.{key_list, same_key}
use Rattle.suri_base.specs.declared.entry.BucketNote.{BucketNote}
use Rattle.suri_base.specs.declared.entry.BucketNote.TheVariants.{Found, Missing, Made, Refused, Stored, Stopped, Closed, Idle, Victim, AllInUse, Swept, Drained}
use Rattle.suri_base.specs.declared.entry.Entry.{Entry}
use Rattle.suri_base.specs.declared.facts.Facts.{Facts}
use Rattle.suri_base.specs.declared.key.Key.{Key}
use Rattle.bucket_rules.specs.Own.{looked, is_fresh, awaits, awaits_by, closes, is_closed, refuses, is_refused}
use Rattle.bucket_rules.specs.Packets.{bearing, of_packet}
use Rattle.bucket_rules.specs.Row.{row, has, without, with_packet}
use Rattle.bucket_rules.specs.Rule.{IsPacketOf, Rule, IsLegal}
use Rattle.bucket_rules.specs.Sound.{IsSound}
use Rattle.bucket_rules.specs.declared.fixed.Fixed.{Fixed}
use Rattle.bucket_rules.proofs.Owning.{fresh_split, fresh_below, awaits_split}
use Rattle.bucket_rules.proofs.Rowing.{uses_after, after-uses}
use Rattle.bucket_rules.proofs.Soundness.{sound}
use Rattle.bucket_rules.proofs.Words.{some_is}
use Rattle.bucket_laws.specs.Draining.{is_drained}
use Rattle.bucket_laws.specs.Keys.{answers, answered, if_bears, Falls}
use Rattle.bucket_laws.proofs.Draining.{empty}
use Rattle.bucket_laws.proofs.Falling.{all_below, NumbersFall, same_falling, filter_falls, down_from, down_falls, has_filter, has_down}
use Rattle.bucket_laws.proofs.Listing.{is_of, of_is, packets_at, packets_fall, all_listed, bearing_within, in_key_list}
use Rattle.bucket_laws.specs.Places.{In}
use Rattle.suri_base.proofs.Histories.{begins_itself, begins_more}
use Rattle.suri_base.proofs.SameKeys.{same_key-is}
use Rattle.bucket_laws.proofs.Naming.{has_without}
use Rattle.bucket_laws.proofs.Steps.{bears_one}
use Rattle.bucket_laws.proofs.Tests.{either, or_left, or_right, same}

-- the frames that a history answered
abbrev pub answers_of : List (Entry BucketNote) → List ℕ
answers_of [] = []
answers_of (e ∷ past) = answers e.note ∷ answers_of past

abbrev pub frames : Fixed → Key → List (Entry BucketNote) → List ℕ
frames s k past = filter (is_of s.capture k) (answers_of past)

answered_step : (s : Fixed) (k : Key) (f : ℕ) (o : Option Facts) (ts : List Facts) (fs : List ℕ) → bearing s.capture f ≡ o → ts ≡ packets_at s.capture fs
    → if_bears k o (λ t. t ∷ ts) ts ≡ packets_at s.capture (cond (of_packet o (λ t. same_key t.key k)) (f ∷ fs) fs)
answered_step s k f None ts fs e h = h
answered_step s k f (Some t) ts fs e h = by (same_key t.key k)
  where
    by : (b : Bool) → cond b (t ∷ ts) ts ≡ packets_at s.capture (cond b (f ∷ fs) fs)
    by true = ap (λ us. t ∷ us) h ∙ sym (ap (λ (x : Option Facts). with_packet x (packets_at s.capture fs)) e)
    by false = h

pub answered_at : (s : Fixed) (k : Key) (past : List (Entry BucketNote)) → answered s k past ≡ packets_at s.capture (frames s k past)
answered_at s k [] = refl
answered_at s k (e ∷ past) =
    answered_step s k (answers e.note) (bearing s.capture (answers e.note)) (answered s k past) (frames s k past) refl (answered_at s k past)

-- every packet that the role answered is before f
abbrev pub Below : ℕ → ℕ → List (Entry BucketNote) → Type 0
Below r f [] = Unit {0}
Below r f (e ∷ past) = (e.role ≡ r → answers e.note < f) × Below r f past

answers_below : (s : Fixed) (past : List (Entry BucketNote)) (r : ℕ) (n : BucketNote) (f : ℕ) → IsSound s past → Rule s past r n → 1 ≤ f
    → looked n < f → is_fresh r f past ≡ true → answers n < f
answers_below s past r (Found g emergency seen run said) f snd rule p l h = l
answers_below s past r (Missing g emergency seen ended) f snd rule p l h = p
answers_below s past r (Made g said) f snd rule p l h = fresh_below r g f past (snd.waits r g rule.0).old h
answers_below s past r (Refused g) f snd rule p l h = fresh_below r g f past (snd.waits r g rule).old h
answers_below s past r (Stored g) f snd rule p l h = p
answers_below s past r (Stopped g) f snd rule p l h = p
answers_below s past r (Closed g app run freed ended) f snd rule p l h = p
answers_below s past r (Idle g app) f snd rule p l h = p
answers_below s past r (Victim g run) f snd rule p l h = p
answers_below s past r (AllInUse g count) f snd rule p l h = p
answers_below s past r (Swept round emergency seen count) f snd rule p l h = p
answers_below s past r (Drained count) f snd rule p l h = p

-- a fresh frame is after all that the role answered
pub fresh_above : (s : Fixed) (past : List (Entry BucketNote)) (r f : ℕ) → IsLegal s past → 1 ≤ f → is_fresh r f past ≡ true → Below r f past
fresh_above s [] r f l p h = tt
fresh_above s (e ∷ past) r f l p h =
    let k = fresh_split r f e past h in
    (λ q. answers_below s past e.role e.note f (sound s past l.1) l.0 p (k.0 q) (subst (λ (x : ℕ). is_fresh x f past ≡ true) (sym q) k.1), fresh_above s past r f l.1 p k.1)

-- and so is a frame that waits for its answer
waits_by : (s : Fixed) (past : List (Entry BucketNote)) (r : ℕ) (n : BucketNote) (f : ℕ) → IsLegal s past → Rule s past r n
    → awaits_by f n (awaits r f past) ≡ true → (awaits r f past ≡ true → Below r f past)
    → (answers n < f) × Below r f past
waits_by s past r (Found g emergency seen run said) f l rule h k = cc
waits_by s past r (Missing g emergency seen ended) f l rule h k = let e = eqb-true g f h in
    let p = bears_one s g rule.0.own.packet rule.0.own.bears in
    subst (λ (x : ℕ). (0 < x) × Below r x past) e (p, fresh_above s past r g l p rule.0.fresh)
waits_by s past r (Made g said) f l rule h k = cc
waits_by s past r (Refused g) f l rule h k = cc
waits_by s past r (Stored g) f l rule h k = cc
waits_by s past r (Stopped g) f l rule h k = cc
waits_by s past r (Closed g app run freed ended) f l rule h k = cc
waits_by s past r (Idle g app) f l rule h k = cc
waits_by s past r (Victim g run) f l rule h k = let w = (sound s past l).waits r f h in (bears_one s f w.own.packet w.own.bears, k h)
waits_by s past r (AllInUse g count) f l rule h k = let w = (sound s past l).waits r f h in (bears_one s f w.own.packet w.own.bears, k h)
waits_by s past r (Swept round emergency seen count) f l rule h k = cc
waits_by s past r (Drained count) f l rule h k = cc

pub waits_above : (s : Fixed) (past : List (Entry BucketNote)) (r f : ℕ) → IsLegal s past → awaits r f past ≡ true → Below r f past
waits_above s [] r f l h = cc
waits_above s (e ∷ past) r f l h = by (awaits_split r f e past h) (λ k. waits_above s past r f l.1 k)
  where
    by : ((e.role ≡ r) × (awaits_by f e.note (awaits r f past) ≡ true)) ⊎ ((e.role ≡ r → ⊥) × (awaits r f past ≡ true))
        → (awaits r f past ≡ true → Below r f past) → Below r f (e ∷ past)
    by (inl x) more =
        let y =
        waits_by s past e.role e.note f l.1 l.0 (subst (λ (u : ℕ). awaits_by f e.note (awaits u f past) ≡ true) (sym x.0) x.1)
        (λ a. subst (λ (u : ℕ). Below u f past) (sym x.0) (more (subst (λ (u : ℕ). awaits u f past ≡ true) x.0 a))) in
        (λ q. y.0, subst (λ (u : ℕ). Below u f past) x.0 y.1)
    by (inr x) more = (λ q. absurd (x.0 q), more x.1)

-- an answer is its worker's
pub own_answer : (s : Fixed) (past : List (Entry BucketNote)) (r : ℕ) (n : BucketNote) (t : Facts) → IsSound s past → Rule s past r n
    → bearing s.capture (answers n) ≡ Some t → IsPacketOf s r (answers n)
own_answer s past r (Found g emergency seen run said) t snd rule b = rule.0.own
own_answer s past r (Missing g emergency seen ended) t snd rule b = cc
own_answer s past r (Made g said) t snd rule b = (snd.waits r g rule.0).own
own_answer s past r (Refused g) t snd rule b = (snd.waits r g rule).own
own_answer s past r (Stored g) t snd rule b = cc
own_answer s past r (Stopped g) t snd rule b = cc
own_answer s past r (Closed g app run freed ended) t snd rule b = cc
own_answer s past r (Idle g app) t snd rule b = cc
own_answer s past r (Victim g run) t snd rule b = cc
own_answer s past r (AllInUse g count) t snd rule b = cc
own_answer s past r (Swept round emergency seen count) t snd rule b = cc
own_answer s past r (Drained count) t snd rule b = cc

-- and comes after all before it
answer_above : (s : Fixed) (past : List (Entry BucketNote)) (r : ℕ) (n : BucketNote) (t : Facts) → IsLegal s past → Rule s past r n
    → bearing s.capture (answers n) ≡ Some t → Below r (answers n) past
answer_above s past r (Found g emergency seen run said) t l rule b = fresh_above s past r g l (bears_one s g t b) rule.0.fresh
answer_above s past r (Missing g emergency seen ended) t l rule b = cc
answer_above s past r (Made g said) t l rule b = waits_above s past r g l rule.0
answer_above s past r (Refused g) t l rule b = waits_above s past r g l rule
answer_above s past r (Stored g) t l rule b = cc
answer_above s past r (Stopped g) t l rule b = cc
answer_above s past r (Closed g app run freed ended) t l rule b = cc
answer_above s past r (Idle g app) t l rule b = cc
answer_above s past r (Victim g run) t l rule b = cc
answer_above s past r (AllInUse g count) t l rule b = cc
answer_above s past r (Swept round emergency seen count) t l rule b = cc
answer_above s past r (Drained count) t l rule b = cc

pub worker_answers : (s : Fixed) (past : List (Entry BucketNote)) (r : ℕ) (n : BucketNote) (k : Key) → IsSound s past → Rule s past r n
    → is_of s.capture k (answers n) ≡ true → r ≡ worker_of k s.layout.workers
worker_answers s past r n k snd rule h =
    let o = of_is s.capture k (answers n) h in
    let own = own_answer s past r n o.0 snd rule o.1 in
    own.worker ∙ ap (λ (x : Key). worker_of x s.layout.workers) (ap (λ (u : Facts). u.key) (some_is own.bears o.1) ∙ o.2)

-- the frames of a key below one that its worker comes to
pub frames_below : (s : Fixed) (k : Key) (past : List (Entry BucketNote)) (r f : ℕ) → IsLegal s past → r ≡ worker_of k s.layout.workers
    → Below r f past → all_below f (frames s k past)
frames_below s k [] r f l w u = tt
frames_below s k (e ∷ past) r f l w u = by (is_of s.capture k (answers e.note)) refl (frames_below s k past r f l.1 w u.1)
  where
    by : (b : Bool) → is_of s.capture k (answers e.note) ≡ b → all_below f (frames s k past)
        → all_below f (cond b (answers e.note ∷ frames s k past) (frames s k past))
    by true h a = (u.0 (worker_answers s past e.role e.note k (sound s past l.1) l.0 h ∙ sym w), a)
    by false h a = a

pub frames_fall : (s : Fixed) (k : Key) (past : List (Entry BucketNote)) → IsLegal s past → NumbersFall (frames s k past)
frames_fall s k [] l = tt
frames_fall s k (e ∷ past) l = by (is_of s.capture k (answers e.note)) refl (frames_fall s k past l.1)
  where
    by : (b : Bool) → is_of s.capture k (answers e.note) ≡ b → NumbersFall (frames s k past)
        → NumbersFall (cond b (answers e.note ∷ frames s k past) (frames s k past))
    by true h a =
        let o = of_is s.capture k (answers e.note) h in
        (frames_below s k past e.role (answers e.note) l.1 (worker_answers s past e.role e.note k (sound s past l.1) l.0 h) (answer_above s past e.role e.note o.0 l.1 l.0 o.1), a)
    by false h a = a

-- answered packets come in file order
pub answered_falls : (s : Fixed) (k : Key) (past : List (Entry BucketNote)) → IsCapture s.capture → IsLegal s past → Falls (answered s k past)
answered_falls s k past is l = subst Falls (sym (answered_at s k past)) (packets_fall s.capture is (frames s k past) (frames_fall s k past l))

-- a frame that uses a run, was refused or is closed was answered

uses_answered : (n : BucketNote) (a f : ℕ) (us : List ℕ) → has (uses_after n a us) f ≡ true → (answers n ≡ f) ⊎ (has us f ≡ true)
uses_answered (Found g emergency seen run said) a f us h = by (run == a) h
  where
    by : (b : Bool) → has (cond b (g ∷ us) us) f ≡ true → (g ≡ f) ⊎ (has us f ≡ true)
    by true h = ⊎_elim (λ x. inl (eqb-true g f x)) (λ x. inr x) (either (g == f) (has us f) h)
    by false h = inr h
uses_answered (Missing g emergency seen ended) a f us h = inr h
uses_answered (Made g said) a f us h = by (g == a) h
  where
    by : (b : Bool) → has (cond b (g ∷ []) us) f ≡ true → (g ≡ f) ⊎ (has us f ≡ true)
    by true h = ⊎_elim (λ x. inl (eqb-true g f x)) (λ x. cc) (either (g == f) false h)
    by false h = inr h
uses_answered (Refused g) a f us h = inr h
uses_answered (Stored g) a f us h = inr h
uses_answered (Stopped g) a f us h = inr h
uses_answered (Closed g app run freed ended) a f us h = by (run == a) h
  where
    by : (b : Bool) → has (cond b (without g us) us) f ≡ true → (0 ≡ f) ⊎ (has us f ≡ true)
    by true h = inr (has_without g f us h)
    by false h = inr h
uses_answered (Idle g app) a f us h = inr h
uses_answered (Victim g run) a f us h = inr h
uses_answered (AllInUse g count) a f us h = inr h
uses_answered (Swept round emergency seen count) a f us h = inr h
uses_answered (Drained count) a f us h = inr h

pub used_answered : (s : Fixed) (past : List (Entry BucketNote)) (a f : ℕ) → has (row s a past).uses f ≡ true → has (answers_of past) f ≡ true
used_answered s [] a f h = cc
used_answered s (e ∷ past) a f h =
    by (uses_answered e.note a f (row s a past).uses (subst (λ (us : List ℕ). has us f ≡ true) (after-uses s a e.note (row s a past)) h))
    (λ k. used_answered s past a f k)
  where
    by : (answers e.note ≡ f) ⊎ (has (row s a past).uses f ≡ true) → (has (row s a past).uses f ≡ true → has (answers_of past) f ≡ true)
        → ((answers e.note == f) || has (answers_of past) f) ≡ true
    by (inl x) more = or_left (answers e.note == f) (has (answers_of past) f) (same (answers e.note) f x)
    by (inr x) more = or_right (answers e.note == f) (has (answers_of past) f) (more x)

refuse_answers : (n : BucketNote) (f : ℕ) → refuses f n ≡ true → (answers n == f) ≡ true
refuse_answers (Found g emergency seen run said) f h = cc
refuse_answers (Missing g emergency seen ended) f h = cc
refuse_answers (Made g said) f h = cc
refuse_answers (Refused g) f h = h
refuse_answers (Stored g) f h = cc
refuse_answers (Stopped g) f h = cc
refuse_answers (Closed g app run freed ended) f h = cc
refuse_answers (Idle g app) f h = cc
refuse_answers (Victim g run) f h = cc
refuse_answers (AllInUse g count) f h = cc
refuse_answers (Swept round emergency seen count) f h = cc
refuse_answers (Drained count) f h = cc

pub refused_answered : (past : List (Entry BucketNote)) (f : ℕ) → is_refused f past ≡ true → has (answers_of past) f ≡ true
refused_answered [] f h = cc
refused_answered (e ∷ past) f h = by (either (refuses f e.note) (is_refused f past) h) (λ k. refused_answered past f k)
  where
    by : (refuses f e.note ≡ true) ⊎ (is_refused f past ≡ true) → (is_refused f past ≡ true → has (answers_of past) f ≡ true)
        → ((answers e.note == f) || has (answers_of past) f) ≡ true
    by (inl x) more = or_left (answers e.note == f) (has (answers_of past) f) (refuse_answers e.note f x)
    by (inr x) more = or_right (answers e.note == f) (has (answers_of past) f) (more x)

close_answered : (s : Fixed) (past : List (Entry BucketNote)) (r : ℕ) (n : BucketNote) (f : ℕ) → Rule s past r n → closes f n ≡ true
    → has (answers_of past) f ≡ true
close_answered s past r (Found g emergency seen run said) f rule h = cc
close_answered s past r (Missing g emergency seen ended) f rule h = cc
close_answered s past r (Made g said) f rule h = cc
close_answered s past r (Refused g) f rule h = cc
close_answered s past r (Stored g) f rule h = cc
close_answered s past r (Stopped g) f rule h = cc
close_answered s past r (Closed g app run freed ended) f rule h =
    subst (λ (x : ℕ). has (answers_of past) x ≡ true) (eqb-true g f h) (used_answered s past run g rule.2)
close_answered s past r (Idle g app) f rule h = subst (λ (x : ℕ). has (answers_of past) x ≡ true) (eqb-true g f h) (refused_answered past g rule.1)
close_answered s past r (Victim g run) f rule h = cc
close_answered s past r (AllInUse g count) f rule h = cc
close_answered s past r (Swept round emergency seen count) f rule h = cc
close_answered s past r (Drained count) f rule h = cc

pub closed_answered : (s : Fixed) (past : List (Entry BucketNote)) (f : ℕ) → IsLegal s past → is_closed f past ≡ true → has (answers_of past) f ≡ true
closed_answered s [] f l h = cc
closed_answered s (e ∷ past) f l h =
    or_right (answers e.note == f) (has (answers_of past) f) (by (either (closes f e.note) (is_closed f past) h) (λ k. closed_answered s past f l.1 k))
  where
    by : (closes f e.note ≡ true) ⊎ (is_closed f past ≡ true) → (is_closed f past ≡ true → has (answers_of past) f ≡ true) → has (answers_of past) f ≡ true
    by (inl x) more = close_answered s past e.role e.note f l.0 x
    by (inr x) more = more x

-- a drained bucket answered all packets of its keys
pub all_frames : (s : Fixed) (k : Key) (past : List (Entry BucketNote)) → IsLegal s past → is_drained past ≡ true → bucket_of k s.layout.rows ≡ s.number
    → frames s k past ≡ filter (is_of s.capture k) (down_from (length s.capture.seen))
all_frames s k past l x mine =
    same_falling (frames s k past) (filter (is_of s.capture k) (down_from (length s.capture.seen))) (frames_fall s k past l)
    (filter_falls (is_of s.capture k) (down_from (length s.capture.seen)) (down_falls (length s.capture.seen)))
    (λ f. has_filter (is_of s.capture k) f (answers_of past) ∙ (by f (is_of s.capture k f) refl ∙ sym (has_filter (is_of s.capture k) f (down_from (length s.capture.seen)))))
  where
    by : (f : ℕ) (b : Bool) → is_of s.capture k f ≡ b → (b && has (answers_of past) f) ≡ (b && has (down_from (length s.capture.seen)) f)
    by f false h = refl
    by f true h =
        let o = of_is s.capture k f h in
        let within = bearing_within s.capture f o.0 o.1 in
        closed_answered s past f l ((empty s past l x).closed f o.0 o.1 (ap (λ (q : Key). bucket_of q s.layout.rows) o.2 ∙ mine))
        ∙ sym (has_down (length s.capture.seen) f within.0 within.1)

pub all_answered : (s : Fixed) (k : Key) (past : List (Entry BucketNote)) → IsLegal s past → is_drained past ≡ true
    → bucket_of k s.layout.rows ≡ s.number → answered s k past ≡ reverse (key_list k (packets_in s.capture.seen))
all_answered s k past l x mine = answered_at s k past ∙ (ap (packets_at s.capture) (all_frames s k past l x mine) ∙ all_listed s.capture k)

-- at each time the answered packets are the first ones

answered_more : (k : Key) (o : Option Facts) (old new : List Facts) → Begins old new → Begins old (if_bears k o (λ t. t ∷ new) new)
answered_more k None old new b = b
answered_more k (Some t) old new b = by (same_key t.key k)
  where
    by : (c : Bool) → Begins old (cond c (t ∷ new) new)
    by true = begins_more old new t b
    by false = b

pub answered_begins : (s : Fixed) (k : Key) (since old : List (Entry BucketNote)) → Begins (answered s k old) (answered s k (since ++ old))
answered_begins s k [] old = begins_itself (answered s k old)
answered_begins s k (e ∷ since) old =
    answered_more k (bearing s.capture (answers e.note)) (answered s k old) (answered s k (since ++ old)) (answered_begins s k since old)

pub first_answered : (s : Fixed) (k : Key) (since old : List (Entry BucketNote)) → IsLegal s (since ++ old) → is_drained (since ++ old) ≡ true
    → bucket_of k s.layout.rows ≡ s.number
    → Begins (answered s k old) (reverse (key_list k (packets_in s.capture.seen)))
first_answered s k since old l x mine =
    subst (λ (ts : List Facts). Begins (answered s k old) ts) (all_answered s k (since ++ old) l x mine) (answered_begins s k since old)

-- each is a packet of the key

listed_one : (s : Fixed) (k : Key) (f : ℕ) (o : Option Facts) (ts : List Facts) (t : Facts) → bearing s.capture f ≡ o
    → (In t ts → In t (key_list k (packets_in s.capture.seen))) → In t (if_bears k o (λ u. u ∷ ts) ts) → In t (key_list k (packets_in s.capture.seen))
listed_one s k f None ts t e more i = more i
listed_one s k f (Some u) ts t e more i = by (same_key u.key k) refl i
  where
    by : (c : Bool) → same_key u.key k ≡ c → In t (cond c (u ∷ ts) ts) → In t (key_list k (packets_in s.capture.seen))
    by true h (inl q) = subst (λ (v : Facts). In v (key_list k (packets_in s.capture.seen))) q (in_key_list s.capture f u k e (same_key-is u.key k h))
    by true h (inr j) = more j
    by false h j = more j

pub answered_listed : (s : Fixed) (k : Key) (past : List (Entry BucketNote)) (t : Facts) → In t (answered s k past)
    → In t (key_list k (packets_in s.capture.seen))
answered_listed s k [] t i = absurd i
answered_listed s k (e ∷ past) t i =
    listed_one s k (answers e.note) (bearing s.capture (answers e.note)) (answered s k past) t refl (λ j. answered_listed s k past t j) i
