-- Which runs are in the bucket, one entry further.
use Rattle.std.proofs.Common.{◌≡◌, ℕ, zero, suc, ◌≤◌, ◌==◌, Bool, true, false, cond, not, ◌||◌, List, [], ◌∷◌, Option, Some, None, ◌⊎◌, ⊎_elim, inl, inr, refl, ap, subst, eqb-true, arith}
use Rattle.suri_base.specs.declared.entry.BucketNote.{BucketNote}
use Rattle.suri_base.specs.declared.entry.BucketNote.TheVariants.{Found, Missing, Made, Refused, Stored, Stopped, Closed, Idle, Victim, AllInUse, Swept, Drained}
use Rattle.suri_base.specs.declared.entry.Entry.{Entry}
use Rattle.suri_base.specs.declared.facts.Facts.{Facts}
use Rattle.bucket_rules.specs.Packets.{bearing, has_key, of_packet}
use Rattle.bucket_rules.specs.Row.{Row, blank, after, row, has, without, is_linked, is_here, is_none_of, takes, joins, made, made_by}
use Rattle.bucket_rules.specs.Rule.{Rule, IsLegal}
use Rattle.bucket_rules.specs.Sound.{IsSound, IsWait}
use Rattle.bucket_rules.specs.declared.fixed.Fixed.{Fixed}
use Rattle.bucket_rules.proofs.Rowing.{uses_after, after-uses, begins, after-linked, takes_split}
use Rattle.bucket_rules.proofs.Words.{true_false}
use Rattle.bucket_laws.specs.Places.{At}
use Rattle.bucket_laws.proofs.Tests.{either, or_left, or_right}

pub legal_at : (s : Fixed) (e : Entry BucketNote) (past h : List (Entry BucketNote)) → IsLegal s h → At e past h → Rule s past e.role e.note × IsLegal s past
legal_at s e past [] l a = absurd a
legal_at s e past (x ∷ h) l a = ⊎_elim
    (λ z. subst (λ (y : Entry BucketNote). Rule s past y.role y.note × IsLegal s past) z.0 (subst (λ (y : List (Entry BucketNote)). Rule s y x.role x.note × IsLegal s y) z.1 l))
    (λ z. legal_at s e past h l.1 z) a

pub by_both : {A : Type 0} (h : Row → A) (b : Bool) (x y : Row) (u : A) → h x ≡ u → h y ≡ u → h (cond b x y) ≡ u
by_both h true x y u p q = p
by_both h false x y u p q = q

-- a packet that joins a run is of its key, and the run is linked
pub joined : (s : Fixed) (f : ℕ) (emergency : Bool) (w : Row) → joins s f emergency w ≡ true
    → (t : Facts) × (bearing s.capture f ≡ Some t) × (is_linked w.place ≡ true) × (has_key w.members t.key ≡ true)
joined s f emergency w h = by (bearing s.capture f) refl h
  where
    by : (o : Option Facts) → bearing s.capture f ≡ o → of_packet o (λ t. takes emergency w t) ≡ true
        → (t : Facts) × (bearing s.capture f ≡ Some t) × (is_linked w.place ≡ true) × (has_key w.members t.key ≡ true)
    by None e h = cc
    by (Some t) e h = let k = takes_split emergency w t h in (t, e, k.0, k.1)

pub bears_one : (s : Fixed) (f : ℕ) (t : Facts) → bearing s.capture f ≡ Some t → 1 ≤ f
bears_one s zero t h = cc
bears_one s (suc f) t h = omega arith

-- runs in the bucket

pub linked_here : (w : Row) → is_linked w.place ≡ true → is_here w ≡ true
linked_here w h = or_left (is_linked w.place) (not (is_none_of w.uses)) h

pub used_here : (w : Row) → is_none_of w.uses ≡ false → is_here w ≡ true
used_here w h = or_right (is_linked w.place) (not (is_none_of w.uses)) (ap not h)

pub here_split : (w : Row) → is_here w ≡ true → (is_linked w.place ≡ true) ⊎ (is_none_of w.uses ≡ false)
here_split w h = ⊎_elim (λ x. inl x) (λ x. inr (turn (is_none_of w.uses) x)) (either (is_linked w.place) (not (is_none_of w.uses)) h)
  where
    turn : (p : Bool) → not p ≡ true → p ≡ false
    turn true h = cc
    turn false h = refl

pub some_use : (us : List ℕ) (f : ℕ) → has us f ≡ true → is_none_of us ≡ false
some_use [] f h = cc
some_use (u ∷ us) f h = refl

pub user_here : (w : Row) (f : ℕ) → has w.uses f ≡ true → is_here w ≡ true
user_here w f h = used_here w (some_use w.uses f h)

-- the entry adds a use to the run
abbrev adds : BucketNote → ℕ → Bool
adds (Found f emergency seen run said) a = run == a
adds _ a = false

cond_none : (b : Bool) (xs us : List ℕ) → is_none_of (cond b xs us) ≡ false → (b ≡ true) ⊎ (is_none_of us ≡ false)
cond_none true xs us h = inl refl
cond_none false xs us h = inr h

without_none : (g : ℕ) (us : List ℕ) → is_none_of (without g us) ≡ false → is_none_of us ≡ false
without_none g [] h = h
without_none g (u ∷ us) h = refl

cond_without : (b : Bool) (g : ℕ) (us : List ℕ) → is_none_of (cond b (without g us) us) ≡ false → is_none_of us ≡ false
cond_without true g us h = without_none g us h
cond_without false g us h = h

uses_back : (n : BucketNote) (a : ℕ) (us : List ℕ) → is_none_of (uses_after n a us) ≡ false → (begins n a ≡ true) ⊎ (adds n a ≡ true) ⊎ (is_none_of us ≡ false)
uses_back (Found g emergency seen run said) a us h = inr (cond_none (run == a) _ us h)
uses_back (Missing g emergency seen ended) a us h = inr (inr h)
uses_back (Made g said) a us h = ⊎_elim (λ x. inl x) (λ x. inr (inr x)) (cond_none (g == a) _ us h)
uses_back (Refused g) a us h = inr (inr h)
uses_back (Stored g) a us h = inr (inr h)
uses_back (Stopped g) a us h = inr (inr h)
uses_back (Closed g app run freed ended) a us h = inr (inr (cond_without (run == a) g us h))
uses_back (Idle g app) a us h = inr (inr h)
uses_back (Victim g run) a us h = inr (inr h)
uses_back (AllInUse g count) a us h = inr (inr h)
uses_back (Swept round emergency seen count) a us h = inr (inr h)
uses_back (Drained count) a us h = inr (inr h)

adds_here : (s : Fixed) (past : List (Entry BucketNote)) (r : ℕ) (n : BucketNote) (a : ℕ) → Rule s past r n → adds n a ≡ true → is_here (row s a past) ≡ true
adds_here s past r (Found g emergency seen run said) a rule h =
    subst (λ (x : ℕ). is_here (row s x past) ≡ true) (eqb-true run a h) (linked_here (row s run past) (joined s g emergency (row s run past) rule.1).2)
adds_here s past r (Missing g emergency seen ended) a rule h = cc
adds_here s past r (Made g said) a rule h = cc
adds_here s past r (Refused g) a rule h = cc
adds_here s past r (Stored g) a rule h = cc
adds_here s past r (Stopped g) a rule h = cc
adds_here s past r (Closed g app run freed ended) a rule h = cc
adds_here s past r (Idle g app) a rule h = cc
adds_here s past r (Victim g run) a rule h = cc
adds_here s past r (AllInUse g count) a rule h = cc
adds_here s past r (Swept round emergency seen count) a rule h = cc
adds_here s past r (Drained count) a rule h = cc

-- where a run is after an entry that doesn't begin it, it was before
pub here_back : (s : Fixed) (past : List (Entry BucketNote)) (r : ℕ) (n : BucketNote) (a : ℕ) → Rule s past r n
    → is_here (after s a n (row s a past)) ≡ true → (begins n a ≡ true) ⊎ (is_here (row s a past) ≡ true)
here_back s past r n a rule h = ⊎_elim
    (λ x. ⊎_elim (λ y. inl y) (λ y. inr (linked_here (row s a past) y)) (after-linked s a n (row s a past) x))
    (λ x. ⊎_elim
    (λ y. inl y)
    (λ y. ⊎_elim (λ z. inr (adds_here s past r n a rule z)) (λ z. inr (used_here (row s a past) z)) y)
    (uses_back n a (row s a past).uses (subst (λ (us : List ℕ). is_none_of us ≡ false) (after-uses s a n (row s a past)) x)))
    (here_split (after s a n (row s a past)) h)

-- runs that begin

-- a run that begins hasn't begun before
pub begins_new : (s : Fixed) (past : List (Entry BucketNote)) (r : ℕ) (n : BucketNote) (a : ℕ) → IsSound s past → Rule s past r n → begins n a ≡ true
    → (has (made past) a ≡ false) × IsWait s past r a
begins_new s past r (Found g emergency seen run said) a snd rule h = cc
begins_new s past r (Missing g emergency seen ended) a snd rule h = cc
begins_new s past r (Made g said) a snd rule h = let w = subst (λ (x : ℕ). IsWait s past r x) (eqb-true g a h) (snd.waits r g rule.0) in (w.new.unmade, w)
begins_new s past r (Refused g) a snd rule h = cc
begins_new s past r (Stored g) a snd rule h = cc
begins_new s past r (Stopped g) a snd rule h = cc
begins_new s past r (Closed g app run freed ended) a snd rule h = cc
begins_new s past r (Idle g app) a snd rule h = cc
begins_new s past r (Victim g run) a snd rule h = cc
begins_new s past r (AllInUse g count) a snd rule h = cc
begins_new s past r (Swept round emergency seen count) a snd rule h = cc
begins_new s past r (Drained count) a snd rule h = cc

pub begins_blank : (s : Fixed) (past : List (Entry BucketNote)) (r : ℕ) (n : BucketNote) (a : ℕ) → IsSound s past → Rule s past r n
    → begins n a ≡ true → row s a past ≡ blank
begins_blank s past r n a snd rule h = snd.begun a (begins_new s past r n a snd rule h).0

pub cond_now : {A : Type 0} (h : Row → A) (b : Bool) (x w : Row) (u : A) → b ≡ true → h x ≡ u → h (cond b x w) ≡ u
cond_now h true x w u e k = k
cond_now h false x w u e k = cc

pub cond_not : {A : Type 0} (h : Row → A) (b : Bool) (x w : Row) → b ≡ false → h (cond b x w) ≡ h w
cond_not h true x w e = cc
cond_not h false x w e = refl

-- and is in the bucket then, with its use
pub begins_here : (s : Fixed) (n : BucketNote) (a : ℕ) (w : Row) → begins n a ≡ true → is_here (after s a n w) ≡ true
begins_here s (Found g emergency seen run said) a w h = cc
begins_here s (Missing g emergency seen ended) a w h = cc
begins_here s (Made g said) a w h = cond_now is_here (g == a) _ w true h refl
begins_here s (Refused g) a w h = cc
begins_here s (Stored g) a w h = cc
begins_here s (Stopped g) a w h = cc
begins_here s (Closed g app run freed ended) a w h = cc
begins_here s (Idle g app) a w h = cc
begins_here s (Victim g run) a w h = cc
begins_here s (AllInUse g count) a w h = cc
begins_here s (Swept round emergency seen count) a w h = cc
begins_here s (Drained count) a w h = cc

pub here_made : (s : Fixed) (past : List (Entry BucketNote)) (a : ℕ) → IsSound s past → is_here (row s a past) ≡ true → has (made past) a ≡ true
here_made s past a snd h = by (has (made past) a) refl
  where
    by : (b : Bool) → has (made past) a ≡ b → b ≡ true
    by true e = refl
    by false e = absurd (true_false h (ap is_here (snd.begun a e)))

-- the runs that began after an entry
pub made_split : (n : BucketNote) (ms : List ℕ) (a : ℕ) → has (made_by n ms) a ≡ (begins n a || has ms a)
made_split (Found g emergency seen run said) ms a = refl
made_split (Missing g emergency seen ended) ms a = refl
made_split (Made g said) ms a = refl
made_split (Refused g) ms a = refl
made_split (Stored g) ms a = refl
made_split (Stopped g) ms a = refl
made_split (Closed g app run freed ended) ms a = refl
made_split (Idle g app) ms a = refl
made_split (Victim g run) ms a = refl
made_split (AllInUse g count) ms a = refl
made_split (Swept round emergency seen count) ms a = refl
made_split (Drained count) ms a = refl
