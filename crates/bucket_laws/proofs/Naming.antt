-- Who is named is in the bucket; who left stays away.
use Rattle.std.proofs.Common.{◌≡◌, ℕ, ◌==◌, ◌≤◌, Bool, true, false, cond, not, ◌||◌, List, [], ◌∷◌, ◌++◌, Option, Some, None, ⊎_elim, inl, inr, refl, sym, ◌∙◌, ap, subst, eqb-true}
use Rattle.suri_base.specs.declared.entry.BucketNote.{BucketNote}
use Rattle.suri_base.specs.declared.entry.BucketNote.TheVariants.{Found, Missing, Made, Refused, Stored, Stopped, Closed, Idle, Victim, AllInUse, Swept, Drained}
use Rattle.suri_base.specs.declared.entry.Entry.{Entry}
use Rattle.suri_base.specs.declared.facts.Facts.{Facts}
use Rattle.bucket_rules.specs.Packets.{bearing}
use Rattle.bucket_rules.specs.Row.{after, row, has, without, is_linked, is_here, is_none_of, with_packet, made}
use Rattle.bucket_rules.specs.Rule.{Rule, IsLegal}
use Rattle.bucket_rules.specs.Sound.{IsSound}
use Rattle.bucket_rules.specs.declared.fixed.Fixed.{Fixed}
use Rattle.bucket_laws.specs.Naming.{IsMember, NamesHere, names}
use Rattle.bucket_laws.specs.Places.{At, In}
use Rattle.bucket_rules.proofs.Soundness.{sound}
use Rattle.bucket_rules.proofs.Rowing.{uses_after, members_after, after-uses, after-members, begins}
use Rattle.bucket_rules.proofs.Words.{true_false}
use Rattle.bucket_laws.proofs.Steps.{legal_at, joined, linked_here, user_here, here_back, begins_new, made_split, bears_one}
use Rattle.bucket_laws.proofs.Tests.{no_true, both, either, or_left, or_right, same}

-- who uses a run is one of its members

in_more : (t : Facts) (o : Option Facts) (ms : List Facts) → In t ms → In t (with_packet o ms)
in_more t None ms i = i
in_more t (Some u) ms i = inr i

in_now : (t : Facts) (o : Option Facts) (ms : List Facts) → o ≡ Some t → In t (with_packet o ms)
in_now t None ms e = cc
in_now t (Some u) ms e = let k : u ≡ t = cc in inl k

pub has_without : (g f : ℕ) (us : List ℕ) → has (without g us) f ≡ true → has us f ≡ true
has_without g f [] h = h
has_without g f (u ∷ us) h = step (u == g) (λ k. has_without g f us k) h
  where
    step : (b : Bool) → (has (without g us) f ≡ true → has us f ≡ true) → has (cond (not b) (u ∷ without g us) (without g us)) f ≡ true
        → ((u == f) || has us f) ≡ true
    step true more h = or_right (u == f) (has us f) (more h)
    step false more h = ⊎_elim (λ x. or_left (u == f) (has us f) x) (λ x. or_right (u == f) (has us f) (more x)) (either (u == f) (has (without g us) f) h)

user_after : (s : Fixed) (n : BucketNote) (a f : ℕ) (t : Facts) (us : List ℕ) (ms : List Facts) → bearing s.capture f ≡ Some t
    → (has us f ≡ true → In t ms) → has (uses_after n a us) f ≡ true → In t (members_after s n a ms)
user_after s (Found g emergency seen run said) a f t us ms b k h = by (run == a) h
  where
    by : (c : Bool) → has (cond c (g ∷ us) us) f ≡ true → In t (cond c (with_packet (bearing s.capture g) ms) ms)
    by true h =
        ⊎_elim (λ x. in_now t (bearing s.capture g) ms (ap (bearing s.capture) (eqb-true g f x) ∙ b)) (λ x. in_more t (bearing s.capture g) ms (k x))
        (either (g == f) (has us f) h)
    by false h = k h
user_after s (Missing g emergency seen ended) a f t us ms b k h = k h
user_after s (Made g said) a f t us ms b k h = by (g == a) h
  where
    by : (c : Bool) → has (cond c (g ∷ []) us) f ≡ true → In t (cond c (with_packet (bearing s.capture g) []) ms)
    by true h = ⊎_elim (λ x. in_now t (bearing s.capture g) [] (ap (bearing s.capture) (eqb-true g f x) ∙ b)) (λ x. cc) (either (g == f) false h)
    by false h = k h
user_after s (Refused g) a f t us ms b k h = k h
user_after s (Stored g) a f t us ms b k h = k h
user_after s (Stopped g) a f t us ms b k h = k h
user_after s (Closed g app run freed ended) a f t us ms b k h = by (run == a) h
  where
    by : (c : Bool) → has (cond c (without g us) us) f ≡ true → In t ms
    by true h = k (has_without g f us h)
    by false h = k h
user_after s (Idle g app) a f t us ms b k h = k h
user_after s (Victim g run) a f t us ms b k h = k h
user_after s (AllInUse g count) a f t us ms b k h = k h
user_after s (Swept round emergency seen count) a f t us ms b k h = k h
user_after s (Drained count) a f t us ms b k h = k h

pub user_is_member : (s : Fixed) (past : List (Entry BucketNote)) (a f : ℕ) (t : Facts) → bearing s.capture f ≡ Some t
    → has (row s a past).uses f ≡ true → In t (row s a past).members
user_is_member s [] a f t b h = cc
user_is_member s (e ∷ past) a f t b h =
    subst (λ (ms : List Facts). In t ms) (sym (after-members s a e.note (row s a past)))
    (user_after s e.note a f t (row s a past).uses (row s a past).members b (λ k. user_is_member s past a f t b k)
    (subst (λ (us : List ℕ). has us f ≡ true) (after-uses s a e.note (row s a past)) h))

-- an entry names only a run that is in the bucket, and a close the run of its own packet

member : (s : Fixed) (past : List (Entry BucketNote)) (a f : ℕ) → IsSound s past → has (row s a past).uses f ≡ true → IsMember s f (row s a past)
member s past a f snd h = let u = snd.uses a f h in record { packet = u.packet; bears = u.bears; member = user_is_member s past a f u.packet u.bears h }

names_here : (s : Fixed) (past : List (Entry BucketNote)) (r : ℕ) (n : BucketNote) → IsSound s past → Rule s past r n → NamesHere s past n
names_here s past r (Found g emergency seen run said) snd rule = (joined s g emergency (row s run past) rule.1).2
names_here s past r (Missing g emergency seen ended) snd rule = λ p. (both (is_here (row s ended past)) _ (rule.2 ended p ∙ same ended ended refl)).0
names_here s past r (Made g said) snd rule = tt
names_here s past r (Refused g) snd rule = tt
names_here s past r (Stored g) snd rule = tt
names_here s past r (Stopped g) snd rule = tt
names_here s past r (Closed g app run freed ended) snd rule = (user_here (row s run past) g rule.2, member s past run g snd rule.2)
names_here s past r (Idle g app) snd rule = tt
names_here s past r (Victim g run) snd rule =
    let k = both (is_linked (row s run past).place) (is_none_of (row s run past).uses) rule.1.unused in (linked_here (row s run past) k.0, k.1)
names_here s past r (AllInUse g count) snd rule = tt
names_here s past r (Swept round emergency seen count) snd rule = tt
names_here s past r (Drained count) snd rule = tt

pub named : (s : Fixed) (history : List (Entry BucketNote)) → IsLegal s history → (e : Entry BucketNote) (past : List (Entry BucketNote))
    → At e past history → NamesHere s past e.note
named s h l e past a = let k = legal_at s e past h l a in names_here s past e.role e.note (sound s past k.1) k.0

-- a run that began and left does not come back

pub stays_away : (s : Fixed) (since old : List (Entry BucketNote)) (a : ℕ) → IsLegal s (since ++ old) → has (made old) a ≡ true
    → is_here (row s a old) ≡ false → (has (made (since ++ old)) a ≡ true) × (is_here (row s a (since ++ old)) ≡ false)
stays_away s [] old a l m h = (m, h)
stays_away s (e ∷ since) old a l m h =
    let k = stays_away s since old a l.1 m h in (
      made_split e.note (made (since ++ old)) a ∙ or_right (begins e.note a) (has (made (since ++ old)) a) k.0,
      no_true (is_here (after s a e.note (row s a (since ++ old)))) (λ x. ⊎_elim
          (λ y. true_false k.0 (begins_new s (since ++ old) e.role e.note a (sound s (since ++ old) l.1) l.0 y).0)
          (λ y. true_false y k.1)
          (here_back s (since ++ old) e.role e.note a l.0 x)),
    )

pub gone : (s : Fixed) (since old : List (Entry BucketNote)) (a : ℕ) → IsLegal s (since ++ old) → has (made old) a ≡ true
    → is_here (row s a old) ≡ false → is_here (row s a (since ++ old)) ≡ false
gone s since old a l m h = (stays_away s since old a l m h).1

name_is_here : (s : Fixed) (past : List (Entry BucketNote)) (n : BucketNote) (a : ℕ) → 1 ≤ a → NamesHere s past n → names n a ≡ true
    → is_here (row s a past) ≡ true
name_is_here s past (Found g emergency seen run said) a p k h = subst (λ (x : ℕ). is_here (row s x past) ≡ true) (eqb-true run a h) (linked_here (row s run past) k)
name_is_here s past (Missing g emergency seen ended) a p k h =
    let e = eqb-true ended a h in subst (λ (x : ℕ). is_here (row s x past) ≡ true) e (k (subst (λ (x : ℕ). 1 ≤ x) (sym e) p))
name_is_here s past (Made g said) a p k h = cc
name_is_here s past (Refused g) a p k h = cc
name_is_here s past (Stored g) a p k h = cc
name_is_here s past (Stopped g) a p k h = cc
name_is_here s past (Closed g app run freed ended) a p k h = subst (λ (x : ℕ). is_here (row s x past) ≡ true) (eqb-true run a h) k.0
name_is_here s past (Idle g app) a p k h = cc
name_is_here s past (Victim g run) a p k h = subst (λ (x : ℕ). is_here (row s x past) ≡ true) (eqb-true run a h) k.0
name_is_here s past (AllInUse g count) a p k h = cc
name_is_here s past (Swept round emergency seen count) a p k h = cc
name_is_here s past (Drained count) a p k h = cc

pub unnamed : (s : Fixed) (e : Entry BucketNote) (since old : List (Entry BucketNote)) (a : ℕ) → IsLegal s (e ∷ since ++ old)
    → has (made old) a ≡ true → is_here (row s a old) ≡ false → names e.note a ≡ false
unnamed s e since old a l m h =
    let k = stays_away s since old a l.1 m h in
    let snd = sound s (since ++ old) l.1 in
    let pos = bears_one s a (snd.borne a k.0).0 (snd.borne a k.0).1 in
    no_true (names e.note a) (λ x. true_false (name_is_here s (since ++ old) e.note a pos (names_here s (since ++ old) e.role e.note snd l.0) x) k.1)
