-- Runs begin once, and a linked run keeps its key.
use Rattle.std.proofs.Common.{◌≡◌, ℕ, ◌==◌, Bool, true, false, cond, ◌||◌, List, [], ◌∷◌, Option, Some, None, ◌⊎◌, ⊎_elim, inl, inr, refl, sym, ◌∙◌, ap, subst, eqb-true, eq-eqb}
use Rattle.std.proofs.lemmas.Bool.{false_from_ne_true, or_parts}
use Rattle.std.proofs.lemmas.Bool.Decides.{eqb_tells}
use Rattle.suri_base.specs.declared.entry.BucketNote.{BucketNote}
use Rattle.suri_base.specs.declared.entry.BucketNote.TheVariants.{Found, Missing, Made, Refused, Stored, Stopped, Closed, Idle, Victim, AllInUse, Swept, Drained}
use Rattle.suri_base.specs.declared.entry.Entry.{Entry}
use Rattle.suri_base.specs.declared.facts.Facts.{Facts}
use Rattle.suri_base.specs.declared.key.Key.{Key}
use Rattle.suri_base.proofs.SameKeys.{same_key-is}
use Rattle.bucket_rules.specs.declared.fixed.Fixed.{Fixed}
use Rattle.bucket_rules.specs.Packets.{bearing, has_key, of_packet}
use Rattle.bucket_rules.specs.Row.{Row, blank, row, after, has, is_linked, with_packet, takes, made, made_by}
use Rattle.bucket_rules.specs.Rule.{IsPacketOf, Rule}
use Rattle.bucket_rules.specs.Sound.{IsNumberSet, IsWait, IsSound}
use Rattle.bucket_rules.proofs.Words.{true_false, cond_other}
use Rattle.bucket_rules.proofs.Rowing.{members_after, after-members, begins, after-linked, takes_split, key_joined}

-- a run that begins: its first packet was waited for
pub begun_run : (s : Fixed) (past : List (Entry BucketNote)) (r : ℕ) (n : BucketNote) (a : ℕ) → IsSound s past → Rule s past r n → begins n a ≡ true
    → (w : IsWait s past r a) × ((after s a n (row s a past)).members ≡ w.own.packet ∷ [])
begun_run s past r (Made g said) a snd rule b =
    let w = subst (λ (x : ℕ). IsWait s past r x) (eqb-true g a b) (snd.waits r g rule.0) in (
      w,
      after-members s a (Made g said) (row s a past) ∙ ap (λ (v : Bool). cond v (with_packet (bearing s.capture g) []) (row s a past).members) b
          ∙ ap (λ (x : ℕ). with_packet (bearing s.capture x) []) (eqb-true g a b)
          ∙ ap (λ (o : Option Facts). with_packet o []) w.own.bears,
    )
begun_run s past r (Found g emergency seen run said) a snd rule b = cc
begun_run s past r (Missing g emergency seen ended) a snd rule b = cc
begun_run s past r (Refused g) a snd rule b = cc
begun_run s past r (Stored g) a snd rule b = cc
begun_run s past r (Stopped g) a snd rule b = cc
begun_run s past r (Closed g app run freed ended) a snd rule b = cc
begun_run s past r (Idle g app) a snd rule b = cc
begun_run s past r (Victim g run) a snd rule b = cc
begun_run s past r (AllInUse g count) a snd rule b = cc
begun_run s past r (Swept round emergency seen count) a snd rule b = cc
begun_run s past r (Drained count) a snd rule b = cc

-- the members of a run keep their key

joined_key : (emergency : Bool) (w : Row) (o : Option Facts) (k : Key) → of_packet o (λ t. takes emergency w t) ≡ true
    → has_key (with_packet o w.members) k ≡ has_key w.members k
joined_key emergency w None k h = cc
joined_key emergency w (Some t) k h = key_joined t w.members k t.key (takes_split emergency w t h).1

-- the row of a run that begins is blank before
pub run_blank : (s : Fixed) (past : List (Entry BucketNote)) (r : ℕ) (n : BucketNote) (a : ℕ) → IsSound s past → Rule s past r n → begins n a ≡ true
    → row s a past ≡ blank
run_blank s past r n a snd rule b = snd.begun a (begun_run s past r n a snd rule b).0.new.unmade

-- a run that is linked, or used, doesn't begin
pub linked_begun : (s : Fixed) (past : List (Entry BucketNote)) (r : ℕ) (n : BucketNote) (a : ℕ) → IsSound s past → Rule s past r n
    → is_linked (row s a past).place ≡ true → begins n a ≡ false
linked_begun s past r n a snd rule l =
    false_from_ne_true (begins n a) (λ b. true_false l (ap (λ (w : Row). is_linked w.place) (run_blank s past r n a snd rule b)))

pub used_begun : (s : Fixed) (past : List (Entry BucketNote)) (r : ℕ) (n : BucketNote) (a f : ℕ) → IsSound s past → Rule s past r n → has (row s a past).uses f ≡ true
    → begins n a ≡ false
used_begun s past r n a f snd rule h =
    false_from_ne_true (begins n a) (λ b. true_false h (ap (λ (w : Row). has w.uses f) (run_blank s past r n a snd rule b)))

pub key_kept : (s : Fixed) (past : List (Entry BucketNote)) (r : ℕ) (n : BucketNote) (a : ℕ) (k : Key) → IsSound s past → Rule s past r n → begins n a ≡ false
    → has_key (after s a n (row s a past)).members k ≡ has_key (row s a past).members k
key_kept s past r n a k snd rule b = ap (λ (ms : List Facts). has_key ms k) (after-members s a n (row s a past)) ∙ by n rule b
  where
    by : (n : BucketNote) → Rule s past r n → begins n a ≡ false → has_key (members_after s n a (row s a past).members) k ≡ has_key (row s a past).members k
    by (Found g emergency seen run said) rule b = ⊎_elim
        (λ e. rw (e.0) (subst (λ (x : ℕ). has_key (with_packet (bearing s.capture g) (row s x past).members) k ≡ has_key (row s x past).members k) e.1
        (joined_key emergency (row s run past) (bearing s.capture g) k rule.1)))
        (λ e. rw (e.0) refl)
        (eqb_tells run a)
    by (Made g said) rule b = rw b refl
    by (Missing g emergency seen ended) rule b = refl
    by (Refused g) rule b = refl
    by (Stored g) rule b = refl
    by (Stopped g) rule b = refl
    by (Closed g app run freed ended) rule b = refl
    by (Idle g app) rule b = refl
    by (Victim g run) rule b = refl
    by (AllInUse g count) rule b = refl
    by (Swept round emergency seen count) rule b = refl
    by (Drained count) rule b = refl

-- one packet has the key that it has
pub alone_key : (ms : List Facts) (t : Facts) (k : Key) → ms ≡ t ∷ [] → has_key ms k ≡ true → t.key ≡ k
alone_key ms t k e h = same_key-is t.key k (subst (λ (l : List Facts). has_key l k ≡ true) e h)

-- two linked runs that have a key are one after the entry too
pub one_after : (s : Fixed) (past : List (Entry BucketNote)) (r : ℕ) (n : BucketNote) → IsSound s past → Rule s past r n → (a b : ℕ) (k : Key)
    → is_linked (after s a n (row s a past)).place ≡ true → has_key (after s a n (row s a past)).members k ≡ true
    → is_linked (after s b n (row s b past)).place ≡ true → has_key (after s b n (row s b past)).members k ≡ true → a ≡ b
one_after s past r n snd rule a b k la ka lb kb = by (after-linked s a n (row s a past) la) (after-linked s b n (row s b past) lb)
  where
    lone : (a b : ℕ) → begins n a ≡ true → is_linked (row s b past).place ≡ true → has_key (after s a n (row s a past)).members k ≡ true
        → has_key (after s b n (row s b past)).members k ≡ true → ⊥
    lone a b h l ka kb =
        let w = begun_run s past r n a snd rule h in
        let e = alone_key _ w.0.own.packet k w.1 ka in
        true_false (sym (key_kept s past r n b k snd rule (linked_begun s past r n b snd rule l)) ∙ kb) (subst (λ (x : Key). has_key (row s b past).members x ≡ false) e (w.0.none b l))

    both : (n : BucketNote) (a b : ℕ) → begins n a ≡ true → begins n b ≡ true → a ≡ b
    both (Made g said) a b h k = sym (eqb-true g a h) ∙ eqb-true g b k
    both (Found g emergency seen run said) a b h k = cc
    both (Missing g emergency seen ended) a b h k = cc
    both (Refused g) a b h k = cc
    both (Stored g) a b h k = cc
    both (Stopped g) a b h k = cc
    both (Closed g app run freed ended) a b h k = cc
    both (Idle g app) a b h k = cc
    both (Victim g run) a b h k = cc
    both (AllInUse g count) a b h k = cc
    both (Swept round emergency seen count) a b h k = cc
    both (Drained count) a b h k = cc

    by : (begins n a ≡ true) ⊎ (is_linked (row s a past).place ≡ true) → (begins n b ≡ true) ⊎ (is_linked (row s b past).place ≡ true) → a ≡ b
    by (inl x) (inl y) = both n a b x y
    by (inl x) (inr y) = absurd (lone a b x y ka kb)
    by (inr x) (inl y) = absurd (lone b a y x kb ka)
    by (inr x) (inr y) =
        snd.one a b k
        x (sym (key_kept s past r n a k snd rule (linked_begun s past r n a snd rule x)) ∙ ka)
        y (sym (key_kept s past r n b k snd rule (linked_begun s past r n b snd rule y)) ∙ kb)

-- a run that has not begun

joins_blank : (emergency : Bool) (o : Option Facts) → of_packet o (λ t. takes emergency blank t) ≡ true → ⊥
joins_blank emergency None h = cc
joins_blank emergency (Some t) h = cc

unmade_blank : (s : Fixed) (past : List (Entry BucketNote)) (run a : ℕ) → IsSound s past → run ≡ a → has (made past) a ≡ false → row s run past ≡ blank
unmade_blank s past run a snd e h = snd.begun run (subst (λ (x : ℕ). has (made past) x ≡ false) (sym e) h)

pub begun_after : (s : Fixed) (past : List (Entry BucketNote)) (r : ℕ) (n : BucketNote) → IsSound s past → Rule s past r n → (a : ℕ)
    → has (made_by n (made past)) a ≡ false → after s a n (row s a past) ≡ blank
begun_after s past r (Found g emergency seen run said) snd rule a h =
    cond_other run a _ (row s a past) (λ e. joins_blank emergency (bearing s.capture g)
    (subst (λ (w : Row). of_packet (bearing s.capture g) (λ t. takes emergency w t) ≡ true) (unmade_blank s past run a snd e h) rule.1))
    ∙ snd.begun a h
begun_after s past r (Made g said) snd rule a h =
    let k = or_parts (g == a) (has (made past) a) h in
    cond_other g a _ (row s a past) (λ e. true_false (eq-eqb g a e) k.0) ∙ snd.begun a k.1
begun_after s past r (Closed g app run freed ended) snd rule a h =
    cond_other run a _ (row s a past) (λ e. true_false rule.2 (ap (λ (w : Row). has w.uses g) (unmade_blank s past run a snd e h))) ∙ snd.begun a h
begun_after s past r (Missing g emergency seen ended) snd rule a h = subst (λ (w : Row). after s a (Missing g emergency seen ended) w ≡ blank) (sym (snd.begun a h)) refl
begun_after s past r (Refused g) snd rule a h = snd.begun a h
begun_after s past r (Stored g) snd rule a h = subst (λ (w : Row). after s a (Stored g) w ≡ blank) (sym (snd.begun a h)) refl
begun_after s past r (Stopped g) snd rule a h = subst (λ (w : Row). after s a (Stopped g) w ≡ blank) (sym (snd.begun a h)) refl
begun_after s past r (Idle g app) snd rule a h = snd.begun a h
begun_after s past r (Victim g run) snd rule a h = subst (λ (w : Row). after s a (Victim g run) w ≡ blank) (sym (snd.begun a h)) refl
begun_after s past r (AllInUse g count) snd rule a h = snd.begun a h
begun_after s past r (Swept round emergency seen count) snd rule a h = subst (λ (w : Row). after s a (Swept round emergency seen count) w ≡ blank) (sym (snd.begun a h)) refl
begun_after s past r (Drained count) snd rule a h = subst (λ (w : Row). after s a (Drained count) w ≡ blank) (sym (snd.begun a h)) refl

pub once_after : (s : Fixed) (past : List (Entry BucketNote)) (r : ℕ) (n : BucketNote) → IsSound s past → Rule s past r n → IsNumberSet (made_by n (made past))
once_after s past r (Made g said) snd rule = ((snd.waits r g rule.0).new.unmade, snd.once)
once_after s past r (Found g emergency seen run said) snd rule = snd.once
once_after s past r (Missing g emergency seen ended) snd rule = snd.once
once_after s past r (Refused g) snd rule = snd.once
once_after s past r (Stored g) snd rule = snd.once
once_after s past r (Stopped g) snd rule = snd.once
once_after s past r (Closed g app run freed ended) snd rule = snd.once
once_after s past r (Idle g app) snd rule = snd.once
once_after s past r (Victim g run) snd rule = snd.once
once_after s past r (AllInUse g count) snd rule = snd.once
once_after s past r (Swept round emergency seen count) snd rule = snd.once
once_after s past r (Drained count) snd rule = snd.once

pub borne_after : (s : Fixed) (past : List (Entry BucketNote)) (r : ℕ) (n : BucketNote) → IsSound s past → Rule s past r n → (a : ℕ)
    → has (made_by n (made past)) a ≡ true → (t : Facts) × (bearing s.capture a ≡ Some t)
borne_after s past r (Made g said) snd rule a h = by (g == a) refl h
  where
    own : IsPacketOf s r g
    own = (snd.waits r g rule.0).own

    by : (b : Bool) → (g == a) ≡ b → (b || has (made past) a) ≡ true → (t : Facts) × (bearing s.capture a ≡ Some t)
    by true e h = (own.packet, subst (λ (x : ℕ). bearing s.capture x ≡ Some own.packet) (eqb-true g a e) own.bears)
    by false e h = snd.borne a h
borne_after s past r (Found g emergency seen run said) snd rule a h = snd.borne a h
borne_after s past r (Missing g emergency seen ended) snd rule a h = snd.borne a h
borne_after s past r (Refused g) snd rule a h = snd.borne a h
borne_after s past r (Stored g) snd rule a h = snd.borne a h
borne_after s past r (Stopped g) snd rule a h = snd.borne a h
borne_after s past r (Closed g app run freed ended) snd rule a h = snd.borne a h
borne_after s past r (Idle g app) snd rule a h = snd.borne a h
borne_after s past r (Victim g run) snd rule a h = snd.borne a h
borne_after s past r (AllInUse g count) snd rule a h = snd.borne a h
borne_after s past r (Swept round emergency seen count) snd rule a h = snd.borne a h
borne_after s past r (Drained count) snd rule a h = snd.borne a h
