-- List, fixed part and call fix the note: of two notes that answer one call and keep the rule after one history, one is the other.
use Rattle.std.proofs.Common.{◌≡◌, ℕ, zero, suc, ◌-◌, ◌==◌, ◌≤◌, Bool, true, false, ◌&&◌, List, Option, Some, ◌⊎◌, inl, inr, refl, sym, ◌∙◌, ap, subst, arith, eqb-true, eq-eqb}
use Rattle.suri_base.specs.declared.app.App.{App}
use Rattle.suri_base.specs.declared.entry.Entry.{Entry}
use Rattle.suri_base.specs.declared.facts.Facts.{Facts}
use Rattle.suri_base.specs.declared.stream.Offer.{Offer}
use Rattle.bucket_rules.specs.declared.fixed.Fixed.{Fixed}
use Rattle.suri_base.specs.declared.entry.BucketNote.{BucketNote}
use Rattle.suri_base.specs.declared.entry.BucketNote.TheVariants.{Found, Missing, Made, Refused, Stored, Stopped, Closed, Idle, Victim, AllInUse, Swept, Drained}
use Rattle.bucket_rules.specs.Fixing.{Asked, look, make, refuse, store, stop, close, evict, sweep, drain, asked, SameCall}
use Rattle.bucket_rules.specs.Packets.{bearing, has_key, of_packet}
use Rattle.bucket_rules.specs.Row.{Row, row, is_linked, is_unused, joins, lets_go, offer_of, waiting_of, takes}
use Rattle.bucket_rules.specs.Rule.{IsFirstUnused, Precedes, newest_clock, Rule}
use Rattle.bucket_rules.specs.Sound.{IsSound}

-- what a note says beside the call that it answers

abbrev Answer : Asked → Type 0
Answer (look f emergency seen) = (ℕ × Offer) ⊎ ℕ
Answer (make f) = Offer
Answer (refuse f) = Unit {0}
Answer (store f) = Unit {0}
Answer (stop f) = Unit {0}
Answer (close f app) = (ℕ × ℕ × Bool) ⊎ Unit {0}
Answer (evict f) = ℕ ⊎ ℕ
Answer (sweep round emergency seen) = ℕ
Answer drain = ℕ

abbrev note_of : (c : Asked) → Answer c → BucketNote
note_of (look f emergency seen) (inl x) = Found f emergency seen x.0 x.1
note_of (look f emergency seen) (inr ended) = Missing f emergency seen ended
note_of (make f) said = Made f said
note_of (refuse f) x = Refused f
note_of (store f) x = Stored f
note_of (stop f) x = Stopped f
note_of (close f app) (inl x) = Closed f app x.0 x.1 x.2
note_of (close f app) (inr x) = Idle f app
note_of (evict f) (inl run) = Victim f run
note_of (evict f) (inr count) = AllInUse f count
note_of (sweep round emergency seen) count = Swept round emergency seen count
note_of drain count = Drained count

abbrev answer_in : (n : BucketNote) → Answer (asked n)
answer_in (Found f emergency seen run said) = inl (run, said)
answer_in (Missing f emergency seen ended) = inr ended
answer_in (Made f said) = said
answer_in (Refused f) = tt
answer_in (Stored f) = tt
answer_in (Stopped f) = tt
answer_in (Closed f app run freed ended) = inl (run, freed, ended)
answer_in (Idle f app) = inr tt
answer_in (Victim f run) = inl run
answer_in (AllInUse f count) = inr count
answer_in (Swept round emergency seen count) = count
answer_in (Drained count) = count

again : (n : BucketNote) → note_of (asked n) (answer_in n) ≡ n
again (Found f emergency seen run said) = refl
again (Missing f emergency seen ended) = refl
again (Made f said) = refl
again (Refused f) = refl
again (Stored f) = refl
again (Stopped f) = refl
again (Closed f app run freed ended) = refl
again (Idle f app) = refl
again (Victim f run) = refl
again (AllInUse f count) = refl
again (Swept round emergency seen count) = refl
again (Drained count) = refl

-- looks

packet_is : (o : Option Facts) (t u : Facts) → o ≡ Some t → o ≡ Some u → t ≡ u
packet_is o t u e k = cc

-- the run that takes the packet is linked and of its key
takes_split : (emergency : Bool) (w : Row) (t : Facts) → takes emergency w t ≡ true → (is_linked w.place ≡ true) × (has_key w.members t.key ≡ true)
takes_split emergency w t h = four (is_linked w.place) (has_key w.members t.key) _ _ h
  where
    four : (p q r u : Bool) → (p && q && r && u) ≡ true → (p ≡ true) × (q ≡ true)
    four true true r u h = (refl, refl)
    four true false r u h = cc
    four false q r u h = cc

taken : (s : Fixed) (f : ℕ) (emergency : Bool) (w : Row) (t : Facts) → bearing s.capture f ≡ Some t → joins s f emergency w ≡ true → takes emergency w t ≡ true
taken s f emergency w t b h = subst (λ (o : Option Facts). of_packet o (λ t. takes emergency w t) ≡ true) b h

one_found : (s : Fixed) (past : List (Entry BucketNote)) (role f : ℕ) (emergency : Bool) (seen : ℕ) (x y : ℕ × Offer) → IsSound s past
    → Rule s past role (Found f emergency seen x.0 x.1) → Rule s past role (Found f emergency seen y.0 y.1) → x ≡ y
one_found s past role f emergency seen x y snd p q = pairs_meet x y runs offers
  where
    packets : p.0.own.packet ≡ q.0.own.packet
    packets = packet_is (bearing s.capture f) _ _ p.0.own.bears q.0.own.bears

    left : (is_linked (row s x.0 past).place ≡ true) × (has_key (row s x.0 past).members p.0.own.packet.key ≡ true)
    left = takes_split emergency (row s x.0 past) p.0.own.packet (taken s f emergency (row s x.0 past) p.0.own.packet p.0.own.bears p.1)

    right : (is_linked (row s y.0 past).place ≡ true) × (has_key (row s y.0 past).members p.0.own.packet.key ≡ true)
    right = takes_split emergency (row s y.0 past) p.0.own.packet (taken s f emergency (row s y.0 past) p.0.own.packet p.0.own.bears q.1)

    runs : x.0 ≡ y.0
    runs = snd.one x.0 y.0 p.0.own.packet.key left.0 left.1 right.0 right.1

    offers : x.1 ≡ y.1
    offers = p.2 ∙ ap (λ (a : ℕ). offer_of s (row s a past) p.0.own.packet) runs ∙ ap (λ (t : Facts). offer_of s (row s y.0 past) t) packets ∙ sym q.2

    pairs_meet : (x y : ℕ × Offer) → x.0 ≡ y.0 → x.1 ≡ y.1 → x ≡ y
    pairs_meet (a, said) (b, told) e k = cc

found_or_missing : (s : Fixed) (past : List (Entry BucketNote)) (role f : ℕ) (emergency : Bool) (seen a ended : ℕ) (said : Offer)
    → Rule s past role (Found f emergency seen a said) → Rule s past role (Missing f emergency seen ended) → ⊥
found_or_missing s past role f emergency seen a ended said found missing = differ (joins s f emergency (row s a past)) found.1 (missing.1 a)
  where
    differ : (b : Bool) → b ≡ true → b ≡ false → ⊥
    differ b e k = cc

-- numbers from 1 on tell which number they are told of, and 0 is told of by none
one_told : (t : ℕ → Bool) (x y : ℕ) → ((a : ℕ) → 1 ≤ a → t a ≡ (a == x)) → ((a : ℕ) → 1 ≤ a → t a ≡ (a == y)) → x ≡ y
one_told t zero zero p q = refl
one_told t zero (suc y) p q = sym (eqb-true (suc y) zero (sym (p (suc y) (omega arith)) ∙ q (suc y) (omega arith) ∙ eq-eqb (suc y) (suc y) refl))
one_told t (suc x) y p q = eqb-true (suc x) y (sym (q (suc x) (omega arith)) ∙ p (suc x) (omega arith) ∙ eq-eqb (suc x) (suc x) refl)

-- closes

one_closed : (s : Fixed) (past : List (Entry BucketNote)) (role f : ℕ) (app : App) (x y : ℕ × ℕ × Bool) → IsSound s past
    → Rule s past role (Closed f app x.0 x.1 x.2) → Rule s past role (Closed f app y.0 y.1 y.2) → x ≡ y
one_closed s past role f app x y snd p q = triples_meet x y runs nodes ends
  where
    runs : x.0 ≡ y.0
    runs = (snd.uses x.0 f p.2).only y.0 q.2

    nodes : x.1 ≡ y.1
    nodes = p.3 ∙ ap (λ (a : ℕ). (row s a past).held - waiting_of s (row s a past)) runs ∙ sym q.3

    ends : x.2 ≡ y.2
    ends = p.4 ∙ ap (λ (a : ℕ). lets_go s past (Closed f app a x.1 true) a) runs ∙ ap (λ (freed : ℕ). lets_go s past (Closed f app y.0 freed true) y.0) nodes ∙ sym q.4

    triples_meet : (x y : ℕ × ℕ × Bool) → x.0 ≡ y.0 → x.1 ≡ y.1 → x.2 ≡ y.2 → x ≡ y
    triples_meet (a, freed, ended) (b, gone, over) e k h = cc

closed_or_idle : (s : Fixed) (past : List (Entry BucketNote)) (role f : ℕ) (app : App) (run freed : ℕ) (ended : Bool)
    → Rule s past role (Closed f app run freed ended) → Rule s past role (Idle f app) → ⊥
closed_or_idle s past role f app run freed ended closed idle = cc

-- evictions

one_first : (v w : Row) (a b : ℕ) → Precedes v a w b → Precedes w b v a → a ≡ b
one_first v w a b p q = close_up (newest_clock v.members) (newest_clock w.members) p q
  where
    close_up : (x y : ℕ) → (x ≤ y) × (x ≡ y → a ≤ b) → (y ≤ x) × (y ≡ x → b ≤ a) → a ≡ b
    close_up x y p q = omega (arith, p.1 (omega (arith, p.0, q.0)), q.1 (omega (arith, p.0, q.0)))

one_victim : (s : Fixed) (past : List (Entry BucketNote)) (a b : ℕ) → IsFirstUnused s past a → IsFirstUnused s past b → a ≡ b
one_victim s past a b p q = one_first (row s a past) (row s b past) a b (p.first b q.unused) (q.first a p.unused)

victim_or_none : (s : Fixed) (past : List (Entry BucketNote)) (a : ℕ) → IsFirstUnused s past a → ((b : ℕ) → is_unused (row s b past) ≡ false) → ⊥
victim_or_none s past a p none = differ (is_unused (row s a past)) p.unused (none a)
  where
    differ : (b : Bool) → b ≡ true → b ≡ false → ⊥
    differ b e k = cc

-- of each call

one_answer : (s : Fixed) (past : List (Entry BucketNote)) (role : ℕ) → IsSound s past → (c : Asked) (x y : Answer c) → Rule s past role (note_of c x) → Rule s past role (note_of c y) → x ≡ y
one_answer s past role snd (look f emergency seen) (inl x) (inl y) p q = ap inl (one_found s past role f emergency seen x y snd p q)
one_answer s past role snd (look f emergency seen) (inl x) (inr y) p q = absurd (found_or_missing s past role f emergency seen x.0 y x.1 p q)
one_answer s past role snd (look f emergency seen) (inr x) (inl y) p q = absurd (found_or_missing s past role f emergency seen y.0 x y.1 q p)
one_answer s past role snd (look f emergency seen) (inr x) (inr y) p q = ap inr (one_told (lets_go s past (Missing f emergency seen x)) x y p.2 q.2)
one_answer s past role snd (make f) x y p q = let own = (snd.waits role f p.0).own in p.1 own.packet own.bears ∙ sym (q.1 own.packet own.bears)
one_answer s past role snd (refuse f) x y p q = refl
one_answer s past role snd (store f) x y p q = refl
one_answer s past role snd (stop f) x y p q = refl
one_answer s past role snd (close f app) (inl x) (inl y) p q = ap inl (one_closed s past role f app x y snd p q)
one_answer s past role snd (close f app) (inl x) (inr y) p q = absurd (closed_or_idle s past role f app x.0 x.1 x.2 p q)
one_answer s past role snd (close f app) (inr x) (inl y) p q = absurd (closed_or_idle s past role f app y.0 y.1 y.2 q p)
one_answer s past role snd (close f app) (inr x) (inr y) p q = refl
one_answer s past role snd (evict f) (inl x) (inl y) p q = ap inl (one_victim s past x y p.1 q.1)
one_answer s past role snd (evict f) (inl x) (inr y) p q = absurd (victim_or_none s past x p.1 q.1)
one_answer s past role snd (evict f) (inr x) (inl y) p q = absurd (victim_or_none s past y q.1 p.1)
one_answer s past role snd (evict f) (inr x) (inr y) p q = ap inr (p.2 ∙ sym q.2)
one_answer s past role snd (sweep round emergency seen) x y p q = p.1 ∙ sym q.1
one_answer s past role snd drain x y p q = p.1 ∙ sym q.1

one_of_same : (s : Fixed) (past : List (Entry BucketNote)) (role : ℕ) → IsSound s past → (c d : Asked) (x : Answer c) (y : Answer d) → c ≡ d
    → Rule s past role (note_of c x) → Rule s past role (note_of d y) → note_of c x ≡ note_of d y
one_of_same s past role snd c d x y e p q =
    subst (λ (d : Asked). (y : Answer d) → Rule s past role (note_of d y) → note_of c x ≡ note_of d y) e (λ y q. ap (note_of c) (one_answer s past role snd c x y p q)) y q

-- of two notes that answer one call after a sound history, one is the other
pub one_note : (s : Fixed) (past : List (Entry BucketNote)) (role : ℕ) (n m : BucketNote) → IsSound s past → Rule s past role n → Rule s past role m → SameCall n m → n ≡ m
one_note s past role n m snd p q same =
    sym (again n)
    ∙ one_of_same s past role snd (asked n) (asked m) (answer_in n) (answer_in m) same
    (subst (λ (v : BucketNote). Rule s past role v) (sym (again n)) p)
    (subst (λ (v : BucketNote). Rule s past role v) (sym (again m)) q)
    ∙ again m
