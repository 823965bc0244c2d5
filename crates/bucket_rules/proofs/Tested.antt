-- A test of a history, by the runs that began and the frames of the capture: a history that passes it is legal, and a legal one
-- passes it where legal histories are sound.
use Rattle.std.proofs.Common.{◌≡◌, ℕ, zero, suc, ◌+◌, ◌*◌, ◌-◌, ◌==◌, ◌<◌, ◌≤◌, nat_lt, nat_le, Bool, true, false, not, cond, ◌&&◌, ◌||◌, List, [], ◌∷◌, length, Option, Some, None, refl, sym, ◌∙◌, ap, subst, arith, eqb-true, eq-eqb}
use Rattle.std.specs.Prelude.{slice_get}
use Rattle.std.specs.List.{list_all}
use Rattle.std.proofs.lemmas.Bool.Decides.{nat_tests}
use Rattle.suri_base.specs.Dealing.{bucket_of, worker_of}
use Rattle.suri_base.specs.Capture.{facts_in}
use Rattle.suri_base.specs.Keys.{same_truth}
use Rattle.suri_base.specs.declared.entry.Entry.{Entry}
use Rattle.suri_base.specs.declared.facts.Facts.{Facts}
use Rattle.suri_base.specs.declared.seen.Seen.{Seen}
use Rattle.suri_base.specs.declared.stream.Offer.{Offer}
use Rattle.suri_base.specs.declared.stream.Offer.TheVariants as offer
use Rattle.bucket_rules.specs.declared.fixed.Fixed.{Fixed}
use Rattle.suri_base.specs.declared.entry.BucketNote.{BucketNote}
use Rattle.suri_base.specs.declared.entry.BucketNote.TheVariants.{Found, Missing, Made, Refused, Stored, Stopped, Closed, Idle, Victim, AllInUse, Swept, Drained}
use Rattle.bucket_rules.specs.Own.{is_fresh, awaits, owes, is_open, is_refused, is_closed}
use Rattle.bucket_rules.specs.Packets.{bearing, facts_of_seen, of_packet}
use Rattle.bucket_rules.specs.Row.{Row, blank, row, after, has, is_here, is_unused, joins, lets_go, made, made_by, offer_of, waiting_of}
use Rattle.bucket_rules.specs.Rule.{MayLook, MayClose, MayEvict, Precedes, newest_clock, count_of, Rule, IsLegal}
use Rattle.bucket_rules.specs.Sound.{IsSound}

-- truth values

both : (p q : Bool) → (p && q) ≡ true → (p ≡ true) × (q ≡ true)
both true q h = (refl, h)
both false q h = cc

three : (p q r : Bool) → (p && q && r) ≡ true → (p ≡ true) × (q ≡ true) × (r ≡ true)
three true true r h = (refl, refl, h)
three true false r h = cc
three false q r h = cc

four : (p q r u : Bool) → (p && q && r && u) ≡ true → (p ≡ true) × (q ≡ true) × (r ≡ true) × (u ≡ true)
four true true true u h = (refl, refl, refl, h)
four true true false u h = cc
four true false r u h = cc
four false q r u h = cc

five : (p q r u v : Bool) → (p && q && r && u && v) ≡ true → (p ≡ true) × (q ≡ true) × (r ≡ true) × (u ≡ true) × (v ≡ true)
five true true true true v h = (refl, refl, refl, refl, h)
five true true true false v h = cc
five true true false u v h = cc
five true false r u v h = cc
five false q r u v h = cc

negated : (b : Bool) → not b ≡ true → b ≡ false
negated true h = cc
negated false h = refl

one_truth : (a b : Bool) → same_truth a b ≡ true → a ≡ b
one_truth true b h = sym h
one_truth false true h = cc
one_truth false false h = refl

either : (p q : Bool) → (not p || q) ≡ true → p ≡ true → q ≡ true
either true q h e = h
either false q h e = cc

abbrev is_none : Option ℕ → Bool
is_none None = true
is_none (Some x) = false

none_is : (o : Option ℕ) → is_none o ≡ true → o ≡ None
none_is None h = refl
none_is (Some x) h = cc

abbrev is_frame : ℕ → Option ℕ → Bool
is_frame f None = false
is_frame f (Some g) = g == f

frame_is : (f : ℕ) (o : Option ℕ) → is_frame f o ≡ true → o ≡ Some f
frame_is f None h = cc
frame_is f (Some g) h = ap Some (eqb-true g f h)

abbrev same_offer : Offer → Offer → Bool
same_offer offer.InOrder offer.InOrder = true
same_offer offer.Nothing offer.Nothing = true
same_offer offer.NeedsSegment offer.NeedsSegment = true
same_offer offer.Stopped offer.Stopped = true
same_offer _ _ = false

one_offer : (a b : Offer) → same_offer a b ≡ true → a ≡ b
one_offer offer.InOrder offer.InOrder h = refl
one_offer offer.InOrder offer.Nothing h = cc
one_offer offer.InOrder offer.NeedsSegment h = cc
one_offer offer.InOrder offer.Stopped h = cc
one_offer offer.Nothing offer.InOrder h = cc
one_offer offer.Nothing offer.Nothing h = refl
one_offer offer.Nothing offer.NeedsSegment h = cc
one_offer offer.Nothing offer.Stopped h = cc
one_offer offer.NeedsSegment offer.InOrder h = cc
one_offer offer.NeedsSegment offer.Nothing h = cc
one_offer offer.NeedsSegment offer.NeedsSegment h = refl
one_offer offer.NeedsSegment offer.Stopped h = cc
one_offer offer.Stopped offer.InOrder h = cc
one_offer offer.Stopped offer.Nothing h = cc
one_offer offer.Stopped offer.NeedsSegment h = cc
one_offer offer.Stopped offer.Stopped h = refl

-- the test of what holds of the packet of a frame
some_packet : (o : Option Facts) (test : Facts → Bool) → of_packet o test ≡ true → (t : Facts) × (o ≡ Some t) × (test t ≡ true)
some_packet None test h = cc
some_packet (Some t) test h = (t, refl, h)

-- runs that no entry names

abbrev names_these : List ℕ → BucketNote → Bool
names_these xs (Found f emergency seen run said) = has xs run
names_these xs (Made f said) = has xs f
names_these xs (Closed f app run freed ended) = has xs run
names_these xs _ = true

-- each entry that changes the uses of a run names one of these
abbrev name_these : List ℕ → List (Entry BucketNote) → Bool
name_these xs [] = true
name_these xs (e ∷ past) = names_these xs e.note && name_these xs past

other : (xs : List ℕ) (r a : ℕ) → has xs r ≡ true → has xs a ≡ false → (r == a) ≡ false
other xs r a h n = step (r == a) refl
  where
    step : (b : Bool) → (r == a) ≡ b → b ≡ false
    step true e = let k : has xs a ≡ true = subst (λ (v : ℕ). has xs v ≡ true) (eqb-true r a e) h in sym (sym n ∙ k)
    step false e = refl

by_other : (b : Bool) (x w : Row) → b ≡ false → cond b x w ≡ w
by_other true x w h = cc
by_other false x w h = refl

blank_after : (s : Fixed) (xs : List ℕ) (a : ℕ) (n : BucketNote) → names_these xs n ≡ true → has xs a ≡ false → after s a n blank ≡ blank
blank_after s xs a (Found f emergency seen run said) h n = by_other (run == a) _ blank (other xs run a h n)
blank_after s xs a (Missing f emergency seen ended) h n = refl
blank_after s xs a (Made f said) h n = by_other (f == a) _ blank (other xs f a h n)
blank_after s xs a (Refused f) h n = refl
blank_after s xs a (Stored f) h n = refl
blank_after s xs a (Stopped f) h n = refl
blank_after s xs a (Closed f app run freed ended) h n = by_other (run == a) _ blank (other xs run a h n)
blank_after s xs a (Idle f app) h n = refl
blank_after s xs a (Victim f run) h n = refl
blank_after s xs a (AllInUse f count) h n = refl
blank_after s xs a (Swept round emergency seen count) h n = refl
blank_after s xs a (Drained count) h n = refl

blank_row : (s : Fixed) (xs : List ℕ) (past : List (Entry BucketNote)) (a : ℕ) → name_these xs past ≡ true → has xs a ≡ false → row s a past ≡ blank
blank_row s xs [] a h n = refl
blank_row s xs (e ∷ past) a h n =
    let parts = both (names_these xs e.note) (name_these xs past) h in
    ap (after s a e.note) (blank_row s xs past a parts.1 n) ∙ blank_after s xs a e.note parts.0 n

all_has : (t : ℕ → Bool) (xs : List ℕ) (a : ℕ) → list_all t xs ≡ true → has xs a ≡ true → t a ≡ true
all_has t [] a h k = cc
all_has t (x ∷ xs) a h k = let parts = both (t x) (list_all t xs) h in step (x == a) refl parts.0 k (all_has t xs a parts.1)
  where
    step : (b : Bool) → (x == a) ≡ b → t x ≡ true → (b || has xs a) ≡ true → (has xs a ≡ true → t a ≡ true) → t a ≡ true
    step true e m k g = subst (λ (v : ℕ). t v ≡ true) (eqb-true x a e) m
    step false e m k g = g k

-- what holds of these runs, and of a blank row under any other number, holds of every number
everywhere : (s : Fixed) (xs : List ℕ) (past : List (Entry BucketNote)) (t : ℕ → Row → Bool) → name_these xs past ≡ true
    → ((a : ℕ) → has xs a ≡ false → t a blank ≡ true) → list_all (λ a. t a (row s a past)) xs ≡ true → (a : ℕ) → t a (row s a past) ≡ true
everywhere s xs past t named others these a = step (has xs a) refl
  where
    step : (b : Bool) → has xs a ≡ b → t a (row s a past) ≡ true
    step true e = all_has (λ a. t a (row s a past)) xs a these e
    step false e = ap (t a) (blank_row s xs past a named e) ∙ others a e

-- who may call

abbrev may_look : Fixed → List (Entry BucketNote) → ℕ → ℕ → Bool
may_look s past role f =
    of_packet (bearing s.capture f) (λ t. (bucket_of t.key s.layout.rows == s.number) && (role == worker_of t.key s.layout.workers))
    && is_fresh role f past && is_none (owes role past)

looks : (s : Fixed) (past : List (Entry BucketNote)) (role f : ℕ) → may_look s past role f ≡ true → MayLook s past role f
looks s past role f h =
    let parts = three (of_packet (bearing s.capture f) (λ t. (bucket_of t.key s.layout.rows == s.number) && (role == worker_of t.key s.layout.workers)))
    (is_fresh role f past) (is_none (owes role past)) h in
    let packet = some_packet (bearing s.capture f) (λ t. (bucket_of t.key s.layout.rows == s.number) && (role == worker_of t.key s.layout.workers)) parts.0 in
    let own = both (bucket_of packet.0.key s.layout.rows == s.number) (role == worker_of packet.0.key s.layout.workers) packet.2 in
    record {
      own = record {
        packet = packet.0;
        bears = packet.1;
        bucket = eqb-true (bucket_of packet.0.key s.layout.rows) s.number own.0;
        worker = eqb-true role (worker_of packet.0.key s.layout.workers) own.1;
      };
      fresh = parts.1;
      settled = none_is (owes role past) parts.2;
    }

abbrev may_close : List (Entry BucketNote) → ℕ → ℕ → Bool
may_close past role f = is_open role f past && is_none (owes role past)

closes_so : (past : List (Entry BucketNote)) (role f : ℕ) → may_close past role f ≡ true → MayClose past role f
closes_so past role f h = let parts = both (is_open role f past) _ h in record { answered = parts.0; settled = none_is (owes role past) parts.1 }

lt_is : (m n : ℕ) → nat_lt m n ≡ true → m < n
lt_is m n h = grind (arith, nat_tests)

le_is : (m n : ℕ) → nat_le m n ≡ true → m ≤ n
le_is m n h = grind (arith, nat_tests)

abbrev may_evict : Fixed → List (Entry BucketNote) → ℕ → Bool
may_evict s past role = nat_lt role s.layout.workers && is_none (owes role past)

evicts : (s : Fixed) (past : List (Entry BucketNote)) (role : ℕ) → may_evict s past role ≡ true → MayEvict s past role
evicts s past role h = let parts = both (nat_lt role s.layout.workers) _ h in record { worker = lt_is role s.layout.workers parts.0; settled = none_is (owes role past) parts.1 }

-- the frame bears no flow of this bucket, or is closed
abbrev is_done : Fixed → List (Entry BucketNote) → ℕ → Option Facts → Bool
is_done s past f None = true
is_done s past f (Some t) = not (bucket_of t.key s.layout.rows == s.number) || is_closed f past

abbrev are_done : Fixed → List (Entry BucketNote) → ℕ → List Seen → Bool
are_done s past f [] = true
are_done s past f (x ∷ seen) = is_done s past f (facts_in x) && are_done s past (f + 1) seen

done_at : (s : Fixed) (past : List (Entry BucketNote)) (t : Facts) (f : ℕ) (seen : List Seen) (n : ℕ) → are_done s past f seen ≡ true
    → facts_of_seen (slice_get seen n) ≡ Some t → bucket_of t.key s.layout.rows ≡ s.number → is_closed (f + n) past ≡ true
done_at s past t f [] n h e k = cc
done_at s past t f (x ∷ seen) zero h e k =
    subst (λ (v : ℕ). is_closed v past ≡ true) (plus_none f)
    (either (bucket_of t.key s.layout.rows == s.number) (is_closed f past)
    (subst (λ (o : Option Facts). is_done s past f o ≡ true) e (both (is_done s past f (facts_in x)) _ h).0) (eq-eqb (bucket_of t.key s.layout.rows) s.number k))
  where
    plus_none : (f : ℕ) → f ≡ f + 0
    plus_none f = omega arith
done_at s past t f (x ∷ seen) (suc n) h e k =
    subst (λ (v : ℕ). is_closed v past ≡ true) (plus_one f n) (done_at s past t (f + 1) seen n (both (is_done s past f (facts_in x)) _ h).1 e k)
  where
    plus_one : (f n : ℕ) → f + 1 + n ≡ f + suc n
    plus_one f n = omega arith

done_all : (s : Fixed) (past : List (Entry BucketNote)) → are_done s past 1 s.capture.seen ≡ true
    → (f : ℕ) (t : Facts) → bearing s.capture f ≡ Some t → bucket_of t.key s.layout.rows ≡ s.number → is_closed f past ≡ true
done_all s past h zero t e k = cc
done_all s past h (suc n) t e k = subst (λ (v : ℕ). is_closed v past ≡ true) (one_more n) (done_at s past t 1 s.capture.seen n h e k)
  where
    one_more : (n : ℕ) → 1 + n ≡ suc n
    one_more n = omega arith

-- the order of eviction
abbrev precedes : Row → ℕ → Row → ℕ → Bool
precedes v a w b = nat_lt (newest_clock v.members) (newest_clock w.members) || (newest_clock v.members == newest_clock w.members) && nat_le a b

precedes_so : (v : Row) (a : ℕ) (w : Row) (b : ℕ) → precedes v a w b ≡ true → Precedes v a w b
precedes_so v a w b h = step (newest_clock v.members) (newest_clock w.members) h
  where
    step : (x y : ℕ) → (nat_lt x y || (x == y) && nat_le a b) ≡ true → (x ≤ y) × (x ≡ y → a ≤ b)
    step x y h = (grind (arith, nat_tests), λ e. grind (arith, nat_tests))

-- an entry keeps the rule
abbrev pub keeps : Fixed → List (Entry BucketNote) → ℕ → BucketNote → Bool
keeps s past role (Found f emergency seen run said) =
    may_look s past role f && joins s f emergency (row s run past) && of_packet (bearing s.capture f) (λ t. same_offer said (offer_of s (row s run past) t))
keeps s past role (Missing f emergency seen ended) =
    may_look s past role f && list_all (λ a. not (joins s f emergency (row s a past))) (made past) && has (0 ∷ made past) ended
    && list_all (λ a. (a == 0) || same_truth (lets_go s past (Missing f emergency seen ended) a) (a == ended)) (made past)
keeps s past role (Made f said) = awaits role f past && of_packet (bearing s.capture f) (λ t. same_offer said (offer_of s (row s f past) t))
keeps s past role (Refused f) = awaits role f past
keeps s past role (Stored f) = is_frame f (owes role past)
keeps s past role (Stopped f) = is_frame f (owes role past)
keeps s past role (Closed f app run freed ended) =
    may_close past role f && not (is_refused f past) && has (row s run past).uses f && (freed == (row s run past).held - waiting_of s (row s run past))
    && same_truth ended (lets_go s past (Closed f app run freed ended) run)
keeps s past role (Idle f app) = may_close past role f && is_refused f past
keeps s past role (Victim f run) =
    may_evict s past role && is_unused (row s run past) && list_all (λ a. not (is_unused (row s a past)) || precedes (row s run past) run (row s a past) a) (made past)
keeps s past role (AllInUse f count) =
    may_evict s past role && list_all (λ a. not (is_unused (row s a past))) (made past) && (count == count_of past (λ a. is_here (row s a past)))
keeps s past role (Swept round emergency seen count) =
    (role == s.layout.workers) && nat_lt (round * s.layout.round) (length s.capture.frames)
    && (count == count_of past (λ a. lets_go s past (Swept round emergency seen count) a))
keeps s past role (Drained count) =
    (role == s.layout.workers + 2) && are_done s past 1 s.capture.seen && (count == count_of past (λ a. lets_go s past (Drained count) a))

from_one : (a : ℕ) → 1 ≤ a → (b : Bool) → ((a == 0) || b) ≡ true → b ≡ true
from_one a p b h = step (a == 0) refl h
  where
    step : (z : Bool) → (a == 0) ≡ z → (z || b) ≡ true → b ≡ true
    step true e h = let k : a ≡ 0 = eqb-true a 0 e in absurd (omega (arith, k, p))
    step false e h = h

-- a number that is none of these is 0, or it isn't one of these and 0
apart : (xs : List ℕ) (a ended : ℕ) → has (0 ∷ xs) ended ≡ true → has xs a ≡ false → ((a == 0) || same_truth false (a == ended)) ≡ true
apart xs a ended h n = step (a == 0) refl
  where
    same : (z : Bool) → (0 == a) ≡ z → (a == 0) ≡ false → (a == ended) ≡ true → ⊥
    same true e i k = let m : (a == 0) ≡ true = eq-eqb a 0 (sym (eqb-true 0 a e)) in let z : true ≡ false = sym m ∙ i in cc
    same false e i k =
        let g : has (0 ∷ xs) a ≡ true = subst (λ (v : ℕ). has (0 ∷ xs) v ≡ true) (sym (eqb-true a ended k)) h in
        let m : (false || has xs a) ≡ true = subst (λ (v : Bool). (v || has xs a) ≡ true) e g in
        let z : true ≡ false = sym m ∙ n in cc

    differ : (b : Bool) → (a == 0) ≡ false → (a == ended) ≡ b → same_truth false b ≡ true
    differ true i k = absurd (same (0 == a) refl i k)
    differ false i k = refl

    step : (z : Bool) → (a == 0) ≡ z → (z || same_truth false (a == ended)) ≡ true
    step true e = refl
    step false e = differ (a == ended) e refl

one_more_offer : (s : Fixed) (past : List (Entry BucketNote)) (f run : ℕ) (said : Offer) (t : Facts) → bearing s.capture f ≡ Some t
    → of_packet (bearing s.capture f) (λ t. same_offer said (offer_of s (row s run past) t)) ≡ true → said ≡ offer_of s (row s run past) t
one_more_offer s past f run said t b h =
    one_offer said (offer_of s (row s run past) t) (subst (λ (o : Option Facts). of_packet o (λ t. same_offer said (offer_of s (row s run past) t)) ≡ true) b h)

-- an entry that passes the test keeps the rule
pub keeps_rule : (s : Fixed) (past : List (Entry BucketNote)) (role : ℕ) (n : BucketNote) → name_these (made past) past ≡ true → keeps s past role n ≡ true → Rule s past role n
keeps_rule s past role (Found f emergency seen run said) named h =
    let parts = three (may_look s past role f) (joins s f emergency (row s run past)) _ h in
    let may = looks s past role f parts.0 in
    (may, parts.1, one_more_offer s past f run said may.own.packet may.own.bears parts.2)
keeps_rule s past role (Missing f emergency seen ended) named h =
    let parts = four (may_look s past role f) (list_all (λ a. not (joins s f emergency (row s a past))) (made past)) (has (0 ∷ made past) ended)
    (list_all (λ a. (a == 0) || same_truth (lets_go s past (Missing f emergency seen ended) a) (a == ended)) (made past)) h in (
      looks s past role f parts.0,
      λ a. negated (joins s f emergency (row s a past)) (everywhere s (made past) past (λ a w. not (joins s f emergency w)) named (λ a n. no_join (bearing s.capture f)) parts.1 a),
      λ a p. one_truth (lets_go s past (Missing f emergency seen ended) a) (a == ended) (from_one a p (same_truth (lets_go s past (Missing f emergency seen ended) a) (a == ended))
          (everywhere s (made past) past (λ a w. (a == 0) || same_truth (is_here w && not (is_here (after s a (Missing f emergency seen ended) w))) (a == ended)) named
          (λ a n. apart (made past) a ended parts.2 n) parts.3 a)),
    )
  where
    no_join : (o : Option Facts) → not (of_packet o (λ t. false)) ≡ true
    no_join None = refl
    no_join (Some t) = refl
keeps_rule s past role (Made f said) named h =
    let parts = both (awaits role f past) _ h in (parts.0, λ t b. one_more_offer s past f f said t b parts.1)
keeps_rule s past role (Refused f) named h = h
keeps_rule s past role (Stored f) named h = frame_is f (owes role past) h
keeps_rule s past role (Stopped f) named h = frame_is f (owes role past) h
keeps_rule s past role (Closed f app run freed ended) named h =
    let parts = five (may_close past role f) (not (is_refused f past)) (has (row s run past).uses f) (freed == (row s run past).held - waiting_of s (row s run past))
    (same_truth ended (lets_go s past (Closed f app run freed ended) run)) h in (
      closes_so past role f parts.0,
      negated (is_refused f past) parts.1,
      parts.2,
      eqb-true freed ((row s run past).held - waiting_of s (row s run past)) parts.3,
      one_truth ended (lets_go s past (Closed f app run freed ended) run) parts.4,
    )
keeps_rule s past role (Idle f app) named h = let parts = both (may_close past role f) (is_refused f past) h in (closes_so past role f parts.0, parts.1)
keeps_rule s past role (Victim f run) named h =
    let parts = three (may_evict s past role) (is_unused (row s run past)) (list_all (λ a. not (is_unused (row s a past)) || precedes (row s run past) run (row s a past) a) (made past)) h in (
      evicts s past role parts.0,
      record {
        unused = parts.1;
        first = λ a u. precedes_so (row s run past) run (row s a past) a (either (is_unused (row s a past)) (precedes (row s run past) run (row s a past) a)
            (everywhere s (made past) past (λ a w. not (is_unused w) || precedes (row s run past) run w a) named (λ a n. refl) parts.2 a) u);
      },
    )
keeps_rule s past role (AllInUse f count) named h =
    let parts = three (may_evict s past role) (list_all (λ a. not (is_unused (row s a past))) (made past)) (count == count_of past (λ a. is_here (row s a past))) h in (
      evicts s past role parts.0,
      λ a. negated (is_unused (row s a past)) (everywhere s (made past) past (λ a w. not (is_unused w)) named (λ a n. refl) parts.1 a),
      eqb-true count (count_of past (λ a. is_here (row s a past))) parts.2,
    )
keeps_rule s past role (Swept round emergency seen count) named h =
    let parts = three (role == s.layout.workers) (nat_lt (round * s.layout.round) (length s.capture.frames)) (count == count_of past (λ a. lets_go s past (Swept round emergency seen count) a)) h in (
      record { manager = eqb-true role s.layout.workers parts.0; within = lt_is (round * s.layout.round) (length s.capture.frames) parts.1 },
      eqb-true count (count_of past (λ a. lets_go s past (Swept round emergency seen count) a)) parts.2,
    )
keeps_rule s past role (Drained count) named h =
    let parts = three (role == s.layout.workers + 2) (are_done s past 1 s.capture.seen) (count == count_of past (λ a. lets_go s past (Drained count) a)) h in (
      record { end = eqb-true role (s.layout.workers + 2) parts.0; done = done_all s past parts.1 },
      eqb-true count (count_of past (λ a. lets_go s past (Drained count) a)) parts.2,
    )

-- each entry passes the test
abbrev pub is_kept : Fixed → List (Entry BucketNote) → Bool
is_kept s [] = true
is_kept s (e ∷ past) = name_these (made past) past && keeps s past e.role e.note && is_kept s past

pub legal : (s : Fixed) (past : List (Entry BucketNote)) → is_kept s past ≡ true → IsLegal s past
legal s [] h = tt
legal s (e ∷ past) h =
    let parts = three (name_these (made past) past) (keeps s past e.role e.note) (is_kept s past) h in
    (keeps_rule s past e.role e.note parts.0 parts.1, legal s past parts.2)

-- the other way: an entry that keeps the rule after a sound history passes the test

and_both : (p q : Bool) → p ≡ true → q ≡ true → (p && q) ≡ true
and_both true q h k = k
and_both false q h k = h

and_three : (p q r : Bool) → p ≡ true → q ≡ true → r ≡ true → (p && q && r) ≡ true
and_three true true r h k m = m
and_three true false r h k m = k
and_three false q r h k m = h

and_four : (p q r u : Bool) → p ≡ true → q ≡ true → r ≡ true → u ≡ true → (p && q && r && u) ≡ true
and_four true true true u h k m n = n
and_four true true false u h k m n = m
and_four true false r u h k m n = k
and_four false q r u h k m n = h

and_five : (p q r u v : Bool) → p ≡ true → q ≡ true → r ≡ true → u ≡ true → v ≡ true → (p && q && r && u && v) ≡ true
and_five true true true true v h k m n o = o
and_five true true true false v h k m n o = n
and_five true true false u v h k m n o = m
and_five true false r u v h k m n o = k
and_five false q r u v h k m n o = h

same_as : (a b : Bool) → a ≡ b → same_truth a b ≡ true
same_as true b h = sym h
same_as false true h = h
same_as false false h = refl

negation : (b : Bool) → b ≡ false → not b ≡ true
negation true h = sym h
negation false h = refl

implied : (p q : Bool) → (p ≡ true → q ≡ true) → (not p || q) ≡ true
implied true q h = h refl
implied false q h = refl

none_of : (o : Option ℕ) → o ≡ None → is_none o ≡ true
none_of None h = refl
none_of (Some x) h = cc

frame_of : (f : ℕ) (o : Option ℕ) → o ≡ Some f → is_frame f o ≡ true
frame_of f o h = subst (λ (o : Option ℕ). is_frame f o ≡ true) (sym h) (eq-eqb f f refl)

alike : (a : Offer) → same_offer a a ≡ true
alike offer.InOrder = refl
alike offer.Nothing = refl
alike offer.NeedsSegment = refl
alike offer.Stopped = refl

offers_alike : (a b : Offer) → a ≡ b → same_offer a b ≡ true
offers_alike a b h = subst (λ (x : Offer). same_offer a x ≡ true) h (alike a)

this_packet : (o : Option Facts) (t : Facts) (test : Facts → Bool) → o ≡ Some t → test t ≡ true → of_packet o test ≡ true
this_packet o t test e h = subst (λ (o : Option Facts). of_packet o test ≡ true) (sym e) h

all_of : (t : ℕ → Bool) (xs : List ℕ) → ((a : ℕ) → t a ≡ true) → list_all t xs ≡ true
all_of t [] h = refl
all_of t (x ∷ xs) h = and_both (t x) (list_all t xs) (h x) (all_of t xs h)

lt_of : (m n : ℕ) → m < n → nat_lt m n ≡ true
lt_of m n h = grind (arith, nat_tests)

looks_pass : (s : Fixed) (past : List (Entry BucketNote)) (role f : ℕ) → MayLook s past role f → may_look s past role f ≡ true
looks_pass s past role f may =
    and_three (of_packet (bearing s.capture f) (λ t. (bucket_of t.key s.layout.rows == s.number) && (role == worker_of t.key s.layout.workers)))
    (is_fresh role f past) (is_none (owes role past))
    (this_packet (bearing s.capture f) may.own.packet (λ t. (bucket_of t.key s.layout.rows == s.number) && (role == worker_of t.key s.layout.workers)) may.own.bears
    (and_both (bucket_of may.own.packet.key s.layout.rows == s.number) (role == worker_of may.own.packet.key s.layout.workers)
    (eq-eqb (bucket_of may.own.packet.key s.layout.rows) s.number may.own.bucket) (eq-eqb role (worker_of may.own.packet.key s.layout.workers) may.own.worker)))
    may.fresh (none_of (owes role past) may.settled)

closes_pass : (past : List (Entry BucketNote)) (role f : ℕ) → MayClose past role f → may_close past role f ≡ true
closes_pass past role f may = and_both (is_open role f past) (is_none (owes role past)) may.answered (none_of (owes role past) may.settled)

evicts_pass : (s : Fixed) (past : List (Entry BucketNote)) (role : ℕ) → MayEvict s past role → may_evict s past role ≡ true
evicts_pass s past role may = and_both (nat_lt role s.layout.workers) (is_none (owes role past)) (lt_of role s.layout.workers may.worker) (none_of (owes role past) may.settled)

precedes_pass : (v : Row) (a : ℕ) (w : Row) (b : ℕ) → Precedes v a w b → precedes v a w b ≡ true
precedes_pass v a w b h = step (newest_clock v.members) (newest_clock w.members) h
  where
    step : (x y : ℕ) → (x ≤ y) × (x ≡ y → a ≤ b) → (nat_lt x y || (x == y) && nat_le a b) ≡ true
    step x y h = by (x == y) refl
      where
        by : (z : Bool) → (x == y) ≡ z → (nat_lt x y || (x == y) && nat_le a b) ≡ true
        by true e = let k : a ≤ b = h.1 (eqb-true x y e) in let m : x ≡ y = eqb-true x y e in grind (arith, nat_tests, k, m)
        by false e = let k : x ≤ y = h.0 in let n : x ≡ y → ⊥ = (λ (i : x ≡ y). let m : true ≡ false = sym (eq-eqb x y i) ∙ e in cc) in grind (arith, nat_tests, k, n)

done_pass : (s : Fixed) (past : List (Entry BucketNote)) (f : ℕ) (seen : List Seen)
    → ((n : ℕ) (t : Facts) → facts_of_seen (slice_get seen n) ≡ Some t → bucket_of t.key s.layout.rows ≡ s.number → is_closed (f + n) past ≡ true) → are_done s past f seen ≡ true
done_pass s past f [] h = refl
done_pass s past f (x ∷ seen) h =
    and_both (is_done s past f (facts_in x)) (are_done s past (f + 1) seen) (one (facts_in x) (λ t e k. subst (λ (v : ℕ). is_closed v past ≡ true) (plus_none f) (h 0 t e k)))
    (done_pass s past (f + 1) seen (λ n t e k. subst (λ (v : ℕ). is_closed v past ≡ true) (plus_one f n) (h (suc n) t e k)))
  where
    one : (o : Option Facts) → ((t : Facts) → o ≡ Some t → bucket_of t.key s.layout.rows ≡ s.number → is_closed f past ≡ true) → is_done s past f o ≡ true
    one None g = refl
    one (Some t) g = implied (bucket_of t.key s.layout.rows == s.number) (is_closed f past) (λ k. g t refl (eqb-true (bucket_of t.key s.layout.rows) s.number k))

    plus_none : (f : ℕ) → f + 0 ≡ f
    plus_none f = omega arith

    plus_one : (f n : ℕ) → f + suc n ≡ f + 1 + n
    plus_one f n = omega arith

-- the run that a look lets go began, or there is none
gone_began : (s : Fixed) (past : List (Entry BucketNote)) (f : ℕ) (emergency : Bool) (seen ended : ℕ) → IsSound s past
    → ((a : ℕ) → 1 ≤ a → lets_go s past (Missing f emergency seen ended) a ≡ (a == ended)) → has (0 ∷ made past) ended ≡ true
gone_began s past f emergency seen zero snd h = refl
gone_began s past f emergency seen (suc ended) snd h = step (has (made past) (suc ended)) refl
  where
    goes : lets_go s past (Missing f emergency seen (suc ended)) (suc ended) ≡ true
    goes = h (suc ended) (omega arith) ∙ eq-eqb (suc ended) (suc ended) refl

    step : (b : Bool) → has (made past) (suc ended) ≡ b → has (0 ∷ made past) (suc ended) ≡ true
    step true e = or_right (0 == suc ended) (has (made past) (suc ended)) e
      where
        or_right : (p q : Bool) → q ≡ true → (p || q) ≡ true
        or_right true q k = refl
        or_right false q k = k
    step false e =
        let k : false ≡ true = sym (ap (λ (w : Row). is_here w && not (is_here (after s (suc ended) (Missing f emergency seen (suc ended)) w))) (snd.begun (suc ended) e)) ∙ goes in cc

pub rule_keeps : (s : Fixed) (past : List (Entry BucketNote)) (role : ℕ) (n : BucketNote) → IsSound s past → Rule s past role n → keeps s past role n ≡ true
rule_keeps s past role (Found f emergency seen run said) snd r =
    and_three (may_look s past role f) (joins s f emergency (row s run past)) (of_packet (bearing s.capture f) (λ t. same_offer said (offer_of s (row s run past) t)))
    (looks_pass s past role f r.0) r.1
    (this_packet (bearing s.capture f) r.0.own.packet (λ t. same_offer said (offer_of s (row s run past) t)) r.0.own.bears
    (offers_alike said (offer_of s (row s run past) r.0.own.packet) r.2))
rule_keeps s past role (Missing f emergency seen ended) snd r =
    and_four (may_look s past role f) (list_all (λ a. not (joins s f emergency (row s a past))) (made past)) (has (0 ∷ made past) ended)
    (list_all (λ a. (a == 0) || same_truth (lets_go s past (Missing f emergency seen ended) a) (a == ended)) (made past))
    (looks_pass s past role f r.0)
    (all_of (λ a. not (joins s f emergency (row s a past))) (made past) (λ a. negation (joins s f emergency (row s a past)) (r.1 a)))
    (gone_began s past f emergency seen ended snd r.2)
    (all_of (λ a. (a == 0) || same_truth (lets_go s past (Missing f emergency seen ended) a) (a == ended)) (made past) (λ a. each a (a == 0) refl))
  where
    positive : (a : ℕ) → (a == 0) ≡ false → 1 ≤ a
    positive zero e = cc
    positive (suc a) e = omega arith

    each : (a : ℕ) (z : Bool) → (a == 0) ≡ z → (z || same_truth (lets_go s past (Missing f emergency seen ended) a) (a == ended)) ≡ true
    each a true e = refl
    each a false e = same_as (lets_go s past (Missing f emergency seen ended) a) (a == ended) (r.2 a (positive a e))
rule_keeps s past role (Made f said) snd r =
    let own = (snd.waits role f r.0).own in
    and_both (awaits role f past) (of_packet (bearing s.capture f) (λ t. same_offer said (offer_of s (row s f past) t))) r.0
    (this_packet (bearing s.capture f) own.packet (λ t. same_offer said (offer_of s (row s f past) t)) own.bears (offers_alike said (offer_of s (row s f past) own.packet) (r.1 own.packet own.bears)))
rule_keeps s past role (Refused f) snd r = r
rule_keeps s past role (Stored f) snd r = frame_of f (owes role past) r
rule_keeps s past role (Stopped f) snd r = frame_of f (owes role past) r
rule_keeps s past role (Closed f app run freed ended) snd r =
    and_five (may_close past role f) (not (is_refused f past)) (has (row s run past).uses f) (freed == (row s run past).held - waiting_of s (row s run past))
    (same_truth ended (lets_go s past (Closed f app run freed ended) run))
    (closes_pass past role f r.0) (negation (is_refused f past) r.1) r.2 (eq-eqb freed ((row s run past).held - waiting_of s (row s run past)) r.3)
    (same_as ended (lets_go s past (Closed f app run freed ended) run) r.4)
rule_keeps s past role (Idle f app) snd r = and_both (may_close past role f) (is_refused f past) (closes_pass past role f r.0) r.1
rule_keeps s past role (Victim f run) snd r =
    and_three (may_evict s past role) (is_unused (row s run past)) (list_all (λ a. not (is_unused (row s a past)) || precedes (row s run past) run (row s a past) a) (made past))
    (evicts_pass s past role r.0) r.1.unused
    (all_of (λ a. not (is_unused (row s a past)) || precedes (row s run past) run (row s a past) a) (made past)
    (λ a. implied (is_unused (row s a past)) (precedes (row s run past) run (row s a past) a) (λ u. precedes_pass (row s run past) run (row s a past) a (r.1.first a u))))
rule_keeps s past role (AllInUse f count) snd r =
    and_three (may_evict s past role) (list_all (λ a. not (is_unused (row s a past))) (made past)) (count == count_of past (λ a. is_here (row s a past)))
    (evicts_pass s past role r.0) (all_of (λ a. not (is_unused (row s a past))) (made past) (λ a. negation (is_unused (row s a past)) (r.1 a)))
    (eq-eqb count (count_of past (λ a. is_here (row s a past))) r.2)
rule_keeps s past role (Swept round emergency seen count) snd r =
    and_three (role == s.layout.workers) (nat_lt (round * s.layout.round) (length s.capture.frames)) (count == count_of past (λ a. lets_go s past (Swept round emergency seen count) a))
    (eq-eqb role s.layout.workers r.0.manager) (lt_of (round * s.layout.round) (length s.capture.frames) r.0.within)
    (eq-eqb count (count_of past (λ a. lets_go s past (Swept round emergency seen count) a)) r.1)
rule_keeps s past role (Drained count) snd r =
    and_three (role == s.layout.workers + 2) (are_done s past 1 s.capture.seen) (count == count_of past (λ a. lets_go s past (Drained count) a))
    (eq-eqb role (s.layout.workers + 2) r.0.end)
    (done_pass s past 1 s.capture.seen (λ n t e k. subst (λ (v : ℕ). is_closed v past ≡ true) (one_more n) (r.0.done (suc n) t e k)))
    (eq-eqb count (count_of past (λ a. lets_go s past (Drained count) a)) r.1)
  where
    one_more : (n : ℕ) → suc n ≡ 1 + n
    one_more n = omega arith

-- a legal history passes, where each such history is sound

begun_of : (s : Fixed) (past : List (Entry BucketNote)) (a : ℕ) (t : Row → Bool) → IsSound s past → t blank ≡ false → t (row s a past) ≡ true → has (made past) a ≡ true
begun_of s past a t snd n h = step (has (made past) a) refl
  where
    step : (b : Bool) → has (made past) a ≡ b → b ≡ true
    step true e = refl
    step false e = let k : false ≡ true = sym n ∙ sym (ap t (snd.begun a e)) ∙ h in k

no_key : (o : Option Facts) → of_packet o (λ t. false) ≡ false
no_key None = refl
no_key (Some t) = refl

has_more : (x : ℕ) (xs : List ℕ) (a : ℕ) → has xs a ≡ true → has (x ∷ xs) a ≡ true
has_more x xs a h = step (x == a)
  where
    step : (b : Bool) → (b || has xs a) ≡ true
    step true = refl
    step false = h

names_more : (x : ℕ) (xs : List ℕ) (n : BucketNote) → names_these xs n ≡ true → names_these (x ∷ xs) n ≡ true
names_more x xs (Found f emergency seen run said) h = has_more x xs run h
names_more x xs (Missing f emergency seen ended) h = refl
names_more x xs (Made f said) h = has_more x xs f h
names_more x xs (Refused f) h = refl
names_more x xs (Stored f) h = refl
names_more x xs (Stopped f) h = refl
names_more x xs (Closed f app run freed ended) h = has_more x xs run h
names_more x xs (Idle f app) h = refl
names_more x xs (Victim f run) h = refl
names_more x xs (AllInUse f count) h = refl
names_more x xs (Swept round emergency seen count) h = refl
names_more x xs (Drained count) h = refl

name_more : (x : ℕ) (xs : List ℕ) (past : List (Entry BucketNote)) → name_these xs past ≡ true → name_these (x ∷ xs) past ≡ true
name_more x xs [] h = refl
name_more x xs (e ∷ past) h =
    let parts = both (names_these xs e.note) (name_these xs past) h in
    and_both (names_these (x ∷ xs) e.note) (name_these (x ∷ xs) past) (names_more x xs e.note parts.0) (name_more x xs past parts.1)

name_after : (n : BucketNote) (xs : List ℕ) (past : List (Entry BucketNote)) → name_these xs past ≡ true → name_these (made_by n xs) past ≡ true
name_after (Found f emergency seen run said) xs past h = h
name_after (Missing f emergency seen ended) xs past h = h
name_after (Made f said) xs past h = name_more f xs past h
name_after (Refused f) xs past h = h
name_after (Stored f) xs past h = h
name_after (Stopped f) xs past h = h
name_after (Closed f app run freed ended) xs past h = h
name_after (Idle f app) xs past h = h
name_after (Victim f run) xs past h = h
name_after (AllInUse f count) xs past h = h
name_after (Swept round emergency seen count) xs past h = h
name_after (Drained count) xs past h = h

-- an entry names runs that began
names_made : (s : Fixed) (past : List (Entry BucketNote)) (role : ℕ) (n : BucketNote) → IsSound s past → Rule s past role n → names_these (made_by n (made past)) n ≡ true
names_made s past role (Found f emergency seen run said) snd r = begun_of s past run (λ w. joins s f emergency w) snd (no_key (bearing s.capture f)) r.1
names_made s past role (Missing f emergency seen ended) snd r = refl
names_made s past role (Made f said) snd r = ap (λ (b : Bool). b || has (made past) f) (eq-eqb f f refl)
names_made s past role (Refused f) snd r = refl
names_made s past role (Stored f) snd r = refl
names_made s past role (Stopped f) snd r = refl
names_made s past role (Closed f app run freed ended) snd r = begun_of s past run (λ w. has w.uses f) snd refl r.2
names_made s past role (Idle f app) snd r = refl
names_made s past role (Victim f run) snd r = refl
names_made s past role (AllInUse f count) snd r = refl
names_made s past role (Swept round emergency seen count) snd r = refl
names_made s past role (Drained count) snd r = refl

named : (s : Fixed) → ((past : List (Entry BucketNote)) → IsLegal s past → IsSound s past) → (past : List (Entry BucketNote)) → IsLegal s past → name_these (made past) past ≡ true
named s sound [] h = refl
named s sound (e ∷ past) h =
    and_both (names_these (made_by e.note (made past)) e.note) (name_these (made_by e.note (made past)) past) (names_made s past e.role e.note (sound past h.1) h.0)
    (name_after e.note (made past) past (named s sound past h.1))

pub kept : (s : Fixed) → ((past : List (Entry BucketNote)) → IsLegal s past → IsSound s past) → (past : List (Entry BucketNote)) → IsLegal s past → is_kept s past ≡ true
kept s sound [] h = refl
kept s sound (e ∷ past) h =
    and_three (name_these (made past) past) (keeps s past e.role e.note) (is_kept s past) (named s sound past h.1) (rule_keeps s past e.role e.note (sound past h.1) h.0)
    (kept s sound past h.1)
