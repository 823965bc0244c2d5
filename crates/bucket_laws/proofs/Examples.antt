-- One history to which all laws apply: a session of two packets, the second of which waits in a node, times out while both are still
-- used. The next packet of its key finds no flow that could leave, and is refused. The session leaves with the close of its second packet.
use Rattle.std.proofs.Common.{◌≡◌, ℕ, zero, suc, ◌≤◌, ◌+◌, ◌*◌, ◌^◌, ◌==◌, Bool, true, false, not, ◌&&◌, ◌||◌, List, [], ◌∷◌, Some, None, inl, inr, refl, ◌∙◌, ap, subst, arith, eqb-true}
use Rattle.std.specs.Prelude.{replicate}
use Rattle.std.specs.List.{list_any}
use Rattle.std.proofs.lemmas.Bool.Decides.{nat_tests}
use Rattle.suri_base.specs.Capture.{Captured, IsCapture, AreFactsOf}
use Rattle.suri_base.specs.Dealing.{bucket_of}
use Rattle.suri_base.specs.Hash.{key_bytes}
use Rattle.suri_base.specs.History.{entry}
use Rattle.suri_base.specs.Keys.{same_key}
use Rattle.suri_base.specs.declared.app.App.TheVariants as app
use Rattle.suri_base.specs.declared.entry.BucketNote.{BucketNote}
use Rattle.suri_base.specs.declared.entry.BucketNote.TheVariants.{Found, Missing, Made, Refused, Stored, Closed, Idle, AllInUse, Swept, Drained}
use Rattle.suri_base.specs.declared.entry.Entry.{Entry}
use Rattle.suri_base.specs.declared.facts.Facts.{Facts}
use Rattle.suri_base.specs.declared.frame.Frame.{Frame}
use Rattle.suri_base.specs.declared.key.Key.{Key}
use Rattle.suri_base.specs.declared.key.Side.TheVariants.{FromA}
use Rattle.suri_base.specs.declared.reason.Reason.TheVariants.{Timeout}
use Rattle.suri_base.specs.declared.seen.Seen.TheVariants.{Bears}
use Rattle.suri_base.specs.declared.stream.Offer.TheVariants as offer
use Rattle.reassembly.specs.Parts.{bytes_from}
use Rattle.tcp_session.specs.Moves.{next_state, outcomes}
use Rattle.timeout_table.specs.Table.{rows_for}
use Rattle.bucket_rules.specs.Own.{is_closed}
use Rattle.bucket_rules.specs.Packets.{bearing}
use Rattle.bucket_rules.specs.Row.{Row, after, blank, detached, has, is_here, is_unused, joins, made, off, offer_of, row}
use Rattle.bucket_rules.specs.Rule.{IsLegal}
use Rattle.bucket_rules.specs.Sound.{IsSound}
use Rattle.bucket_rules.specs.declared.fixed.Fixed.{Fixed}
use Rattle.bucket_rules.proofs.Soundness.{sound}
use Rattle.bucket_rules.proofs.Words.{some_is}
use Rattle.bucket_laws.specs.Counts.{times_begun, times_left}
use Rattle.bucket_laws.specs.Draining.{IsEmpty, is_drained}
use Rattle.bucket_laws.specs.Ends.{HasEnd, detaches, next_of, times_detached}
use Rattle.bucket_laws.specs.Keys.{IsCut, answered, piece, pieces}
use Rattle.bucket_laws.specs.Leaving.{gone}
use Rattle.bucket_laws.specs.Naming.{names}
use Rattle.bucket_laws.specs.Nodes.{all_freed, all_stored, all_taken}
use Rattle.bucket_laws.proofs.Cutting.{whole_cut}
use Rattle.bucket_laws.proofs.Draining.{empty}
use Rattle.bucket_laws.proofs.Ending.{has_end}
use Rattle.bucket_laws.proofs.Following.{next_looked}
use Rattle.bucket_laws.proofs.Naming.{unnamed}
use Rattle.bucket_laws.proofs.Tests.{neither}

-- seconds, in nanoseconds
abbrev at_second : ℕ → ℕ
at_second n = (1700000000 + n) * 10 ^ 9

abbrev key : Key
key = record {
  vlans = record { count = 0; first = 0; second = 0; third = 0 };
  version = 4;
  proto = 6;
  one_way = false;
  a = record { addr = 1; port = 1 };
  b = record { addr = 2; port = 2 };
}

abbrev tcp : ℕ → ℕ → ℕ → ℕ → ℕ → ℕ → Facts
tcp number time next flags seq len = record {
  no = number;
  time = time;
  clock = time;
  key = key;
  side = FromA;
  len = 58;
  ttl = 64;
  tcp = Some (record { seq = seq; ack = 0; flags = flags });
  icmp = None;
  pay_at = 54;
  pay_len = len;
  next = next;
}

-- ten bytes are missing before those of the second
abbrev first : Facts
first = tcp 1 (at_second 0) 2 0x02 100 0

abbrev second : Facts
second = tcp 2 (at_second 1) 3 0x18 111 4

abbrev third : Facts
third = tcp 3 (at_second 3602) 0 0x10 115 0

abbrev frame : Facts → Frame
frame f = record { no = f.no; time = f.time; orig = 58; at = 0; len = 58 }

abbrev capture : Captured
capture = record {
  bytes = replicate 58 0;
  frames = frame first ∷ frame second ∷ frame third ∷ [];
  clocks = at_second 0 ∷ at_second 1 ∷ at_second 3602 ∷ [];
  seen = Bears first ∷ Bears second ∷ Bears third ∷ [];
  cut_bytes = 0;
}

are_facts : (number time next flags seq len : ℕ) → 54 + len ≤ 58
    → AreFactsOf 58 (frame (tcp number time next flags seq len)) time (tcp number time next flags seq len)
are_facts number time next flags seq len l = record {
  number = refl;
  time = refl;
  clock = refl;
  inside = l;
  tcp = (λ x. refl, λ x. refl);
  icmp = (λ x. x, λ x. x);
  key = record { vlans = record { few = omega arith; first_unused = λ x. refl; second_unused = λ x. refl; third_unused = λ x. refl }; order = λ x. refl };
}

pub captured : IsCapture capture
unfolding same_key
captured = record {
  few = omega arith;
  numbered = (refl, omega arith, omega arith, (refl, omega arith, omega arith, (refl, omega arith, omega arith, tt)));
  clocks = refl;
  seen = (
    are_facts 1 (at_second 0) 2 0x02 100 0 (omega arith),
    (
      are_facts 2 (at_second 1) 3 0x18 111 4 (omega arith),
      (
        are_facts 3 (at_second 3602) 0 0x10 115 0 (omega arith),
        tt,
      ),
    ),
  );
  linked = (refl, (refl, (refl, tt)));
}

abbrev fixed : Fixed
fixed = record {
  capture = capture;
  layout = record { workers = 1; batch = 32; round = 4096; rows = 1; memcap = 1; segments = 1; recovery = 30; depth = 1048576 };
  number = 0;
}

abbrev e1 : Entry BucketNote
e1 = entry 0 1 (Missing 1 false 1 0)

abbrev e2 : Entry BucketNote
e2 = entry 0 3 (Made 1 offer.Nothing)

abbrev e3 : Entry BucketNote
e3 = entry 0 4 (Found 2 false 1 1 offer.NeedsSegment)

abbrev e4 : Entry BucketNote
e4 = entry 0 6 (Stored 2)

abbrev e5 : Entry BucketNote
e5 = entry 0 7 (Missing 3 false 1 0)

abbrev e6 : Entry BucketNote
e6 = entry 0 9 (AllInUse 3 1)

abbrev e7 : Entry BucketNote
e7 = entry 0 10 (Refused 3)

abbrev e8 : Entry BucketNote
e8 = entry 0 11 (Closed 1 app.None 1 0 false)

abbrev e9 : Entry BucketNote
e9 = entry 0 12 (Closed 2 app.None 1 0 true)

abbrev e10 : Entry BucketNote
e10 = entry 0 14 (Idle 3 app.None)

abbrev e11 : Entry BucketNote
e11 = entry 1 1 (Swept 0 true 5 0)

abbrev e12 : Entry BucketNote
e12 = entry 3 0 (Drained 0)

abbrev looks : List (Entry BucketNote)
looks = e4 ∷ e3 ∷ e2 ∷ e1 ∷ []

abbrev history : List (Entry BucketNote)
history = e12 ∷ e11 ∷ e10 ∷ e9 ∷ e8 ∷ e7 ∷ e6 ∷ e5 ∷ looks

-- a test that no run passes that began, and no other either

any_has : (t : ℕ → Bool) (xs : List ℕ) (a : ℕ) → list_any t xs ≡ false → has xs a ≡ true → t a ≡ false
any_has t [] a n h = cc
any_has t (x ∷ xs) a n h = let k = neither (t x) (list_any t xs) n in step (x == a) refl k.0 h (λ m. any_has t xs a k.1 m)
  where
    step : (b : Bool) → (x == a) ≡ b → t x ≡ false → (b || has xs a) ≡ true → (has xs a ≡ true → t a ≡ false) → t a ≡ false
    step true e m h k = subst (λ (v : ℕ). t v ≡ false) (eqb-true x a e) m
    step false e m h k = k h

nobody_passes : (past : List (Entry BucketNote)) (t : Row → Bool) → IsSound fixed past → t blank ≡ false
    → list_any (λ a. t (row fixed a past)) (made past) ≡ false → (a : ℕ) → t (row fixed a past) ≡ false
nobody_passes past t snd none all a = by (has (made past) a) refl
  where
    by : (b : Bool) → has (made past) a ≡ b → t (row fixed a past) ≡ false
    by true e = any_has (λ v. t (row fixed v past)) (made past) a all e
    by false e = ap t (snd.begun a e) ∙ none

zero_not : (a : ℕ) → 1 ≤ a → false ≡ (a == 0)
zero_not a h = grind (arith, nat_tests)

first_said : (t : Facts) → bearing capture 1 ≡ Some t → offer.Nothing ≡ offer_of fixed (row fixed 1 (e1 ∷ [])) t
unfolding same_key bytes_from
first_said t b = subst (λ (u : Facts). offer.Nothing ≡ offer_of fixed (row fixed 1 (e1 ∷ [])) u) (some_is refl b) refl

looked_up : IsLegal fixed looks
unfolding rows_for same_key key_bytes next_state outcomes bytes_from
looked_up = (
  refl,
  (
    (record { own = record { packet = second; bears = refl; bucket = refl; worker = refl }; fresh = refl; settled = refl }, refl, refl),
    (
      (refl, first_said),
      (
        (record { own = record { packet = first; bears = refl; bucket = refl; worker = refl }; fresh = refl; settled = refl }, λ a. refl, λ a p. zero_not a p),
        tt,
      ),
    ),
  ),
)

-- the third packet detaches the run, which stays in use
detached_now : IsLegal fixed (e5 ∷ looks)
unfolding rows_for same_key key_bytes next_state outcomes bytes_from
detached_now = (
  (
    record { own = record { packet = third; bears = refl; bucket = refl; worker = refl }; fresh = refl; settled = refl },
    nobody_passes looks (λ w. joins fixed 3 false w) (sound fixed looks looked_up) refl refl,
    λ a p. nobody_passes looks (λ w. is_here w && not (is_here (after fixed 0 (Missing 3 false 1 0) w))) (sound fixed looks looked_up) refl refl a
        ∙ zero_not a p,
  ),
  looked_up,
)

-- so nothing can be evicted; its last packet lets it go, with the node that still waits
left_then : IsLegal fixed (e10 ∷ e9 ∷ e8 ∷ e7 ∷ e6 ∷ e5 ∷ looks)
unfolding rows_for same_key key_bytes next_state outcomes bytes_from
left_then = (
  (record { answered = refl; settled = refl }, refl),
  (
    (record { answered = refl; settled = refl }, refl, refl, refl, refl),
    (
      (record { answered = refl; settled = refl }, refl, refl, refl, refl),
      (
        refl,
        (
          (record { worker = omega arith; settled = refl }, nobody_passes (e5 ∷ looks) is_unused (sound fixed (e5 ∷ looks) detached_now) refl refl, refl),
          detached_now,
        ),
      ),
    ),
  ),
)

all_closed : (f : ℕ) (t : Facts) → bearing capture f ≡ Some t → is_closed f (e11 ∷ e10 ∷ e9 ∷ e8 ∷ e7 ∷ e6 ∷ e5 ∷ looks) ≡ true
all_closed zero t b = cc
all_closed (suc zero) t b = refl
all_closed (suc (suc zero)) t b = refl
all_closed (suc (suc (suc zero))) t b = refl
all_closed (suc (suc (suc (suc f)))) t b = cc

legal : IsLegal fixed history
unfolding rows_for same_key key_bytes next_state outcomes bytes_from
legal = (
  (record { end = refl; done = λ f t b k. all_closed f t b }, refl),
  (
    (record { manager = refl; within = omega arith }, refl),
    left_then,
  ),
)

-- what the laws speak of, computed

drained : is_drained history ≡ true
drained = refl

own : bucket_of key fixed.layout.rows ≡ fixed.number
unfolding key_bytes
own = refl

once : (times_begun 1 history ≡ 1) × (times_left fixed 1 history ≡ 1) × (is_here (row fixed 1 history) ≡ false)
unfolding rows_for same_key next_state outcomes bytes_from
once = (refl, refl, refl)

nodes : (all_stored history ≡ 1) × (all_freed history ≡ 0) × (all_taken fixed history ≡ 1)
unfolding rows_for same_key next_state outcomes bytes_from
nodes = (refl, refl, refl)

-- the close of the second packet lets run 1 go, with one node
leaves : gone fixed (e8 ∷ e7 ∷ e6 ∷ e5 ∷ looks) e9.note ≡ record { run = 1; nodes = 1 } ∷ []
unfolding rows_for same_key next_state outcomes bytes_from
leaves = refl

in_order : answered fixed key history ≡ third ∷ second ∷ first ∷ []
unfolding same_key
in_order = refl

cut : pieces fixed key history ≡ piece 0 (third ∷ []) ∷ piece 1 (second ∷ first ∷ []) ∷ []
unfolding same_key
cut = refl

ended : (times_detached fixed 1 history ≡ 1) × (detaches fixed looks (Missing 3 false 1 0) 1 ≡ true)
    × ((row fixed 1 history).place ≡ detached (off Timeout false)) × (next_of (row fixed 1 looks).members ≡ 3)
unfolding rows_for same_key next_state outcomes bytes_from
ended = (refl, refl, refl, refl)

-- and as the laws tell it

whole : IsCut fixed key history (third ∷ second ∷ first ∷ []) (pieces fixed key history)
unfolding same_key
whole = whole_cut fixed key history legal drained own

why : HasEnd fixed 1 history (off Timeout false)
why = has_end fixed 1 (off Timeout false) history legal ended.2

looked : next_of (row fixed 1 looks).members ≡ 3
looked = next_looked fixed 1 0 7 3 false 1 0 looks history captured legal drained (inr (inr (inr (inr (inr (inr (inr (inl (refl, refl))))))))) ended.1

nothing_more : IsEmpty fixed history
nothing_more = empty fixed history legal drained

left_there : is_here (row fixed 1 (e9 ∷ e8 ∷ e7 ∷ e6 ∷ e5 ∷ looks)) ≡ false
unfolding rows_for same_key next_state outcomes bytes_from
left_there = refl

let_alone : names e12.note 1 ≡ false
let_alone = unnamed fixed e12 (e11 ∷ e10 ∷ []) (e9 ∷ e8 ∷ e7 ∷ e6 ∷ e5 ∷ looks) 1 legal refl left_there
