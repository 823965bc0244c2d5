-- A drained bucket stays empty.
use Rattle.std.proofs.Common.{◌≡◌, ℕ, ◌==◌, true, false, List, [], ◌∷◌, ⊎_elim, refl, sym, ◌∙◌, ap, arith}
use Rattle.suri_base.specs.declared.entry.BucketNote.{BucketNote}
use Rattle.suri_base.specs.declared.entry.BucketNote.TheVariants.{Found, Missing, Made, Refused, Stored, Stopped, Closed, Idle, Victim, AllInUse, Swept, Drained}
use Rattle.suri_base.specs.declared.entry.Entry.{Entry}
use Rattle.bucket_rules.specs.Own.{looked, closes, is_closed}
use Rattle.bucket_rules.specs.Row.{after, row, has, is_here, is_none_of, off_if, end_off, made}
use Rattle.bucket_rules.specs.Rule.{IsPacketOf, Rule, IsLegal}
use Rattle.bucket_rules.specs.Sound.{IsSound, IsNew}
use Rattle.bucket_rules.specs.declared.fixed.Fixed.{Fixed}
use Rattle.bucket_rules.proofs.Rowing.{begins, off-uses, off-test}
use Rattle.bucket_rules.proofs.Words.{true_false}
use Rattle.bucket_laws.specs.Counts.{one_if, times_begun, times_left}
use Rattle.bucket_laws.specs.Draining.{drains, is_drained, IsEmpty}
use Rattle.bucket_laws.specs.Keys.{answers}
use Rattle.bucket_rules.proofs.Soundness.{sound}
use Rattle.bucket_laws.proofs.Leaving.{balance}
use Rattle.bucket_laws.proofs.Steps.{here_split, here_back, begins_new}
use Rattle.bucket_laws.proofs.Tests.{either, no_true, or_left, or_right, same}

-- an entry that looks a packet up, begins a run or refuses a packet has one that is not closed
pub open_packet : (s : Fixed) (past : List (Entry BucketNote)) (r f : ℕ) → IsEmpty s past → IsPacketOf s r f → IsNew s past f → ⊥
open_packet s past r f empty own new = true_false (empty.closed f own.packet own.bears own.bucket) new.unclosed

pub quiet : (s : Fixed) (past : List (Entry BucketNote)) (r : ℕ) (n : BucketNote) → IsSound s past → Rule s past r n → IsEmpty s past
    → (looked n ≡ 0) × (answers n ≡ 0)
quiet s past r (Found g emergency seen run said) snd rule empty = absurd (open_packet s past r g empty rule.0.own (snd.fresh r g rule.0.own rule.0.fresh))
quiet s past r (Missing g emergency seen ended) snd rule empty = absurd (open_packet s past r g empty rule.0.own (snd.fresh r g rule.0.own rule.0.fresh))
quiet s past r (Made g said) snd rule empty = let w = snd.waits r g rule.0 in absurd (open_packet s past r g empty w.own w.new)
quiet s past r (Refused g) snd rule empty = let w = snd.waits r g rule in absurd (open_packet s past r g empty w.own w.new)
quiet s past r (Stored g) snd rule empty = (refl, refl)
quiet s past r (Stopped g) snd rule empty = (refl, refl)
quiet s past r (Closed g app run freed ended) snd rule empty = (refl, refl)
quiet s past r (Idle g app) snd rule empty = (refl, refl)
quiet s past r (Victim g run) snd rule empty = (refl, refl)
quiet s past r (AllInUse g count) snd rule empty = (refl, refl)
quiet s past r (Swept round emergency seen count) snd rule empty = (refl, refl)
quiet s past r (Drained count) snd rule empty = (refl, refl)

-- all notes but those that begin a run leave the runs that began
made_same : (n : BucketNote) (past : List (Entry BucketNote)) (r step : ℕ) → ((a : ℕ) → begins n a ≡ false)
    → made (record { role = r; step = step; note = n } ∷ past) ≡ made past
made_same (Found g emergency seen run said) past r step none = refl
made_same (Missing g emergency seen ended) past r step none = refl
made_same (Made g said) past r step none = absurd (own (none g))
  where
    own : begins (Made g said) g ≡ false → ⊥
    own h = true_false (eq g) h
      where
        eq : (x : ℕ) → begins (Made x said) x ≡ true
        eq x = same x x refl
made_same (Refused g) past r step none = refl
made_same (Stored g) past r step none = refl
made_same (Stopped g) past r step none = refl
made_same (Closed g app run freed ended) past r step none = refl
made_same (Idle g app) past r step none = refl
made_same (Victim g run) past r step none = refl
made_same (AllInUse g count) past r step none = refl
made_same (Swept round emergency seen count) past r step none = refl
made_same (Drained count) past r step none = refl

empty_after : (s : Fixed) (past : List (Entry BucketNote)) (r step : ℕ) (n : BucketNote) → IsSound s past → Rule s past r n → IsEmpty s past
    → IsEmpty s (record { role = r; step = step; note = n } ∷ past)
empty_after s past r step n snd rule empty = record {
  closed = λ f t b k. or_right (closes f n) (is_closed f past) (empty.closed f t b k);
  none = λ a. no_true (is_here (after s a n (row s a past))) (λ x. ⊎_elim
      (λ b. let w = (begins_new s past r n a snd rule b).1 in open_packet s past r a empty w.own w.new)
      (λ h. true_false h (empty.none a)) (here_back s past r n a rule x));
}

-- a run that is used is used by a packet that isn't closed; so a drain, which finds all closed, leaves no run

used_open : (s : Fixed) (past : List (Entry BucketNote)) (us : List ℕ) → ((f : ℕ) → has us f ≡ true → ⊥) → is_none_of us ≡ true
used_open s past [] h = refl
used_open s past (u ∷ us) h = absurd (h u (or_left (u == u) (has us u) (same u u refl)))

empty_now : (s : Fixed) (past : List (Entry BucketNote)) (r step : ℕ) (n : BucketNote) → IsSound s past → drains n ≡ true → Rule s past r n
    → IsEmpty s (record { role = r; step = step; note = n } ∷ past)
empty_now s past r step (Found g emergency seen run said) snd x rule = cc
empty_now s past r step (Missing g emergency seen ended) snd x rule = cc
empty_now s past r step (Made g said) snd x rule = cc
empty_now s past r step (Refused g) snd x rule = cc
empty_now s past r step (Stored g) snd x rule = cc
empty_now s past r step (Stopped g) snd x rule = cc
empty_now s past r step (Closed g app run freed ended) snd x rule = cc
empty_now s past r step (Idle g app) snd x rule = cc
empty_now s past r step (Victim g run) snd x rule = cc
empty_now s past r step (AllInUse g count) snd x rule = cc
empty_now s past r step (Swept round emergency seen count) snd x rule = cc
empty_now s past r step (Drained count) snd x rule = record {
  closed = λ f t b k. rule.0.done f t b k;
  none = λ a. no_true (is_here (off_if true (end_off s (row s a past)) (row s a past))) (λ y. ⊎_elim
      (λ l. let z : true ≡ false = off-test true (end_off s (row s a past)) (row s a past) l in cc)
      (λ u. true_false (used_open s past (row s a past).uses (λ f i. let k = snd.uses a f i in true_false (rule.0.done f k.packet k.bears k.bucket) k.unclosed))
      (ap is_none_of (sym (off-uses true (end_off s (row s a past)) (row s a past))) ∙ u))
      (here_split (off_if true (end_off s (row s a past)) (row s a past)) y));
}

pub empty : (s : Fixed) (past : List (Entry BucketNote)) → IsLegal s past → is_drained past ≡ true → IsEmpty s past
empty s [] l x = cc
empty s (e ∷ past) l x = ⊎_elim
    (λ y. empty_now s past e.role e.step e.note (sound s past l.1) y l.0)
    (λ y. empty_after s past e.role e.step e.note (sound s past l.1) l.0 (empty s past l.1 y))
    (either (drains e.note) (is_drained past) x)

-- so every run left as often as it began
pub all_left : (s : Fixed) (past : List (Entry BucketNote)) (a : ℕ) → IsLegal s past → is_drained past ≡ true → times_begun a past ≡ times_left s a past
all_left s past a l x =
    let z : one_if (is_here (row s a past)) ≡ 0 = ap one_if ((empty s past l x).none a) in
    omega (arith, balance s past a l, z)

-- and nothing begins any more

pub nothing_new : (s : Fixed) (e : Entry BucketNote) (past : List (Entry BucketNote)) → IsLegal s (e ∷ past) → is_drained past ≡ true
    → (looked e.note ≡ 0) × (answers e.note ≡ 0)
nothing_new s e past l x = quiet s past e.role e.note (sound s past l.1) l.0 (empty s past l.1 x)

pub none_begins : (s : Fixed) (e : Entry BucketNote) (past : List (Entry BucketNote)) → IsLegal s (e ∷ past) → is_drained past ≡ true
    → made (e ∷ past) ≡ made past
none_begins s e past l x =
    let snd = sound s past l.1 in
    let done = empty s past l.1 x in
    made_same e.note past e.role e.step (λ a. no_true (begins e.note a) (λ b.
    let w = (begins_new s past e.role e.note a snd l.0 b).1 in
    open_packet s past e.role a done w.own w.new))
