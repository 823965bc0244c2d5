-- How often a drained bucket answered a frame: once, where the frame bears a packet of the bucket, and else never. Of the frames of one key
-- those answered are just those of the key, in order; and no answer is of another bucket's packet.
use Rattle.std.proofs.Common.{◌≡◌, ℕ, zero, suc, ◌==◌, ◌+◌, ◌<◌, ◌≤◌, Bool, true, false, cond, List, [], ◌∷◌, filter, length, Some, ⊎_elim, refl, sym, ◌∙◌, ap, subst, arith, eqb-true}
use Rattle.std.proofs.lemmas.Bool.Decides.{eqb_tells}
use Rattle.bucket_laws.proofs.Answering.{all_frames, answers_of}
use Rattle.bucket_laws.proofs.Falling.{down_from}
use Rattle.bucket_laws.proofs.Listing.{bearing_within, is_of, is_of_its}
use Rattle.bucket_laws.proofs.Tests.{other, same}
use Rattle.bucket_laws.specs.Counts.{one_if}
use Rattle.bucket_laws.specs.Draining.{is_drained}
use Rattle.bucket_laws.specs.Keys.{answers}
use Rattle.bucket_rules.proofs.Soundness.{sound}
use Rattle.bucket_rules.proofs.Words.{true_false}
use Rattle.bucket_rules.specs.Packets.{bearing}
use Rattle.bucket_rules.specs.Rule.{IsLegal, Rule}
use Rattle.bucket_rules.specs.Sound.{IsSound}
use Rattle.bucket_rules.specs.declared.fixed.Fixed.{Fixed}
use Rattle.run_counts.proofs.Naming.{all_named, named}
use Rattle.run_laws.proofs.Counting.{count_in}
use Rattle.run_laws.proofs.Leavers.{IsOfBucket}
use Rattle.run_laws.specs.Counts.{is}
use Rattle.suri_base.specs.Dealing.{bucket_of}
use Rattle.suri_base.specs.declared.entry.BucketNote.{BucketNote}
use Rattle.suri_base.specs.declared.entry.BucketNote.TheVariants.{AllInUse, Closed, Drained, Found, Idle, Made, Missing, Refused, Stopped, Stored, Swept, Victim}
use Rattle.suri_base.specs.declared.entry.Entry.{Entry}
use Rattle.suri_base.specs.declared.facts.Facts.{Facts}

-- numbers in lists

is_yes : (g a : ℕ) → 1 ≤ is g a → g ≡ a
is_yes g a h = by (g == a) refl h
  where
    by : (b : Bool) → (g == a) ≡ b → 1 ≤ one_if b → g ≡ a
    by true e k = eqb-true g a e
    by false e k = absurd (omega (arith, k))

is_no : (g a : ℕ) → (g ≡ a → ⊥) → is g a ≡ 0
is_no g a h = ap one_if (other g a h)

is_one : (g a : ℕ) → g ≡ a → is g a ≡ 1
is_one g a h = ap one_if (same g a h)

pub count_filter : (p : ℕ → Bool) (a : ℕ) (xs : List ℕ) → p a ≡ true → count_in a (filter p xs) ≡ count_in a xs
count_filter p a [] h = refl
count_filter p a (x ∷ xs) h = by (p x) refl (count_filter p a xs h)
  where
    by : (b : Bool) → p x ≡ b → count_in a (filter p xs) ≡ count_in a xs → count_in a (cond b (x ∷ filter p xs) (filter p xs)) ≡ is x a + count_in a xs
    by true e k = omega (arith, k)
    by false e k = let z : is x a ≡ 0 = is_no x a (λ s. true_false (ap p s ∙ h) e) in omega (arith, k, z)

pub count_left_out : (p : ℕ → Bool) (a : ℕ) (xs : List ℕ) → p a ≡ false → count_in a (filter p xs) ≡ 0
count_left_out p a [] h = refl
count_left_out p a (x ∷ xs) h = by (p x) refl (count_left_out p a xs h)
  where
    by : (b : Bool) → p x ≡ b → count_in a (filter p xs) ≡ 0 → count_in a (cond b (x ∷ filter p xs) (filter p xs)) ≡ 0
    by true e k = let z : is x a ≡ 0 = is_no x a (λ s. true_false e (ap p s ∙ h)) in omega (arith, k, z)
    by false e k = k

count_above : (a n : ℕ) → n < a → count_in a (down_from n) ≡ 0
count_above a zero h = refl
count_above a (suc n) h =
    let z : is (suc n) a ≡ 0 = is_no (suc n) a (λ e. absurd (omega (arith, e, h))) in
    omega (arith, z, count_above a n (omega (arith, h)))

pub count_down : (a n : ℕ) → 1 ≤ a → a ≤ n → count_in a (down_from n) ≡ 1
count_down a zero h l = absurd (omega arith)
count_down a (suc n) h l = ⊎_elim
    (λ e.
    let z : is (suc n) a ≡ 1 = ap one_if e.0 in
    omega (arith, z, count_above a n (omega (arith, e.1))))
    (λ e.
    let z : is (suc n) a ≡ 0 = ap one_if e.0 in
    omega (arith, z, count_down a n h (omega (arith, e.1, l))))
    (eqb_tells (suc n) a)

-- what a bucket answers is of its own packets

named_split : (n : BucketNote) (fs : List ℕ) (a : ℕ) → count_in a (named n fs) ≡ count_in a (named n []) + count_in a fs
named_split (Found f emergency seen run said) fs a = omega arith
named_split (Made f said) fs a = omega arith
named_split (Refused f) fs a = omega arith
named_split (Missing f emergency seen ended) fs a = omega arith
named_split (Stored f) fs a = omega arith
named_split (Stopped f) fs a = omega arith
named_split (Closed f app run freed ended) fs a = omega arith
named_split (Idle f app) fs a = omega arith
named_split (Victim f run) fs a = omega arith
named_split (AllInUse f count) fs a = omega arith
named_split (Swept round emergency seen count) fs a = omega arith
named_split (Drained count) fs a = omega arith

own_of : (s : Fixed) (r f a : ℕ) → 1 ≤ is f a + 0 → IsOfBucket s f → IsOfBucket s a
own_of s r f a h own = subst (IsOfBucket s) (is_yes f a (omega (arith, h))) own

named_one : (s : Fixed) (past : List (Entry BucketNote)) (r : ℕ) (n : BucketNote) (a : ℕ) → IsSound s past → Rule s past r n → 1 ≤ count_in a (named n []) → IsOfBucket s a
named_one s past r (Found f emergency seen run said) a snd rule h =
    own_of s r f a h (record { packet = rule.0.own.packet; bears = rule.0.own.bears; bucket = rule.0.own.bucket })
named_one s past r (Made f said) a snd rule h =
    let own = (snd.waits r f rule.0).own in own_of s r f a h (record { packet = own.packet; bears = own.bears; bucket = own.bucket })
named_one s past r (Refused f) a snd rule h =
    let own = (snd.waits r f rule).own in own_of s r f a h (record { packet = own.packet; bears = own.bears; bucket = own.bucket })
named_one s past r (Missing f emergency seen ended) a snd rule h = absurd (omega (arith, h))
named_one s past r (Stored f) a snd rule h = absurd (omega (arith, h))
named_one s past r (Stopped f) a snd rule h = absurd (omega (arith, h))
named_one s past r (Closed f app run freed ended) a snd rule h = absurd (omega (arith, h))
named_one s past r (Idle f app) a snd rule h = absurd (omega (arith, h))
named_one s past r (Victim f run) a snd rule h = absurd (omega (arith, h))
named_one s past r (AllInUse f count) a snd rule h = absurd (omega (arith, h))
named_one s past r (Swept round emergency seen count) a snd rule h = absurd (omega (arith, h))
named_one s past r (Drained count) a snd rule h = absurd (omega (arith, h))

named_own : (s : Fixed) (past : List (Entry BucketNote)) (a : ℕ) → IsLegal s past → 1 ≤ count_in a (all_named past) → IsOfBucket s a
named_own s [] a l h = absurd (omega (arith, h))
named_own s (e ∷ past) a l h = by (count_in a (all_named past)) refl (λ k. named_own s past a l.1 k)
  where
    by : (k : ℕ) → count_in a (all_named past) ≡ k → (1 ≤ count_in a (all_named past) → IsOfBucket s a) → IsOfBucket s a
    by zero z more = named_one s past e.role e.note a (sound s past l.1) l.0 (omega (arith, h, z, named_split e.note (all_named past) a))
    by (suc k) z more = more (omega (arith, z))

pub not_named : (s : Fixed) (past : List (Entry BucketNote)) (a : ℕ) → IsLegal s past → (IsOfBucket s a → ⊥) → count_in a (all_named past) ≡ 0
not_named s past a l n = by (count_in a (all_named past)) refl
  where
    by : (k : ℕ) → count_in a (all_named past) ≡ k → count_in a (all_named past) ≡ 0
    by zero z = z
    by (suc k) z = absurd (n (named_own s past a l (omega (arith, z))))

-- and of each of its packets once

named_answers : (past : List (Entry BucketNote)) (a : ℕ) → 1 ≤ a → count_in a (all_named past) ≡ count_in a (answers_of past)
named_answers [] a h = refl
named_answers (e ∷ past) a h = by e.note (named_answers past a h)
  where
    none : is 0 a ≡ 0
    none = is_no 0 a (λ e. absurd (omega (arith, e, h)))

    by : (n : BucketNote) → count_in a (all_named past) ≡ count_in a (answers_of past)
        → count_in a (named n (all_named past)) ≡ is (answers n) a + count_in a (answers_of past)
    by (Found f emergency seen run said) k = omega (arith, k)
    by (Made f said) k = omega (arith, k)
    by (Refused f) k = omega (arith, k)
    by (Missing f emergency seen ended) k = omega (arith, k, none)
    by (Stored f) k = omega (arith, k, none)
    by (Stopped f) k = omega (arith, k, none)
    by (Closed f app run freed ended) k = omega (arith, k, none)
    by (Idle f app) k = omega (arith, k, none)
    by (Victim f run) k = omega (arith, k, none)
    by (AllInUse f count) k = omega (arith, k, none)
    by (Swept round emergency seen count) k = omega (arith, k, none)
    by (Drained count) k = omega (arith, k, none)

pub named_once : (s : Fixed) (past : List (Entry BucketNote)) (a : ℕ) (t : Facts) → IsLegal s past → is_drained past ≡ true → bearing s.capture a ≡ Some t
    → bucket_of t.key s.layout.rows ≡ s.number → count_in a (all_named past) ≡ 1
named_once s past a t l d b mine =
    let within = bearing_within s.capture a t b in
    let own = is_of_its s.capture a t b in
    let p : ℕ → Bool = is_of s.capture t.key in
    named_answers past a within.0
    ∙ (sym (count_filter p a (answers_of past) own)
    ∙ (ap (λ (fs : List ℕ). count_in a fs) (all_frames s t.key past l d mine)
    ∙ (count_filter p a (down_from (length s.capture.seen)) own ∙ count_down a (length s.capture.seen) within.0 within.1)))
