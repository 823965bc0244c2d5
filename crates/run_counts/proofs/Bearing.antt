-- The frames of a capture that bear packets, by their numbers: each is there once, and together they weigh what the packets weigh, whatever is
-- weighed.
use Rattle.std.proofs.Common.{◌≡◌, ℕ, zero, suc, ◌+◌, ◌<◌, ◌≤◌, Bool, cond, List, [], ◌∷◌, ◌++◌, filter, length, Option, Some, None, ◌⊎◌, inl, inr, refl, ◌∙◌, ap, arith}
use Rattle.std.specs.Option.{is_some, option_to_list}
use Rattle.std.specs.Prelude.{get_or, slice_get, sum_by, take}
use Rattle.std.proofs.Math.Seq.{take-length, take-suc}
use Rattle.std.proofs.lemmas.List.Sums.{sum_by-append, sum_by-cons}
use Rattle.std.proofs.lemmas.Option.{slice_get_cases}
use Rattle.bucket_laws.proofs.Falling.{down_from}
use Rattle.bucket_laws.proofs.Listing.{bearing_within}
use Rattle.bucket_laws.specs.Counts.{one_if}
use Rattle.bucket_rules.specs.Packets.{bearing, facts_of_seen}
use Rattle.run_counts.proofs.Adding.{sum_over}
use Rattle.run_counts.proofs.Answered.{count_down, count_filter, count_left_out}
use Rattle.run_counts.proofs.Naming.{weight_at, weight_of}
use Rattle.run_laws.proofs.Counting.{count_in}
use Rattle.suri_base.specs.Capture.{Captured, facts_in, packets_in}
use Rattle.suri_base.specs.declared.facts.Facts.{Facts}
use Rattle.suri_base.specs.declared.seen.Seen.{Seen}

-- the frame bears a packet
abbrev pub bears : Captured → ℕ → Bool
bears c f = is_some (bearing c f)

abbrev pub bearers : Captured → List ℕ
bearers c = filter (bears c) (down_from (length c.seen))

-- once
pub count_bearers : (c : Captured) (a : ℕ) → count_in a (bearers c) ≡ one_if (bears c a)
count_bearers c a = by (bearing c a) refl
  where
    by : (o : Option Facts) → bearing c a ≡ o → count_in a (bearers c) ≡ one_if (is_some o)
    by None e = count_left_out (bears c) a (down_from (length c.seen)) (ap (λ (o : Option Facts). is_some o) e)
    by (Some t) e =
        let within = bearing_within c a t e in
        count_filter (bears c) a (down_from (length c.seen)) (ap (λ (o : Option Facts). is_some o) e) ∙ count_down a (length c.seen) within.0 within.1

module _ (g : Facts → ℕ) where
  -- as much as the packets

  packets_joined : (past todo : List Seen) → sum_by g (packets_in (past ++ todo)) ≡ sum_by g (packets_in past) + sum_by g (packets_in todo)
  packets_joined [] todo = omega arith
  packets_joined (s ∷ past) todo = omega (
    arith,
    sum_by-append g (option_to_list (facts_in s)) (packets_in (past ++ todo)),
    sum_by-append g (option_to_list (facts_in s)) (packets_in past),
    packets_joined past todo,
  )

  one_packet : (s : Seen) → sum_by g (packets_in (s ∷ [])) ≡ weight_at g (facts_in s)
  one_packet s = sum_by-append g (option_to_list (facts_in s)) [] ∙ by (facts_in s)
    where
      by : (o : Option Facts) → sum_by g (option_to_list o) + 0 ≡ weight_at g o
      by None = refl
      by (Some t) = omega (arith, sum_by-cons g t [])

  one_bearer : (c : Captured) (f : ℕ) (fs : List ℕ) → sum_over (weight_of g c) (cond (bears c f) (f ∷ fs) fs) ≡ sum_over (weight_of g c) fs + weight_of g c f
  one_bearer c f fs = by (bearing c f) refl
    where
      by : (o : Option Facts) → bearing c f ≡ o → sum_over (weight_of g c) (cond (is_some o) (f ∷ fs) fs) ≡ sum_over (weight_of g c) fs + weight_of g c f
      by None e = let z : weight_of g c f ≡ 0 = ap (λ (o : Option Facts). weight_at g o) e in omega (arith, z)
      by (Some t) e = omega arith

  many : (c : Captured) (n : ℕ) → n ≤ length c.seen → sum_over (weight_of g c) (filter (bears c) (down_from n)) ≡ sum_by g (packets_in (take n c.seen))
  many c zero h = refl
  many c (suc n) h = by (slice_get_cases c.seen n).1 (many c n (omega (arith, h)))
    where
      by : ((x : Seen) × (n < length c.seen) × (slice_get c.seen n ≡ Some x) × (get_or c.seen n x ≡ x)) ⊎ ((length c.seen ≤ n) × (slice_get c.seen n ≡ None))
          → sum_over (weight_of g c) (filter (bears c) (down_from n)) ≡ sum_by g (packets_in (take n c.seen))
          → sum_over (weight_of g c) (filter (bears c) (down_from (suc n))) ≡ sum_by g (packets_in (take (suc n) c.seen))
      by (inr x) rest = absurd (omega (arith, x.0, h))
      by (inl x) rest =
          let own : weight_of g c (suc n) ≡ weight_at g (facts_in x.0) = ap (λ (o : Option Seen). weight_at g (facts_of_seen o)) x.2 in
          let front : take (suc n) c.seen ≡ take n c.seen ++ x.0 ∷ [] = take-suc c.seen n x.0 x.1 ∙ ap (λ (y : Seen). take n c.seen ++ y ∷ []) x.3 in
          omega (
            arith,
            one_bearer c (suc n) (filter (bears c) (down_from n)),
            rest,
            own,
            ap (λ (l : List Seen). sum_by g (packets_in l)) front,
            packets_joined (take n c.seen) (x.0 ∷ []),
            one_packet x.0,
          )

  pub over_bearers : (c : Captured) → sum_over (weight_of g c) (bearers c) ≡ sum_by g (packets_in c.seen)
  over_bearers c = many c (length c.seen) (omega arith) ∙ ap (λ (l : List Seen). sum_by g (packets_in l)) (take-length c.seen)
