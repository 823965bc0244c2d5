-- The frames of a worker's batches are of the rounds in which they are dealt out.
use Rattle.std.proofs.Common.{◌≡◌, ℕ, zero, suc, ◌==◌, ◌+◌, ◌-◌, ◌*◌, ◌<◌, ◌≤◌, ◌/◌, Bool, true, false, cond, List, [], ◌∷◌, length, map, filter, Some, refl, ◌∙◌, ap, subst, arith, take, drop, slice_get}
use Rattle.std.proofs.lemmas.List.{length-take}
use Rattle.std.proofs.lemmas.Nat.{div-mul-add}
use Rattle.std.specs.Fork.{slice_chunk}
use Rattle.std.specs.Int.{div_ceil}
use Rattle.std.specs.List.{range_with_len}
use Rattle.bucket_laws.proofs.Listing.{bearing_no}
use Rattle.bucket_rules.specs.Packets.{facts_of_seen}
use Rattle.capture_index.specs.Batches.{batches_of, taken_among, taken_in}
use Rattle.round_laws.proofs.WorkRounds.{AreOf, BatchesOf, RoundsFrom}
use Rattle.run_laws.specs.Setting.{IsSetup}
use Rattle.run_rules.specs.Setup.{Setup}
use Rattle.suri_base.specs.Capture.{packets_in}
use Rattle.suri_base.specs.Dealing.{round_of, worker_of}
use Rattle.suri_base.specs.declared.facts.Facts.{Facts}
use Rattle.suri_base.specs.declared.seen.Seen.{Seen}
use Rattle.suri_base.specs.declared.seen.Seen.TheVariants.{Bears, Counted}

-- an element of a part of a list, in the whole

get_take : {A : Type 0} (m n : ℕ) (xs : List A) (x : A) → slice_get (take m xs) n ≡ Some x → slice_get xs n ≡ Some x
get_take zero n xs x h = cc
get_take (suc m) n [] x h = cc
get_take (suc m) zero (y ∷ xs) x h = h
get_take (suc m) (suc n) (y ∷ xs) x h = get_take m n xs x h

get_drop : {A : Type 0} (m n : ℕ) (xs : List A) (x : A) → slice_get (drop m xs) n ≡ Some x → slice_get xs (m + n) ≡ Some x
get_drop zero n xs x h = let e : n ≡ 0 + n = omega arith in subst (λ (k : ℕ). slice_get xs k ≡ Some x) e h
get_drop (suc m) n [] x h = cc
get_drop (suc m) n (y ∷ xs) x h = let e : suc (m + n) ≡ suc m + n = omega arith in subst (λ (k : ℕ). slice_get (y ∷ xs) k ≡ Some x) e (get_drop m n xs x h)

-- batches are parts of a list

module _ (size k : ℕ) where
  are_take : (n : ℕ) (fs : List ℕ) → AreOf size k fs → AreOf size k (take n fs)
  are_take zero fs h = tt
  are_take (suc n) [] h = tt
  are_take (suc n) (f ∷ fs) h = (h.0, are_take n fs h.1)

  are_drop : (n : ℕ) (fs : List ℕ) → AreOf size k fs → AreOf size k (drop n fs)
  are_drop zero fs h = h
  are_drop (suc n) [] h = tt
  are_drop (suc n) (f ∷ fs) h = are_drop n fs h.1

  are_chunks : (batch : ℕ) (fs places : List ℕ) → AreOf size k fs → BatchesOf size k (map (λ i. slice_chunk fs batch i) places)
  are_chunks batch fs [] h = tt
  are_chunks batch fs (i ∷ places) h = (are_take batch (drop (i * batch) fs) (are_drop (i * batch) fs h), are_chunks batch fs places h)

module _ (w : Setup) (d : IsSetup w) (role r : ℕ) where
  abbrev size : ℕ
  size = w.layout.round

  -- the frame in the i-th place of the round
  round_at : (i : ℕ) → i < size → round_of (suc (r * size + i)) size ≡ r
  round_at i low = let e : suc (r * size + i) - 1 ≡ r * size + i = omega arith in ap (λ (x : ℕ). x / size) e ∙ div-mul-add r size i low

  taken_of : (seen : List Seen) (i : ℕ) → i + length seen ≤ size → ((n : ℕ) (s : Seen) → slice_get seen n ≡ Some s → slice_get w.capture.seen (r * size + (i + n)) ≡ Some s)
      → AreOf size r (taken_among w.layout role seen)
  taken_of [] i low at = tt
  taken_of (Counted x ∷ seen) i low at =
      taken_of seen (i + 1) (omega (arith, low))
      (λ n s e. let k : i + suc n ≡ i + 1 + n = omega arith in subst (λ (m : ℕ). slice_get w.capture.seen (r * size + m) ≡ Some s) k (at (suc n) s e))
  taken_of (Bears t ∷ seen) i low at =
      by (worker_of t.key w.layout.workers == role)
      (taken_of seen (i + 1) (omega (arith, low))
      (λ n s e. let k : i + suc n ≡ i + 1 + n = omega arith in subst (λ (m : ℕ). slice_get w.capture.seen (r * size + m) ≡ Some s) k (at (suc n) s e)))
    where
      number : t.no ≡ suc (r * size + i)
      number =
          let z : r * size + (i + 0) ≡ r * size + i = omega arith in
          bearing_no w.capture (suc (r * size + i)) t d.capture (ap facts_of_seen (subst (λ (m : ℕ). slice_get w.capture.seen m ≡ Some (Bears t)) z (at 0 (Bears t) refl)))

      here : round_of t.no size ≡ r
      here = ap (λ (f : ℕ). round_of f size) number ∙ round_at i (omega (arith, low))

      by : (x : Bool) → AreOf size r (taken_among w.layout role seen)
          → AreOf size r
          (map (λ (g : Facts). g.no) (cond x (t ∷ filter (λ g. worker_of g.key w.layout.workers == role) (packets_in seen)) (filter (λ g. worker_of g.key w.layout.workers == role) (packets_in seen))))
      by true k = (here, k)
      by false k = k

  batches_are : BatchesOf size r (batches_of w.layout w.capture.seen role r)
  batches_are =
      let chunk = slice_chunk w.capture.seen size r in
      let short : length chunk ≤ size = omega (arith, length-take size (drop (r * size) w.capture.seen)) in
      are_chunks size r w.layout.batch (taken_in w.layout w.capture.seen role r) (range_with_len 0 (div_ceil (length (taken_in w.layout w.capture.seen role r)) w.layout.batch))
      (taken_of chunk 0 (omega (arith, short))
      (λ n s e. let k : n ≡ 0 + n = omega arith in
      subst (λ (m : ℕ). slice_get w.capture.seen (r * size + m) ≡ Some s) k (get_drop (r * size) n w.capture.seen s (get_take size n (drop (r * size) w.capture.seen) s e))))

-- the batches of all rounds
pub work_from : (w : Setup) → IsSetup w → (role first count : ℕ) → RoundsFrom w.layout.round first (map (λ r. batches_of w.layout w.capture.seen role r) (range_with_len first count))
work_from w d role first zero = tt
work_from w d role first (suc count) =
    let e : first + 1 ≡ suc first = omega arith in (
      batches_are w d role first,
      subst (λ (n : ℕ). RoundsFrom w.layout.round n (map (λ r. batches_of w.layout w.capture.seen role r) (range_with_len (first + 1) count))) e (work_from w d role (first + 1) count),
    )
