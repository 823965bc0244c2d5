-- The clock of a capture never falls: from frame to frame, and to the last one.
use Rattle.std.proofs.Common.{◌≡◌, ℕ, zero, suc, ◌-◌, ◌<◌, ◌≤◌, List, [], ◌∷◌, ◌++◌, length, get_or, Some, sym, subst, append_assoc, append-nil, arith}
use Rattle.std.specs.Prelude.{slice_get}
use Rattle.std.proofs.Math.Nat.{le-max_left}
use Rattle.bucket_rules.specs.Packets.{bearing, last_clock, round_clock, round_start}
use Rattle.bucket_rules.specs.declared.fixed.Fixed.{Fixed}
use Rattle.bucket_laws.proofs.Listing.{bearing_has}
use Rattle.capture_index.proofs.Indexed.{clock_push}
use Rattle.suri_base.specs.Capture.{AreFactsOf, AreSeenOf, IsCapture, IsSeenOf, clocks_after}
use Rattle.suri_base.specs.Clock.{clock_of}
use Rattle.suri_base.specs.declared.facts.Facts.{Facts}
use Rattle.suri_base.specs.declared.frame.Frame.{Frame}
use Rattle.suri_base.specs.declared.seen.Seen.{Seen}
use Rattle.suri_base.specs.declared.seen.Seen.TheVariants.{Bears}

one_more : (before : List Frame) (f : Frame) → clock_of before ≤ clock_of (before ++ f ∷ [])
one_more before f = subst (λ (n : ℕ). clock_of before ≤ n) (sym (clock_push before f)) (le-max_left (clock_of before) f.time)

more : (before frames : List Frame) → clock_of before ≤ clock_of (before ++ frames)
more before [] = subst (λ (l : List Frame). clock_of before ≤ clock_of l) (sym (append-nil before)) (omega arith)
more before (f ∷ frames) =
    let first = one_more before f in
    let rest = subst (λ (l : List Frame). clock_of (before ++ f ∷ []) ≤ clock_of l) (append_assoc before (f ∷ []) frames) (more (before ++ f ∷ []) frames) in
    omega (arith, first, rest)

-- the clocks at some frames are not below that of those before them
above : (before frames : List Frame) (i : ℕ) → i < length frames → clock_of before ≤ get_or (clocks_after before frames) i 0
above before [] i h = absurd (omega (arith, h))
above before (f ∷ frames) zero h = one_more before f
above before (f ∷ frames) (suc i) h =
    let first = one_more before f in
    let rest = above (before ++ f ∷ []) frames i (omega (arith, h)) in
    omega (arith, first, rest)

rise : (before frames : List Frame) (i j : ℕ) → i ≤ j → j < length frames → get_or (clocks_after before frames) i 0 ≤ get_or (clocks_after before frames) j 0
rise before [] i j l h = absurd (omega (arith, h))
rise before (f ∷ frames) zero zero l h = omega arith
rise before (f ∷ frames) zero (suc j) l h = above (before ++ f ∷ []) frames j (omega (arith, h))
rise before (f ∷ frames) (suc i) zero l h = absurd (omega (arith, l))
rise before (f ∷ frames) (suc i) (suc j) l h = rise (before ++ f ∷ []) frames i j (omega (arith, l)) (omega (arith, h))

to_last : (before frames : List Frame) (i : ℕ) → i < length frames → get_or (clocks_after before frames) i 0 ≤ clock_of (before ++ frames)
to_last before [] i h = absurd (omega (arith, h))
to_last before (f ∷ frames) zero h =
    subst (λ (l : List Frame). clock_of (before ++ f ∷ []) ≤ clock_of l) (append_assoc before (f ∷ []) frames) (more (before ++ f ∷ []) frames)
to_last before (f ∷ frames) (suc i) h =
    subst (λ (l : List Frame). get_or (clocks_after (before ++ f ∷ []) frames) i 0 ≤ clock_of l) (append_assoc before (f ∷ []) frames)
    (to_last (before ++ f ∷ []) frames i (omega (arith, h)))

-- a packet has the clock of its frame
own_clock : (size : ℕ) (frames : List Frame) (clocks : List ℕ) (seen : List Seen) (n : ℕ) (t : Facts) → AreSeenOf size frames clocks seen
    → slice_get seen n ≡ Some (Bears t) → (n < length frames) × (t.clock ≡ get_or clocks n 0)
own_clock size (g ∷ frames) (clock ∷ clocks) (s ∷ seen) zero t are is =
    let bears : s ≡ Bears t = cc in
    let own : AreFactsOf size g clock t = subst (λ (x : Seen). IsSeenOf size g clock x) bears are.0 in
    (omega arith, own.clock)
own_clock size (g ∷ frames) (clock ∷ clocks) (s ∷ seen) (suc n) t are is =
    let rest = own_clock size frames clocks seen n t are.1 is in
    (omega (arith, rest.0), rest.1)
own_clock size frames clocks [] n t are is = cc
own_clock size [] [] (s ∷ seen) n t are is = absurd are
own_clock size [] (clock ∷ clocks) (s ∷ seen) n t are is = absurd are
own_clock size (g ∷ frames) [] (s ∷ seen) n t are is = absurd are

module _ (s : Fixed) (is : IsCapture s.capture) where
  -- a packet behind the frames before a round comes by a clock that isn't below the round's
  pub round_before : (round n : ℕ) (t : Facts) → bearing s.capture n ≡ Some t → round_start s round < n → round_clock s round ≤ t.clock
  round_before round n t b l =
      let has = bearing_has s.capture n t b in
      let own = own_clock (length s.capture.bytes) s.capture.frames s.capture.clocks s.capture.seen (n - 1) t is.seen has.1 in
      let up = rise [] s.capture.frames (round_start s round) (n - 1) (omega (arith, l)) own.0 in
      let here = subst (λ (cs : List ℕ). get_or cs (round_start s round) 0 ≤ get_or cs (n - 1) 0) (sym is.clocks) up in
      subst (λ (c : ℕ). round_clock s round ≤ c) (sym own.1) here

  -- the last clock isn't below that of a round
  pub round_within : (round : ℕ) → round_start s round < length s.capture.frames → round_clock s round ≤ last_clock s
  round_within round l =
      let up = to_last [] s.capture.frames (round_start s round) l in
      subst (λ (cs : List ℕ). get_or cs (round_start s round) 0 ≤ last_clock s) (sym is.clocks) up
