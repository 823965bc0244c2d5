-- The facts that a capture has for a frame.
use Rattle.std.proofs.Common.{◌≡◌, ℕ, zero, suc, ◌+◌, ◌-◌, ◌^◌, ◌<◌, ◌≤◌, List, [], ◌∷◌, ◌++◌, length, Option, Some, None, refl, ap, sym, ◌∙◌, subst, arith}
use Rattle.std.specs.Prelude.{slice_get, fold, map, max}
use Rattle.std.proofs.lemmas.Option.{slice_get_within}
use Rattle.suri_base.specs.Capture.{AreFactsOf, AreSeenOf, IsSeenOf, Captured, HasFacts, IsCapture, clocks_after}
use Rattle.suri_base.specs.Clock.{clock_of}
use Rattle.suri_base.specs.Frames.{AreNumbered}
use Rattle.suri_base.specs.declared.facts.Facts.{Facts}
use Rattle.suri_base.specs.declared.frame.Frame.{Frame}
use Rattle.suri_base.specs.declared.seen.Seen.{Seen}
use Rattle.suri_base.specs.declared.seen.Seen.TheVariants.{Bears, Counted}
use Rattle.suri_base.proofs.Captures.{facts_at}
use Rattle.bucket_rules.specs.Packets.{bearing, facts_of_seen}

seen_bears : (o : Option Seen) (t : Facts) → facts_of_seen o ≡ Some t → o ≡ Some (Bears t)
seen_bears None t e = cc
seen_bears (Some (Bears f)) t e = let m : f ≡ t = cc in ap (λ (x : Facts). Some (Bears x)) m
seen_bears (Some (Counted n)) t e = cc

pub has_facts : (c : Captured) (f : ℕ) (t : Facts) → bearing c f ≡ Some t → HasFacts c f t
has_facts c zero t e = cc
has_facts c (suc n) t e =
    let k : suc n - 1 ≡ n = omega arith in
    (omega arith, subst (λ (m : ℕ). slice_get c.seen m ≡ Some (Bears t)) (sym k) (seen_bears (slice_get c.seen n) t e))

pub bearing_from : (c : Captured) (f : ℕ) (t : Facts) → HasFacts c f t → bearing c f ≡ Some t
bearing_from c zero t h = absurd (let k = h.0 in omega (arith, k))
bearing_from c (suc n) t h =
    let k : suc n - 1 ≡ n = omega arith in
    ap facts_of_seen (subst (λ (m : ℕ). slice_get c.seen m ≡ Some (Bears t)) k h.1)

pub bearing_number : (c : Captured) (f : ℕ) (t : Facts) → IsCapture c → bearing c f ≡ Some t → t.no ≡ f
bearing_number c f t is e = (facts_at c is f t (has_facts c f t e)).0

pub bearing_positive : (c : Captured) (f : ℕ) (t : Facts) → bearing c f ≡ Some t → 1 ≤ f
bearing_positive c f t e = (has_facts c f t e).0

pub bearing_within : (c : Captured) (f : ℕ) (t : Facts) → bearing c f ≡ Some t → f ≤ length c.seen
bearing_within c zero t e = omega arith
bearing_within c (suc n) t e = let k = slice_get_within c.seen n (Bears t) (seen_bears (slice_get c.seen n) t e) in omega (arith, k)

-- clocks are early

early_fold : (acc : ℕ) (fs : List Frame) → acc < 2 ^ 63 → ((k : ℕ) (f : Frame) → slice_get fs k ≡ Some f → f.time < 2 ^ 63)
    → fold max acc (map (λ f. f.time) fs) < 2 ^ 63
early_fold acc [] h k = h
early_fold acc (f ∷ fs) h k = let t = k 0 f refl in early_fold (max acc f.time) fs (omega (arith, h, t)) (λ i g e. k (suc i) g e)

with_last : (before : List Frame) (g : Frame) → ((k : ℕ) (h : Frame) → slice_get before k ≡ Some h → h.time < 2 ^ 63) → g.time < 2 ^ 63
    → (k : ℕ) (h : Frame) → slice_get (before ++ g ∷ []) k ≡ Some h → h.time < 2 ^ 63
with_last [] g early late zero h e = let m : g ≡ h = cc in subst (λ (x : Frame). x.time < 2 ^ 63) m late
with_last [] g early late (suc k) h e = cc
with_last (b ∷ before) g early late zero h e = early 0 h e
with_last (b ∷ before) g early late (suc k) h e = with_last before g (λ i x u. early (suc i) x u) late k h e

early_clock : (before frames : List Frame) (clocks : List ℕ) (seen : List Seen) (size n m : ℕ) (f : Facts)
    → clocks ≡ clocks_after before frames → AreNumbered size m frames → AreSeenOf size frames clocks seen
    → slice_get seen n ≡ Some (Bears f) → ((k : ℕ) (g : Frame) → slice_get before k ≡ Some g → g.time < 2 ^ 63) → f.clock < 2 ^ 63
early_clock before (g ∷ frames) (clock ∷ clocks) (s ∷ seen) size zero m f e numbered are is early =
    let bears : s ≡ Bears f = cc in
    let own : AreFactsOf size g clock f = subst (λ (x : Seen). IsSeenOf size g clock x) bears are.0 in
    let now : clock ≡ clock_of (before ++ g ∷ []) = cc in
    subst (λ (x : ℕ). x < 2 ^ 63) (sym (own.clock ∙ now)) (early_fold 0 (before ++ g ∷ []) (omega arith) (with_last before g early numbered.1))
early_clock before (g ∷ frames) (clock ∷ clocks) (s ∷ seen) size (suc n) m f e numbered are is early =
    let rest : clocks ≡ clocks_after (before ++ g ∷ []) frames = cc in
    early_clock (before ++ g ∷ []) frames clocks seen size n (m + 1) f rest numbered.3 are.1 is (with_last before g early numbered.1)
early_clock before frames clocks [] size n m f e numbered are is early = cc
early_clock before [] [] (s ∷ seen) size n m f e numbered are is early = absurd are
early_clock before [] (clock ∷ clocks) (s ∷ seen) size n m f e numbered are is early = absurd are
early_clock before (g ∷ frames) [] (s ∷ seen) size n m f e numbered are is early = absurd are

pub bearing_clock : (c : Captured) (f : ℕ) (t : Facts) → IsCapture c → bearing c f ≡ Some t → t.clock < 2 ^ 63
bearing_clock c f t is e = early_clock [] c.frames c.clocks c.seen (length c.bytes) (f - 1) 0 t is.clocks is.numbered is.seen (has_facts c f t e).1 (λ k g u. cc)
