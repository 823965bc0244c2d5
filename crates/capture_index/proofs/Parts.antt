-- Parts of the list of what becomes of each frame.
use Rattle.std.proofs.Common.{◌≡◌, ℕ, zero, suc, ◌+◌, ◌-◌, ◌<◌, ◌≤◌, List, [], ◌∷◌, ◌++◌, refl, ap, sym, ◌∙◌, take, drop, length, map, append-nil, get_or, subst, length-take, length-drop, arith, ◌⊎◌, inl, inr}
use Rattle.std.proofs.lemmas.Bool.{cases_lt}
use Rattle.std.proofs.lemmas.List.{drop_all, get_or-drop, get_or_default, map_more, take_all}
use Rattle.std.specs.Prelude.{OnOk, Result, Ok, Err}
use Rattle.suri_base.specs.Frames.{AreNumbered}
use Rattle.capture_index.specs.Decode.{AreRead, IsRead, all_seen, frame_bytes, seen_of}
use Rattle.packet_decode.specs.Layers.{view_of}
use Rattle.suri_base.specs.Capture.{IsSeenOf}
use Rattle.suri_base.specs.Keys.{IsNameable}
use Rattle.suri_base.specs.declared.facts.Facts.{Facts}
use Rattle.suri_base.specs.declared.frame.Frame.{Frame}
use Rattle.suri_base.specs.Slot.{packed}
use Rattle.suri_base.specs.declared.seen.Seen.{Seen}
use Rattle.suri_base.specs.declared.seen.Seen.TheVariants.{Bears, Counted}
use Rattle.suri_base.specs.declared.slot.Slot.{Slot}
use Rattle.capture_index.proofs.Decoded.{facts_len}

-- as many as there are frames
pub seen_count : (link : ℕ) (bytes : List ℕ) (frames : List Frame) (clocks : List ℕ) → length clocks ≡ length frames → length (all_seen link bytes frames clocks) ≡ length frames
seen_count link bytes [] [] e = refl
seen_count link bytes [] (c ∷ clocks) e = refl
seen_count link bytes (f ∷ frames) [] e = absurd (omega (arith, e))
seen_count link bytes (f ∷ frames) (c ∷ clocks) e = ap suc (seen_count link bytes frames clocks (omega (arith, e)))

-- the one at a place
pub seen_read : (link : ℕ) (bytes : List ℕ) (frames : List Frame) (clocks : List ℕ) (k : ℕ) (d : Seen) (f : Frame) (c : ℕ) → length clocks ≡ length frames → k < length frames
    → get_or (all_seen link bytes frames clocks) k d ≡ seen_of link (get_or frames k f) (get_or clocks k c) (frame_bytes bytes (get_or frames k f))
seen_read link bytes [] clocks k d f c e low = absurd (omega (arith, low))
seen_read link bytes (g ∷ frames) [] k d f c e low = absurd (omega (arith, e))
seen_read link bytes (g ∷ frames) (b ∷ clocks) zero d f c e low = refl
seen_read link bytes (g ∷ frames) (b ∷ clocks) (suc k) d f c e low = seen_read link bytes frames clocks k d f c (omega (arith, e)) (omega (arith, low))

-- a frame of the capture lies inside it
pub lies_inside : (size before : ℕ) (frames : List Frame) (k : ℕ) (f : Frame) → AreNumbered size before frames → k < length frames → (get_or frames k f).at + (get_or frames k f).len ≤ size
lies_inside size before [] k f are low = absurd (omega (arith, low))
lies_inside size before (g ∷ frames) zero f are low = are.2
lies_inside size before (g ∷ frames) (suc k) f are low = lies_inside size (before + 1) frames k f are.3 (omega (arith, low))

-- what is kept of a part, and one more
pub part_more : (whole : List Seen) (items now : List Slot) (from k : ℕ) (s : Seen) (slot : Slot) → from ≤ k → k < length whole → items ≡ map packed (take (k - from) (drop from whole)) → s ≡ get_or whole k s
    → slot ≡ packed s → now ≡ items ++ slot ∷ [] → now ≡ map packed (take (k + 1 - from) (drop from whole))
part_more whole items now from k s slot after low so is kept now_is =
    let at : from + (k - from) ≡ k = omega (arith, after) in
    let more : k - from + 1 ≡ k + 1 - from = omega (arith, after) in
    let read : get_or (drop from whole) (k - from) s ≡ s = get_or-drop from whole (k - from) s ∙ ap (λ (n : ℕ). get_or whole n s) at ∙ sym is in
    let room : k - from < length (drop from whole) = simp (length-drop) (omega (arith, after, low)) in
    now_is ∙ ap (λ (l : List Slot). l ++ slot ∷ []) so ∙ ap (λ (x : Slot). map packed (take (k - from) (drop from whole)) ++ x ∷ []) (kept ∙ ap packed (sym read))
    ∙ sym (map_more packed (drop from whole) (k - from) s room) ∙ ap (λ (n : ℕ). map packed (take n (drop from whole))) more

-- the part between two places that are cut at the end
pub piece_is : {X : Type 0} (whole : List X) (size place from to : ℕ) → (place ≤ length whole → from ≡ place) → (length whole < place → from ≡ length whole)
    → (from + size ≤ length whole → to ≡ from + size) → (length whole < from + size → to ≡ length whole) → take (to - from) (drop from whole) ≡ take size (drop place whole)
piece_is whole size place from to near far room full = by (cases_lt (length whole) place) (cases_lt (length whole) (from + size))
  where
    by : (length whole < place) ⊎ (place ≤ length whole) → (length whole < from + size) ⊎ (from + size ≤ length whole) → take (to - from) (drop from whole) ≡ take size (drop place whole)
    by (inr h) (inr g) =
        let n : to - from ≡ size = omega (arith, room g) in
        ap (λ (k : ℕ). take k (drop from whole)) n ∙ ap (λ (k : ℕ). take size (drop k whole)) (near h)
    by (inr h) (inl g) =
        let all : length (drop from whole) ≤ to - from = simp (length-drop) (omega (arith, full g)) in
        let wide : length (drop from whole) ≤ size = simp (length-drop) (omega (arith, g)) in
        take_all (to - from) (drop from whole) all ∙ sym (take_all size (drop from whole) wide) ∙ ap (λ (k : ℕ). take size (drop k whole)) (near h)
    by (inl h) g =
        let none : drop from whole ≡ [] = drop_all from whole (omega (arith, far h)) in
        let none_either : drop place whole ≡ [] = drop_all place whole (omega (arith, h)) in
        let all : length (drop from whole) ≤ to - from = simp (length-drop) (omega (arith, far h)) in
        let wide : length (drop place whole) ≤ size = simp (length-drop) (omega (arith, h)) in
        take_all (to - from) (drop from whole) all ∙ none ∙ sym none_either ∙ sym (take_all size (drop place whole) wide)

-- the payload of a frame inside the capture lies inside it
own_wider : (near size : ℕ) (frame : Frame) (clock : ℕ) (s : Seen) → near ≤ size → IsSeenOf near frame clock s → IsSeenOf size frame clock s
own_wider near size frame clock (Bears f) wide own = record {
  number = own.number;
  time = own.time;
  clock = own.clock;
  inside = omega (arith, own.inside, wide);
  tcp = own.tcp;
  icmp = own.icmp;
  key = own.key;
}
own_wider near size frame clock (Counted counter) wide own = tt

-- what becomes of a frame in the capture is read of it
pub is_read : (near size link : ℕ) (frame : Frame) (clock : ℕ) (bytes : List ℕ) → near ≤ size → IsSeenOf near frame clock (seen_of link frame clock bytes)
    → ((f : Facts) → seen_of link frame clock bytes ≡ Bears f → IsNameable f.key) → IsRead size frame clock (seen_of link frame clock bytes)
unfolding seen_of
is_read near size link frame clock bytes wide own nameable =
    record {
      own = own_wider near size frame clock (seen_of link frame clock bytes) wide own;
      nameable = nameable;
      len = facts_len frame clock (view_of link bytes);
    }

-- what is captured of a frame is as many bytes as it has
pub captured : (bytes : List ℕ) (at len : ℕ) → take (at + len - at) (drop at bytes) ≡ take len (drop at bytes)
captured bytes at len =
    let n : at + len - at ≡ len = omega arith in
    ap (λ (k : ℕ). take k (drop at bytes)) n

pub near_fits : (bytes : List ℕ) (at len : ℕ) → at + len ≤ length bytes → at + length (take (at + len - at) (drop at bytes)) ≤ length bytes
near_fits bytes at len fits = simp (length-take, length-drop) (omega (arith, fits))

-- one frame more is read
pub read_more : (size from i : ℕ) (frames : List Frame) (clocks : List ℕ) (seen : List Seen) (f : Frame) (c : ℕ) (s : Seen) → i < length frames → length clocks ≡ length frames → length seen ≡ length frames
    → AreRead size from i frames clocks seen → s ≡ get_or seen i s → IsRead size (get_or frames i f) (get_or clocks i c) s → AreRead size from (i + 1) frames clocks seen
read_more size from i frames clocks seen f c s low as_many count so at one k g b t after before within = by (cases_lt k i)
  where
    by : (k < i) ⊎ (i ≤ k) → IsRead size (get_or frames k g) (get_or clocks k b) (get_or seen k t)
    by (inl h) = so k g b t after h within
    by (inr h) =
        let same : i ≡ k = omega (arith, h, before) in
        let frame : get_or frames i f ≡ get_or frames k g = get_or_default frames i f g low ∙ ap (λ (n : ℕ). get_or frames n g) same in
        let clock : get_or clocks i c ≡ get_or clocks k b = get_or_default clocks i c b (omega (arith, low, as_many)) ∙ ap (λ (n : ℕ). get_or clocks n b) same in
        let is : s ≡ get_or seen k t = at ∙ get_or_default seen i s t (omega (arith, low, count)) ∙ ap (λ (n : ℕ). get_or seen n t) same in
        subst (λ (x : Seen). IsRead size (get_or frames k g) (get_or clocks k b) x) is
        (subst (λ (n : ℕ). IsRead size (get_or frames k g) n s) clock (subst (λ (x : Frame). IsRead size x (get_or clocks i c) s) frame one))

-- a slice of a whole vector is written back whole
pub whole_back : {X : Type 0} (n : ℕ) (now old : List X) → length old ≡ n → length now ≡ n → take n (now ++ drop (length now) old) ≡ now
whole_back n now old was is =
    let none : drop (length now) old ≡ [] = drop_all (length now) old (omega (arith, was, is)) in
    rw none (ap (take n) (append-nil now) ∙ take_all n now (omega (arith, is)))

-- what follows from what a result comes with
pub ok_then : {A E : Type 0} {P Q : Type 0} (r : Result A E) → (P → Q) → OnOk r P → OnOk r Q
ok_then (Ok a) f p = f p
ok_then (Err e) f p = tt
