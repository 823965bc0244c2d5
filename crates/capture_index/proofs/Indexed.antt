-- The capture that was decoded: its parts fit together, and its packets stand in order.
use Rattle.std.proofs.Common.{◌≡◌, ℕ, suc, ◌+◌, ◌^◌, ◌<◌, ◌≤◌, List, [], ◌∷◌, ◌++◌, length, get_or, take, drop, map, max, fold, refl, ap, sym, ◌∙◌, subst, append_assoc, append-nil, arith}
use Rattle.std.proofs.lemmas.Grind.{take_at_read}
use Rattle.std.proofs.lemmas.List.{drop_all, drop_more}
use Rattle.std.proofs.lemmas.List.Sums.{fold_push}
use Rattle.suri_base.specs.Capture.{AreSeenOf, IsCapture, clocks_after, packets_in}
use Rattle.suri_base.specs.Clock.{clock_of}
use Rattle.suri_base.specs.Frames.{AreNumbered}
use Rattle.suri_base.specs.declared.frame.Frame.{Frame}
use Rattle.suri_base.specs.declared.seen.Seen.{Seen}
use Rattle.suri_base.specs.declared.seen.Seen.TheVariants.{Bears, Counted}
use Rattle.suri_base.specs.declared.slot.Slot.{Slot}
use Rattle.capture_index.specs.Decode.{AreRead, IsRead, all_seen}
use Rattle.capture_index.specs.Links.{AreAt, linked}
use Rattle.capture_index.specs.Pieces.{pieces_of}
use Rattle.capture_index.specs.Order.{AreInOrder}
use Rattle.capture_index.proofs.Laws.{clocks_count, linked_are, linked_in_order, linked_seen}
use Rattle.capture_index.proofs.Parts.{seen_count}

-- the clock after one frame more
pub clock_push : (before : List Frame) (f : Frame) → clock_of (before ++ f ∷ []) ≡ max (clock_of before) f.time
clock_push before f =
    ap (λ l. fold max 0 l) (times before) ∙ fold_push max 0 (map (λ g. g.time) before) f.time
  where
    times : (fs : List Frame) → map (λ g. g.time) (fs ++ f ∷ []) ≡ map (λ g. g.time) fs ++ f.time ∷ []
    times [] = refl
    times (g ∷ fs) = ap (λ l. g.time ∷ l) (times fs)

-- what became of each frame beside the others
abbrev pub EachRead : ℕ → List Frame → List ℕ → List Seen → Type 0
EachRead size [] [] [] = Unit {0}
EachRead size (f ∷ frames) (clock ∷ clocks) (s ∷ seen) = IsRead size f clock s × EachRead size frames clocks seen
EachRead size _ _ _ = ⊥

each_read : (size : ℕ) (frames : List Frame) (clocks : List ℕ) (seen : List Seen) → length clocks ≡ length frames → length seen ≡ length frames
    → ((k : ℕ) (f : Frame) (c : ℕ) (s : Seen) → k < length frames → IsRead size (get_or frames k f) (get_or clocks k c) (get_or seen k s)) → EachRead size frames clocks seen
each_read size [] [] [] e g are = tt
each_read size (f ∷ frames) (c ∷ clocks) (s ∷ seen) e g are =
    (are 0 f c s (omega arith), each_read size frames clocks seen (omega (arith, e)) (omega (arith, g)) (λ k f c s low. are (suc k) f c s (omega (arith, low))))
each_read size [] (c ∷ clocks) seen e g are = absurd (omega (arith, e))
each_read size [] [] (s ∷ seen) e g are = absurd (omega (arith, g))
each_read size (f ∷ frames) [] seen e g are = absurd (omega (arith, e))
each_read size (f ∷ frames) (c ∷ clocks) [] e g are = absurd (omega (arith, g))

read_own : (size : ℕ) (frames : List Frame) (clocks : List ℕ) (seen : List Seen) → EachRead size frames clocks seen → AreSeenOf size frames clocks seen
read_own size [] [] [] are = tt
read_own size (g ∷ frames) (c ∷ clocks) (r ∷ seen) are = (are.0.own, read_own size frames clocks seen are.1)
read_own size [] [] (r ∷ seen) are = absurd are
read_own size [] (c ∷ clocks) seen are = absurd are
read_own size (g ∷ frames) [] seen are = absurd are
read_own size (g ∷ frames) (c ∷ clocks) [] are = absurd are

-- the packets of numbered frames stand in order
in_order : (size number above : ℕ) (before frames : List Frame) (seen : List Seen) → size ≤ 2 ^ 30 → AreNumbered size number frames → clock_of before < 2 ^ 63 → above ≤ number
    → EachRead size frames (clocks_after before frames) seen → AreInOrder above (packets_in seen)
in_order size number above before [] [] fits are small low read = tt
in_order size number above before (f ∷ frames) (Bears g ∷ seen) fits are small low read =
    let now : clock_of (before ++ f ∷ []) < 2 ^ 63 = rw (clock_push before f) (omega (arith, small, are.1)) in
    let own = read.0.own in
    let no_is : g.no ≡ number + 1 = own.number ∙ are.0 in (
      omega (arith, no_is, low),
      subst (λ (n : ℕ). n < 2 ^ 63) (sym own.clock) now,
      omega (arith, read.0.len g refl, are.2, fits),
      read.0.nameable g refl,
      in_order size (number + 1) g.no (before ++ f ∷ []) frames seen fits are.3 now (omega (arith, no_is)) read.1,
    )
in_order size number above before (f ∷ frames) (Counted counter ∷ seen) fits are small low read =
    let now : clock_of (before ++ f ∷ []) < 2 ^ 63 = rw (clock_push before f) (omega (arith, small, are.1)) in
    in_order size (number + 1) above (before ++ f ∷ []) frames seen fits are.3 now (omega (arith, low)) read.1
in_order size number above before [] (s ∷ seen) fits are small low read = absurd read
in_order size number above before (f ∷ frames) [] fits are small low read = absurd read

-- what is known of the loop that makes the clocks, when it has come so far
pub record Clocked (frames : List Frame) (i clock : ℕ) (clocks : List ℕ) : Type 0 where
  pub now : clock ≡ clock_of (take i frames)
  pub left : clocks ++ clocks_after (take i frames) (drop i frames) ≡ clocks_after [] frames

-- one frame more
pub clocked_more : (frames : List Frame) (i clock next : ℕ) (clocks clocks_now : List ℕ) (d f : Frame) → Clocked frames i clock clocks → i < length frames → f ≡ get_or frames i d
    → next ≡ max clock f.time → clocks_now ≡ clocks ++ next ∷ [] → Clocked frames (i + 1) next clocks_now
clocked_more frames i clock next clocks clocks_now d f so low is next_is clocks_are =
    let cons : drop i frames ≡ f ∷ drop (i + 1) frames = drop_more frames i d low ∙ ap (λ (g : Frame). g ∷ drop (i + 1) frames) (sym is) in
    let more : take (i + 1) frames ≡ take i frames ++ f ∷ [] = (take_at_read frames i d low).1 ∙ ap (λ (g : Frame). take i frames ++ g ∷ []) (sym is) in
    let now : next ≡ clock_of (take i frames ++ f ∷ []) = next_is ∙ ap (λ (n : ℕ). max n f.time) so.now ∙ sym (clock_push (take i frames) f) in
    let left : clocks ++ clocks_after (take i frames) (f ∷ drop (i + 1) frames) ≡ clocks_after [] frames = subst (λ (l : List Frame). clocks ++ clocks_after (take i frames) l ≡ clocks_after [] frames) cons so.left in
    record {
      now = now ∙ ap clock_of (sym more);
      left = rw (more, clocks_are, append_assoc, now) left;
    }

-- after the last frame
pub clocked_all : (frames : List Frame) (i clock : ℕ) (clocks : List ℕ) → Clocked frames i clock clocks → length frames ≤ i → clocks ≡ clocks_after [] frames
clocked_all frames i clock clocks so all =
    sym (append-nil clocks) ∙ ap (λ (l : List Frame). clocks ++ clocks_after (take i frames) l) (sym (drop_all i frames all)) ∙ so.left

numbered_seen : (size before : ℕ) (frames : List Frame) (clocks : List ℕ) (seen : List Seen) → AreNumbered size before frames → EachRead size frames clocks seen → AreAt (before + 1) seen
numbered_seen size before [] [] [] are read = tt
numbered_seen size before (f ∷ frames) (c ∷ clocks) (Bears g ∷ seen) are read = (read.0.own.number ∙ are.0, numbered_seen size (before + 1) frames clocks seen are.3 read.1)
numbered_seen size before (f ∷ frames) (c ∷ clocks) (Counted d ∷ seen) are read = (tt, numbered_seen size (before + 1) frames clocks seen are.3 read.1)
numbered_seen size before [] [] (s ∷ seen) are read = absurd read
numbered_seen size before [] (c ∷ clocks) seen are read = absurd read
numbered_seen size before (f ∷ frames) [] seen are read = absurd read
numbered_seen size before (f ∷ frames) (c ∷ clocks) [] are read = absurd read

-- what was decoded of lists is told of the lists that they are
moved : (P : List ℕ → List Frame → List ℕ → Type 0) (b bytes : List ℕ) (f frames : List Frame) (k clocks : List ℕ) → b ≡ bytes → f ≡ frames → k ≡ clocks → P b f k → P bytes frames clocks
moved P b bytes f frames k clocks first second third is =
    subst (λ (l : List ℕ). P bytes frames l) third (subst (λ (l : List Frame). P bytes l k) second (subst (λ (l : List ℕ). P l f k) first is))

module _ (link : ℕ) (b bytes : List ℕ) (g f frames : List Frame) (k clocks : List ℕ) (bytes_are : b ≡ bytes) (first : g ≡ frames) (frames_are : f ≡ frames) (clocks_are : k ≡ clocks)
    (made : clocks ≡ clocks_after [] g) (read : AreRead (length b) 0 (length f) f k (all_seen link b f k)) (numbered : AreNumbered (length bytes) 0 frames) where
  pub at_clocks : clocks ≡ clocks_after [] frames
  at_clocks = made ∙ ap (λ (l : List Frame). clocks_after [] l) first

  as_many : length clocks ≡ length frames
  as_many = ap length at_clocks ∙ clocks_count [] frames

  each : EachRead (length bytes) frames clocks (all_seen link bytes frames clocks)
  each =
      let are : AreRead (length bytes) 0 (length frames) frames clocks (all_seen link bytes frames clocks) =
      moved (λ l m n. AreRead (length l) 0 (length m) m n (all_seen link l m n)) b bytes f frames k clocks bytes_are frames_are clocks_are read in
      each_read (length bytes) frames clocks (all_seen link bytes frames clocks) as_many (seen_count link bytes frames clocks as_many) (λ i f c s low. are i f c s (omega arith) low low)

  pub kept : (size : ℕ) (lists : List (List Slot)) → lists ≡ pieces_of size (all_seen link b f k) → lists ≡ pieces_of size (all_seen link bytes frames clocks)
  kept size lists is = moved (λ l m n. lists ≡ pieces_of size (all_seen link l m n)) b bytes f frames k clocks bytes_are frames_are clocks_are is

  pub count : length (all_seen link bytes frames clocks) ≡ length frames
  count = seen_count link bytes frames clocks as_many

  pub numbered_from : AreAt 1 (all_seen link bytes frames clocks)
  numbered_from = numbered_seen (length bytes) 0 frames clocks (all_seen link bytes frames clocks) numbered each

  -- the parts of the capture fit together
  pub is_capture : (cut : ℕ) → length frames ≤ 4194304 → IsCapture (record { bytes = bytes; frames = frames; clocks = clocks; seen = linked (all_seen link bytes frames clocks); cut_bytes = cut })
  is_capture cut few = record {
    few = few;
    numbered = numbered;
    clocks = at_clocks;
    seen = linked_seen (length bytes) frames clocks (all_seen link bytes frames clocks) (read_own (length bytes) frames clocks (all_seen link bytes frames clocks) each);
    linked = linked_are (all_seen link bytes frames clocks);
  }

  -- its packets stand in order
  pub all_in_order : length bytes ≤ 2 ^ 30 → AreInOrder 0 (packets_in (linked (all_seen link bytes frames clocks)))
  all_in_order fits =
      linked_in_order 0 (all_seen link bytes frames clocks)
      (in_order (length bytes) 0 0 [] frames (all_seen link bytes frames clocks) fits numbered (omega arith) (omega arith)
      (subst (λ (l : List ℕ). EachRead (length bytes) frames l (all_seen link bytes frames clocks)) at_clocks each))
