-- Packets that were given their next ones are linked, and stay those of their frames.
use Rattle.std.proofs.Common.{◌≡◌, ℕ, suc, cond, List, [], ◌∷◌, ◌++◌, length, refl, ap, sym, ◌∙◌}
use Rattle.pcap_read.specs.File.{CaptureFile}
use Rattle.suri_base.specs.Capture.{AreLinked, AreSeenOf, IsSeenOf, clocks_after, next_in, packets_in}
use Rattle.suri_base.specs.Keys.{same_key}
use Rattle.suri_base.specs.declared.frame.Frame.{Frame}
use Rattle.suri_base.specs.declared.key.Key.{Key}
use Rattle.suri_base.specs.declared.seen.Seen.{Seen}
use Rattle.suri_base.specs.declared.seen.Seen.TheVariants.{Bears, Counted}
use Rattle.capture_index.specs.Decode.{all_seen}
use Rattle.capture_index.specs.Index.{captured_of}
use Rattle.capture_index.specs.Links.{linked, linked_one}
use Rattle.capture_index.specs.Order.{AreInOrder}
use Rattle.capture_index.proofs.Nexts.{next_push}
use Rattle.capture_index.proofs.Parts.{seen_count}

-- the next frame of a key is the same among frames that were given theirs
next_kept : (k : Key) (seen : List Seen) → next_in k (linked seen) ≡ next_in k seen
next_kept k [] = refl
next_kept k (Bears f ∷ seen) =
    next_push k (record f { next = next_in f.key seen }) (linked seen) ∙ ap (λ (n : ℕ). cond (same_key f.key k) f.no n) (next_kept k seen) ∙ sym (next_push k f seen)
next_kept k (Counted c ∷ seen) = next_kept k seen

pub linked_are : (seen : List Seen) → AreLinked (linked seen)
linked_are [] = tt
linked_are (Bears f ∷ seen) = (sym (next_kept f.key seen), linked_are seen)
linked_are (Counted c ∷ seen) = linked_are seen

pub linked_count : (seen : List Seen) → length (linked seen) ≡ length seen
linked_count [] = refl
linked_count (s ∷ seen) = ap suc (linked_count seen)

one_own : (size : ℕ) (frame : Frame) (clock : ℕ) (s : Seen) (behind : List Seen) → IsSeenOf size frame clock s → IsSeenOf size frame clock (linked_one s behind)
one_own size frame clock (Bears f) behind own = record {
  number = own.number;
  time = own.time;
  clock = own.clock;
  inside = own.inside;
  tcp = own.tcp;
  icmp = own.icmp;
  key = own.key;
}
one_own size frame clock (Counted c) behind own = tt

-- what became of each frame stays its own
pub linked_seen : (size : ℕ) (frames : List Frame) (clocks : List ℕ) (seen : List Seen) → AreSeenOf size frames clocks seen → AreSeenOf size frames clocks (linked seen)
linked_seen size [] [] [] are = tt
linked_seen size (f ∷ frames) (c ∷ clocks) (s ∷ seen) are = (one_own size f c s seen are.0, linked_seen size frames clocks seen are.1)
linked_seen size [] [] (s ∷ seen) are = absurd are
linked_seen size [] (c ∷ clocks) seen are = absurd are
linked_seen size (f ∷ frames) [] seen are = absurd are
linked_seen size (f ∷ frames) (c ∷ clocks) [] are = absurd are

-- the packets stay in order
pub linked_in_order : (above : ℕ) (seen : List Seen) → AreInOrder above (packets_in seen) → AreInOrder above (packets_in (linked seen))
linked_in_order above [] order = tt
linked_in_order above (Bears f ∷ seen) order = (order.0, order.1, order.2, order.3, linked_in_order f.no seen order.4)
linked_in_order above (Counted c ∷ seen) order = linked_in_order above seen order

pub clocks_count : (before frames : List Frame) → length (clocks_after before frames) ≡ length frames
clocks_count before [] = refl
clocks_count before (f ∷ frames) = ap suc (clocks_count (before ++ f ∷ []) frames)

-- what becomes of frames is told for each
pub captured_count : (bytes : List ℕ) (file : CaptureFile) → length (captured_of bytes file).seen ≡ length file.frames
captured_count bytes file =
    linked_count (all_seen file.link bytes file.frames (clocks_after [] file.frames)) ∙ seen_count file.link bytes file.frames (clocks_after [] file.frames) (clocks_count [] file.frames)
