-- The records that were read so far.
use Rattle.std.proofs.Common.{◌≡◌, ℕ, ◌+◌, ◌<◌, ◌≤◌, List, [], ◌∷◌, ◌++◌, length, take, drop, refl, sym, ap, ◌∙◌, subst, arith, Result, Ok, Err, append_assoc, append-nil, length-append, take-append-drop}
use Rattle.std.proofs.lemmas.List.{drop-drop, length-take-le}
use Rattle.std.proofs.lemmas.List.Folds.{concat-append}
use Rattle.std.specs.List.{concat}
use Rattle.suri_base.specs.declared.frame.Frame.{Frame}
use Rattle.pcap_read.specs.declared.header.Header.{Header}
use Rattle.pcap_read.specs.declared.fault.PcapFault.{PcapFault}
use Rattle.pcap_read.specs.declared.fault.PcapFault.TheVariants.{TooMany, Long}
use Rattle.std.proofs.lemmas.Bool.Decides.{nat_tests}
use Rattle.pcap_read.specs.Header.{header_of}
use Rattle.pcap_read.specs.Records.{IsWhole, AreWhole, frame_of, frames_of, captured, ends_in, IsTail}
use Rattle.pcap_read.specs.File.{IsSpelled, CaptureFile, Concludes, Reads, whole}
use Rattle.pcap_read.proofs.Words.{captured-append}

-- these records stand before the place, and these are their frames
pub record SoFar (h : Header) (bytes : List ℕ) (at : ℕ) (frames : List Frame) : Type 0 where
  pub records : List (List ℕ)
  pub records_whole : AreWhole h records
  pub few : length records ≤ 4194304
  pub place : at ≡ 24 + length (concat records)
  pub joined : drop 24 bytes ≡ concat records ++ drop at bytes
  pub seen : frames ≡ frames_of h 0 24 records
  pub counted : length frames ≡ length records

pub at_start : (h : Header) (bytes : List ℕ) → SoFar h bytes 24 []
at_start h bytes = record { records = []; records_whole = tt; few = omega arith; place = refl; joined = refl; seen = refl; counted = refl }

AreWhole-push : (h : Header) (rs : List (List ℕ)) (r : List ℕ) → AreWhole h rs → IsWhole h r → AreWhole h (rs ++ r ∷ [])
AreWhole-push h [] r all last = (last, tt)
AreWhole-push h (q ∷ rs) r all last = (all.0, AreWhole-push h rs r all.1 last)

frames_of-push : (h : Header) (before at : ℕ) (rs : List (List ℕ)) (r : List ℕ)
    → frames_of h before at (rs ++ r ∷ []) ≡ frames_of h before at rs ++ frame_of h (before + length rs) (at + length (concat rs)) r ∷ []
frames_of-push h before at [] r =
    let a : before + 0 ≡ before = omega arith in
    let b : at + 0 ≡ at = omega arith in
    rw (a, b) refl
frames_of-push h before at (q ∷ rs) r =
    let a : before + 1 + length rs ≡ before + length (q ∷ rs) = omega arith in
    let b : at + length q + length (concat rs) ≡ at + length (concat (q ∷ rs)) = omega (arith, length-append q (concat rs)) in
    let step = frames_of-push h (before + 1) (at + length q) rs r in
    ap (λ fs. frame_of h before at q ∷ fs) (rw (a, b) at step)

-- the record that stands first in the bytes
first_whole : (h : Header) (rest : List ℕ) (size : ℕ) → 16 ≤ size → size ≤ length rest → captured h rest ≤ 262144 → size ≡ 16 + captured h rest → IsWhole h (take size rest)
first_whole h rest size long fits small is =
    let r : List ℕ = take size rest in
    let size_is : length (take size rest) ≡ size = length-take-le size rest fits in
    let sixteen : 16 ≤ length (take size rest) = omega arith in
    let same : captured h rest ≡ captured h (take size rest) =
    ap (captured h) (sym (take-append-drop size rest)) ∙ captured-append h (take size rest) (drop size rest) sixteen in
    record { header = sixteen; small = omega arith; body = size_is ∙ is ∙ ap (λ n. 16 + n) same }

pub one_more : (h : Header) (bytes : List ℕ) (at : ℕ) (frames : List Frame) (size : ℕ) (f : Frame) → SoFar h bytes at frames → length frames < 4194304
    → 16 ≤ size → size ≤ length (drop at bytes) → captured h (drop at bytes) ≤ 262144 → size ≡ 16 + captured h (drop at bytes)
    → f ≡ frame_of h (length frames) at (take size (drop at bytes)) → SoFar h bytes (at + size) (frames ++ f ∷ [])
one_more h bytes at frames size f s few long fits small is made =
    let rest : List ℕ = drop at bytes in
    let size_is : length (take size (drop at bytes)) ≡ size = length-take-le size (drop at bytes) fits in
    let all : concat (s.records ++ take size (drop at bytes) ∷ []) ≡ concat s.records ++ take size (drop at bytes) =
    concat-append s.records (take size (drop at bytes) ∷ []) ∙ ap (λ l. concat s.records ++ l) (append-nil (take size (drop at bytes))) in
    record {
      records = s.records ++ take size (drop at bytes) ∷ [];
      records_whole = AreWhole-push h s.records (take size (drop at bytes)) s.records_whole (first_whole h (drop at bytes) size long fits small is);
      few = omega (arith, length-append s.records (take size (drop at bytes) ∷ []), s.counted);
      place = omega (arith, ap length all, length-append (concat s.records) (take size (drop at bytes)), s.place);
      joined = s.joined ∙ ap (λ l. concat s.records ++ l) (sym (take-append-drop size (drop at bytes)) ∙ ap (λ l. take size (drop at bytes) ++ l) (drop-drop size at bytes))
          ∙ sym (append_assoc (concat s.records) (take size (drop at bytes)) (drop (at + size) bytes)) ∙ ap (λ l. l ++ drop (at + size) bytes) (sym all);
      seen =
          let number : length frames ≡ 0 + length s.records = omega (arith, s.counted) in
          let made_so : f ≡ frame_of h (0 + length s.records) (24 + length (concat s.records)) (take size (drop at bytes)) =
          made ∙ ap (λ n. frame_of h n at (take size (drop at bytes))) number ∙ ap (λ n. frame_of h (0 + length s.records) n (take size (drop at bytes))) s.place in
          ap (λ fs. fs ++ f ∷ []) s.seen ∙ ap (λ (x : Frame). frames_of h 0 24 s.records ++ x ∷ []) made_so ∙ sym (frames_of-push h 0 24 s.records (take size (drop at bytes)));
      counted = omega (arith, length-append frames (f ∷ []), length-append s.records (take size (drop at bytes) ∷ []), s.counted);
    }

spelled : (h : Header) (bytes : List ℕ) (at : ℕ) (frames : List Frame) → header_of bytes ≡ Ok h → (s : SoFar h bytes at frames)
    → IsTail h (length frames) (drop at bytes) → IsSpelled h s.records (drop at bytes) bytes
spelled h bytes at frames header s tail = record {
  header = header;
  records_whole = s.records_whole;
  few = s.few;
  tail_cut = subst (λ n. IsTail h n (drop at bytes)) s.counted tail;
  joined = s.joined;
}

pub finished : (h : Header) (bytes : List ℕ) (at cut : ℕ) (frames : List Frame) → header_of bytes ≡ Ok h → SoFar h bytes at frames
    → IsTail h (length frames) (drop at bytes) → ends_in h (length frames) (drop at bytes) ≡ Ok cut
    → Reads bytes (Ok (record { link = h.link; frames = frames; cut_bytes = cut }))
finished h bytes at cut frames header s tail ends =
    let end : ends_in h (length s.records) (drop at bytes) ≡ Ok cut = ap (λ n. ends_in h n (drop at bytes)) (sym s.counted) ∙ ends in
    let held : List Frame → Result CaptureFile PcapFault = λ fs. Ok (record { link = h.link; frames = fs; cut_bytes = cut }) in
    let same : held frames ≡ held (frames_of h 0 24 s.records) = ap held s.seen in
    whole h s.records (drop at bytes) (held frames) (spelled h bytes at frames header s tail)
    (subst (λ e. Concludes h s.records e (held frames)) (sym end) same)

pub refused : (h : Header) (bytes : List ℕ) (at : ℕ) (fault : PcapFault) (frames : List Frame) → header_of bytes ≡ Ok h → SoFar h bytes at frames
    → IsTail h (length frames) (drop at bytes) → ends_in h (length frames) (drop at bytes) ≡ Err fault → Reads bytes (Err fault)
refused h bytes at fault frames header s tail ends =
    let end : ends_in h (length s.records) (drop at bytes) ≡ Err fault = ap (λ n. ends_in h n (drop at bytes)) (sym s.counted) ∙ ends in
    whole h s.records (drop at bytes) _ (spelled h bytes at frames header s tail)
    (subst (λ e. Concludes h s.records e (Err fault)) (sym end) refl)

-- ---- the ways in which a walk ends, over the bytes that are left

pub nothing_left : (h : Header) (k : ℕ) (rest : List ℕ) → length rest ≡ 0 → IsTail h k rest × (ends_in h k rest ≡ Ok 0)
nothing_left h k rest none = (λ long few small. absurd (omega arith), rw none refl)

pub too_many : (h : Header) (k : ℕ) (rest : List ℕ) → (length rest ≡ 0 → ⊥) → k ≡ 4194304 → IsTail h k rest × (ends_in h k rest ≡ Err TooMany)
too_many h k rest some full = (λ long few small. absurd (omega arith), grind (arith, nat_tests))

pub cut_header : (h : Header) (k : ℕ) (rest : List ℕ) → (length rest ≡ 0 → ⊥) → (k ≡ 4194304 → ⊥) → length rest < 16 → IsTail h k rest × (ends_in h k rest ≡ Ok (length rest))
cut_header h k rest some few short = (λ long few small. absurd (omega arith), grind (arith, nat_tests))

pub too_long : (h : Header) (k : ℕ) (rest : List ℕ) → (length rest ≡ 0 → ⊥) → (k ≡ 4194304 → ⊥) → 16 ≤ length rest → 262144 < captured h rest
    → IsTail h k rest × (ends_in h k rest ≡ Err (Long (k + 1) (captured h rest)))
too_long h k rest some few long large = (λ long few small. absurd (omega arith), grind (arith, nat_tests))

pub cut_body : (h : Header) (k : ℕ) (rest : List ℕ) → (length rest ≡ 0 → ⊥) → (k ≡ 4194304 → ⊥) → 16 ≤ length rest → captured h rest ≤ 262144 → length rest < 16 + captured h rest
    → IsTail h k rest × (ends_in h k rest ≡ Ok (length rest))
cut_body h k rest some few long small short = (λ long few small. short, grind (arith, nat_tests))
