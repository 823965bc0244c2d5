-- Where frames lie, and how large their numbers are.
use Rattle.std.proofs.Common.{ℕ, ◌+◌, ◌*◌, ◌^◌, ◌<◌, ◌≤◌, List, [], ◌∷◌, ◌++◌, length, take, drop, refl, sym, subst, arith, inl, inr, mul-le-mul, take-append-drop, length-append}
use Rattle.std.proofs.lemmas.Bool.{cases_lt}
use Rattle.std.proofs.lemmas.List.{get_or_append_left, get_or-append-add, get_or_past}
use Rattle.std.proofs.lemmas.List.Elements.{All-cons, All-nil}
use Rattle.std.specs.List.{concat}
use Rattle.suri_base.specs.Frames.{AreNumbered}
use Rattle.suri_base.specs.declared.frame.Frame.{Frame}
use Rattle.pcap_read.specs.declared.header.Header.{Header}
use Rattle.pcap_read.proofs.SoFar.{SoFar}
use Rattle.pcap_read.proofs.Words.{AreBytes, field-fits}
use Rattle.pcap_read.specs.Header.{field}
use Rattle.pcap_read.specs.Records.{AreWhole, frame_of, frames_of}
use Rattle.pcap_read.specs.File.{AreShort}

bytes_left : (xs ys : List ℕ) → AreBytes (xs ++ ys) → AreBytes xs
bytes_left xs ys h i = elim (cases_lt i (length xs)) [
  | inl lt ↦ subst (λ n. n < 256) (get_or_append_left xs ys 0 i lt) (h i)
  | inr ge ↦ rw (get_or_past xs i 0 ge) (omega arith)
]

bytes_right : (xs ys : List ℕ) → AreBytes (xs ++ ys) → AreBytes ys
bytes_right xs ys h i = subst (λ n. n < 256) (get_or-append-add xs ys i 0) (h (length xs + i))

pub bytes_drop : (n : ℕ) (xs : List ℕ) → AreBytes xs → AreBytes (drop n xs)
bytes_drop n xs h = bytes_right (take n xs) (drop n xs) (subst AreBytes (sym (take-append-drop n xs)) h)

time_fits : (s f unit : ℕ) → s < 2 ^ 32 → f < 2 ^ 32 → unit ≤ 1000 → s * 1000000000 + f * unit < 2 ^ 63
time_fits s f unit hs hf hu =
    let hf' : f ≤ 4294967296 = omega arith in
    let product : f * unit ≤ 4294967296 * 1000 = mul-le-mul hf' hu in
    omega arith

-- the frames of whole records
pub are_frames : (h : Header) (limit before at : ℕ) (rs : List (List ℕ)) → h.unit ≤ 1000 → AreWhole h rs → AreBytes (concat rs) → at + length (concat rs) ≤ limit
    → AreNumbered limit before (frames_of h before at rs)
are_frames h limit before at [] unit whole bytes fits = tt
are_frames h limit before at (r ∷ rs) unit whole bytes fits =
    let here = bytes_left r (concat rs) bytes in
    let size = length-append r (concat rs) in (
      refl,
      time_fits (field h.order 4 0 r) (field h.order 4 4 r) h.unit (field-fits h.order 0 r (bytes_drop 0 r here)) (field-fits h.order 4 r (bytes_drop 4 r here)) unit,
      omega (arith, whole.0.body, size),
      are_frames h limit (before + 1) (at + length r) rs unit whole.1 (bytes_right r (concat rs) bytes) (omega (arith, size)),
    )

-- the frames so far
pub so_far_inside : (h : Header) (bytes : List ℕ) (at : ℕ) (frames : List Frame) → SoFar h bytes at frames → h.unit ≤ 1000 → AreBytes bytes → at ≤ length bytes
    → AreNumbered (length bytes) 0 frames
so_far_inside h bytes at frames s unit whole fits =
    let joined : AreBytes (concat s.records ++ drop at bytes) = subst AreBytes s.joined (bytes_drop 24 bytes whole) in
    subst (AreNumbered (length bytes) 0) (sym s.seen)
    (are_frames h (length bytes) 0 24 s.records unit s.records_whole (bytes_left (concat s.records) (drop at bytes) joined) (omega (arith, s.place)))

-- no frame of whole records is long
are_short : (h : Header) (before at : ℕ) (rs : List (List ℕ)) → AreWhole h rs → AreShort (frames_of h before at rs)
are_short h before at [] whole = All-nil (λ (f : Frame). f.len ≤ 262144)
are_short h before at (r ∷ rs) whole =
    All-cons (λ (f : Frame). f.len ≤ 262144) (frame_of h before at r) (frames_of h (before + 1) (at + length r) rs) whole.0.small
    (are_short h (before + 1) (at + length r) rs whole.1)

pub so_far_short : (h : Header) (bytes : List ℕ) (at : ℕ) (frames : List Frame) → SoFar h bytes at frames → AreShort frames
so_far_short h bytes at frames s = subst AreShort (sym s.seen) (are_short h 0 24 s.records s.records_whole)
