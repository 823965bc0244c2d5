-- What becomes of a frame: the facts of its packet, or the decoder counter under which it falls.
use Rattle.std.specs.Prelude.{◌≡◌, ℕ, ◌+◌, ◌<◌, ◌≤◌, List, [], ◌∷◌, length, take, drop, slice_index_or, Result, Ok, Err}
use Rattle.flow_key.specs.Keyed.{keyed_of}
use Rattle.packet_decode.specs.Layers.{view_of}
use Rattle.packet_decode.specs.declared.whole.View.{View}
use Rattle.suri_base.specs.Capture.{IsSeenOf}
use Rattle.suri_base.specs.Keys.{IsNameable}
use Rattle.suri_base.specs.declared.counter.Counter.{Counter}
use Rattle.suri_base.specs.declared.facts.Facts.{Facts}
use Rattle.suri_base.specs.declared.frame.Frame.{Frame}
use Rattle.suri_base.specs.declared.seen.Seen.{Seen}
use Rattle.suri_base.specs.declared.seen.Seen.TheVariants.{Bears, Counted}

-- the captured bytes of a frame
abbrev pub frame_bytes : List ℕ → Frame → List ℕ
frame_bytes capture f = take f.len (drop f.at capture)

-- the facts of a frame whose headers say this, at this clock; the place of its payload is counted from the capture's first byte
abbrev pub facts_from : Frame → ℕ → View → Facts
facts_from f clock v = record {
  no = f.no;
  time = f.time;
  clock = clock;
  key = (keyed_of v).key;
  side = (keyed_of v).side;
  len = f.len;
  ttl = v.ip.ttl;
  tcp = v.l4.tcp;
  icmp = v.l4.icmp;
  pay_at = f.at + v.l4.pay_at;
  pay_len = v.l4.pay_len;
  next = 0;
}

abbrev pub seen_from : Frame → ℕ → Result View Counter → Seen
seen_from f clock (Ok v) = Bears (facts_from f clock v)
seen_from f clock (Err counter) = Counted counter

-- what becomes of a frame with these bytes
unfoldable pub seen_of : ℕ → Frame → ℕ → List ℕ → Seen
seen_of link f clock b = seen_from f clock (view_of link b)

-- what becomes of each of some frames of a capture with these bytes, with the clocks beside them
abbrev pub all_seen : ℕ → List ℕ → List Frame → List ℕ → List Seen
all_seen link bytes (f ∷ frames) (clock ∷ clocks) = seen_of link f clock (frame_bytes bytes f) ∷ all_seen link bytes frames clocks
all_seen link bytes _ _ = []

-- what became of a frame of a capture with so many bytes is its own, with the frame's length and a key that can be named
pub record IsRead (size : ℕ) (frame : Frame) (clock : ℕ) (s : Seen) : Type 0 where
  pub own : IsSeenOf size frame clock s
  pub nameable : (f : Facts) → s ≡ Bears f → IsNameable f.key
  pub len : (f : Facts) → s ≡ Bears f → f.len ≡ frame.len

-- the same of each frame from one place up to another
abbrev pub AreRead : ℕ → ℕ → ℕ → List Frame → List ℕ → List Seen → Type 0
AreRead size from to frames clocks seen = (k : ℕ) (f : Frame) (c : ℕ) (s : Seen) → from ≤ k → k < to → k < length frames
    → IsRead size (slice_index_or frames k f) (slice_index_or clocks k c) (slice_index_or seen k s)
