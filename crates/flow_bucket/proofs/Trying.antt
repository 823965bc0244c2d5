-- The parts of a large capture, built from its end: datagrams of one key, 31 seconds apart.
use Rattle.std.proofs.Common.{rules, ◌≡◌, ℕ, ◌+◌, ◌-◌, ◌*◌, ◌<◌, ◌≤◌, false, List, [], ◌∷◌, ◌++◌, length, None, refl, sym, ◌∙◌, ap, subst, arith}
use Rattle.std.specs.Prelude.{fold, map, max}
use Rattle.suri_base.specs.Capture.{AreFactsOf, AreLinked, AreSeenOf, IsCapture, clocks_after, next_in}
use Rattle.suri_base.specs.Clock.{clock_of}
use Rattle.suri_base.specs.Frames.{AreNumbered}
use Rattle.suri_base.specs.Keys.{same_key}
use Rattle.suri_base.specs.declared.facts.Facts.{Facts}
use Rattle.suri_base.specs.declared.frame.Frame.{Frame}
use Rattle.suri_base.specs.declared.key.Key.{Key}
use Rattle.suri_base.specs.declared.key.Side.TheVariants.{FromA}
use Rattle.suri_base.specs.declared.seen.Seen.{Seen}
use Rattle.suri_base.specs.declared.seen.Seen.TheVariants.{Bears}

abbrev pub key : Key
key = record {
  vlans = record { count = 0; first = 0; second = 0; third = 0 };
  version = 4;
  proto = 17;
  one_way = false;
  a = record { addr = 0x0a000001; port = 1000 };
  b = record { addr = 0x0a000002; port = 2000 };
}

abbrev pub packet : ℕ → ℕ → ℕ → Facts
packet number time next = record {
  no = number;
  time = time;
  clock = time;
  key = key;
  side = FromA;
  len = 42;
  ttl = 64;
  tcp = None;
  icmp = None;
  pay_at = 0;
  pay_len = 0;
  next = next;
}

abbrev pub frame : ℕ → ℕ → Frame
frame number time = record { no = number; time = time; orig = 42; at = 0; len = 0 }

abbrev pub time_of : ℕ → ℕ
time_of number = 1700000000000000000 + number * 31000000000

-- the last so many of 300
pub record Built (at next : ℕ) (frames : List Frame) (clocks : List ℕ) (seen : List Seen) : Type 0 where
  pub count : length frames ≡ at
  pub numbered : AreNumbered 0 (300 - at) frames
  pub clocked : (before : List Frame) → clock_of before ≤ time_of (300 - at) → clocks ≡ clocks_after before frames
  pub known : AreSeenOf 0 frames clocks seen
  pub linked : AreLinked seen
  pub named : next_in key seen ≡ next

pub none_built : Built 0 0 [] [] []
none_built = record { count = refl; numbered = tt; clocked = λ before early. refl; known = tt; linked = tt; named = refl }

fold_after : (acc : ℕ) (before : List Frame) (f : Frame)
    → fold max acc (map (λ g. g.time) (before ++ f ∷ [])) ≡ max (fold max acc (map (λ g. g.time) before)) f.time
fold_after acc [] f = refl
fold_after acc (g ∷ before) f = fold_after (max acc g.time) before f

max_late : (a b : ℕ) → a ≤ b → max a b ≡ b
max_late a b l = omega (arith, l)

facts_are : (number time next : ℕ) → AreFactsOf 0 (frame number time) time (packet number time next)
facts_are number time next = search rules

pub one_more : (at next : ℕ) (frames : List Frame) (clocks : List ℕ) (seen : List Seen) → at < 300 → Built at next frames clocks seen
    → Built (at + 1) (300 - at) (frame (300 - at) (time_of (300 - at)) ∷ frames) (time_of (300 - at) ∷ clocks) (Bears (packet (300 - at) (time_of (300 - at)) next) ∷ seen)
unfolding same_key
one_more at next frames clocks seen less b =
    let number = 300 - at in
    let time = time_of number in
    let low : 300 - (at + 1) + 1 ≡ number = omega (arith, less) in
    record {
      count = omega (arith, b.count);
      numbered = (sym low, omega (arith, less), omega arith, subst (λ (n : ℕ). AreNumbered 0 n frames) (sym low) b.numbered);
      clocked = λ before early.
          let now : clock_of (before ++ frame number time ∷ []) ≡ time = fold_after 0 before (frame number time) ∙ max_late (clock_of before) time (omega (arith, early, low)) in
          ap (λ (l : List ℕ). time ∷ l) (b.clocked (before ++ frame number time ∷ []) (omega (arith, now)))
          ∙ ap (λ (c : ℕ). c ∷ clocks_after (before ++ frame number time ∷ []) frames) (sym now);
      known = (facts_are number time next, b.known);
      linked = (sym b.named, b.linked);
      named = refl;
    }

pub all_built : (next : ℕ) (frames : List Frame) (clocks : List ℕ) (seen : List Seen) → Built 300 next frames clocks seen
    → IsCapture (record { bytes = []; frames = frames; clocks = clocks; seen = seen; cut_bytes = 0 })
all_built next frames clocks seen b = record {
  few = omega (arith, b.count);
  numbered = b.numbered;
  clocks = b.clocked [] (omega arith);
  seen = b.known;
  linked = b.linked;
}
