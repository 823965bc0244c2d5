use Rattle.std.proofs.Common.{rules, ◌≡◌, ◌≢◌, ℕ, ◌+◌, ◌-◌, ◌≤◌, ◌∷◌, List, length, take, drop, refl, ap, arith, length-drop}
use Rattle.std.proofs.lemmas.List.{length-take}
use Rattle.suri_base.specs.declared.stream.Offer.TheVariants.{NeedsSegment}
use Rattle.reassembly.specs.Kept.{LiesIn}
use Rattle.reassembly.specs.Members.{member}
use Rattle.reassembly.proofs.tests.feed.Goals as goal

-- a part of the bytes lies in them at its place
slice_lies : (bytes : List ℕ) (at len : ℕ) → at + len ≤ length bytes → LiesIn bytes at (take (at + len - at) (drop at bytes))
slice_lies bytes at len inside =
    let front = length-take (at + len - at) (drop at bytes) in
    let rest = length-drop at bytes in
    let l : length (take (at + len - at) (drop at bytes)) ≡ len = omega (arith, front, rest) in
    record { within = omega (arith, l); same = ap (λ (n : ℕ). take (at + n - at) (drop at bytes)) l }

pub returns-then-ne : goal.returns-then-ne
returns-then-ne c =
    let bytes = c.args.bytes.now in
    let known = c.requires.known in
    let other : c.offer-offer.result ≢ NeedsSegment = search rules in
    record {
      known = (
        member c.args.no c.args.tcp c.args.at (take (c.args.at + c.args.len - c.args.at) (drop c.args.at bytes)) ∷ known.0,
        c.offer-offer.ensures.stands known.0 known.1 known.2 known.3 other,
        (slice_lies bytes c.args.at c.args.len c.requires.place, known.2),
        refl,
      );
    }

pub returns-in-Some : goal.returns-in-Some
returns-in-Some c =
    let bytes = c.args.bytes.now in
    let known = c.requires.known in
    let needs : c.offer-offer.result ≡ NeedsSegment = search rules in
    let m = member c.args.no c.args.tcp c.args.at (take (c.args.at + c.args.len - c.args.at) (drop c.args.at bytes)) in
    record {
      known = (
        m ∷ known.0,
        c.store.ensures.stands m known.0 (c.offer-offer.ensures.asks known.0 known.1 known.2 known.3 needs),
        (slice_lies bytes c.args.at c.args.len c.requires.place, known.2),
        refl,
      );
    }

pub returns-in-None : goal.returns-in-None
returns-in-None c =
    let bytes = c.args.bytes.now in
    let known = c.requires.known in
    let needs : c.offer-offer.result ≡ NeedsSegment = search rules in
    let m = member c.args.no c.args.tcp c.args.at (take (c.args.at + c.args.len - c.args.at) (drop c.args.at bytes)) in
    record {
      known = (
        m ∷ known.0,
        c.stop.ensures.stands m known.0 (c.offer-offer.ensures.asks known.0 known.1 known.2 known.3 needs),
        (slice_lies bytes c.args.at c.args.len c.requires.place, known.2),
        refl,
      );
    }
