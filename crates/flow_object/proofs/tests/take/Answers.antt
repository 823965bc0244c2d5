use Rattle.std.proofs.Common.{rules, ◌≡◌, ◌≢◌}
use Rattle.suri_base.specs.declared.stream.Offer.TheVariants.{NeedsSegment}
use Rattle.flow_sum.specs.Run.{with_one_more}
use Rattle.flow_object.proofs.tests.take.Goals as goal

pub returns-then-ne : goal.returns-then-ne
returns-then-ne c =
    let known = c.requires.known in
    let other : c.absorb-offer.result ≢ NeedsSegment = search rules in
    record { known = (with_one_more c.args.facts.now known.0, known.1, c.absorb-offer.ensures.stands known.0 known.1 known.2 other) }

pub returns : goal.returns
returns c =
    let known = c.requires.known in
    let r = with_one_more c.args.facts.now known.0 in
    let needs : c.absorb-offer.result ≡ NeedsSegment = search rules in
    record { known = (r, known.1, c.settle.ensures.stands c.args.capture.now.bytes r known.1 (c.absorb-offer.ensures.asks known.0 known.1 known.2 needs)) }
