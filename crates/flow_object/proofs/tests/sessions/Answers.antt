use Rattle.std.proofs.Common.{rules, refl}
use Rattle.suri_base.specs.Keys.{same_key}
use Rattle.flow_object.proofs.tests.sessions.Goals as goal

pub of-requires : goal.of-requires
unfolding same_key
of-requires c = record {
  few = search rules;
  numbered = search rules;
  clocks = search rules;
  seen = search rules;
  linked = rw (c.in_ok-seen.ensures.items, c.segment.ensures, c.segment-2.ensures, c.segment-3.ensures, c.segment-4.ensures, c.segment-5.ensures, c.segment-6.ensures, c.segment-7.ensures, c.datagram.ensures, c.datagram-2.ensures, c.segment-8.ensures) (refl, (refl, (refl, (refl, (refl, (refl, (refl, (refl, (refl, (refl, tt))))))))));
}
