use Rattle.std.proofs.Common.{rules, refl}
use Rattle.suri_base.specs.Keys.{same_key}
use Rattle.flow_bucket.proofs.tests.datagrams.Goals as goal

pub of-requires : goal.of-requires
unfolding same_key
of-requires c = record {
  few = search rules;
  numbered = search rules;
  clocks = search rules;
  seen = search rules;
  linked = rw (c.in_ok-seen.ensures.items, c.datagram.ensures, c.datagram-2.ensures, c.datagram-3.ensures, c.datagram-4.ensures, c.datagram-5.ensures, c.datagram-6.ensures) (refl, (refl, (refl, (refl, (refl, (refl, tt))))));
}
